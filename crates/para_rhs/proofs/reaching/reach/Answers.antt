use Rattle.std.proofs.Common.{sym, subst}
use Rattle.exact_values.specs.Rational.{ℚ}
use Rattle.lp_definitions.specs.LinearProgram.{value_at}
use Rattle.para_rhs.specs.Reach.{IsReachFromAny}
use Rattle.para_rhs.proofs.RhsPoints.{reaches, starts, up_to_high}
use Rattle.para_rhs.proofs.ReachStops.{some_refused}
use Rattle.para_rhs.proofs.reaching.reach.Goals as goal

pub returns-in-Ok-clause-reaches : goal.returns-in-Ok-clause-reaches
returns-in-Ok-clause-reaches c =
    subst (λ (x : ℚ). IsReachFromAny c.args.method.now.lp.now c.args.method.now.shift.now c.args.basis.now c.args.max x) (sym c.high_end.ensures)
    (λ from before optimal.
    reaches c.args.method.now.lp.now c.args.method.now.shift.now c.ends_by.ensures.lawful c.args.basis.now c.requires.basis
    (value_at c.args.workspace.now.point.items)
    (value_at c.args.workspace.now.change.items) c.requires.workspace.point c.requires.workspace.change
    c.args.max c.in-Ok.ends (rw (c.as_slice-value.ensures.value, c.as_slice-slope.ensures.value) at c.in-Ok.ensures.reach) from before optimal _
    (up_to_high c.in-Ok.ends.low c.in-Ok.ends.high from
    (starts c.args.method.now.lp.now c.args.method.now.shift.now c.ends_by.ensures.lawful c.args.basis.now c.requires.basis
    (value_at c.args.workspace.now.point.items)
    (value_at c.args.workspace.now.change.items) c.requires.workspace.point c.requires.workspace.change
    c.args.max c.in-Ok.ends (rw (c.as_slice-value.ensures.value, c.as_slice-slope.ensures.value) at c.in-Ok.ensures.reach) from before optimal)
    c.args.max c.in-Ok.ensures.high))

pub returns-in-Err-clause-overflow : goal.returns-in-Err-clause-overflow
returns-in-Err-clause-overflow c before after =
    some_refused c.args.method.now.lp.now c.args.method.now.shift.now c.ends_by.ensures.lawful c.args.basis.now c.requires.basis
    (value_at c.args.workspace.now.point.items)
    (value_at c.args.workspace.now.change.items) c.requires.workspace.point c.requires.workspace.change
    before after c.in-Err.evidence (rw (c.as_slice-value.ensures.value, c.as_slice-slope.ensures.value) at c.in-Err.ensures.refused)
