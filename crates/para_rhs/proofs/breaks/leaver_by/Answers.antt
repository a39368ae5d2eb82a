use Rattle.std.proofs.Common.{rules, ◌≡◌, ◌+◌, Err, sym, ◌∙◌, ap, arith}
use Rattle.lp_definitions.specs.LinearProgram.{value_at}
use Rattle.basis_values.proofs.Skips.{found_least, found_none, one_more}
use Rattle.para_rhs.specs.Breaks.{leaves, is_there}
use Rattle.para_rhs.proofs.Leavers.{side_here}
use Rattle.para_rhs.proofs.Narrowing.{refused_at}
use Rattle.para_rhs.proofs.breaks.leaver_by.Goals as goal
use Rattle.lp_laws.proofs.Places.{value_next}

pub returns-in_err-side-clause-refused : goal.returns-in_err-side-clause-refused
returns-in_err-side-clause-refused c =
    let is_err : c.from_residual.result ≡ Err c.in_err-side.field-0.0 = search rules in
    rw is_err (refused_at c.args.lp.now c.args.shift.now (value_at c.args.value.now)
    (value_at c.args.slope.now) c.args.theta c.loop-k.k c.reduced-here.result c.index-slope-k.result c.in_err-side.field-0.0 (omega arith)
    (value_next c.args.value.now c.loop-k.k c.index-value-k.result (omega arith) c.index-value-k.is ∙ sym c.reduced-here.ensures)
    (value_next c.args.slope.now c.loop-k.k c.index-slope-k.result (omega arith) c.index-slope-k.is)
    c.in_err-side.ensures.moves c.in_err-side.ensures.refused)

pub returns-in-Some-clause-leaver : goal.returns-in-Some-clause-leaver
returns-in-Some-clause-leaver c =
    let same =
    side_here c.args.lp.now c.args.shift.now c.args.theta (value_at c.args.value.now) (value_at c.args.slope.now)
    (c.loop-k.k + 1) c.reduced-here.result c.index-slope-k.result
    (value_next c.args.value.now c.loop-k.k c.index-value-k.result (omega arith) c.index-value-k.is ∙ sym c.reduced-here.ensures)
    (value_next c.args.slope.now c.loop-k.k c.index-slope-k.result (omega arith) c.index-slope-k.is) in
    let found = sym same ∙ sym c.in_ok-side.ensures.side ∙ c.in-Some.is in (
      sym (found_least c.args.lp.now (leaves c.args.lp.now c.args.shift.now c.args.theta (value_at c.args.value.now) (value_at c.args.slope.now)) c.loop-k.k
          (omega arith) c.loop-k.invariant
          (ap is_there found)),
      found,
    )

pub loop-k-preserved : goal.loop-k-preserved
loop-k-preserved c =
    let same =
    side_here c.args.lp.now c.args.shift.now c.args.theta (value_at c.args.value.now) (value_at c.args.slope.now)
    (c.loop-k.k + 1) c.reduced-here.result c.index-slope-k.result
    (value_next c.args.value.now c.loop-k.k c.index-value-k.result (omega arith) c.index-value-k.is ∙ sym c.reduced-here.ensures)
    (value_next c.args.slope.now c.loop-k.k c.index-slope-k.result (omega arith) c.index-slope-k.is) in
    one_more c.args.lp.now
    (leaves c.args.lp.now c.args.shift.now c.args.theta (value_at c.args.value.now) (value_at c.args.slope.now)) c.loop-k.k c.loop-k.invariant
    (ap is_there (sym same ∙ sym c.in_ok-side.ensures.side ∙ c.in_default.is))

pub returns-clause-leaver : goal.returns-clause-leaver
returns-clause-leaver c =
    sym (found_none c.args.lp.now (leaves c.args.lp.now c.args.shift.now c.args.theta (value_at c.args.value.now) (value_at c.args.slope.now)) c.loop-k.k
    (omega arith) c.loop-k.invariant)
