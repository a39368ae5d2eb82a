use Rattle.lp_definitions.specs.LinearProgram.{value_at}
use Rattle.para_rhs.proofs.Leavers.{leaver_at}
use Rattle.para_rhs.proofs.ReachStops.{some_refused}
use Rattle.para_rhs.proofs.breaks.face_leaver.Goals as goal

pub returns-in-Ok-clause-leaver : goal.returns-in-Ok-clause-leaver
returns-in-Ok-clause-leaver c t w is_t is_w =
    leaver_at c.args.method.now.lp.now c.args.method.now.shift.now c.args.theta c.args.basis.now c.requires.basis c.leaver_by.ensures.lawful
    (value_at c.args.workspace.now.point.items)
    (value_at c.args.workspace.now.change.items) c.requires.workspace.point c.requires.workspace.change
    t w is_t is_w c.in-Ok.found (rw (c.as_slice-value.ensures.value, c.as_slice-slope.ensures.value) at c.in-Ok.ensures.leaver)

pub returns-in-Err-clause-overflow : goal.returns-in-Err-clause-overflow
returns-in-Err-clause-overflow c before after =
    some_refused c.args.method.now.lp.now c.args.method.now.shift.now c.leaver_by.ensures.lawful c.args.basis.now c.requires.basis
    (value_at c.args.workspace.now.point.items)
    (value_at c.args.workspace.now.change.items) c.requires.workspace.point c.requires.workspace.change
    before after c.in-Err.evidence (rw (c.as_slice-value.ensures.value, c.as_slice-slope.ensures.value) at c.in-Err.ensures.refused)
