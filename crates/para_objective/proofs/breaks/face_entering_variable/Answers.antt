use Rattle.std.proofs.Common.{◌∙◌}
use Rattle.lp_definitions.specs.LinearProgram.{value_at}
use Rattle.para_objective.proofs.EnteringVariables.{entering_variable_is}
use Rattle.para_objective.proofs.breaks.face_entering_variable.Goals as goal

pub returns : goal.returns
returns c t is_tableau =
    rw (c.as_slice-prices.ensures.value, c.as_slice-change.ensures.value) at c.entering_variable_by.ensures
    ∙ entering_variable_is c.args.method.now.lp.now c.args.basis.now c.args.method.now.row c.requires.fits.lawful c.requires.fits.no_change
    c.requires.fits.row c.requires.basis
    (value_at c.args.workspace.now.prices.items) (value_at c.args.workspace.now.change.items) c.requires.workspace.prices c.requires.workspace.change
    c.args.theta t is_tableau
