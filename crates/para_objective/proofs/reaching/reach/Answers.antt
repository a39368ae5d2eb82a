use Rattle.lp_definitions.specs.LinearProgram.{size, value_at}
use Rattle.ranging.proofs.Results.{IfOk-map}
use Rattle.para_objective.proofs.Reaches.{reaches}
use Rattle.para_objective.proofs.Refusals.{end_refused}
use Rattle.para_objective.proofs.Zeros.{reach_within}
use Rattle.para_objective.proofs.reaching.reach.Goals as goal
use Rattle.basis_values.proofs.TermLaws.{IfErr-map}

pub returns-in-Ok-clause-reaches : goal.returns-in-Ok-clause-reaches
returns-in-Ok-clause-reaches c =
    reaches c.args.method.now.lp.now c.args.basis.now c.args.method.now.row c.requires.fits.lawful c.requires.fits.no_change c.requires.fits.row
    c.requires.basis
    (value_at c.args.workspace.now.prices.items) (value_at c.args.workspace.now.change.items) c.requires.workspace.prices c.requires.workspace.change
    c.args.max c.in-Ok.to
    (rw (c.as_slice-prices.ensures.value, c.as_slice-change.ensures.value) at c.in-Ok.ensures.reach)

pub returns-in-Err-clause-reaches : goal.returns-in-Err-clause-reaches
returns-in-Err-clause-reaches c =
    IfOk-map c.reach_from-in-Err.result
    (λ to h. reaches c.args.method.now.lp.now c.args.basis.now c.args.method.now.row c.requires.fits.lawful c.requires.fits.no_change c.requires.fits.row
    c.requires.basis
    (value_at c.args.workspace.now.prices.items) (value_at c.args.workspace.now.change.items) c.requires.workspace.prices c.requires.workspace.change
    c.args.max to
    (reach_within c.args.method.now.lp.now c.args.basis.now (value_at c.args.workspace.now.prices.items) (value_at c.args.workspace.now.change.items) c.args.max
    (size c.args.method.now.lp.now.matrix) c.least_computed-best.result to
    (rw (c.as_slice-prices.ensures.value, c.as_slice-change.ensures.value) at c.least_computed-best.ensures) h))
    (rw (c.as_slice-prices.ensures.value, c.as_slice-change.ensures.value) at c.reach_from-in-Err.ensures.reach)

pub returns-in-Err-clause-overflow : goal.returns-in-Err-clause-overflow
returns-in-Err-clause-overflow c =
    IfErr-map c.reach_from-in-Err.result
    (λ e h. end_refused c.args.method.now.lp.now c.args.basis.now c.args.method.now.row c.requires.fits.lawful c.requires.fits.no_change c.requires.fits.row
    c.requires.basis
    (value_at c.args.workspace.now.prices.items) (value_at c.args.workspace.now.change.items) c.requires.workspace.prices c.requires.workspace.change e h)
    (rw (c.as_slice-prices.ensures.value, c.as_slice-change.ensures.value) at c.reach_from-in-Err.ensures.refused)
