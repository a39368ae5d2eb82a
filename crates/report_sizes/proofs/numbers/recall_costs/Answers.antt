use Rattle.std.proofs.Common.{◌≡◌, [], ap, arith}
use Rattle.lp_definitions.specs.LinearProgram.{LinearProgram}
use Rattle.report_sizes.proofs.Looked.{ColumnFits, no_column_fits, looked_all, cost_fits}
use Rattle.report_sizes.proofs.numbers.recall_costs.Goals as goal

pub returns : goal.returns
returns c =
    let counted = c.number_of_variables-size.ensures.lawful.is_matrix.columns_counted in
    let cols : c.lp.inside.cols ≡ c.args.lp.now.matrix.cols = ap (λ (p : LinearProgram). p.matrix.cols) c.lp.view_is in
    cost_fits c.args.lp.now c.requires
    (looked_all ColumnFits c.args.lp.now.matrix.columns [] no_column_fits c.loop-j.j (omega (arith, counted, cols, c.loop-j-test.false)) c.loop-j.invariant)
