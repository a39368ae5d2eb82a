use Rattle.lp_model.specs.Columns.{entries_of}
use Rattle.lp_definitions.specs.LinearProgram.{Matrix}
use Rattle.rates_dense.proofs.OpeningLines.{lines_more}
use Rattle.rates_dense.proofs.opening.write_columns.Goals as goal

pub loop-k-preserved : goal.loop-k-preserved
loop-k-preserved c =
    let a : Matrix = record { rows = c.lp.inside.rows; cols = c.lp.inside.cols; columns = entries_of c.lp.inside.columns.items } in
    rw (← c.lp.view_is)
    (lines_more a c.loop-k.k c.loop-k.lines c.write_column.new.lines (rw (← c.lp.view_is) at c.loop-k.invariant)
    (rw (← c.lp.view_is) at (rw c.column.ensures at c.write_column.ensures)))
