use Rattle.std.proofs.Common.{◌≡◌, ◌∙◌, sym, length, rules}
use Rattle.lp_definitions.specs.LinearProgram.{Matrix, size}
use Rattle.lp_model.specs.Columns.{entries_of}
use Rattle.rates_dense.specs.Opening.{AreOpeningLines, AreInOrder}
use Rattle.rates_dense.proofs.OpeningTable.{opening_table}
use Rattle.rates_dense.proofs.Dense.new.Goals as goal

pub invariant_of-result : goal.invariant_of-result
invariant_of-result c =
    let a : Matrix = record { rows = c.lp.inside.rows; cols = c.lp.inside.cols; columns = entries_of c.lp.inside.columns.items } in
    let is_size : c.number_of_variables-size.result ≡ size a = rw (← c.lp.view_is) at c.number_of_variables-size.ensures.size in
    let in_order : AreInOrder (size a) c.in_ok-opening_slots.field-0.items = rw is_size at c.in_ok-opening_slots.ensures in
    let are : AreOpeningLines a a.rows c.in_ok-opening_lines.field-0.items = rw (← c.lp.view_is) at c.in_ok-opening_lines.ensures in
    let counted : length c.in_ok-vec.field-0.items ≡ c.number_of_variables-size.result = search rules in
    let changed : length c.in_ok-vec-2.field-0.items ≡ c.number_of_variables-size.result = search rules in
    let changing : length c.in_ok-vec-3.field-0.items ≡ c.lp.inside.rows = search rules in
    rw (c.in_ok-copied_columns.ensures, c.in_ok-opening_marks.ensures, ← c.lp.view_is) (
      opening_table a c.lp.invariant.is_matrix.small c.in_ok-opening_slots.field-0.items c.in_ok-opening_lines.field-0.items c.in_ok-vec.field-0.items in_order
          are (counted ∙ is_size),
      changed ∙ is_size,
      changing ∙ sym are.counted,
    )
