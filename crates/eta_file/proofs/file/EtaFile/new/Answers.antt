use Rattle.std.proofs.Common.{rules, ◌≡◌, ◌∙◌, ap, length, arith}
use Rattle.lp_definitions.specs.LinearProgram.{size}
use Rattle.lp_laws.proofs.Opening.{length-row_basics}
use Rattle.lp_model.specs.Columns.{entries_of}
use Rattle.eta_file.specs.WordColumns.{AreWordColumns}
use Rattle.eta_file.proofs.file.EtaFile.new.Goals as goal

pub new-requires-3 : goal.new-requires-3
new-requires-3 c =
    let counted : length c.in_ok-row_marks.field-0.items ≡ size c.args.lp.now.matrix =
    ap length c.in_ok-row_marks.ensures ∙ length-row_basics c.args.lp.now.matrix in
    omega (arith, counted, c.number_of_variables-size.ensures.lawful.is_matrix.small)

pub invariant_of-result : goal.invariant_of-result
invariant_of-result c =
    let columns : c.in_ok-map_err.field-0.value ≡ c.in_ok-columns.columns = search rules in
    let words : c.in_ok-map_err-2.field-0.value ≡ c.in_ok-words.words = search rules in
    let made : AreWordColumns (entries_of c.in_ok-columns.columns.items) c.in_ok-words.words.items = rw c.deref.ensures.value at c.in_ok-words.ensures in
    (search rules, rw (columns, words) made)
