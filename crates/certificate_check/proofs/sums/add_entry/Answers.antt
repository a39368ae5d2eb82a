use Rattle.std.proofs.Common.{rules, ◌≡◌, ◌+◌, [], ◌∷◌, List, ap, ◌∙◌, sym, subst}
use Rattle.std.specs.Prelude.{unwrap_or}
use Rattle.exact_values.specs.Rational.{zero_ℚ}
use Rattle.frac128.specs.Operations.{TermsFit}
use Rattle.lp_definitions.specs.declared.Entry.{Entry}
use Rattle.lp_definitions.specs.LinearProgram.{LinearProgram, on_row, entry, value_at}
use Rattle.check_definitions.specs.Steps.{Product}
use Rattle.certificate_check.specs.Results.{SumsTo}
use Rattle.certificate_check.proofs.Left.{same_product, skipped_left}
use Rattle.certificate_check.proofs.sums.add_entry.Goals as goal

pub returns-in-Some : goal.returns-in-Some
returns-in-Some c =
    let rows : c.lp.inside.rows ≡ c.args.lp.now.rows = ap (λ (p : LinearProgram). p.rows) c.lp.view_is in
    let number : c.in-Some.number ≡ entry c.args.lp.now.matrix c.args.row c.args.column =
    c.in-Some.ensures ∙ ap (λ (es : List Entry). on_row es c.args.row) c.column.ensures in
    let value = c.value_of.ensures ∙ ap (λ k. value_at c.args.values.now (k + c.args.column)) rows in
    subst (λ (t : Product). SumsTo c.add_product.result c.args.sum (t ∷ []))
    (same_product c.args.lp.now (value_at c.args.values.now) c.args.row c.args.column c.in-Some.number c.value_of.result number value) c.add_product.ensures

pub returns-in-None : goal.returns-in-None
returns-in-None c =
    let fits : TermsFit c.args.sum = search rules in
    let none : entry c.args.lp.now.matrix c.args.row c.args.column ≡ zero_ℚ =
    sym (ap (λ x. unwrap_or x zero_ℚ) (sym c.in-None.is) ∙ c.number_on.ensures ∙ ap (λ (es : List Entry). on_row es c.args.row) c.column.ensures) in
    skipped_left c.args.sum (entry c.args.lp.now.matrix c.args.row c.args.column) (value_at c.args.values.now (c.args.lp.now.rows + c.args.column)) none fits
