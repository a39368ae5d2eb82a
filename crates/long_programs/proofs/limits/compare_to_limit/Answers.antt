use Rattle.std.proofs.Common.{◌≡◌, ◌∙◌, sym, ap, Option, Some, rules}
use Rattle.std.specs.Prelude.{option_map}
use Rattle.exact_values.specs.Rational.{ℚ, ◌+ℚ◌, ◌*ℚ◌}
use Rattle.lp_definitions.specs.LinearProgram.{value_at}
use Rattle.long_programs.specs.Programs.{order_to}
use Rattle.long_programs.proofs.Compared.{compared}
use Rattle.long_programs.proofs.limits.compare_to_limit.Goals as goal

pub returns : goal.returns
returns c = λ values theta is.
    let x = value_at values c.args.k in
    let point = c.args.point.now in
    let here : c.args.limit ≡ Some c.in-Some.limit = search rules in
    ap Some
    (c.sign.ensures
    ∙ compared x theta c.in-Some.limit c.args.shift c.top_of.result.now point.column.bottom point.moved is.is_over.positive
    (c.top_of.ensures values is.is_over) is.moves c.in_ok-sum.ensures c.whole.ensures c.in_ok-add.ensures c.neg.ensures c.in_ok-add-2.ensures
    c.neg-2.ensures c.in_ok-add-3.ensures)
    ∙ ap (λ (o : Option ℚ). order_to (option_map (λ l. l +ℚ theta *ℚ c.args.shift) o) x) (sym here)
