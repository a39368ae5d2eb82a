use Rattle.std.proofs.Common.{◌≡◌, ◌+◌, ◌∙◌, sym, subst}
use Rattle.exact_values.specs.Rational.{ℚ, ◌/ℚ◌}
use Rattle.eta_file.proofs.FileLaws.{some_map}
use Rattle.price_row.specs.Known.{IsRateOf}
use Rattle.price_row.proofs.numbers.rate_by_numbers.Goals as goal

pub returns : goal.returns
returns g c =
    let n = g.N.Numbers.fraction c.in_ok-number.number in
    some_map c.over.result (λ v. v ≡ n /ℚ c.args.denominator) (IsRateOf c.args.file.now c.args.row (c.args.place + 1))
    (λ v is_v.
    subst (λ (x : ℚ). IsRateOf c.args.file.now c.args.row (c.args.place + 1) x) (sym is_v)
    (c.in_ok-number.ensures.value.over c.args.row c.args.denominator c.requires.basic (sym c.is_basic.ensures ∙ c.if-is_basic.false) c.requires.known))
    c.over.ensures.value
