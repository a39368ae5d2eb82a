use Rattle.std.proofs.Common.{◌+◌, ◌∙◌, sym, ap, subst}
use Rattle.exact_values.specs.Rational.{ℚ, whole, ◌/ℚ◌}
use Rattle.frac128.proofs.Parts.{read_fitting}
use Rattle.eta_file.proofs.FileLaws.{some_map}
use Rattle.price_row.specs.Known.{IsRateOf}
use Rattle.price_row.proofs.column_numbers.column_rate.Goals as goal

pub returns-clause-rate : goal.returns-clause-rate
returns-clause-rate c =
    some_map c.whole_quotient.result _ (IsRateOf c.args.file.now c.args.row (c.args.place + 1))
    (λ v is_v.
    subst (λ (x : ℚ). IsRateOf c.args.file.now c.args.row (c.args.place + 1) x)
    (sym (is_v ∙ ap (λ n. whole n /ℚ c.column_number.new.denominator) (read_fitting c.in_ok-number.number c.in_ok-number.ensures.fits)))
    c.in_ok-number.ensures.rate)
    c.whole_quotient.ensures
