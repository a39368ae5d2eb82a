use Rattle.std.proofs.Common.{rules, ◌≡◌, ◌∙◌, ℤ, pos, neg_ℤ, ◌-ℤ◌, sym, ap, arith, to_z, of_z}
use Rattle.std.specs.Int.{w128}
use Rattle.std.proofs.lemmas.Int.{ints, to_z-of_z}
use Rattle.exact_values.specs.Rational.{fraction}
use Rattle.eta_file.proofs.Denominators.{times_denominator, times_opposite}
use Rattle.eta_file.proofs.whole.scaled_rate.Goals as goal

pub returns-then-den-num : goal.returns-then-den-num
returns-then-den-num c =
    let one : c.args.scale.denominator ≡ 1 = search rules in
    let same : c.args.scale.numerator ≡ c.terms-num.result.1 = search rules in
    let made : c.new.result ≡ fraction c.terms-num.result.0 1 =
    c.new.ensures ∙ ap (λ n. fraction n 1) (to_z-of_z w128 c.terms-num.result.0 (search rules)) in
    made
    ∙ times_denominator c.args.scale c.terms-num.result.1 one same c.terms-num.ensures.at_least_one c.terms-num.result.0 c.args.rate.now
    c.terms-num.ensures.value

pub returns-then-den-num-2 : goal.returns-then-den-num-2
returns-then-den-num-2 c =
    let one : c.args.scale.denominator ≡ 1 = search rules in
    let same : c.args.scale.numerator ≡ neg_ℤ c.terms-num.result.1 = search rules in
    let number : to_z w128 (of_z w128 (pos 0 -ℤ to_z w128 (of_z w128 c.terms-num.result.0))) ≡ neg_ℤ c.terms-num.result.0 = search rules in
    let made : c.new-then-den-num-2.result ≡ fraction (neg_ℤ c.terms-num.result.0) 1 =
    c.new-then-den-num-2.ensures ∙ ap (λ n. fraction n 1) number in
    made
    ∙ times_opposite c.args.scale c.terms-num.result.1 c.terms-num.result.0 c.args.rate.now one same c.terms-num.ensures.at_least_one
    c.terms-num.ensures.value
