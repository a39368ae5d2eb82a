use Rattle.std.proofs.Common.{rules, ◌≡◌, ℤ, pos, ◌*ℤ◌, ◌+ℤ◌, ◌≤ℤ◌, ap, ap₂, to_z, of_z, sym, ◌∙◌, subst, refl, arith}
use Rattle.std.specs.Prelude.{nat_abs}
use Rattle.std.specs.Int.{w128}
use Rattle.std.proofs.lemmas.Int.{to_z-of_z, ints}
use Rattle.exact_values.specs.Rational.{ℚ, fraction, ◌+ℚ◌, ◌*ℚ◌}
use Rattle.frac128.specs.Terms.{Fits}
use Rattle.frac128.proofs.Parts.{Fits-positive}
use Rattle.bounded_primal.proofs.ScaledSteps.{cancelled_is, lessened_is, lessened, some_product}
use Rattle.bounded_primal.proofs.scaled_step.ScaledStep.moved_over.Goals as goal

pub exact_quotient-requires-2-clause-fits : goal.exact_quotient-requires-2-clause-fits
exact_quotient-requires-2-clause-fits c =
    subst (λ (z : ℤ). Fits z) (sym (to_z-of_z w128 c.self.inside.shared (search rules)))
    (Fits-positive c.self.inside.shared (search rules) c.self.invariant.some_shared)

pub new-requires-2-clause-at_least_one : goal.new-requires-2-clause-at_least_one
new-requires-2-clause-at_least_one c =
    let inside = c.self.inside in
    let more : ℤ = pos c.new-left.result.denominator in
    let more_is : to_z w128 (of_z w128 c.den-more.result) ≡ more = to_z-of_z w128 c.den-more.result (search rules) ∙ c.den-more.ensures.value in
    let rest_is : to_z w128 (of_z w128 c.in_ok-rest.rest) ≡ inside.rest *ℤ more =
    to_z-of_z w128 c.in_ok-rest.rest (search rules) ∙ c.in_ok-rest.ensures.1
    ∙ ap₂ (λ (a b : ℤ). a *ℤ b) (to_z-of_z w128 inside.rest (search rules)) more_is in
    subst (λ (z : ℤ). pos 1 ≤ℤ z) (sym rest_is)
    (some_product inside.rest more c.self.invariant.some_rest (omega (arith, ints, c.new-left.result.positive)))

pub invariant_of-self : goal.invariant_of-self
invariant_of-self c =
    let inside = c.self.inside in
    let more : ℤ = pos c.new-left.result.denominator in
    let more_is : to_z w128 (of_z w128 c.den-more.result) ≡ more = to_z-of_z w128 c.den-more.result (search rules) ∙ c.den-more.ensures.value in
    let rest_is : to_z w128 (of_z w128 c.in_ok-rest.rest) ≡ inside.rest *ℤ more =
    to_z-of_z w128 c.in_ok-rest.rest (search rules) ∙ c.in_ok-rest.ensures.1
    ∙ ap₂ (λ (a b : ℤ). a *ℤ b) (to_z-of_z w128 inside.rest (search rules)) more_is in
    lessened inside c.self.invariant more (to_z w128 (of_z w128 c.in_ok-shared.shared)) (to_z w128 (of_z w128 c.in_ok-rest.rest))
    (omega (arith, ints, c.new-left.result.positive))
    (ap₂ (λ (a b : ℤ). a *ℤ b) (to_z-of_z w128 c.in_ok-shared.shared (search rules)) (sym more_is) ∙ c.in_ok-shared.ensures.value
    ∙ to_z-of_z w128 inside.shared (search rules))
    rest_is

pub returns-clause-value : goal.returns-clause-value
returns-clause-value c =
    let inside = c.self.inside in
    let more : ℤ = pos c.new-left.result.denominator in
    let more_is : to_z w128 (of_z w128 c.den-more.result) ≡ more = to_z-of_z w128 c.den-more.result (search rules) ∙ c.den-more.ensures.value in
    let rest_is : to_z w128 (of_z w128 c.in_ok-rest.rest) ≡ inside.rest *ℤ more =
    to_z-of_z w128 c.in_ok-rest.rest (search rules) ∙ c.in_ok-rest.ensures.1
    ∙ ap₂ (λ (a b : ℤ). a *ℤ b) (to_z-of_z w128 inside.rest (search rules)) more_is in
    let some = subst (λ (z : ℤ). pos 1 ≤ℤ z) (sym rest_is)
    (some_product inside.rest more c.self.invariant.some_rest (omega (arith, ints, c.new-left.result.positive))) in
    let total : ℤ = to_z w128 (of_z w128 c.in_ok-total.total) in
    let total_is : total ≡ c.in_ok-value_number.value_number *ℤ inside.value_factor +ℤ c.in_ok-rate_number.rate_number *ℤ inside.rate_factor =
    to_z-of_z w128 c.in_ok-total.total (search rules) ∙ c.in_ok-total.ensures.1
    ∙ ap₂ (λ (a b : ℤ). a +ℤ b)
    (to_z-of_z w128 c.in_ok-from_value.from_value (search rules) ∙ c.in_ok-from_value.ensures.1
    ∙ ap₂ (λ (a b : ℤ). a *ℤ b) (to_z-of_z w128 c.in_ok-value_number.value_number (search rules)) (to_z-of_z w128 inside.value_factor (search rules)))
    (to_z-of_z w128 c.in_ok-from_rate.from_rate (search rules) ∙ c.in_ok-from_rate.ensures.1
    ∙ ap₂ (λ (a b : ℤ). a *ℤ b) (to_z-of_z w128 c.in_ok-rate_number.rate_number (search rules)) (to_z-of_z w128 inside.rate_factor (search rules))) in
    c.new-2.ensures
    ∙ lessened_is inside c.self.invariant c.args.value.now c.args.rate.now c.in_ok-value_number.value_number c.in_ok-rate_number.rate_number
    c.in_ok-value_number.ensures c.in_ok-rate_number.ensures total total_is c.new-left.result
    (c.new-left.ensures ∙ ap (λ (z : ℤ). fraction total (nat_abs z)) (to_z-of_z w128 inside.shared (search rules)))
    (to_z w128 (of_z w128 c.num.result)) more (to_z w128 (of_z w128 c.in_ok-rest.rest))
    (to_z-of_z w128 c.num.result (search rules) ∙ c.num.ensures.value) refl rest_is some
    ∙ ap (λ (x : ℚ). c.args.value.now +ℚ x *ℚ c.args.rate.now) c.self.view_is

pub returns-in-Some-clause-value : goal.returns-in-Some-clause-value
returns-in-Some-clause-value c =
    let inside = c.self.inside in
    let total : ℤ = to_z w128 (of_z w128 c.in_ok-total.total) in
    let total_is : total ≡ c.in_ok-value_number.value_number *ℤ inside.value_factor +ℤ c.in_ok-rate_number.rate_number *ℤ inside.rate_factor =
    to_z-of_z w128 c.in_ok-total.total (search rules) ∙ c.in_ok-total.ensures.1
    ∙ ap₂ (λ (a b : ℤ). a +ℤ b)
    (to_z-of_z w128 c.in_ok-from_value.from_value (search rules) ∙ c.in_ok-from_value.ensures.1
    ∙ ap₂ (λ (a b : ℤ). a *ℤ b) (to_z-of_z w128 c.in_ok-value_number.value_number (search rules)) (to_z-of_z w128 inside.value_factor (search rules)))
    (to_z-of_z w128 c.in_ok-from_rate.from_rate (search rules) ∙ c.in_ok-from_rate.ensures.1
    ∙ ap₂ (λ (a b : ℤ). a *ℤ b) (to_z-of_z w128 c.in_ok-rate_number.rate_number (search rules)) (to_z-of_z w128 inside.rate_factor (search rules))) in
    c.new.ensures
    ∙ ap₂ (λ (a b : ℤ). fraction a (nat_abs b)) (to_z-of_z w128 c.in-Some.part (search rules)) (to_z-of_z w128 inside.rest (search rules))
    ∙ cancelled_is inside c.self.invariant c.args.value.now c.args.rate.now c.in_ok-value_number.value_number c.in_ok-rate_number.rate_number
    c.in_ok-value_number.ensures c.in_ok-rate_number.ensures total total_is c.in-Some.part
    (ap (λ (z : ℤ). c.in-Some.part *ℤ z) (sym (to_z-of_z w128 inside.shared (search rules))) ∙ rw c.in-Some.is at c.exact_quotient.ensures.value)
    ∙ ap (λ (x : ℚ). c.args.value.now +ℚ x *ℚ c.args.rate.now) c.self.view_is
