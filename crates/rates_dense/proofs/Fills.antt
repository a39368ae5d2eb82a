-- Lists that a loop fills place by place, and the refusals on the way.
use Rattle.std.proofs.Common.{◌≡◌, ◌≢◌, ℕ, ◌+◌, ◌-◌, ◌<◌, ◌≤◌, ◌⊎◌, inl, inr, List, length, get_or, set, sym, ap, ◌∙◌, arith, below_more, subst, cond}
use Rattle.std.proofs.lemmas.Bool.{eq-eqb, ne_eqb}
use Rattle.std.proofs.lemmas.List.{get_or-set_same, get_or-set_other, get_or_read}
use Rattle.exact_values.specs.Rational.{ℚ, zero_ℚ, one_ℚ, ◌*ℚ◌, ◌/ℚ◌}
use Rattle.frac128.specs.declared.Op.TheVariants.{Sub, Mul, Div}
use Rattle.lp_definitions.specs.declared.Evidence.{Evidence}
use Rattle.lp_definitions.specs.LinearProgram.{value_at}
use Rattle.rates_dense.specs.Lines.{IsFilled, quotient_at, IsListed, AreChanged, IsFilledAt, IsTakenOver}
use Rattle.rates_dense.specs.Refusals.{IsRefusal, IsDifferenceRefused, by_product, by_difference, QuotientRefused, of_rate, StayingRefused, of_product}
use Rattle.rates_dense.specs.Refusals.{of_difference}

-- one more place is filled
pub filled_more : (xs : List ℚ) (n : ℕ) (v : ℚ) (f : ℕ → ℚ) → n < length xs → ((k : ℕ) → k < n → get_or xs k zero_ℚ ≡ f (k + 1)) → v ≡ f (n + 1) → (k : ℕ) →
    k < n + 1 → get_or (set xs n v) k zero_ℚ ≡ f (k + 1)
filled_more xs n v f within so_far is_next =
    below_more (λ k. get_or (set xs n v) k zero_ℚ ≡ f (k + 1)) n
    (λ k below. let other : k ≢ n = omega arith in get_or-set_other xs n k v zero_ℚ other ∙ so_far k below)
    (get_or-set_same xs n v zero_ℚ within ∙ is_next)

-- a filled list has each variable's value
pub filled_at : (xs : List ℚ) (f : ℕ → ℚ) → IsFilled xs f → (j : ℕ) → 1 ≤ j → j ≤ length xs → value_at xs j ≡ f j
filled_at xs f filled j low high =
    let same : j - 1 + 1 ≡ j = omega arith in
    filled (j - 1) (omega arith) ∙ ap f same

-- what a loop reads is the value of the next variable
pub read_at : (xs : List ℚ) (k : ℕ) (v : ℚ) → k < length xs → v ≡ get_or xs k v → v ≡ value_at xs (k + 1)
read_at xs k v within is = let same : k + 1 - 1 ≡ k = omega arith in get_or_read xs k v within is zero_ℚ ∙ ap (λ n. get_or xs n zero_ℚ) (sym same)

-- what stands ready at a place of the list
pub read_filled : (js : List ℕ) (xs : List ℚ) (f : ℕ → ℚ) (place : ℕ) (v : ℚ) → place < length js → length js ≤ length xs → IsFilledAt js xs f →
    v ≡ get_or xs place v → v ≡ f (get_or js place 0)
read_filled js xs f place v within room filled is = get_or_read xs place v (omega (arith, within, room)) is zero_ℚ ∙ filled place within

-- what was taken over at the variables of a list has the values everywhere, where the others keep theirs
pub taken_everywhere : (js : List ℕ) (quotients old new : List ℚ) (f : ℕ → ℚ) → AreChanged js quotients → length old ≡ length quotients
    → IsTakenOver js old new f
    → (j : ℕ) → 1 ≤ j → j ≤ length quotients → (value_at quotients j ≡ zero_ℚ → value_at old j ≡ f j) → value_at new j ≡ f j
taken_everywhere js quotients old new f listing same over j low high kept = at (listing.each j low high)
  where
    at : IsListed js j ⊎ (value_at quotients j ≡ zero_ℚ) → value_at new j ≡ f j
    at (inl l) = subst (λ (n : ℕ). value_at new n ≡ f n) l.is (over.listed l.place l.within)
    at (inr none) = elim (over.others j low (omega (arith, same, high))) [ inl e ↦ e | inr e ↦ e ∙ kept none ]

-- a quotient at the leaver, and one at another variable
pub quotient_own : (p q : ℕ) (rates : List ℚ) (j : ℕ) (v pivot : ℚ) → j ≡ p → pivot ≡ value_at rates q → v ≡ one_ℚ /ℚ pivot → v ≡ quotient_at p q rates j
quotient_own p q rates j v pivot same at_q is =
    is ∙ ap (λ y. one_ℚ /ℚ y) at_q ∙ sym (ap (λ b. cond b one_ℚ (value_at rates j) /ℚ value_at rates q) (eq-eqb j p same))

pub quotient_other : (p q : ℕ) (rates : List ℚ) (j : ℕ) (v rate pivot : ℚ) → j ≢ p → rate ≡ value_at rates j → pivot ≡ value_at rates q → v ≡ rate /ℚ pivot →
    v ≡ quotient_at p q rates j
quotient_other p q rates j v rate pivot other at_j at_q is =
    is ∙ ap (λ x. x /ℚ pivot) at_j ∙ ap (λ y. value_at rates j /ℚ y) at_q
    ∙ sym (ap (λ b. cond b one_ℚ (value_at rates j) /ℚ value_at rates q) (ne_eqb j p other))

pub rate_refused : (p q : ℕ) (rates : List ℚ) (k : ℕ) (v pivot : ℚ) (e : Evidence) → k < length rates → v ≡ value_at rates (k + 1) → pivot ≡ value_at rates q →
    v ≢ zero_ℚ → IsRefusal 1 p q 0 (k + 1) Div v pivot e → QuotientRefused p q rates e
rate_refused p q rates k v pivot e within at_k at_q apart refusal =
    of_rate (k + 1) (omega arith) (omega arith) (λ zero. apart (at_k ∙ zero))
    (subst (λ x. IsRefusal 1 p q 0 (k + 1) Div x (value_at rates q) e) at_k (subst (λ y. IsRefusal 1 p q 0 (k + 1) Div v y e) at_q refusal))

pub rest_refused_at : (i p q : ℕ) (quotients rates : List ℚ) (j : ℕ) (v quotient factor : ℚ) (e : Evidence) → 1 ≤ j → j ≤ length rates → v ≡ value_at rates j →
    quotient ≡ value_at quotients j → factor ≡ value_at rates q → j ≢ p → IsDifferenceRefused p q i j v quotient factor e →
    StayingRefused i p q quotients rates e
rest_refused_at i p q quotients rates j v quotient factor e low high at_v at_quotient at_factor other (by_product apart refusal) =
    of_product j low high other (λ zero. apart (at_quotient ∙ zero))
    (subst (λ x. IsRefusal 2 p q i j Mul x (value_at rates q) e) at_quotient (subst (λ y. IsRefusal 2 p q i j Mul quotient y e) at_factor refusal))
rest_refused_at i p q quotients rates j v quotient factor e low high at_v at_quotient at_factor other (by_difference apart refusal) =
    of_difference j low high other (λ zero. apart (at_quotient ∙ zero))
    (subst (λ x. IsRefusal 3 p q i j Sub x (value_at quotients j *ℚ value_at rates q) e) at_v
    (subst (λ x. IsRefusal 3 p q i j Sub v (x *ℚ value_at rates q) e) at_quotient (subst (λ y. IsRefusal 3 p q i j Sub v (quotient *ℚ y) e) at_factor refusal)))
