-- What the prices come to over a step are the prices of the basis to which it leads.
use Rattle.std.proofs.Common.{◌≡◌, ◌≢◌, ℕ, ◌⊎◌, inl, inr, Bool, true, false, List, cond, refl, sym, ap, ap₂, subst, ◌∙◌}
use Rattle.std.specs.Prelude.{Option, None, eqb}
use Rattle.std.proofs.lemmas.Bool.Decides.{eqb_tells}
use Rattle.exact_values.specs.Rational.{ℚ, zero_ℚ, one_ℚ, ◌-ℚ◌, ◌*ℚ◌, ◌/ℚ◌, inverse_ℚ}
use Rattle.exact_values.proofs.Ring.{by_ring2, by_ring4, ◌⊖◌, ◌⊗◌, ◌≐◌}
use Rattle.exact_values.proofs.RingLaws.{one-mul}
use Rattle.lp_definitions.specs.Basis.{is_in, basics_of, exchanged, IsBasic, IsNonbasic, AreRates, ArePricesOf, objective_rate, price_at as price_of}
use Rattle.lp_definitions.specs.LinearProgram.{LinearProgram, Vector, size, IsVariable, IsLinearProgram, with_change_row}
use Rattle.lp_definitions.specs.declared.Change.{Change}
use Rattle.lp_definitions.specs.declared.Status.{Status}
use Rattle.lp_definitions.specs.declared.Status.TheVariants.{Bs}
use Rattle.lp_laws.proofs.Exchange.{leaver_out, entering_in, others_stay, AreRates-exchanged}
use Rattle.lp_laws.proofs.Idle.{right_nothing, right_difference}
use Rattle.lp_laws.proofs.Statuses.{basics_of-replaced}
use Rattle.lp_laws.specs.Rates.{exchanged_rate}
use Rattle.lp_model.specs.RatesCalls.{IsRowOf}
use Rattle.simplex_definitions.specs.Path.{after}
use Rattle.simplex_laws.specs.Laws.{IsNonsingularBasis}
use Rattle.dual_step.specs.Prices.{ArePricesOver}
use Rattle.dual_step.proofs.RatioChoice.{row_at, price_at}

module _ (p : LinearProgram) (s : List Status) (lawful : IsLinearProgram p) (no_change : p.change ≡ None) (at : IsNonsingularBasis p s) (w x : Vector)
    (priced : ArePricesOf p s w) (r q : ℕ) (rowed : IsRowOf p.matrix (basics_of s) r x)
    (leaves : IsBasic p.matrix (basics_of s) r) (enters : IsNonbasic p.matrix (basics_of s) q) (pivot : x q ≢ zero_ℚ) (to : Status) (stands : to ≢ Bs) where
  abbrev next : List Status
  next = after s (record { enters = q; leaves = r; to = to })

  row_is : (k : ℕ) → IsNonbasic p.matrix (basics_of s) k → x k ≡ rowed.rate r k
  row_is = row_at p s lawful no_change at w x priced r leaves.0 rowed true (λ i. zero_ℚ)

  price_is : (k : ℕ) → IsNonbasic p.matrix (basics_of s) k → w k ≡ rowed.rate p.objective k
  price_is = price_at p s lawful no_change at w x priced r leaves.0 rowed true (λ i. zero_ℚ)

  rate_apart : rowed.rate r q ≢ zero_ℚ
  rate_apart zero = pivot (row_is q enters ∙ zero)

  same_basics : basics_of next ≡ exchanged (basics_of s) r q
  same_basics = basics_of-replaced s r q to stands

  rates_next : AreRates p.matrix (basics_of next) (exchanged_rate rowed.rate r q)
  rates_next =
      subst (λ b. AreRates p.matrix b (exchanged_rate rowed.rate r q)) (sym same_basics)
      (AreRates-exchanged p.matrix (basics_of s) at.nonsingular.counted rowed.rate rowed.are_rates r q leaves enters rate_apart)

  objective_is : (k : ℕ) → objective_rate p (exchanged_rate rowed.rate r q) k ≡ exchanged_rate rowed.rate r q p.objective k
  objective_is k =
      ap (λ (c : Option Change). with_change_row c (λ i. exchanged_rate rowed.rate r q i k) (exchanged_rate rowed.rate r q p.objective k)) no_change

  -- a basic and a nonbasic variable of the next basis
  at_basic : (k : ℕ) → is_in (exchanged (basics_of s) r q) k ≡ true → price_of p (basics_of next) (exchanged_rate rowed.rate r q) k ≡ zero_ℚ
  at_basic k mark =
      ap (λ b. cond (is_in b k) zero_ℚ (objective_rate p (exchanged_rate rowed.rate r q) k)) same_basics
      ∙ ap (λ m. cond m zero_ℚ (objective_rate p (exchanged_rate rowed.rate r q) k)) mark

  at_nonbasic : (k : ℕ) → is_in (exchanged (basics_of s) r q) k ≡ false →
      price_of p (basics_of next) (exchanged_rate rowed.rate r q) k ≡ exchanged_rate rowed.rate r q p.objective k
  at_nonbasic k mark =
      ap (λ b. cond (is_in b k) zero_ℚ (objective_rate p (exchanged_rate rowed.rate r q) k)) same_basics
      ∙ ap (λ m. cond m zero_ℚ (objective_rate p (exchanged_rate rowed.rate r q) k)) mark ∙ objective_is k

  module _ (v : Vector) (over : ArePricesOver w x r q (size p.matrix) v) where
    step_is : w q /ℚ x q ≡ rowed.rate p.objective q /ℚ rowed.rate r q
    step_is = ap₂ (λ (a b : ℚ). a /ℚ b) (price_is q enters) (row_is q enters)

    leaver_is : v r ≡ exchanged_rate rowed.rate r q p.objective r
    leaver_is =
        over.leaver ∙ step_is
        ∙ by_ring2 (rowed.rate p.objective q) (inverse_ℚ (rowed.rate r q)) (λ o i. o ⊗ i ≐ i ⊗ o) refl
        ∙ ap (λ y. y *ℚ rowed.rate p.objective q) (sym (one-mul (inverse_ℚ (rowed.rate r q))))
        ∙ sym (own (eqb_tells r r))
      where
        own : (((eqb r r ≡ true) × (r ≡ r)) ⊎ ((eqb r r ≡ false) × (r ≢ r))) →
            exchanged_rate rowed.rate r q p.objective r ≡ (one_ℚ /ℚ rowed.rate r q) *ℚ rowed.rate p.objective q
        own (inl same) =
            ap (λ m. cond m ((one_ℚ /ℚ rowed.rate r q) *ℚ rowed.rate p.objective q)
            (rowed.rate p.objective r -ℚ (rowed.rate r r /ℚ rowed.rate r q) *ℚ rowed.rate p.objective q)) same.0
        own (inr other) = absurd (other.1 refl)

    other_is : (k : ℕ) → IsNonbasic p.matrix (basics_of s) k → eqb k r ≡ false → k ≢ r → k ≢ q → v k ≡ exchanged_rate rowed.rate r q p.objective k
    other_is k out mark other_r other_q =
        over.others k out.0.0 out.0.1 other_r other_q
        ∙ ap (λ y. w k -ℚ y *ℚ x k) step_is
        ∙ ap₂ (λ y z. y -ℚ (rowed.rate p.objective q /ℚ rowed.rate r q) *ℚ z) (price_is k out) (row_is k out)
        ∙ by_ring4 (rowed.rate p.objective k) (rowed.rate p.objective q) (inverse_ℚ (rowed.rate r q)) (rowed.rate r k)
        (λ a o i y. a ⊖ (o ⊗ i) ⊗ y ≐ a ⊖ (y ⊗ i) ⊗ o) refl
        ∙ sym (ap (λ m. cond m ((one_ℚ /ℚ rowed.rate r q) *ℚ rowed.rate p.objective q)
        (rowed.rate p.objective k -ℚ (rowed.rate r k /ℚ rowed.rate r q) *ℚ rowed.rate p.objective q)) mark)

    still_basic : (k : ℕ) → IsVariable p.matrix k → is_in (basics_of s) k ≡ true → k ≢ r → k ≢ q → v k ≡ zero_ℚ
    still_basic k is mark other_r other_q =
        let priceless : w k ≡ zero_ℚ = priced.prices k is ∙ ap (λ m. cond m zero_ℚ (objective_rate p priced.rate k)) mark in
        let rateless : x k ≡ zero_ℚ = rowed.entries k is ∙ ap (λ m. cond m zero_ℚ (rowed.rate r k)) mark in
        over.others k is.0 is.1 other_r other_q
        ∙ sym (right_difference (w k) ((w q /ℚ x q) *ℚ x k) (sym (right_nothing (w q /ℚ x q) (x k) rateless) ∙ rateless)) ∙ priceless

    price_next : (k : ℕ) → IsVariable p.matrix k → v k ≡ price_of p (basics_of next) (exchanged_rate rowed.rate r q) k
    price_next k is = by (eqb_tells k r) (eqb_tells k q) (is_in (basics_of s) k) refl
      where
        by : (((eqb k r ≡ true) × (k ≡ r)) ⊎ ((eqb k r ≡ false) × (k ≢ r))) → (((eqb k q ≡ true) × (k ≡ q)) ⊎ ((eqb k q ≡ false) × (k ≢ q))) → (m : Bool) →
            is_in (basics_of s) k ≡ m →
            v k ≡ price_of p (basics_of next) (exchanged_rate rowed.rate r q) k
        by (inl same) other m mark =
            ap v same.1 ∙ leaver_is ∙ sym (at_nonbasic r (leaver_out p.matrix (basics_of s) at.nonsingular.counted r q leaves enters))
            ∙ ap (price_of p (basics_of next) (exchanged_rate rowed.rate r q)) (sym same.1)
        by (inr other) (inl same) m mark =
            ap v same.1 ∙ over.entering_variable ∙ sym (at_basic q (entering_in p.matrix (basics_of s) at.nonsingular.counted r q leaves enters))
            ∙ ap (price_of p (basics_of next) (exchanged_rate rowed.rate r q)) (sym same.1)
        by (inr other_r) (inr other_q) true mark =
            still_basic k is mark other_r.1 other_q.1
            ∙ sym (at_basic k (others_stay p.matrix (basics_of s) at.nonsingular.counted r q leaves enters k is other_r.1 other_q.1 ∙ mark))
        by (inr other_r) (inr other_q) false mark =
            other_is k (is, mark) other_r.0 other_r.1 other_q.1
            ∙ sym (at_nonbasic k (others_stay p.matrix (basics_of s) at.nonsingular.counted r q leaves enters k is other_r.1 other_q.1 ∙ mark))

    pub prices_after : ArePricesOf p next v
    prices_after = record { rate = exchanged_rate rowed.rate r q; are_rates = rates_next; prices = price_next }
