-- From prices and rates to the entering variable of a tableau.
use Rattle.std.proofs.Common.{◌≡◌, ℕ, ◌+◌, ◌<◌, List, length, get_or, arith, pos, refl, sym, ap₂, ◌∙◌, Bool, true, false, None}
use Rattle.std.specs.Prelude.{◌&&◌, ◌||◌}
use Rattle.exact_values.specs.Rational.{ℚ, zero_ℚ, one_ℚ, neg_ℚ, ◌+ℚ◌, ◌*ℚ◌}
use Rattle.exact_values.specs.Tests.{eq_ℚ, lt_ℚ}
use Rattle.exact_values.proofs.Ring.{by_ring2, same_by_one, number, opposite, ◌⊕◌, ◌⊖◌, ◌⊗◌, ◌≐◌}
use Rattle.exact_values.proofs.TestsLaws.{same_from_test, test_from_same, apart_from_eq_fails, eq_fails_from_apart}
use Rattle.lp_definitions.specs.LinearProgram.{LinearProgram, Vector, size, value_at, IsRow, IsVariable, IsLinearProgram, for_min}
use Rattle.lp_definitions.specs.Basis.{basics_of, is_in, ArePricesOf, Tableau, IsTableau}
use Rattle.lp_definitions.specs.declared.Status.{Status}
use Rattle.lp_model.specs.RatesCalls.{IsRowOf}
use Rattle.simplex_definitions.specs.Moves.{least, may_rise, may_fall}
use Rattle.simplex_laws.proofs.Numbered.{find_same}
use Rattle.simplex_laws.specs.Laws.{IsNonsingularBasis}
use Rattle.simplex_definitions.specs.ObjectiveRun.{objective_family, face_entering_variable}
use Rattle.para_objective.specs.Breaks.{is_entering_variable}
use Rattle.para_objective.proofs.Reaches.{still, price_is, rate_is}
use Rattle.lp_laws.proofs.Places.{value_next}

pub opposite_if_zero : (price product : ℚ) → price +ℚ product ≡ zero_ℚ → product ≡ neg_ℚ price
opposite_if_zero price product e = same_by_one one_ℚ e (by_ring2 price product (λ a q. q ≐ opposite a ⊕ number (pos 1) ⊗ (a ⊕ q ⊖ number (pos 0))) refl)

zero_if_opposite : (price product : ℚ) → product ≡ neg_ℚ price → price +ℚ product ≡ zero_ℚ
zero_if_opposite price product e = same_by_one one_ℚ e (by_ring2 price product (λ a q. a ⊕ q ≐ number (pos 0) ⊕ number (pos 1) ⊗ (q ⊖ opposite a)) refl)

pub zero_test : (price product : ℚ) → eq_ℚ product (neg_ℚ price) ≡ eq_ℚ (price +ℚ product) zero_ℚ
zero_test price product = at (eq_ℚ product (neg_ℚ price)) refl
  where
    at : (b : Bool) → eq_ℚ product (neg_ℚ price) ≡ b → eq_ℚ product (neg_ℚ price) ≡ eq_ℚ (price +ℚ product) zero_ℚ
    at true e = e ∙ sym (test_from_same (price +ℚ product) zero_ℚ (zero_if_opposite price product (same_from_test product (neg_ℚ price) e)))
    at false e = e ∙ sym (eq_fails_from_apart (price +ℚ product) zero_ℚ (λ z. apart_from_eq_fails product (neg_ℚ price) e (opposite_if_zero price product z)))

idle : (a b up down c : Bool) → up ≡ false → down ≡ false → (c && ((a && up) || (b && down))) ≡ false
idle a b true down c e f = cc
idle a b false true c e f = cc
idle true true false false true e f = refl
idle true false false false true e f = refl
idle false true false false true e f = refl
idle false false false false true e f = refl
idle a b false false false e f = refl

module _ (p : LinearProgram) (s : List Status) (h : ℕ) (lawful : IsLinearProgram p) (no_change : p.change ≡ None) (row : IsRow p.matrix h)
    (basis : IsNonsingularBasis p s)
    (prices change : Vector) (priced : ArePricesOf p s prices) (changed : IsRowOf p.matrix (basics_of s) h change) where
  pub entering_variable_is : (theta : ℚ) (t : Tableau) → IsTableau (objective_family p h theta) s t →
      least p (is_entering_variable p s theta prices change) ≡ face_entering_variable (objective_family p h theta) h theta s t
  entering_variable_is theta t is_tableau =
      find_same (is_entering_variable p s theta prices change) (is_entering_variable p s theta (t.rate p.objective) (t.rate h)) (size p.matrix) 1
      (λ k low high. at k (low, omega (arith, high)) (is_in (basics_of s) k) refl)
    where
      at : (k : ℕ) → IsVariable p.matrix k → (mark : Bool) → is_in (basics_of s) k ≡ mark →
          is_entering_variable p s theta prices change k ≡ is_entering_variable p s theta (t.rate p.objective) (t.rate h) k
      at k is true mark =
          let none = still p s h lawful no_change row basis prices change priced changed k is mark in
          idle (lt_ℚ (for_min p.sense (change k)) zero_ℚ) (lt_ℚ zero_ℚ (for_min p.sense (change k))) (may_rise p s k) (may_fall p s k)
          (eq_ℚ (prices k +ℚ theta *ℚ change k) zero_ℚ) none.0 none.1
          ∙ sym (idle (lt_ℚ (for_min p.sense (t.rate h k)) zero_ℚ) (lt_ℚ zero_ℚ (for_min p.sense (t.rate h k))) (may_rise p s k) (may_fall p s k)
          (eq_ℚ (t.rate p.objective k +ℚ theta *ℚ t.rate h k) zero_ℚ) none.0 none.1)
      at k is false mark =
          ap₂ (λ (a b : ℚ). eq_ℚ (a +ℚ theta *ℚ b) zero_ℚ &&
          ((lt_ℚ (for_min p.sense b) zero_ℚ && may_rise p s k) || (lt_ℚ zero_ℚ (for_min p.sense b) && may_fall p s k)))
          (price_is p s h lawful no_change row basis prices change priced changed t.rate is_tableau.are_rates k (is, mark))
          (rate_is p s h lawful no_change row basis prices change priced changed t.rate is_tableau.are_rates k (is, mark))

-- the next variable, from its price and rate
pub entering_variable_at : (p : LinearProgram) (s : List Status) (theta : ℚ) (prices change : List ℚ) (k : ℕ) (price rate : ℚ) → k < length prices
    → k < length change → price ≡ get_or prices k price → rate ≡ get_or change k rate
    → is_entering_variable p s theta (value_at prices) (value_at change) (k + 1) ≡ is_entering_variable p s theta (λ _. price) (λ _. rate) (k + 1)
entering_variable_at p s theta prices change k price rate below there price_is rate_is =
    ap₂ (λ (a b : ℚ). eq_ℚ (a +ℚ theta *ℚ b) zero_ℚ &&
    ((lt_ℚ (for_min p.sense b) zero_ℚ && may_rise p s (k + 1)) || (lt_ℚ zero_ℚ (for_min p.sense b) && may_fall p s (k + 1))))
    (value_next prices k price below price_is) (value_next change k rate there rate_is)
