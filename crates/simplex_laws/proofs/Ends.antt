-- What an end of the path shows of the point, the prices and the direction at which it ends.
use Rattle.std.proofs.Common.{◌≡◌, ℕ, ◌-◌, ◌⊎◌, inl, inr, Bool, true, false, List, refl, sym, ap, subst, ◌∙◌, arith}
use Rattle.std.specs.Prelude.{Option, Some, None, IfSome, not, ◌&&◌, ◌||◌}
use Rattle.std.proofs.lemmas.Bool.{or_parts}
use Rattle.std.proofs.lemmas.Option.{same_Some}
use Rattle.exact_values.specs.Rational.{ℚ, zero_ℚ, ◌≤ℚ◌}
use Rattle.exact_values.specs.Tests.{lt_ℚ, eq_ℚ}
use Rattle.exact_values.proofs.Order.{le_refl, le_antisymm}
use Rattle.exact_values.proofs.TestsLaws.{le_from_lt_fails, same_from_test}
use Rattle.lp_definitions.specs.LinearProgram.{Matrix, LinearProgram, Vector, value_at, size, IsVariable, IsLinearProgram, lower_of, upper_of, for_min}
use Rattle.lp_definitions.specs.Solutions.{IsWithinLimits, IsFeasible, IsDualCertificate}
use Rattle.lp_definitions.specs.Basis.{is_in, basics_of, status_of, is_basic, IsBasis, IsAllowed, StandsAt, IsPointOf, Tableau, IsTableau, IsFixed, IsRightAt}
use Rattle.lp_definitions.specs.Basis.{price_at, objective_rate}
use Rattle.lp_definitions.specs.declared.Status.{Status}
use Rattle.lp_definitions.specs.declared.Status.TheVariants.{Bs, Ll, Ul, Fr}
use Rattle.lp_laws.proofs.Equations.{KeepsEquations-same}
use Rattle.lp_laws.proofs.Uniqueness.{is_in-basics_of}
use Rattle.lp_laws.proofs.Optimal.{prices_prove}
use Rattle.lp_laws.proofs.Duality.{best_by_prices}
use Rattle.simplex_definitions.specs.Moves.{on_limit, on_limits, is_crossed, is_outside, is_fixed, rises_from, falls_from, lowers}
use Rattle.simplex_definitions.specs.Path.{EndsOptimal, Ends, EndsAt, listed, worth_rate, entering_variable}
use Rattle.simplex_laws.specs.Laws.{IsNonsingularBasis, ProvedOptimal}
use Rattle.simplex_laws.proofs.Numbered.{find_none, get_or-listed}
use Rattle.simplex_laws.proofs.Turns.{IsSecondPhase, IsOptimalTurn, rule_of, optimal_turn}

-- a test that fails, one part of which passes
pub and_false : (a b : Bool) → (a && b) ≡ false → b ≡ true → a ≡ false
and_false true b e h = cc
and_false false b e h = refl

pub and_true : (a b : Bool) → (a && b) ≡ false → a ≡ true → b ≡ false
and_true true b e h = e
and_true false b e h = cc

-- the list of a vector's values has them in their places
pub value_at-listed : (a : Matrix) (v : Vector) (k : ℕ) → IsVariable a k → value_at (listed a v) k ≡ v k
value_at-listed a v k is = get_or-listed v (size a) 1 (k - 1) zero_ℚ (omega (arith, is.0, is.1)) ∙ ap v (omega (arith, is.0))

-- a basic inside its limits, or a nonbasic at one of two limits that are not crossed, lies within them
below_none : (z : ℚ) (low : Option ℚ) → on_limit (λ l. lt_ℚ z l) low ≡ false → IfSome low (λ l. l ≤ℚ z)
below_none z None e = tt
below_none z (Some l) e = le_from_lt_fails z l e

above_none : (z : ℚ) (high : Option ℚ) → on_limit (λ u. lt_ℚ u z) high ≡ false → IfSome high (λ u. z ≤ℚ u)
above_none z None e = tt
above_none z (Some u) e = le_from_lt_fails u z e

from_lower : (z : ℚ) (high : Option ℚ) → on_limits (λ l u. lt_ℚ u l) (Some z) high ≡ false → IfSome high (λ u. z ≤ℚ u)
from_lower z None e = tt
from_lower z (Some u) e = le_from_lt_fails u z e

from_upper : (z : ℚ) (low : Option ℚ) → on_limits (λ l u. lt_ℚ u l) low (Some z) ≡ false → IfSome low (λ l. l ≤ℚ z)
from_upper z None e = tt
from_upper z (Some l) e = le_from_lt_fails z l e

pub inside : (st : Status) (low high : Option ℚ) (z : ℚ) → IsAllowed st low high → StandsAt st low high z → on_limits (λ l u. lt_ℚ u l) low high ≡ false →
    (is_basic st ≡ true → (on_limit (λ l. lt_ℚ z l) low || on_limit (λ u. lt_ℚ u z) high) ≡ false) → IfSome low (λ l. l ≤ℚ z) × IfSome high (λ u. z ≤ℚ u)
inside Bs low high z allowed stands uncrossed basic = let h = or_parts _ _ (basic refl) in (below_none z low h.0, above_none z high h.1)
inside Ll low high z allowed stands uncrossed basic =
    (rw stands (le_refl z), from_lower z high (rw stands at uncrossed))
inside Ul low high z allowed stands uncrossed basic =
    (from_upper z low (rw stands at uncrossed), rw stands (le_refl z))
inside Fr low high z allowed stands uncrossed basic = (rw allowed.0 tt, rw allowed.1 tt)

-- and a value within its limits is so with the limit that is there
pub low_of : (low : Option ℚ) (z l : ℚ) → IfSome low (λ l. l ≤ℚ z) → low ≡ Some l → l ≤ℚ z
low_of None z l h e = cc
low_of (Some m) z l h e = subst (λ y. y ≤ℚ z) (same_Some m l e) h

pub high_of : (high : Option ℚ) (z u : ℚ) → IfSome high (λ u. z ≤ℚ u) → high ≡ Some u → z ≤ℚ u
high_of None z u h e = cc
high_of (Some m) z u h e = subst (λ y. z ≤ℚ y) (same_Some m u e) h

-- a rate at which a nonbasic may not move so as to lower the quantity is right, unless the nonbasic is fixed
fixed_from : (low high : Option ℚ) → on_limits eq_ℚ low high ≡ true → (v : ℚ) × (low ≡ Some v) × (high ≡ Some v)
fixed_from None high e = cc
fixed_from (Some l) None e = cc
fixed_from (Some l) (Some u) e = (l, refl, ap (λ v. Some v) (sym (same_from_test l u e)))

pub right : (st : Status) (low high : Option ℚ) (r : ℚ) (fixed : Bool) → on_limits eq_ℚ low high ≡ fixed →
    ((lt_ℚ r zero_ℚ && (rises_from st && not fixed)) || (lt_ℚ zero_ℚ r && (falls_from st && not fixed))) ≡ false →
    ((v : ℚ) × (low ≡ Some v) × (high ≡ Some v)) ⊎ IsRightAt st r
right st low high r true is e = inl (fixed_from low high is)
right Bs low high r false is e = inr tt
right Ll low high r false is e = inr (le_from_lt_fails r zero_ℚ (and_false _ _ (or_parts _ _ e).0 refl))
right Ul low high r false is e = inr (le_from_lt_fails zero_ℚ r (and_false _ _ (or_parts _ _ e).1 refl))
right Fr low high r false is e =
    let h = or_parts _ _ e in inr (le_antisymm (le_from_lt_fails zero_ℚ r (and_false _ _ h.1 refl)) (le_from_lt_fails r zero_ℚ (and_false _ _ h.0 refl)))

module _ (p : LinearProgram) (s : List Status) (t : Tableau) (basis : IsBasis p s) (tab : IsTableau p s t) where
  -- at the basis of a path that is not crossed and has no basic outside its limits the point is feasible
  pub feasible : IsSecondPhase p s t → IsFeasible p t.point
  feasible phase = record { keeps = tab.is_point.keeps; within = within }
    where
      uncrossed : (k : ℕ) → IsVariable p.matrix k → is_crossed p k ≡ false
      uncrossed k is = find_none (is_crossed p) (size p.matrix) 1 phase.uncrossed k is.0 (omega (arith, is.1))

      unbroken : (k : ℕ) → IsVariable p.matrix k → is_basic (status_of s k) ≡ true → is_outside p t.point k ≡ false
      unbroken k is basic =
          let test = find_none (λ k. is_in (basics_of s) k && is_outside p t.point k) (size p.matrix) 1 phase.unbroken k is.0 (omega (arith, is.1)) in
          let among : is_in (basics_of s) k ≡ true = is_in-basics_of s k is.0 (omega (arith, is.1, basis.counted)) ∙ basic in
          and_true _ _ test among

      within : IsWithinLimits p t.point
      within k is =
          inside (status_of s k) (lower_of p k) (upper_of p k) (t.point k) (basis.allowed k is) (tab.is_point.placed k is) (uncrossed k is) (unbroken k is)

  -- where no variable improves the objective, its rates are right
  pub rates_right : entering_variable p s t None ≡ None → (k : ℕ) → IsVariable p.matrix k →
      IsFixed p k ⊎ IsRightAt (status_of s k) (for_min p.sense (objective_rate p t.rate k))
  rates_right none k is =
      right (status_of s k) (lower_of p k) (upper_of p k) (worth_rate p s t k) (is_fixed p k) refl
      (find_none (lowers p s (worth_rate p s t)) (size p.matrix) 1 none k is.0 (omega (arith, is.1)))

  -- a vector that has the point's values at the variables is the point too
  pub is_point_same : (z : Vector) → ((k : ℕ) → IsVariable p.matrix k → z k ≡ t.point k) → IsPointOf p s z
  is_point_same z same = record {
    keeps = KeepsEquations-same p.matrix t.point z (λ k is. sym (same k is)) tab.is_point.keeps;
    placed = λ k is. subst (StandsAt (status_of s k) (lower_of p k) (upper_of p k)) (sym (same k is)) (tab.is_point.placed k is);
  }

-- the limits of a vector that has the values of a feasible one
within_same : (low high : Option ℚ) (x y : ℚ) → x ≡ y → IfSome low (λ l. l ≤ℚ x) × IfSome high (λ u. x ≤ℚ u) →
    IfSome low (λ l. l ≤ℚ y) × IfSome high (λ u. y ≤ℚ u)
within_same low high x y e h = subst (λ v. IfSome low (λ l. l ≤ℚ v) × IfSome high (λ u. v ≤ℚ u)) e h

pub IsFeasible-same : (p : LinearProgram) (d e : Vector) → ((k : ℕ) → IsVariable p.matrix k → d k ≡ e k) → IsFeasible p d → IsFeasible p e
IsFeasible-same p d e same h = record {
  keeps = KeepsEquations-same p.matrix d e same h.keeps;
  within = λ k is. within_same (lower_of p k) (upper_of p k) (d k) (e k) (same k is) (h.within k is);
}

-- an optimal end: the basis is optimal, these are its point and its prices, and they prove that the point is best
pub optimal_end : (p : LinearProgram) (s : List Status) (z y : List ℚ) → IsLinearProgram p → IsNonsingularBasis p s → EndsAt p s (EndsOptimal z y) →
    ProvedOptimal p s z y
optimal_end p s z y lawful at ends = record {
  optimal = record {
    is_basis = at.is_basis;
    nonsingular = at.nonsingular;
    tableau = ends.tableau;
    is_tableau = ends.is_tableau;
    feasible = at_feasible;
    right = at_right;
  };
  point = at_z;
  prices = record { rate = ends.tableau.rate; are_rates = ends.is_tableau.are_rates; prices = at_prices };
  certificate = certificate;
  best =
      best_by_prices p lawful (value_at z) (value_at y)
      (IsFeasible-same p ends.tableau.point (value_at z) (λ k is. sym (at_point k is)) at_feasible) certificate;
}
  where
    optimal : IsOptimalTurn p s ends.tableau (Ends (EndsOptimal z y))
    optimal = optimal_turn p s ends.tableau z y (rule_of p s ends.tableau (Ends (EndsOptimal z y)) ends.turns)

    at_point : (k : ℕ) → IsVariable p.matrix k → value_at z k ≡ ends.tableau.point k
    at_point k is =
        let e = optimal.gives in
        let same : z ≡ listed p.matrix ends.tableau.point = cc in
        ap (λ xs. value_at xs k) same ∙ value_at-listed p.matrix ends.tableau.point k is

    at_prices : (k : ℕ) → IsVariable p.matrix k → value_at y k ≡ price_at p (basics_of s) ends.tableau.rate k
    at_prices k is =
        let e = optimal.gives in
        let same : y ≡ listed p.matrix (price_at p (basics_of s) ends.tableau.rate) = cc in
        ap (λ xs. value_at xs k) same ∙ value_at-listed p.matrix (price_at p (basics_of s) ends.tableau.rate) k is

    at_feasible : IsFeasible p ends.tableau.point
    at_feasible = feasible p s ends.tableau at.is_basis ends.is_tableau optimal.phase

    at_right : (k : ℕ) → IsVariable p.matrix k → IsFixed p k ⊎ IsRightAt (status_of s k) (for_min p.sense (objective_rate p ends.tableau.rate k))
    at_right = rates_right p s ends.tableau at.is_basis ends.is_tableau optimal.moves

    at_z : IsPointOf p s (value_at z)
    at_z = is_point_same p s ends.tableau at.is_basis ends.is_tableau (value_at z) at_point

    certificate : IsDualCertificate p (value_at z) (value_at y)
    certificate =
        prices_prove p lawful s at.is_basis at.nonsingular ends.tableau.rate ends.is_tableau.are_rates (value_at z) (value_at y) at_z at_prices at_right
