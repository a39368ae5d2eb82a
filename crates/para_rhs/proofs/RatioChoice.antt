-- By the prices of a basis and a row, the ratio test is that of its tableau at each value of the parameter.
use Rattle.std.proofs.Common.{◌≡◌, ℕ, Bool, List, sym, ap, ap₂, ◌∙◌, arith}
use Rattle.std.specs.Prelude.{Option, None, not, ◌&&◌, ◌||◌}
use Rattle.exact_values.specs.Rational.{ℚ, zero_ℚ}
use Rattle.exact_values.specs.Tests.{eq_ℚ, le_ℚ, lt_ℚ}
use Rattle.lp_definitions.specs.Basis.{basics_of, status_of, ArePricesOf, Tableau}
use Rattle.lp_definitions.specs.LinearProgram.{LinearProgram, Vector, size, IsVariable, IsLinearProgram, lower_of, upper_of}
use Rattle.lp_definitions.specs.declared.Status.{Status}
use Rattle.lp_model.specs.RatesCalls.{IsRowOf}
use Rattle.simplex_definitions.specs.DualRatio.{restores_feasibility, ratio, is_cheapest, cheapest}
use Rattle.simplex_definitions.specs.Moves.{on_limits, rises_from, falls_from, lowers, signed}
use Rattle.simplex_laws.proofs.Numbered.{find_same, list_all_same}
use Rattle.simplex_laws.specs.Laws.{IsNonsingularBasis}
use Rattle.simplex_definitions.specs.RhsRun.{shift_of, rhs_family}
use Rattle.sensitivity_laws.proofs.MovedLimits.{lower_is, upper_is, moved_tests}
use Rattle.dual_step.specs.Cheapest.{brings, cheapest_by}
use Rattle.dual_step.proofs.RatioChoice.{brings_is, cheapest_is}

module _ (p : LinearProgram) (shift : List ℚ) (theta : ℚ) (s : List Status) where
  pub lowers_family : (f : Vector) (k : ℕ) → IsVariable p.matrix k → lowers (rhs_family p shift theta) s f k ≡ lowers p s f k
  lowers_family f k is =
      ap (λ b. (lt_ℚ (f k) zero_ℚ && (rises_from (status_of s k) && not b)) || (lt_ℚ zero_ℚ (f k) && (falls_from (status_of s k) && not b)))
      (ap₂ (λ (low high : Option ℚ). on_limits eq_ℚ low high) (lower_is p shift theta k is) (upper_is p shift theta k is)
      ∙ moved_tests (lower_of p k) (upper_of p k) theta (shift_of p.matrix shift k))

  module _ (lawful : IsLinearProgram p) (no_change : p.change ≡ None) (at : IsNonsingularBasis p s) (prices row : Vector) (priced : ArePricesOf p s prices)
      (r : ℕ) (r_is : IsVariable p.matrix r)
      (rowed : IsRowOf p.matrix (basics_of s) r row) (below : Bool) (z : Vector) where
    abbrev pub tableau : Tableau
    tableau = record { point = z; rate = rowed.rate }

    family_brings : (k : ℕ) → IsVariable p.matrix k →
        restores_feasibility p s tableau r below k ≡ restores_feasibility (rhs_family p shift theta) s tableau r below k
    family_brings k is = sym (lowers_family (λ j. signed (not below) (rowed.rate r j)) k is)

    pub brings_same : (k : ℕ) → IsVariable p.matrix k → brings p s row below k ≡ restores_feasibility (rhs_family p shift theta) s tableau r below k
    brings_same k is = brings_is p s lawful no_change at prices row priced r r_is rowed below z k is ∙ family_brings k is

    -- the ratios are the same numbers
    family_against : (q j : ℕ) → IsVariable p.matrix j →
        (not (restores_feasibility p s tableau r below j) || le_ℚ (ratio p s tableau r q) (ratio p s tableau r j))
        ≡ (not (restores_feasibility (rhs_family p shift theta) s tableau r below j) || le_ℚ (ratio (rhs_family p shift theta) s tableau r q)
        (ratio (rhs_family p shift theta) s tableau r j))
    family_against q j is = ap (λ b. not b || le_ℚ (ratio p s tableau r q) (ratio p s tableau r j)) (family_brings j is)

    family_cheapest : cheapest p s tableau r below ≡ cheapest (rhs_family p shift theta) s tableau r below
    family_cheapest =
        find_same (λ q. restores_feasibility p s tableau r below q && is_cheapest p s tableau r below q)
        (λ q. restores_feasibility (rhs_family p shift theta) s tableau r below q && is_cheapest (rhs_family p shift theta) s tableau r below q)
        (size p.matrix) 1 (λ q low high.
        ap₂ (λ a b. a && b) (family_brings q (low, omega (arith, high)))
        (list_all_same (λ j. not (restores_feasibility p s tableau r below j) || le_ℚ (ratio p s tableau r q) (ratio p s tableau r j))
        (λ j. not (restores_feasibility (rhs_family p shift theta) s tableau r below j) || le_ℚ (ratio (rhs_family p shift theta) s tableau r q)
        (ratio (rhs_family p shift theta) s tableau r j)) (size p.matrix) 1
        (λ j from to. family_against q j (from, omega (arith, to)))))

    pub cheapest_same : cheapest_by p s prices row below ≡ cheapest (rhs_family p shift theta) s tableau r below
    cheapest_same = cheapest_is p s lawful no_change at prices row priced r r_is rowed below z ∙ family_cheapest
