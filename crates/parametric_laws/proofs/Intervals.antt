-- At a value at which its basis is optimal an interval shows a best point and its dual certificate.
use Rattle.std.proofs.Common.{◌≡◌, ℕ, Bool, true, false, List, refl, ◌∙◌}
use Rattle.std.specs.Prelude.{if◌then◌else◌}
use Rattle.exact_values.specs.Rational.{ℚ, zero_ℚ}
use Rattle.lp_definitions.specs.LinearProgram.{LinearProgram, Vector, IsVariable, IsLinearProgram}
use Rattle.lp_definitions.specs.Solutions.{IsFeasible, IsDualCertificate}
use Rattle.lp_definitions.specs.Basis.{is_in, basics_of, IsOptimalBasis, IsPointOf, ArePricesOf, objective_rate, price_at}
use Rattle.lp_definitions.specs.declared.Status.{Status}
use Rattle.lp_laws.proofs.Duality.{best_by_prices}
use Rattle.lp_laws.proofs.Optimal.{prices_prove}
use Rattle.lp_laws.proofs.Uniqueness.{one_point, one_table}
use Rattle.simplex_laws.proofs.UnboundedEnds.{objective_value-same}
use Rattle.simplex_laws.proofs.Ends.{IsFeasible-same}
use Rattle.simplex_definitions.specs.Chain.{Part, along, IsPart}
use Rattle.parametric_laws.specs.Truth.{IsBestBy, IsTruePart}

module _ (p : LinearProgram) (lawful : IsLinearProgram p) (s : List Status) (optimal : IsOptimalBasis p s) (z : Vector) (point : IsPointOf p s z) where
  pub point_feasible : IsFeasible p z
  point_feasible = IsFeasible-same p optimal.tableau.point z
      (one_point p s optimal.tableau.point z optimal.is_basis.counted optimal.nonsingular optimal.is_tableau.is_point point) optimal.feasible

  module _ (y : Vector) (prices : ArePricesOf p s y) where
    same_price : (k : ℕ) → IsVariable p.matrix k → y k ≡ price_at p (basics_of s) optimal.tableau.rate k
    same_price k is = prices.prices k is ∙ by_mark (is_in (basics_of s) k) refl
      where
        by_mark : (mark : Bool) → is_in (basics_of s) k ≡ mark →
            (if mark then zero_ℚ else objective_rate p prices.rate k) ≡ (if mark then zero_ℚ else objective_rate p optimal.tableau.rate k)
        by_mark true mark = refl
        by_mark false mark =
            objective_value-same p (λ i. prices.rate i k) (λ i. optimal.tableau.rate i k) lawful
            (λ i out. one_table p.matrix
            (basics_of s) prices.rate optimal.tableau.rate optimal.nonsingular prices.are_rates optimal.is_tableau.are_rates i k out (is, mark))

    certificate : IsDualCertificate p z y
    certificate =
        prices_prove p lawful s optimal.is_basis optimal.nonsingular optimal.tableau.rate optimal.is_tableau.are_rates z y point same_price optimal.right

    pub solved : IsBestBy p z y
    solved = record { best = best_by_prices p lawful z y point_feasible certificate; certificate = certificate }

module _ (family : ℚ → LinearProgram) (lawful : (theta : ℚ) → IsLinearProgram (family theta)) (from max : ℚ) (s : List Status) (part : Part)
    (is : IsPart family from max s part) where
  pub is_true_part : IsTruePart family max part
  is_true_part = record {
    forward = rw is.begins is.reaches.forward;
    within = is.reaches.within;
    solved = λ theta after before.
        solved (family theta) (lawful theta) s (is.reaches.optimal theta (rw (← is.begins) after) before)
        (along theta part.value part.value_rate) (is.values theta) (along theta part.price part.price_rate) (is.prices theta);
  }
