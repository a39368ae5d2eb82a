-- The ends of the dual path that a call finds: no basic is outside its limits, or a variable is crossed.
use Rattle.std.proofs.Common.{◌≡◌, ℕ, List, length, refl, sym, ap, ap₂, ◌∙◌, arith}
use Rattle.std.specs.Prelude.{Option, Some, None, if◌then◌else◌}
use Rattle.exact_values.specs.Rational.{ℚ, zero_ℚ}
use Rattle.lp_definitions.specs.LinearProgram.{LinearProgram, Vector, size, value_at, for_min}
use Rattle.lp_definitions.specs.Basis.{Basics, basics_of, is_in, IsPointOf, ArePricesOf, Tableau, IsTableau, objective_rate, price_at}
use Rattle.lp_definitions.specs.Waypoints.{KeepsWaypoints}
use Rattle.lp_definitions.specs.declared.Status.{Status}
use Rattle.lp_model.specs.declared.reports.Outcome.{Outcome}
use Rattle.lp_model.specs.declared.reports.Outcome.TheVariants.{Optimal, Crossed}
use Rattle.simplex_definitions.specs.DualPath.{dual_for, dual_turn, HasRightPrices, IsWrongAt}
use Rattle.simplex_definitions.specs.Moves.{least, is_crossed, entering}
use Rattle.simplex_definitions.specs.Path.{EndsOptimal, EndsCrossed, listed, crossed, outside, entering_variable, worth_rate}
use Rattle.simplex_laws.specs.Laws.{IsNonsingularBasis}
use Rattle.basis_values.specs.Prices.{worth_by}
use Rattle.basis_values.proofs.RatesStops.{tableau_of, IsTableau-of}
use Rattle.bounded_primal.specs.Calls.{RuleCallEnds}
use Rattle.bounded_primal.specs.KeptPoints.{AgreesWithPoint}
use Rattle.bounded_primal.specs.Turns.{IsUncrossed, least_outside, RuleEndsHere}
use Rattle.bounded_primal.proofs.Agreement.{outside_same}
use Rattle.bounded_primal.proofs.PathWalk.{begins_at, ends_there}
use Rattle.bounded_primal.proofs.SameChoices.{entering_same, listed_is}

module _ (p : LinearProgram) (s : List Status) (v : Vector) (agrees : AgreesWithPoint p s v) (uncrossed : IsUncrossed p)
    (found_none : least_outside p s v ≡ None) where
  pub optimal_ends : (zs ys : List ℚ) (steps : ℕ) → IsPointOf p s (value_at zs) → length zs ≡ size p.matrix → ArePricesOf p s (value_at ys) →
      length ys ≡ size p.matrix → (outcome : Outcome) → outcome ≡ Optimal steps zs ys →
      RuleEndsHere dual_turn p s steps outcome
  unfolding dual_turn
  optimal_ends zs ys steps point counted priced price_counted outcome is = record {
    ending = EndsOptimal (listed p.matrix (value_at zs)) (listed p.matrix (price_at p (basics_of s) priced.rate));
    ends = record {
      tableau = record { point = value_at zs; rate = priced.rate };
      is_tableau = record { is_point = point; are_rates = priced.are_rates };
      turns =
          ap₂ (dual_for p s (record { point = value_at zs; rate = priced.rate })) uncrossed
          (sym (outside_same p v (value_at zs) (agrees (value_at zs) point) s) ∙ found_none);
    };
    is_outcome =
        is ∙ ap₂ (Optimal steps) (listed_is p.matrix zs (value_at zs) counted (λ k is. refl))
        (listed_is p.matrix ys (price_at p (basics_of s) priced.rate) price_counted priced.prices);
  }

module _ (p : LinearProgram) (s : List Status) (at : IsNonsingularBasis p s) (y : Vector) (priced : ArePricesOf p s y) where
  abbrev t : Tableau
  t = tableau_of p s at.is_basis at.nonsingular priced.rate

  is_t : IsTableau p s t
  is_t = IsTableau-of p s at.is_basis at.nonsingular priced.rate priced.are_rates

  -- a variable is crossed
  pub crossed_ends : (k steps : ℕ) → Some k ≡ least p (is_crossed p) → RuleEndsHere dual_turn p s steps (Crossed k)
  unfolding dual_turn
  crossed_ends k steps found = record {
    ending = EndsCrossed k;
    ends = record { tableau = t; is_tableau = is_t; turns = ap (λ (o : Option ℕ). dual_for p s t o (outside p s t)) (sym found) };
    is_outcome = refl;
  }

  pub crossed_call : (before ways : List Basics) → KeepsWaypoints p.matrix (basics_of s) before (basics_of s) ways → (k limit : ℕ) →
      Some k ≡ least p (is_crossed p) → RuleCallEnds dual_turn p s s limit (Crossed k)
  crossed_call before ways keeps k limit found =
      ends_there dual_turn p s before s ways 0 (begins_at dual_turn p s before ways keeps) limit 0 (Crossed k) (omega arith) refl (crossed_ends k 0 found)

  -- the prices of the basis tell which one is wrong
  wrong_is : entering_variable p s t None ≡ entering p s (worth_by p y)
  wrong_is =
      entering_same p s at.is_basis (worth_rate p s t) (worth_by p y)
      (λ k out. ap (for_min p.sense) (sym (priced.prices k out.0 ∙ ap (λ m. if m then zero_ℚ else objective_rate p priced.rate k) out.1)))

  pub all_right : None ≡ entering p s (worth_by p y) → HasRightPrices p s
  all_right none = record { tableau = t; is_tableau = is_t; right = wrong_is ∙ sym none }

  pub one_wrong : (j : ℕ) → Some j ≡ entering p s (worth_by p y) → IsWrongAt p s j
  one_wrong j found = record { tableau = t; is_tableau = is_t; wrong = wrong_is ∙ sym found }
