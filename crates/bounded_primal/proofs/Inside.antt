-- Once no basic is outside its limits none ever is: the point is feasible, and a step leaves it so.
use Rattle.std.proofs.Common.{◌≡◌, ℕ, false, List, refl, sym, ◌∙◌, ap₂}
use Rattle.std.specs.Prelude.{Option, Some, None, IfSome, ◌&&◌, ◌||◌, Bool, true}
use Rattle.exact_values.specs.Rational.{ℚ, ◌≤ℚ◌}
use Rattle.exact_values.specs.Tests.{lt_ℚ}
use Rattle.exact_values.proofs.TestsLaws.{lt_fails_from_le}
use Rattle.lp_definitions.specs.LinearProgram.{LinearProgram, Matrix, Vector, IsLinearProgram, lower_of, upper_of}
use Rattle.lp_definitions.specs.Basis.{Basics, basics_of, is_in, IsPointOf, Tableau, IsTableau}
use Rattle.lp_definitions.specs.Solutions.{IsFeasible}
use Rattle.lp_definitions.specs.declared.Status.{Status}
use Rattle.simplex_definitions.specs.Moves.{on_limit, is_outside, is_below, is_above}
use Rattle.simplex_definitions.specs.Path.{IsStep, after}
use Rattle.simplex_laws.specs.Laws.{IsNonsingularBasis}
use Rattle.simplex_laws.proofs.Ends.{feasible}
use Rattle.simplex_laws.proofs.Turns.{IsSecondPhase}
use Rattle.simplex_laws.proofs.Second.{feasible_step}
use Rattle.simplex_laws.proofs.Searches.{least_none}
use Rattle.simplex_laws.proofs.Steps.{step_leads}
use Rattle.basis_values.proofs.Existence.{rates_exist}
use Rattle.basis_values.specs.Calls.{HasRates}
use Rattle.bounded_primal.specs.KeptPoints.{AgreesWithPoint}
use Rattle.bounded_primal.specs.Moves.{move_by}
use Rattle.bounded_primal.specs.Turns.{IsUncrossed, least_outside, MovesOn}
use Rattle.bounded_primal.specs.declared.moves.BlockingVariable.{BlockingVariable}
use Rattle.bounded_primal.proofs.Agreement.{basis_point, outside_same}

not_below : (low : Option ℚ) (x : ℚ) → IfSome low (λ l. l ≤ℚ x) → on_limit (λ l. lt_ℚ x l) low ≡ false
not_below None x h = refl
not_below (Some l) x h = lt_fails_from_le x l h

not_above : (high : Option ℚ) (x : ℚ) → IfSome high (λ u. x ≤ℚ u) → on_limit (λ u. lt_ℚ u x) high ≡ false
not_above None x h = refl
not_above (Some u) x h = lt_fails_from_le u x h

neither : (a b c : Bool) → b ≡ false → c ≡ false → (a && (b || c)) ≡ false
neither true b c first second = ap₂ (λ x y. x || y) first second
neither false b c first second = refl

-- at a feasible point no basic is outside its limits
feasible_has_none : (p : LinearProgram) (s : List Status) (z : Vector) → IsFeasible p z → least_outside p s z ≡ None
feasible_has_none p s z h =
    least_none p (λ k. is_in (basics_of s) k && is_outside p z k)
    (λ k is. let within = h.within k is in neither (is_in (basics_of s) k) (is_below p z k) (is_above p z k) (not_below (lower_of p k) (z k) within.0)
    (not_above (upper_of p k) (z k) within.1))

module _ (p : LinearProgram) (a : Matrix) (b : Basics) (s : List Status) (has : HasRates a b p s) (v : Vector) (agrees : AgreesWithPoint p s v)
    (uncrossed : IsUncrossed p) (inside : least_outside p s v ≡ None) where
  abbrev z : Vector
  z = (basis_point p s has.is_basis has.nonsingular).0

  point : IsPointOf p s z
  point = (basis_point p s has.is_basis has.nonsingular).1

  abbrev tableau : Tableau
  tableau = record { point = z; rate = (rates_exist p.matrix (basics_of s) has.nonsingular).0 }

  is_tableau : IsTableau p s tableau
  is_tableau = record { is_point = point; are_rates = (rates_exist p.matrix (basics_of s) has.nonsingular).1 }

  second : IsSecondPhase p s tableau
  second = record { uncrossed = uncrossed; unbroken = sym (outside_same p v z (agrees z point) s) ∙ inside }

  feasible_inside : IsFeasible p z
  feasible_inside = feasible p s tableau has.is_basis is_tableau second

  at : IsNonsingularBasis p s
  at = record { is_basis = has.is_basis; nonsingular = has.nonsingular }

  pub stays_inside : IsLinearProgram p → (d : Vector) (q : ℕ) (by : BlockingVariable) (left : ℕ) → MovesOn p s d q by left → (next : List Status) →
      next ≡ after s (move_by q by) → (x : Vector) → AgreesWithPoint p next x → least_outside p next x ≡ None
  stays_inside lawful d q by left moves next is x follows =
      let step : IsStep p s next = record { tableau = moves.moves.0; is_tableau = moves.moves.1; move = move_by q by; turns = moves.moves.2; is_next = is } in
      let led = step_leads p s next at step in
      let found = feasible_step p s next z lawful at step point feasible_inside in
      outside_same p x found.0 (follows found.0 found.1.point) next ∙ feasible_has_none p next found.0 found.1.feasible
