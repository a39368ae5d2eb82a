-- What stops a motion: what the search has found, and from a refused distance, or that over a rate, to evidence of the call.
use Rattle.std.proofs.Common.{◌≡◌, ◌≢◌, ℕ, List, [], Bool, true, false, refl, sym, ◌∙◌, ap, subst, arith, ap₂}
use Rattle.std.specs.Prelude.{Option, Some, None, IsSome, IsTrue, nat_eq, not, ◌||◌, ◌&&◌, option_map, unwrap_or}
use Rattle.exact_values.specs.Rational.{ℚ, zero_ℚ, one_ℚ}
use Rattle.lp_definitions.specs.LinearProgram.{LinearProgram, Vector, IsVariable, size}
use Rattle.lp_definitions.specs.Basis.{basics_of, is_in, IsNonsingular, IsNonbasic, IsPointOf, IsDirectionOf, Tableau}
use Rattle.lp_definitions.specs.declared.Evidence.{Evidence}
use Rattle.lp_definitions.specs.declared.Status.{Status}
use Rattle.lp_laws.proofs.Values.{clash}
use Rattle.lp_laws.proofs.Uniqueness.{one_direction}
use Rattle.simplex_definitions.specs.Moves.{blocking_variable, limit_ahead, step_length, signed, reached}
use Rattle.simplex_laws.proofs.BlockingVariables.{blocking_variable_none}
use Rattle.simplex_definitions.specs.Formulas.{PointFormula, f6, f7}
use Rattle.basis_values.specs.Motions.{motion}
use Rattle.bounded_primal.specs.Moves.{blocking_variable_of, BlockingVariableRefused, stop_at}
use Rattle.basis_values.specs.Reach.{StepLengthRefused, of_distance, of_quotient, IsFirst, IsNearest}
use Rattle.basis_values.proofs.Existence.{rates_exist}
use Rattle.basis_values.specs.declared.reach.Reach.{Reach}
use Rattle.basis_values.proofs.Nearest.{nearest_stops, nothing_stops}
use Rattle.basis_values.proofs.Refusals.{stops_at_basis}

-- what is found, as the definition tells it
pub stop_found : (p : LinearProgram) (z d : Vector) (up : Bool) (found : Option Reach) (r : Reach) (rate speed step : ℚ) (to : Status) →
    IsNearest (step_length p z (motion d up)) (size p.matrix) found → found ≡ Some r → rate ≡ d r.p → speed ≡ signed up rate →
    step ≡ signed up r.length → to ≡ reached (λ _. speed) 0 → Some (record { p = r.p; step = step; to = to }) ≡ blocking_variable_of p z d up
stop_found p z d up found r rate speed step to nearest is rate_is speed_is step_is to_is =
    ap₂ (λ (x : ℚ) (t : Status). Some (record { p = r.p; step = x; to = t }))
    (step_is ∙ ap (λ o. signed up (unwrap_or o zero_ℚ)) (sym h.reaches))
    (to_is ∙ ap (λ (x : ℚ). reached (λ _. x) 0) (speed_is ∙ ap (signed up) rate_is))
    ∙ sym (ap (option_map (stop_at p z d up)) (nearest_stops p z (motion d up) r h))
  where
    h : IsFirst (step_length p z (motion d up)) (size p.matrix) r
    h = subst (λ (o : Option Reach). IsNearest (step_length p z (motion d up)) (size p.matrix) o) is nearest

pub nothing_found : (p : LinearProgram) (z d : Vector) (up : Bool) (found : Option Reach) → IsNearest (step_length p z (motion d up)) (size p.matrix) found →
    found ≡ None → None ≡ blocking_variable_of p z d up
nothing_found p z d up found nearest is =
    sym (ap (option_map (stop_at p z d up))
    (nothing_stops p z (motion d up) (subst (λ (o : Option Reach). IsNearest (step_length p z (motion d up)) (size p.matrix) o) is nearest)))

-- something stops a motion where a variable has a limit ahead
is_stopped : (p : LinearProgram) (z d : Vector) (up : Bool) (k : ℕ) (l : ℚ) → IsVariable p.matrix k → limit_ahead p (motion d up) k ≡ Some l →
    IsSome (blocking_variable_of p z d up)
is_stopped p z d up k l is ahead = at (blocking_variable p z (motion d up)) refl
  where
    at : (o : Option ℕ) → blocking_variable p z (motion d up) ≡ o → IsSome (blocking_variable_of p z d up)
    at None none = let gone = blocking_variable_none p z (motion d up) none k is in absurd (none_some (rw ahead at gone))
      where
        none_some : {x : ℚ} → Some x ≡ None → ⊥
        none_some e = cc
    at (Some r) found = rw found refl

module _ (p : LinearProgram) (s : List Status) (z d : Vector) (q : ℕ) (up : Bool) (nonsingular : IsNonsingular p.matrix (basics_of s)) (point : IsPointOf p s z)
    (out : IsNonbasic p.matrix (basics_of s) q) (direction : IsDirectionOf p.matrix (basics_of s) q d) (k : ℕ) (is : IsVariable p.matrix k) (e : Evidence) where
  -- a variable other than q that moves is basic
  moves_basic : d k ≢ zero_ℚ → d k ≢ one_ℚ → is_in (basics_of s) k ≡ true
  moves_basic moves not_own = at (is_in (basics_of s) k) refl
    where
      at : (b : Bool) → is_in (basics_of s) k ≡ b → is_in (basics_of s) k ≡ true
      at true e = e
      at false e = absurd (moves (direction.others k (is, e) (λ same. not_own (ap d same ∙ direction.own))))

  tableau : Tableau
  tableau = record { point = z; rate = (rates_exist p.matrix (basics_of s) nonsingular).0 }

  at_q : (rates_exist p.matrix (basics_of s) nonsingular).0 k q ≡ d k
  at_q =
      one_direction p.matrix (basics_of s) q (λ i. (rates_exist p.matrix (basics_of s) nonsingular).0 i q) d nonsingular
      ((rates_exist p.matrix (basics_of s) nonsingular).1 q out) direction k is

  formula_of : StepLengthRefused p z d up q k e → PointFormula p s tableau e
  unfolding tableau
  formula_of (of_distance term l low ahead limit h) = f6 k term l h.names is limit h.refuses
  formula_of (of_quotient term l ahead limit moves not_own h) =
      f7 q k term l h.names (is, moves_basic moves not_own) out limit (λ vanishes. moves (sym at_q ∙ vanishes))
      (rw at_q h.refuses)

  pub call_refused : StepLengthRefused p z d up q k e → BlockingVariableRefused p s z d q up e
  unfolding tableau
  call_refused h = record {
    of_call = of_call h;
    is_stopped = λ six. stopped h;
    enters = enters h;
    stops =
        stops_at_basis p s tableau (record { is_point = point; are_rates = (rates_exist p.matrix (basics_of s) nonsingular).1 }) nonsingular (λ to. ⊥) [] [] e
        (no_way h) (no_theta h) (formula_of h);
  }
    where
      of_call : StepLengthRefused p z d up q k e → IsTrue ((nat_eq e.formula 6 && not (nat_eq e.term 3)) || nat_eq e.formula 7)
      of_call (of_distance term l low ahead limit h) =
          let other : nat_eq term 3 ≡ false = grind arith in rw (h.names.is_formula, h.names.is_term, other) refl
      of_call (of_quotient term l ahead limit moves not_own h) = rw h.names.is_formula refl

      stopped : StepLengthRefused p z d up q k e → IsSome (blocking_variable_of p z d up)
      stopped (of_distance term l low ahead limit h) = is_stopped p z d up k l is ahead
      stopped (of_quotient term l ahead limit moves not_own h) = is_stopped p z d up k l is ahead

      enters : StepLengthRefused p z d up q k e → IsTrue (nat_eq e.formula 7) → e.q ≡ q
      enters (of_distance term l low ahead limit h) seven = absurd (clash (sym (rw h.names.is_formula at seven)))
      enters (of_quotient term l ahead limit moves not_own h) seven = h.names.is_q

      no_way : StepLengthRefused p z d up q k e → e.way ≡ 0
      no_way (of_distance term l low ahead limit h) = h.no_way
      no_way (of_quotient term l ahead limit moves not_own h) = h.no_way

      no_theta : StepLengthRefused p z d up q k e → e.theta ≡ zero_ℚ
      no_theta (of_distance term l low ahead limit h) = h.is_theta
      no_theta (of_quotient term l ahead limit moves not_own h) = h.is_theta
