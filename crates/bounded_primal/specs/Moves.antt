-- What a move asks and gives.
--     blocking_variable_of p z d up            what stops that motion
--     return_by p z d k to                     what brings k to the limit of the status to
--     IsStepBy p s z d q by                    by is what stops the motion, or it brings a basic to a limit
--     StepsFromPoint p s d q by                by is that at the point of the basis
--     move_by q by                             the move of the basis
--     BlockingVariableRefused, StepRefused     evidence of a refused call
use Rattle.std.specs.Prelude.{◌≡◌, ℕ, Bool, ◌&&◌, ◌||◌, not, List, [], ◌∷◌, Option, Some, IsSome, option_map, unwrap_or, IsTrue, nat_eq, Result, IfErr}
use Rattle.exact_values.specs.Rational.{ℚ, zero_ℚ, ◌-ℚ◌, ◌/ℚ◌}
use Rattle.lp_definitions.specs.LinearProgram.{LinearProgram, Vector}
use Rattle.lp_definitions.specs.Solutions.{IsFeasible}
use Rattle.lp_definitions.specs.Basis.{Basics, basics_of, exchanged, IsBasic, IsPointOf}
use Rattle.lp_definitions.specs.declared.Evidence.{Evidence}
use Rattle.lp_definitions.specs.declared.Status.{Status}
use Rattle.lp_model.specs.RatesState.{RatesState}
use Rattle.lp_model.specs.declared.Stop.{Stop}
use Rattle.lp_model.specs.RatesCalls.{IfOverflow}
use Rattle.simplex_definitions.specs.Moves.{signed, step_length, blocking_variable, reached}
use Rattle.simplex_definitions.specs.Path.{Move}
use Rattle.simplex_definitions.specs.Formulas.{limit_numbered, number_of_limit}
use Rattle.simplex_definitions.specs.Statements.{Primal, belongs, is_between}
use Rattle.basis_values.specs.Calls.{StopsAt}
use Rattle.basis_values.specs.Motions.{may_move, motion}
use Rattle.bounded_primal.specs.declared.moves.BlockingVariable.{BlockingVariable}

-- k as what stops the motion: the change of what moves, and the limit that k reaches
abbrev pub stop_at : LinearProgram → Vector → Vector → Bool → ℕ → BlockingVariable
stop_at p z d up k = record { p = k; step = signed up (unwrap_or (step_length p z (motion d up) k) zero_ℚ); to = reached (motion d up) k }

-- the least-numbered of the variables that reach a limit first
abbrev pub blocking_variable_of : LinearProgram → Vector → Vector → Bool → Option BlockingVariable
blocking_variable_of p z d up = option_map (stop_at p z d up) (blocking_variable p z (motion d up))

-- k comes to the limit of the status to, which it has
abbrev pub return_by : LinearProgram → Vector → Vector → ℕ → Status → BlockingVariable
return_by p z d k to = record { p = k; step = (unwrap_or (limit_numbered p k (number_of_limit to)) zero_ℚ -ℚ z k) /ℚ d k; to = to }

-- z is the point of s and d the direction of q
pub data IsStepBy (p : LinearProgram) (s : List Status) (z d : Vector) (q : ℕ) (by : BlockingVariable) : Type 0 where
  is_blocking_variable : (up : Bool) → IsFeasible p z → IsTrue (may_move p s up q) → blocking_variable_of p z d up ≡ Some by → IsStepBy p s z d q by
  brings : (l : ℚ) → IsBasic p.matrix (basics_of s) by.p → limit_numbered p by.p (number_of_limit by.to) ≡ Some l →
      by.step ≡ (l -ℚ z by.p) /ℚ d by.p → IsStepBy p s z d q by

-- by is that at the point of s
pub record StepsFromPoint (p : LinearProgram) (s : List Status) (d : Vector) (q : ℕ) (by : BlockingVariable) : Type 0 where
  pub point : Vector
  pub is_point : IsPointOf p s point
  pub is_step : IsStepBy p s point d q by

abbrev pub move_by : ℕ → BlockingVariable → Move
move_by q by = record { enters = q; leaves = by.p; to = by.to }

-- by a distance to a limit, where something stops q, or by that over a rate of q
pub record BlockingVariableRefused (p : LinearProgram) (s : List Status) (z d : Vector) (q : ℕ) (up : Bool) (e : Evidence) : Type 0 where
  pub of_call : IsTrue ((nat_eq e.formula 6 && not (nat_eq e.term 3)) || nat_eq e.formula 7)
  pub is_stopped : IsTrue (nat_eq e.formula 6) → IsSome (blocking_variable_of p z d up)
  pub enters : IsTrue (nat_eq e.formula 7) → e.q ≡ q
  pub stops : StopsAt (λ to. ⊥) p (basics_of s ∷ []) s [] e

-- by a formula of a step: of q, and of the p and the limit of by
pub record StepRefused (p : LinearProgram) (before : List Basics) (s : List Status) (q : ℕ) (by : BlockingVariable) (after : List Basics) (e : Evidence) :
    Type 0 where
  pub of_call : IsTrue (belongs (Primal p) e)
  pub enters : IsTrue (is_between 7 9 e.formula) → e.q ≡ q
  pub leaves : IsTrue (is_between 8 9 e.formula) → e.p ≡ by.p
  pub stops : StopsAt (λ to. to ≡ by.to) p (basics_of s ∷ exchanged (basics_of s) by.p q ∷ before) s after e

abbrev pub StepOverflow : {T : Type 0} → Result T Stop → LinearProgram → List Status → ℕ → BlockingVariable → RatesState → RatesState → Type 0
StepOverflow result p s q by before after = IfErr result (λ stop. IfOverflow stop (StepRefused p before.waypoints s q by after.waypoints))
