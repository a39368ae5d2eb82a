-- What a call finds of one turn of the dual path.
--     DualMovesOn                  it moves q by what brings a basic back, and a step is left
--     DualTurnStops                the evidence of a turn at s, whatever path led there
--     DualTurnFound result         the path ends at s, or moves a variable, or the call stops
use Rattle.std.specs.Prelude.{◌≡◌, ◌≢◌, ℕ, ◌≤◌, List, None, Result, Ok, Err}
use Rattle.exact_values.specs.Rational.{zero_ℚ}
use Rattle.lp_definitions.specs.LinearProgram.{LinearProgram, Vector}
use Rattle.lp_definitions.specs.Basis.{Basics, basics_of, IsBasic, IsNonbasic, IsDirectionOf}
use Rattle.lp_definitions.specs.declared.Status.{Status}
use Rattle.lp_definitions.specs.declared.Status.TheVariants.{Bs}
use Rattle.lp_model.specs.RatesState.{RatesState}
use Rattle.lp_model.specs.RatesCalls.{IsRowOf}
use Rattle.simplex_definitions.specs.DualPath.{dual_turn, IsDualStep}
use Rattle.simplex_definitions.specs.Statements.{Dual, RuleMoves}
use Rattle.bounded_primal.specs.Calls.{EvidenceHere}
use Rattle.bounded_primal.specs.Moves.{StepsFromPoint, move_by}
use Rattle.bounded_primal.specs.Turns.{RuleEndsHere}
use Rattle.bounded_primal.specs.declared.moves.BlockingVariable.{BlockingVariable}
use Rattle.bounded_primal.specs.declared.turns.Turn.{Turn}
use Rattle.bounded_primal.specs.declared.turns.Turn.TheVariants.{Ends, Moves}
use Rattle.bounded_primal.specs.declared.moves.PrimalStop.TheVariants.{Limit, Overflow, NoMemory}
use Rattle.bounded_dual.specs.declared.moves.DualStop.{DualStop}
use Rattle.bounded_dual.specs.declared.moves.DualStop.TheVariants.{NotDualFeasible, Path}

-- the basic that leaves has the rates xs, and q the direction d
pub record DualMovesOn (p : LinearProgram) (s : List Status) (d xs : Vector) (q : ℕ) (by : BlockingVariable) (left : ℕ) : Type 0 where
  pub moves : RuleMoves dual_turn p s (move_by q by)
  pub leaves : IsBasic p.matrix (basics_of s) by.p
  pub nonbasic : IsNonbasic p.matrix (basics_of s) q
  pub stands : by.to ≢ Bs
  pub row : IsRowOf p.matrix (basics_of s) by.p xs
  pub row_pivot : xs q ≢ zero_ℚ
  pub direction : IsDirectionOf p.matrix (basics_of s) q d
  pub pivot : d by.p ≢ zero_ℚ
  pub step : StepsFromPoint p s d q by
  pub was_left : 1 ≤ left

abbrev pub DualTurnStops : LinearProgram → List Status → ℕ → List Basics → List Basics → DualStop → Type 0
DualTurnStops p s left before after (NotDualFeasible j) = ⊥
DualTurnStops p s left before after (Path Limit) = (left ≡ 0) × ((next : List Status) × IsDualStep p s next)
DualTurnStops p s left before after (Path (Overflow e)) = EvidenceHere (Dual p) p.matrix None left s before after e
DualTurnStops p s left before after (Path NoMemory) = Unit {0}

-- after so many steps, where so many more are allowed
abbrev pub DualTurnFound : Result Turn DualStop → LinearProgram → List Status → ℕ → ℕ → Vector → Vector → RatesState → RatesState → Type 0
DualTurnFound (Ok (Ends outcome)) p s steps left d xs before after = RuleEndsHere dual_turn p s steps outcome
DualTurnFound (Ok (Moves q by)) p s steps left d xs before after = DualMovesOn p s d xs q by left
DualTurnFound (Err stop) p s steps left d xs before after = DualTurnStops p s left before.waypoints after.waypoints stop
