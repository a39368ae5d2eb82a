-- What the calls of a turn give: where it ends or moves, and the evidence where it stops.
use Rattle.std.proofs.Common.{◌≡◌, ℕ, List, refl, arith}
use Rattle.std.specs.Prelude.{Some, None, Bool, true, false, not, ◌&&◌, Result, Ok, Err, if◌then◌else◌}
use Rattle.lp_definitions.specs.LinearProgram.{LinearProgram, Vector, size}
use Rattle.lp_definitions.specs.Basis.{Basics, basics_of, is_in, IsBasis, IsBasic, IsNonsingular, IsPointOf, ArePricesOf}
use Rattle.lp_definitions.specs.Waypoints.{KeepsWaypoints}
use Rattle.lp_definitions.specs.declared.Evidence.{Evidence}
use Rattle.lp_definitions.specs.declared.Status.{Status}
use Rattle.lp_definitions.specs.declared.Status.TheVariants.{Ll, Ul}
use Rattle.lp_model.specs.RatesCalls.{IsRowOf}
use Rattle.lp_model.specs.RatesState.{RatesState}
use Rattle.simplex_definitions.specs.Moves.{is_below, is_outside, entering}
use Rattle.simplex_definitions.specs.Path.{Move, after, IsStep}
use Rattle.simplex_laws.proofs.Numbered.{find_some}
use Rattle.simplex_definitions.specs.Statements.{PathMoves}
use Rattle.basis_values.specs.Motions.{motion}
use Rattle.bounded_primal.specs.Turns.{IsUncrossed, least_outside, entering_variable_by, ReturnStops, by_column, by_return, RunStops, by_direction}
use Rattle.bounded_primal.specs.Turns.{by_blocking_variable, EvidenceAt, TurnStops, TurnFound}
use Rattle.bounded_primal.specs.declared.moves.PrimalStop.{PrimalStop}
use Rattle.bounded_primal.specs.declared.moves.PrimalStop.TheVariants.{Limit, Overflow, NoMemory}
use Rattle.bounded_primal.specs.declared.turns.EnteringVariable.{EnteringVariable}
use Rattle.bounded_primal.specs.declared.turns.Turn.{Turn}
use Rattle.bounded_primal.specs.declared.turns.Turn.TheVariants.{Ends, Moves}
use Rattle.bounded_primal.proofs.Within.{lie_same}
use Rattle.bounded_primal.proofs.TurnEvidence.{of_point, of_return, of_blocking_variable}
use Rattle.bounded_primal.proofs.TurnChoices.{return_enters, return_move, restoring_basic, restoring_nonbasic, return_pivot, improve_enters, run_some}

-- a move of the path is a step
pub step_of : (p : LinearProgram) (s : List Status) (m : Move) → PathMoves p s m → (next : List Status) × IsStep p s next
step_of p s m h = (after s m, record { tableau = h.0; is_tableau = h.1; move = m; turns = h.2; is_next = refl })

-- ---- calls that come after others at the same basis

module _ (p : LinearProgram) (s : List Status) (before mid now : List Basics) (keeps : KeepsWaypoints p.matrix (basics_of s) before (basics_of s) mid) where
  pub stops_later : (left : ℕ) (stop : PrimalStop) → TurnStops p s left mid now stop → TurnStops p s left before now stop
  stops_later left Limit h = h
  stops_later left NoMemory h = h
  stops_later left (Overflow e) h = record { is_way = h.is_way; shows = λ earlier lie. h.shows earlier (lie_same p.matrix earlier s before mid keeps lie) }

pub found_later : (p : LinearProgram) (s : List Status) (before mid now : RatesState) →
    KeepsWaypoints p.matrix (basics_of s) before.waypoints (basics_of s) mid.waypoints →
    (result : Result Turn PrimalStop) (steps left : ℕ) (d : Vector) → TurnFound result p s steps left d mid now → TurnFound result p s steps left d before now
found_later p s before mid now keeps (Ok (Ends outcome)) steps left d h = h
found_later p s before mid now keeps (Ok (Moves q by)) steps left d h = h
found_later p s before mid now keeps (Err stop) steps left d h = stops_later p s before.waypoints mid.waypoints now.waypoints keeps left stop h

-- ---- evidence of a phase

module _ (p : LinearProgram) (s : List Status) (z : Vector) (basis : IsBasis p s) (nonsingular : IsNonsingular p.matrix (basics_of s)) (point : IsPointOf p s z)
    (uncrossed : IsUncrossed p) (left : ℕ) (before now : List Basics) (e : Evidence) where
  pub return_evidence : (r : ℕ) (xs : Vector) (row : IsRowOf p.matrix (basics_of s) r xs) (broken : least_outside p s z ≡ Some r) (q : ℕ)
      (found : Some q ≡ entering p s (motion xs (not (is_below p z r)))) →
      ReturnStops p s z q r (if is_below p z r then Ll else Ul) before now e → EvidenceAt p s left before now e
  return_evidence r xs row broken q found (by_column h) = of_point p s left before now e h
  return_evidence r xs row broken q found (by_return d direction h) =
      of_return p s left before now e z d q r (if is_below p z r then Ll else Ul) (record { enters = q; leaves = r; to = if is_below p z r then Ll else Ul })
      (return_enters p s z basis nonsingular point uncrossed r xs row broken q found)
      (return_move p s z basis nonsingular point uncrossed r xs row broken q found) point nonsingular
      (restoring_basic p s z basis nonsingular point uncrossed r xs row broken)
      (restoring_nonbasic p s z basis nonsingular point uncrossed r xs row broken q found) direction
      (return_pivot p s z basis nonsingular point uncrossed r xs row broken q found d direction) h

  pub run_evidence : (y : Vector) (prices : ArePricesOf p s y) (inside : least_outside p s z ≡ None) (m : EnteringVariable)
      (chosen : Some m ≡ entering_variable_by p s y) → RunStops p s z m.q m.up before now e → EvidenceAt p s left before now e
  run_evidence y prices inside m chosen (by_direction h) = of_point p s left before now e h
  run_evidence y prices inside m chosen (by_blocking_variable d direction h) =
      of_blocking_variable p s left before now e z d m.q m.up (improve_enters p s z basis nonsingular point uncrossed y prices inside m chosen)
      (run_some p s z basis nonsingular point uncrossed y prices inside m chosen d direction) h

-- what is outside its limits is basic
pub outside_basic : (p : LinearProgram) (s : List Status) (z : Vector) (r : ℕ) → least_outside p s z ≡ Some r → IsBasic p.matrix (basics_of s) r
outside_basic p s z r e =
    let f = find_some (λ k. is_in (basics_of s) k && is_outside p z k) (size p.matrix) 1 r e in
    ((f.low, omega (arith, f.high)), first (is_in (basics_of s) r) (is_outside p z r) f.passes)
  where
    first : (a b : Bool) → (a && b) ≡ true → a ≡ true
    first true b h = refl
    first false b h = cc
