-- What holds after a solving call stopped.
use Rattle.std.specs.Prelude.{◌≡◌, ℕ, ◌≤◌, List, length}
use Rattle.lp_definitions.specs.LinearProgram.{LinearProgram}
use Rattle.lp_definitions.specs.Basis.{Basics}
use Rattle.lp_definitions.specs.declared.Status.{Status}
use Rattle.lp_model.specs.RatesState.{RatesState}
use Rattle.lp_model.specs.declared.Stop.{Stop}
use Rattle.lp_model.specs.declared.Stop.TheVariants as stop
use Rattle.simplex_definitions.specs.Path.{IsPath, last_of}
use Rattle.termination_laws.specs.Laws.{lists_of}
use Rattle.bounded_primal.specs.Calls.{PathGoesOn, StopsOnPath}
use Rattle.bounded_primal.specs.declared.moves.PrimalStop.{PrimalStop}
use Rattle.bounded_primal.specs.declared.moves.PrimalStop.TheVariants.{Limit, Overflow, NoMemory}

-- a stop of one call as that of the path
abbrev pub primal_stop_of : Stop → PrimalStop
primal_stop_of (stop.Overflow e) = Overflow e
primal_stop_of stop.NoMemory = NoMemory

-- the bases after s, of which the last is now
abbrev pub PathFrom : LinearProgram → List Status → List Status → List (List Status) → Type 0
PathFrom p s now bases = IsPath p s bases × (last_of s bases ≡ now)

-- of the waypoints before and after the call
abbrev pub PrimalStopsAlong : LinearProgram → List Status → List Status → ℕ → List Basics → List Basics → PrimalStop → Type 0
PrimalStopsAlong p s now limit before after Limit = PathGoesOn p s now limit
PrimalStopsAlong p s now limit before after (Overflow e) = StopsOnPath p s now limit before after e
PrimalStopsAlong p s now limit before after NoMemory = (bases : List (List Status)) × PathFrom p s now bases × (length bases ≤ limit)

-- of how the rates stand before and after the call
abbrev pub PrimalStops : LinearProgram → List Status → List Status → ℕ → RatesState → RatesState → PrimalStop → Type 0
PrimalStops p s now limit before after = PrimalStopsAlong p s now limit before.waypoints after.waypoints

-- what stops a path without a limit: the path has fewer steps than there are status lists, so as many would never be reached
abbrev pub FreeStops : LinearProgram → List Status → List Status → RatesState → RatesState → Stop → Type 0
FreeStops p s now before after stop = PrimalStops p s now (lists_of p) before after (primal_stop_of stop)
