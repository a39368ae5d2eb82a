-- A run in the making, as the calls of its steps see it.
--     HasRun place ends ways steps     a run stands at the place after so many steps, and its waypoints lie in its bases
--     MayOpen theta now ways steps     such a run stands at the basis now, from which the next interval begins at theta
--     FaceStops                        what holds after a call at a breakpoint that has stopped
--     IntervalStops                    the same where an interval begins: no step is made there
use Rattle.std.specs.Prelude.{◌≡◌, ℕ, List, [], ◌∷◌, ◌++◌, length, Option, Some}
use Rattle.exact_values.specs.Rational.{ℚ, ◌<ℚ◌}
use Rattle.lp_definitions.specs.LinearProgram.{Matrix, LinearProgram}
use Rattle.lp_definitions.specs.Basis.{Basics}
use Rattle.lp_definitions.specs.declared.Status.{Status}
use Rattle.simplex_definitions.specs.Chain.{FaceTurn, ReachesTo, IsFaceStep, RunPlace, AtBreakpoint, basis_of, Reaches}
use Rattle.simplex_definitions.specs.Statements.{SolvingStatement}
use Rattle.basis_values.specs.Calls.{LieIn}
use Rattle.bounded_primal.specs.Calls.{EvidenceHere}
use Rattle.bounded_primal.specs.declared.moves.PrimalStop.{PrimalStop}
use Rattle.bounded_primal.specs.declared.moves.PrimalStop.TheVariants.{Limit, Overflow, NoMemory}

module _ (family : ℚ → LinearProgram) (Face : ℚ → List Status → FaceTurn → Type 0) (from max : ℚ) (a : Matrix)
    (s : List Status) (before : List Basics) where
  -- a run from s, with the waypoints before; for every list of bases that ends with s, in which these lay, those that are now lie in
  -- that list followed by this run
  pub record HasRun (place : RunPlace) (ends : List ℚ) (ways : List Basics) (steps : ℕ) : Type 0 where
    pub path : List (List Status)
    pub reaches : Reaches family Face from max s place path ends
    pub taken : length path ≡ steps
    pub lie : (earlier : List (List Status)) → LieIn a before (earlier ++ s ∷ []) → LieIn a ways (earlier ++ s ∷ path)

  -- where the basis stays optimal to a breakpoint before max, the run stands at that breakpoint
  pub record MayOpen (theta : ℚ) (now : List Status) (ways : List Basics) (steps : ℕ) : Type 0 where
    pub place : RunPlace
    pub ends : List ℚ
    pub run : HasRun place ends ways steps
    pub is_now : basis_of place ≡ now
    pub breaks : (to : ℚ) → ReachesTo family now theta max to → to <ℚ max →
        Reaches family Face from max s (AtBreakpoint to now) run.path (to ∷ ends)

-- with so many steps left; Limit comes where none is left and there is one more
abbrev pub FaceStops : (ℚ → LinearProgram) → (ℚ → List Status → FaceTurn → Type 0) → SolvingStatement → Matrix → ℚ → List Status →
    ℕ → List Basics → List Basics → PrimalStop → Type 0
FaceStops family Face statement a theta now left before after Limit =
    (left ≡ 0) × ((next : List Status) × IsFaceStep family Face theta now next)
FaceStops family Face statement a theta now left before after (Overflow e) =
    EvidenceHere statement a (Some theta) left now before after e
FaceStops family Face statement a theta now left before after NoMemory = Unit {0}

abbrev pub IntervalStops : SolvingStatement → Matrix → List Status → ℕ → List Basics → List Basics → PrimalStop → Type 0
IntervalStops statement a now left before after Limit = ⊥
IntervalStops statement a now left before after (Overflow e) =
    (breakpoint : Option ℚ) → EvidenceHere statement a breakpoint left now before after e
IntervalStops statement a now left before after NoMemory = Unit {0}
