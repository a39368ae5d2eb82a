-- What is done at a breakpoint of a run, as code does it. Counts are those of the steps that are left.
--     FaceFound result             what a face turn finds: nothing is left, an end, or a move; or the call stops
--     FacesReach                   face steps lead from s to now, and there are as many as the count of those left has fallen by
--     AnyRun                       each run that stood at s stands at now
--     FacesFound result            what the face steps at a breakpoint come to
--     FacesFollow                  where the waypoints lie then
use Rattle.std.specs.Prelude.{◌≡◌, ℕ, ◌+◌, ◌≤◌, List, length, Some, Result, Ok, Err}
use Rattle.exact_values.specs.Rational.{ℚ}
use Rattle.lp_definitions.specs.Basis.{Basics, IsOptimalBasis}
use Rattle.lp_definitions.specs.declared.Evidence.{Evidence}
use Rattle.lp_definitions.specs.declared.Status.{Status}
use Rattle.lp_model.specs.RatesState.{RatesState}
use Rattle.lp_model.specs.declared.reports.ParaEnd.{ParaEnd}
use Rattle.simplex_definitions.specs.Path.{after, last_of}
use Rattle.simplex_definitions.specs.Chain.{FaceMoves, FaceDone, FaceEnds, IsFacePath, AtBreakpoint}
use Rattle.bounded_primal.specs.Calls.{EvidenceHere}
use Rattle.bounded_primal.specs.Moves.{StepRefused, move_by}
use Rattle.bounded_primal.specs.declared.moves.PrimalStop.{PrimalStop}
use Rattle.bounded_primal.specs.declared.moves.BlockingVariable.{BlockingVariable}
use Rattle.parametric_run.specs.Calls.{end_of, WaypointsFollowRun, RunOverflows, RunStops}
use Rattle.parametric_run.specs.Programs.{ParametricProgram}
use Rattle.parametric_run.specs.Standing.{IsWorkspaceOf, IsReady}
use Rattle.parametric_run.specs.Walks.{HasRun, FaceStops}
use Rattle.parametric_run.specs.declared.method.AfterFaces.{AfterFaces}
use Rattle.parametric_run.specs.declared.method.AfterFaces.TheVariants as faces
use Rattle.parametric_run.specs.declared.method.FaceStep.{FaceStep}
use Rattle.parametric_run.specs.declared.method.FaceStep.TheVariants as turn
use Rattle.parametric_run.specs.declared.method.Span.{Span}
use Rattle.parametric_run.specs.declared.workspace.Workspace.{Workspace}

module _ (m : ParametricProgram) where
  -- it moves q by what stops it to a basis that is optimal at the breakpoint too, and a step is left; what the step refuses is evidence
  pub record FaceMovesOn (theta : ℚ) (s : List Status) (w : Workspace) (q : ℕ) (by : BlockingVariable) (left : ℕ) : Type 0 where
    pub moves : m.face theta s (FaceMoves (move_by q by))
    pub keeps : IsOptimalBasis (m.family theta) (after s (move_by q by))
    pub ready : IsReady m.program s w q by
    pub is_left : 1 ≤ left
    pub refused : (from : ℚ) (before now : List Basics) (e : Evidence) → StepRefused m.program before s q by now e →
        EvidenceHere (m.statement from) m.program.matrix (Some theta) left s before now e

  abbrev pub FaceFound : Result FaceStep PrimalStop → ℚ → List Status → ℕ → Workspace → RatesState → RatesState → Type 0
  FaceFound (Ok turn.Done) theta s left w before now = m.face theta s FaceDone
  FaceFound (Ok (turn.Ends end)) theta s left w before now = m.face theta s (FaceEnds (end_of end))
  FaceFound (Ok (turn.Moves q by)) theta s left w before now = FaceMovesOn theta s w q by left
  FaceFound (Err stop) theta s left w before now =
      (from : ℚ) → FaceStops m.family m.face (m.statement from) m.program.matrix theta s left before.waypoints now.waypoints stop

  pub record FacesReach (theta : ℚ) (s now : List Status) (begun left : ℕ) : Type 0 where
    pub bases : List (List Status)
    pub path : IsFacePath m.family m.face theta s bases
    pub reaches : last_of s bases ≡ now
    pub taken : length bases + left ≡ begun

  abbrev pub AnyRun : ℚ → List Status → List Status → List Basics → List Basics → ℕ → ℕ → Type 0
  AnyRun theta s now ways more begun left =
      (from max : ℚ) (start : List Status) (before : List Basics) (ends : List ℚ) (steps later : ℕ) → later + left ≡ steps + begun →
      HasRun m.family m.face from max m.program.matrix start before (AtBreakpoint theta s) ends ways steps →
      HasRun m.family m.face from max m.program.matrix start before (AtBreakpoint theta now) ends more later

  -- no face step is left at now, which is optimal at the breakpoint
  pub record FacesDone (theta : ℚ) (s now : List Status) (begun left : ℕ) (w : Workspace) (ways more : List Basics) : Type 0 where
    pub reach : FacesReach theta s now begun left
    pub done : m.face theta now FaceDone
    pub optimal : IsOptimalBasis (m.family theta) now
    pub workspace : IsWorkspaceOf m now w
    pub any : AnyRun theta s now ways more begun left

  -- the run ends at now, with so many steps left
  pub record FacesEnd (theta : ℚ) (s now : List Status) (begun : ℕ) (end : ParaEnd) (ways more : List Basics) : Type 0 where
    pub left : ℕ
    pub reach : FacesReach theta s now begun left
    pub ends : m.face theta now (FaceEnds (end_of end))
    pub any : AnyRun theta s now ways more begun left

  -- a stop of each run that stood at s, which has come to now
  abbrev pub FacesStop : ℚ → List Status → List Status → ℕ → List Basics → List Basics → PrimalStop → Type 0
  FacesStop theta s now begun ways more stop =
      (span : Span) (start : List Status) (before : List Basics) (ends : List ℚ) (steps : ℕ) → steps + begun ≡ span.limit →
      HasRun m.family m.face span.from span.to m.program.matrix start before (AtBreakpoint theta s) ends ways steps →
      RunStops m.family m.face span.from span.to start now span.limit
      (RunOverflows m.family m.face span.from span.to start now span.limit (m.statement span.from) m.program.matrix before more) stop

  abbrev pub FacesFound : Result AfterFaces PrimalStop → ℚ → List Status → List Status → ℕ → Workspace → RatesState → RatesState → Type 0
  FacesFound (Ok (faces.Done left)) theta s now begun w before after = FacesDone theta s now begun left w before.waypoints after.waypoints
  FacesFound (Ok (faces.Ends end)) theta s now begun w before after = FacesEnd theta s now begun end before.waypoints after.waypoints
  FacesFound (Err stop) theta s now begun w before after = FacesStop theta s now begun before.waypoints after.waypoints stop

  abbrev pub FacesFollow : ℚ → List Status → List Status → ℕ → List Basics → List Basics → Type 0
  FacesFollow theta s now begun ways more =
      (span : Span) (start : List Status) (before : List Basics) (ends : List ℚ) (steps : ℕ) → steps + begun ≡ span.limit →
      HasRun m.family m.face span.from span.to m.program.matrix start before (AtBreakpoint theta s) ends ways steps →
      WaypointsFollowRun m.family m.face span.from span.to start now span.limit m.program.matrix before more
