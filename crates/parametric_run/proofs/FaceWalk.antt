-- From face step to face step.
use Rattle.std.proofs.Common.{◌≡◌, ℕ, ◌+◌, ◌-◌, ◌≤◌, List, [], ◌∷◌, ◌++◌, length, refl, sym, subst, arith}
use Rattle.std.specs.Prelude.{Some}
use Rattle.std.proofs.lemmas.List.{length-append}
use Rattle.exact_values.specs.Rational.{ℚ}
use Rattle.lp_definitions.specs.Basis.{Basics, basics_of}
use Rattle.lp_definitions.specs.Waypoints.{KeepsWaypoints}
use Rattle.lp_definitions.specs.declared.Status.{Status}
use Rattle.lp_model.specs.RatesCalls.{IfOverflow}
use Rattle.lp_model.specs.declared.Stop.{Stop}
use Rattle.lp_model.specs.declared.Stop.TheVariants as stop
use Rattle.simplex_definitions.specs.Path.{Move, after}
use Rattle.simplex_definitions.specs.Chain.{FaceMoves, IsFaceStep, AtBreakpoint}
use Rattle.bounded_primal.specs.Moves.{StepRefused}
use Rattle.bounded_primal.specs.Stops.{primal_stop_of}
use Rattle.bounded_primal.specs.declared.moves.PrimalStop.{PrimalStop}
use Rattle.bounded_primal.specs.declared.moves.BlockingVariable.{BlockingVariable}
use Rattle.parametric_laws.proofs.Runs.{last_of-append}
use Rattle.parametric_run.specs.Faces.{FaceMovesOn, FacesReach, AnyRun, FacesStop, FacesFollow}
use Rattle.parametric_run.specs.Programs.{ParametricProgram}
use Rattle.parametric_run.specs.Standing.{RefusedAt}
use Rattle.parametric_run.specs.Walks.{HasRun, FaceStops}
use Rattle.parametric_run.specs.declared.workspace.Workspace.{Workspace}
use Rattle.parametric_run.proofs.Walks.{face_path_more, run_later, run_more, run_stops, follows}

-- ---- stops of calls at a breakpoint

module _ (m : ParametricProgram) (theta : ℚ) (s : List Status) (left : ℕ) (ways now : List Basics) where
  pub refused_stops : (why : Stop) → IfOverflow why (RefusedAt m s ways now) → (from : ℚ) →
      FaceStops m.family m.face (m.statement from) m.program.matrix theta s left ways now (primal_stop_of why)
  refused_stops (stop.Overflow e) r from = r from (Some theta) left
  refused_stops stop.NoMemory r from = tt

  pub step_stops : (w : Workspace) (q : ℕ) (by : BlockingVariable) → FaceMovesOn m theta s w q by left → (why : Stop) →
      IfOverflow why (StepRefused m.program ways s q by now) →
      (from : ℚ) → FaceStops m.family m.face (m.statement from) m.program.matrix theta s left ways now (primal_stop_of why)
  step_stops w q by h (stop.Overflow e) r from = h.refused from ways now e r
  step_stops w q by h stop.NoMemory r from = tt

-- ---- the face steps so far

module _ (m : ParametricProgram) (theta : ℚ) (s : List Status) (begun : ℕ) where
  pub faces_more : (now next : List Status) (left : ℕ) (move : Move) → FacesReach m theta s now begun left → m.face theta now (FaceMoves move) → 1 ≤ left →
      next ≡ after now move →
      FacesReach m theta s next begun (left - 1)
  faces_more now next left move reach moves is_left is = record {
    bases = reach.bases ++ next ∷ [];
    path =
        face_path_more m.family m.face theta s reach.bases next reach.path
        (subst (λ (x : List Status). IsFaceStep m.family m.face theta x next) (sym reach.reaches) (move, moves, is));
    reaches = last_of-append s reach.bases (next ∷ []);
    taken =
        let counted = reach.taken in let longer : length (reach.bases ++ next ∷ []) ≡ length reach.bases + 1 = length-append reach.bases (next ∷ []) in omega
        (arith, counted, longer, is_left);
  }

  module _ (ways : List Basics) (now : List Status) (more : List Basics) (left : ℕ) (any : AnyRun m theta s now ways more begun left) where
    pub any_later : (last : List Basics) → KeepsWaypoints m.program.matrix (basics_of now) more (basics_of now) last → AnyRun m theta s now ways last begun left
    any_later last keeps from max start before ends steps later counted h =
        run_later m.family m.face from max m.program.matrix start before (AtBreakpoint theta now) ends now more later
        (any from max start before ends steps later counted h) refl last keeps

    pub any_more : (next : List Status) (last : List Basics) (move : Move) → FacesReach m theta s now begun left → m.face theta now (FaceMoves move) →
        1 ≤ left → next ≡ after now move →
        KeepsWaypoints m.program.matrix (basics_of now) more (basics_of next) last → AnyRun m theta s next ways last begun (left - 1)
    any_more next last move reach moves is_left is keeps from max start before ends steps later counted h =
        let taken = reach.taken in
        subst (λ (n : ℕ). HasRun m.family m.face from max m.program.matrix start before (AtBreakpoint theta next) ends last n)
        (omega (arith, taken, counted, is_left))
        (run_more m.family m.face from max m.program.matrix start before theta ends now more (later - 1)
        (any from max start before ends steps (later - 1) (omega (arith, taken, counted, is_left)) h) next last
        (move, moves, is) keeps)

    module _ (reach : FacesReach m theta s now begun left) where
      pub any_stops : (last : List Basics) (stop : PrimalStop) →
          ((from : ℚ) → FaceStops m.family m.face (m.statement from) m.program.matrix theta now left more last stop) →
          FacesStop m theta s now begun ways last stop
      any_stops last stop stops span start before ends steps counted h =
          let taken = reach.taken in
          run_stops m.family m.face span.from span.to m.program.matrix start before theta ends now more (steps + begun - left)
          (any span.from span.to start before ends steps (steps + begun - left) (omega (arith, taken)) h) (m.statement span.from) span.limit last stop
          (omega (arith, taken, counted))
          (subst (λ (n : ℕ). FaceStops m.family m.face (m.statement span.from) m.program.matrix theta now n more last stop) (omega (arith, taken, counted))
          (stops span.from))

      pub any_follows : FacesFollow m theta s now begun ways more
      any_follows span start before ends steps counted h =
          let taken = reach.taken in
          follows m.family m.face span.from span.to m.program.matrix start before (AtBreakpoint theta now) ends now more (steps + begun - left)
          (any span.from span.to start before ends steps (steps + begun - left) (omega (arith, taken)) h) refl span.limit (omega (arith, taken, counted))
