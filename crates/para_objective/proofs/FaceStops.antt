-- What stops a face turn, and the whole run.
use Rattle.std.proofs.Common.{◌≡◌, ℕ, Bool, inl, inr, List}
use Rattle.std.specs.Prelude.{Some, None}
use Rattle.exact_values.specs.Rational.{ℚ}
use Rattle.lp_definitions.specs.LinearProgram.{LinearProgram, Vector}
use Rattle.lp_definitions.specs.Basis.{Basics}
use Rattle.lp_definitions.specs.declared.Evidence.{Evidence}
use Rattle.lp_definitions.specs.declared.Status.{Status}
use Rattle.lp_model.specs.RatesCalls.{IfOverflow}
use Rattle.lp_model.specs.declared.Stop.{Stop}
use Rattle.lp_model.specs.declared.Stop.TheVariants as stop
use Rattle.simplex_definitions.specs.Chain.{RunReport}
use Rattle.simplex_definitions.specs.ObjectiveRun.{objective_family, IsObjectiveFace}
use Rattle.simplex_definitions.specs.Statements.{Paraobj, EntersAt}
use Rattle.bounded_primal.specs.Stops.{primal_stop_of}
use Rattle.bounded_primal.specs.Turns.{RunStops as TurnStops, by_direction, by_blocking_variable}
use Rattle.bounded_primal.specs.declared.moves.PrimalStop.{PrimalStop}
use Rattle.bounded_primal.specs.declared.moves.PrimalStop.TheVariants.{Limit, Overflow, NoMemory}
use Rattle.parametric_run.specs.Calls.{RunOverflows, RunStops}
use Rattle.parametric_run.specs.Chains.{MethodStops, MethodOverflowFree, Overflows}
use Rattle.parametric_run.specs.Complete.{RunEndsOverflowFree}
use Rattle.parametric_run.specs.Walks.{FaceStops}
use Rattle.parametric_run.specs.declared.method.Span.{Span}
use Rattle.para_objective.specs.Method.{objective_problem}
use Rattle.para_objective.proofs.RunEvidence.{of_point, of_blocking_variable}

module _ (p : LinearProgram) (h : ℕ) (no_change : p.change ≡ None) (theta : ℚ) (s : List Status) (from : ℚ) (left : ℕ) (ways now : List Basics) where
  -- the direction of q, or what stops it
  pub turn_stops : (q : ℕ) → EntersAt (Paraobj p h from) (Some theta) s q → (z : Vector) (up : Bool) (why : Stop) →
      IfOverflow why (TurnStops p s z q up ways now) →
      FaceStops (objective_family p h) (IsObjectiveFace p h) (Paraobj p h from) p.matrix theta s left ways now (primal_stop_of why)
  turn_stops q enters z up (stop.Overflow e) (by_direction r) = of_point p h from no_change s left ways now e (Some theta) r
  turn_stops q enters z up (stop.Overflow e) (by_blocking_variable d direction r) = of_blocking_variable p h from no_change s left ways now e theta q enters z
      d up r
  turn_stops q enters z up stop.NoMemory r = tt

-- ---- the program at a value can always be made: an overflow comes with evidence at a basis

module _ (p : LinearProgram) (h : ℕ) (span : Span) (s : List Status) (before : List Basics) where
  abbrev IsOnRun : List Status → List Basics → Evidence → Type 0
  IsOnRun now after e =
      RunOverflows (objective_family p h) (IsObjectiveFace p h) span.from span.to s now span.limit (Paraobj p h span.from) p.matrix before after e

  at_basis : (now : List Status) (after : List Basics) (e : Evidence) → Overflows (objective_problem p h) span s now before after e → IsOnRun now after e
  at_basis now after e (inl on) = on
  at_basis now after e (inr none) = absurd none.1

  pub stops_at_basis : (now : List Status) (after : List Basics) (why : PrimalStop) → MethodStops (objective_problem p h) span s now before after why →
      RunStops (objective_family p h) (IsObjectiveFace p h) span.from span.to s now span.limit (λ e. IsOnRun now after e) why
  stops_at_basis now after Limit stops = stops
  stops_at_basis now after (Overflow e) stops = at_basis now after e stops
  stops_at_basis now after NoMemory stops = stops

  pub overflow_free : (report : RunReport) (path : List (List Status)) →
      RunEndsOverflowFree (objective_family p h) (IsObjectiveFace p h) span.from span.to s span.limit (λ now after e. IsOnRun now after e) report path →
      MethodOverflowFree (objective_problem p h) span s before report path
  overflow_free report path goes =
      record { ends = goes.ends; within = goes.within; no_evidence = λ now after e over. goes.no_evidence now after e (at_basis now after e over) }
