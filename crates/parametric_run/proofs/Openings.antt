-- What the opening path comes to, in the words of runs.
use Rattle.std.proofs.Common.{◌≡◌, ℕ, ◌≤◌, List, [], length, refl, subst}
use Rattle.exact_values.specs.Rational.{ℚ}
use Rattle.lp_definitions.specs.LinearProgram.{Matrix, LinearProgram}
use Rattle.lp_definitions.specs.Basis.{Basics}
use Rattle.lp_definitions.specs.declared.Status.{Status}
use Rattle.lp_model.specs.declared.reports.Outcome.{Outcome}
use Rattle.lp_model.specs.declared.reports.Outcome.TheVariants.{Optimal, Crossed, Infeasible, Unbounded}
use Rattle.simplex_definitions.specs.Path.{PathEnding, EndsOptimal, EndsCrossed, EndsInfeasible, EndsUnbounded, IsPath, last_of}
use Rattle.simplex_definitions.specs.Chain.{FaceTurn, IsFailure, InOpening}
use Rattle.bounded_primal.specs.Calls.{PathGoesOn, outcome_of}
use Rattle.parametric_run.specs.Calls.{StandsThere, RunGoesOn}
use Rattle.parametric_run.proofs.Walks.{opening_reaches}

-- a path whose outcome isn't optimal fails to open a run
abbrev pub IsFailed : Outcome → Type 0
IsFailed (Optimal steps point prices) = ⊥
IsFailed (Crossed k) = Unit {0}
IsFailed (Infeasible steps ray) = Unit {0}
IsFailed (Unbounded steps point direction) = Unit {0}

pub failed_by : (outcome : Outcome) → ((steps : ℕ) (point prices : List ℚ) → outcome ≡ Optimal steps point prices → ⊥) → IsFailed outcome
failed_by (Optimal steps point prices) other = other steps point prices refl
failed_by (Crossed k) other = tt
failed_by (Infeasible steps ray) other = tt
failed_by (Unbounded steps point direction) other = tt

pub failure_by : (steps : ℕ) (ending : PathEnding) (outcome : Outcome) → outcome ≡ outcome_of steps ending → IsFailed outcome → IsFailure ending
failure_by steps (EndsOptimal z y) outcome e failed = subst IsFailed e failed
failure_by steps (EndsCrossed k) outcome e failed = tt
failure_by steps (EndsInfeasible w) outcome e failed = tt
failure_by steps (EndsUnbounded z d) outcome e failed = tt

-- a path that stops stands in the opening
module _ (family : ℚ → LinearProgram) (Face : ℚ → List Status → FaceTurn → Type 0) (from max : ℚ) (a : Matrix) (s : List Status) (before : List Basics)
    (now : List Status) (limit : ℕ) where
  pub opening_goes_on : PathGoesOn (family from) s now limit → RunGoesOn family Face from max s now limit
  opening_goes_on h = record {
    goes_on = record {
      place = InOpening (last_of s h.goes_on.bases);
      path = h.goes_on.bases;
      ends = [];
      reaches = opening_reaches family Face from max a s before h.goes_on.bases h.goes_on.is_path;
      taken = h.goes_on.taken;
      goes_on = (h.goes_on.next, h.goes_on.is_step);
    };
    is_now = h.reaches;
  }

  abbrev pub opening_stands : (bases : List (List Status)) → IsPath (family from) s bases → last_of s bases ≡ now → length bases ≤ limit →
      StandsThere family Face from max s now limit
  opening_stands bases is_path reaches within = record {
    place = InOpening (last_of s bases);
    path = bases;
    ends = [];
    reaches = opening_reaches family Face from max a s before bases is_path;
    is_now = reaches;
    within = within;
  }
