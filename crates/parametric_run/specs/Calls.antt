-- What a call that makes a parametric run promises, over a family of linear programs, one for each value of the parameter.
--     part_of, end_of              an interval and an end, as code holds them, in the words of runs
--     IsReported s report bases    the report that a call gives of the run from s, which has gone over these bases
--     RunEnds                      the run from s has ended at now within the limit, with this report
--     StandsThere                  the run from s stands at now, ended or not
--     RunGoesOn                    the run from s stands at now after as many steps as the limit, and there is one more
--     WaypointsFollowRun           where the waypoints lie after a call
--     RunOverflows                 the evidence of a call that stops by an overflow at a basis
--     RunStops                     what holds after a call that has stopped
use Rattle.std.specs.Prelude.{◌≡◌, ℕ, ◌-◌, ◌≤◌, List, [], ◌∷◌, ◌++◌, map, length}
use Rattle.exact_values.specs.Rational.{ℚ}
use Rattle.lp_definitions.specs.LinearProgram.{Matrix, LinearProgram}
use Rattle.lp_definitions.specs.Basis.{Basics, basics_of}
use Rattle.lp_definitions.specs.Waypoints.{waypoint}
use Rattle.lp_definitions.specs.declared.Evidence.{Evidence}
use Rattle.lp_definitions.specs.declared.Status.{Status}
use Rattle.lp_model.specs.declared.reports.Outcome.{Outcome}
use Rattle.lp_model.specs.declared.reports.ParaEnd.{ParaEnd}
use Rattle.lp_model.specs.declared.reports.ParaEnd.TheVariants as ends
use Rattle.lp_model.specs.declared.reports.ParaPart.{ParaPart}
use Rattle.lp_model.specs.declared.reports.ParaReport.{ParaReport}
use Rattle.lp_model.specs.declared.reports.ParaReport.TheVariants.{Opening, Run}
use Rattle.simplex_definitions.specs.Counts.{counted_steps}
use Rattle.simplex_definitions.specs.Path.{PathEnding, last_of}
use Rattle.simplex_definitions.specs.Chain.{Part, ChainEnd, AtMax, UnboundedPast, InfeasiblePast, FaceTurn, IsRun, IsFailedOpening, RunPlace, breakpoint_of}
use Rattle.simplex_definitions.specs.Chain.{basis_of, Reaches, RunGoesOnFor}
use Rattle.simplex_definitions.specs.Statements.{SolvingStatement}
use Rattle.simplex_definitions.specs.Evidence.{EvidenceHolds}
use Rattle.basis_values.specs.Calls.{LieIn}
use Rattle.bounded_primal.specs.Calls.{outcome_of}
use Rattle.bounded_primal.specs.declared.moves.PrimalStop.{PrimalStop}
use Rattle.bounded_primal.specs.declared.moves.PrimalStop.TheVariants.{Limit, Overflow, NoMemory}

abbrev pub part_of : ParaPart → Part
part_of part = record {
  from = part.from;
  to = part.to;
  statuses = part.statuses;
  value = part.value;
  value_rate = part.value_rate;
  price = part.price;
  price_rate = part.price_rate;
}

abbrev pub end_of : ParaEnd → ChainEnd
end_of ends.AtMax = AtMax
end_of (ends.Unbounded past point direction) = UnboundedPast past point direction
end_of (ends.Infeasible past ray) = InfeasiblePast past ray

module _ (family : ℚ → LinearProgram) (Face : ℚ → List Status → FaceTurn → Type 0) (from max : ℚ) (s : List Status) where
  -- the opening path ends otherwise than optimal, and the outcome shows its end and the count of its steps
  pub record IsOpeningReported (outcome : Outcome) (bases : List (List Status)) : Type 0 where
    pub ending : PathEnding
    pub opens : IsFailedOpening family Face from s ending bases
    pub is_outcome : outcome ≡ outcome_of (counted_steps (length bases)) ending

  abbrev pub IsReported : ParaReport → List (List Status) → Type 0
  IsReported (Opening outcome) bases = IsOpeningReported outcome bases
  IsReported (Run run) bases = IsRun family Face from max s (map part_of run.parts) (end_of run.end) bases

  module _ (now : List Status) (limit : ℕ) where
    -- the steps of the opening path and of all breakpoints count together; for every list of bases that ends with s, in which the waypoints
    -- lay before, they lie after in that list followed by this run
    pub record RunEnds (a : Matrix) (before after : List Basics) (report : ParaReport) : Type 0 where
      pub bases : List (List Status)
      pub is_report : IsReported report bases
      pub reaches : last_of s bases ≡ now
      pub within : length bases ≤ limit
      pub lie : (earlier : List (List Status)) → LieIn a before (earlier ++ s ∷ []) → LieIn a after (earlier ++ s ∷ bases)

    pub record StandsThere : Type 0 where
      pub place : RunPlace
      pub path : List (List Status)
      pub ends : List ℚ
      pub reaches : Reaches family Face from max s place path ends
      pub is_now : basis_of place ≡ now
      pub within : length path ≤ limit

    pub record RunGoesOn : Type 0 where
      pub goes_on : RunGoesOnFor family Face from max s limit
      pub is_now : basis_of goes_on.place ≡ now

    -- the same of a run that has stopped at now, or ended there
    pub record WaypointsFollowRun (a : Matrix) (before after : List Basics) : Type 0 where
      pub place : RunPlace
      pub path : List (List Status)
      pub ends : List ℚ
      pub reaches : Reaches family Face from max s place path ends
      pub is_now : basis_of place ≡ now
      pub lie : (earlier : List (List Status)) → LieIn a before (earlier ++ s ∷ []) → LieIn a after (earlier ++ s ∷ path)

    -- the evidence holds on each such list followed by this run
    pub record RunOverflows (statement : SolvingStatement) (a : Matrix) (before after : List Basics) (e : Evidence) : Type 0 where
      pub stands : StandsThere
      pub is_way : e.way ≤ length after
      pub shows : (earlier : List (List Status)) → LieIn a before (earlier ++ s ∷ []) →
          EvidenceHolds statement (breakpoint_of stands.place) (limit - length stands.path) (earlier ++ s ∷ stands.path)
          stands.ends now (waypoint (basics_of now) after e.way) e

    -- Overflows is what the call says of an overflow
    abbrev pub RunStops : (Evidence → Type 0) → PrimalStop → Type 0
    RunStops Overflows Limit = RunGoesOn
    RunStops Overflows (Overflow e) = Overflows e
    RunStops Overflows NoMemory = StandsThere
