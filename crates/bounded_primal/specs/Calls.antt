-- What the calls that follow a path ask and give.
--     PathEnds, PathGoesOn         the path of a call, ended within the limit or still going on there
--     WaypointsFollow              where the waypoints lie after the path of a call
--     NeverReturned                the path of a call, on which no basis comes twice
--     StopsOnPath                  the path of a call up to an overflow, and its evidence
--     EvidenceHere                 evidence at a basis, whatever bases led there
use Rattle.std.specs.Prelude.{◌≡◌, ℕ, ◌-◌, ◌≤◌, List, [], ◌∷◌, ◌++◌, length, Option, None}
use Rattle.exact_values.specs.Rational.{ℚ}
use Rattle.lp_definitions.specs.LinearProgram.{Matrix, LinearProgram}
use Rattle.lp_definitions.specs.Basis.{Basics, basics_of}
use Rattle.lp_definitions.specs.Waypoints.{waypoint}
use Rattle.lp_definitions.specs.declared.Evidence.{Evidence}
use Rattle.lp_definitions.specs.declared.Status.{Status}
use Rattle.lp_model.specs.declared.reports.Outcome.{Outcome}
use Rattle.lp_model.specs.declared.reports.Outcome.TheVariants.{Optimal, Crossed, Infeasible, Unbounded}
use Rattle.simplex_definitions.specs.Path.{PathEnding, EndsOptimal, EndsCrossed, EndsInfeasible, EndsUnbounded, Rule, turn, RulePath, RulePathEnds, RuleGoesOn}
use Rattle.simplex_definitions.specs.Path.{last_of}
use Rattle.simplex_definitions.specs.Counts.{counted_steps}
use Rattle.simplex_definitions.specs.Statements.{SolvingStatement}
use Rattle.simplex_definitions.specs.Evidence.{EvidenceHolds}
use Rattle.lp_model.specs.RatesState.{RatesState}
use Rattle.basis_values.specs.Calls.{LieIn, job_of}
use Rattle.termination_laws.specs.Laws.{NeverReturns}

-- the outcome that a call gives for an ending after so many steps
abbrev pub outcome_of : ℕ → PathEnding → Outcome
outcome_of steps (EndsOptimal z y) = Optimal steps z y
outcome_of steps (EndsCrossed k) = Crossed k
outcome_of steps (EndsInfeasible w) = Infeasible steps w
outcome_of steps (EndsUnbounded z d) = Unbounded steps z d

-- the path from s to now has ended within the limit, and the outcome has the count of its steps
pub record RuleCallEnds (rule : Rule) (p : LinearProgram) (s now : List Status) (limit : ℕ) (outcome : Outcome) : Type 0 where
  pub bases : List (List Status)
  pub ending : PathEnding
  pub ends : RulePathEnds rule p s bases ending
  pub reaches : last_of s bases ≡ now
  pub within : length bases ≤ limit
  pub is_outcome : outcome ≡ outcome_of (counted_steps (length bases)) ending

-- after as many steps as the limit, there is one more
pub record RuleCallGoesOn (rule : Rule) (p : LinearProgram) (s now : List Status) (limit : ℕ) : Type 0 where
  pub goes_on : RuleGoesOn rule p s limit
  pub reaches : last_of s goes_on.bases ≡ now

-- the path from s to now; and for every list of bases that ends with s, in which the waypoints lay before, they lie after in that
-- list followed by this path
pub record RuleWaypointsFollow (rule : Rule) (p : LinearProgram) (s now : List Status) (before after : List Basics) : Type 0 where
  pub bases : List (List Status)
  pub is_path : RulePath rule p s bases
  pub reaches : last_of s bases ≡ now
  pub lie : (earlier : List (List Status)) → LieIn p.matrix before (earlier ++ s ∷ []) → LieIn p.matrix after (earlier ++ s ∷ bases)

-- the path from s to now, on which no basis comes twice
pub record RuleNeverReturned (rule : Rule) (p : LinearProgram) (s now : List Status) : Type 0 where
  pub bases : List (List Status)
  pub is_path : RulePath rule p s bases
  pub reaches : last_of s bases ≡ now
  pub apart : NeverReturns s bases

-- the path from s to now, within the limit; and for every list of bases that ends with s, in which the waypoints lay before the
-- call, the evidence holds on that list followed by this path
pub record RuleStopsOnPath (rule : Rule) (statement : SolvingStatement) (p : LinearProgram) (s now : List Status) (limit : ℕ) (before after : List Basics)
    (e : Evidence) : Type 0 where
  pub bases : List (List Status)
  pub is_path : RulePath rule p s bases
  pub reaches : last_of s bases ≡ now
  pub within : length bases ≤ limit
  pub is_way : e.way ≤ length after
  pub shows : (earlier : List (List Status)) → LieIn p.matrix before (earlier ++ s ∷ []) →
      EvidenceHolds statement None (limit - length bases) (earlier ++ s ∷ bases) [] now (waypoint (basics_of now) after e.way) e

-- for every list of bases that ends with now, and in which the waypoints lay before the call, the evidence holds on that list
pub record EvidenceHere (statement : SolvingStatement) (a : Matrix) (breakpoint : Option ℚ) (left : ℕ) (now : List Status)
    (before after : List Basics) (e : Evidence) : Type 0 where
  pub is_way : e.way ≤ length after
  pub shows : (ends : List ℚ) (earlier : List (List Status)) → LieIn a before (earlier ++ now ∷ []) →
      EvidenceHolds statement breakpoint left (earlier ++ now ∷ []) ends now (waypoint (basics_of now) after e.way) e

-- ---- those of the simplex method

abbrev pub CallEnds : LinearProgram → List Status → List Status → ℕ → Outcome → Type 0
CallEnds = RuleCallEnds turn

abbrev pub PathGoesOn : LinearProgram → List Status → List Status → ℕ → Type 0
PathGoesOn = RuleCallGoesOn turn

abbrev pub WaypointsFollow : LinearProgram → List Status → List Status → RatesState → RatesState → Type 0
WaypointsFollow p s now before after = RuleWaypointsFollow turn p s now before.waypoints after.waypoints

abbrev pub NeverReturned : LinearProgram → List Status → List Status → Type 0
NeverReturned = RuleNeverReturned turn

abbrev pub StopsOnPath : LinearProgram → List Status → List Status → ℕ → List Basics → List Basics → Evidence → Type 0
StopsOnPath p = RuleStopsOnPath turn (job_of p p.change) p
