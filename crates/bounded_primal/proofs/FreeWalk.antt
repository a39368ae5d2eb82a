-- A path without a limit: it has fewer steps than there are status lists, so the limit of as many is never reached.
use Rattle.std.proofs.Common.{◌≡◌, ℕ, ◌+◌, ◌-◌, ◌<◌, ◌≤◌, List, subst, arith}
use Rattle.std.specs.Prelude.{min, Option, None, Some, Result, Ok, Err, IfErr, IsErrOf}
use Rattle.lp_definitions.specs.LinearProgram.{LinearProgram, Matrix, IsLinearProgram}
use Rattle.lp_definitions.specs.Basis.{Basics}
use Rattle.lp_definitions.specs.declared.Status.{Status}
use Rattle.lp_model.specs.declared.Stop.{Stop}
use Rattle.lp_model.specs.declared.Stop.TheVariants as stop
use Rattle.simplex_laws.specs.Laws.{IsNonsingularBasis}
use Rattle.termination_laws.specs.Laws.{lists_of}
use Rattle.termination_laws.proofs.Ending.{apart, short, limited}
use Rattle.lp_definitions.specs.declared.Evidence.{Evidence}
use Rattle.lp_model.specs.declared.reports.Outcome.{Outcome}
use Rattle.simplex_definitions.specs.Counts.{counted_steps}
use Rattle.simplex_definitions.specs.Statements.{SolvingStatement}
use Rattle.simplex_definitions.specs.Evidence.{IsAhead}
use Rattle.basis_values.specs.Calls.{HasRates, job_of}
use Rattle.bounded_primal.specs.Calls.{CallEnds, NeverReturned, RuleWaypointsFollow}
use Rattle.bounded_primal.specs.Stops.{primal_stop_of, PrimalStopsAlong}
use Rattle.bounded_primal.specs.Turns.{EndsHere, EvidenceAt, TurnStops}
use Rattle.bounded_primal.specs.declared.moves.PrimalStop.{PrimalStop}
use Rattle.bounded_primal.specs.declared.moves.PrimalStop.TheVariants.{Limit, Overflow, NoMemory}
use Rattle.simplex_definitions.specs.Path.{turn}
use Rattle.bounded_primal.proofs.PathWalk.{HasReached, ends_there, stops_there}

module _ (p : LinearProgram) (lawful : IsLinearProgram p) (a : Matrix) (b : Basics) (s : List Status) (has : HasRates a b p s) where
  begun : IsNonsingularBasis p s
  begun = record { is_basis = has.is_basis; nonsingular = has.nonsingular }

  -- so far there are fewer steps than status lists
  pub reached_short : (before : List Basics) (now : List Status) (ways : List Basics) (steps : ℕ) → HasReached turn p s before now ways steps →
      steps < lists_of p
  reached_short before now ways steps h = subst (λ n. n < lists_of p) h.taken (short p lawful s h.bases begun h.path.0)

  -- no basis comes twice on the path of a call
  pub never_returned : (now : List Status) (before after : List Basics) → RuleWaypointsFollow turn p s now before after → NeverReturned p s now
  never_returned now before after h = record { bases = h.bases; is_path = h.is_path; reaches = h.reaches; apart = apart p lawful s h.bases begun h.is_path }

  -- a path that goes on after as many steps as the limit allows
  pub limit_below : {T : Type 0} (now : List Status) (limit : ℕ) (before after : List Basics) (result : Result T PrimalStop) →
      IfErr result (PrimalStopsAlong p s now limit before after) → IsErrOf result Limit → limit < lists_of p
  limit_below now limit before after (Ok value) h is = cc
  limit_below now limit before after (Err Limit) h is = let few = limited p lawful s limit begun h.goes_on in omega (arith, few)
  limit_below now limit before after (Err (Overflow e)) h is = cc
  limit_below now limit before after (Err NoMemory) h is = cc

-- evidence where one step is left holds where more are
module _ (p : LinearProgram) (s : List Status) (before after : List Basics) where
  later_ahead : (statement : SolvingStatement) (left : ℕ) → 1 ≤ left → (ahead : Option (List Status)) → IsAhead statement None 1 s ahead →
      IsAhead statement None left s ahead
  later_ahead statement left some None h = tt
  later_ahead statement left some (Some next) h = (some, h.1)

  pub evidence_later : (left : ℕ) (e : Evidence) → 1 ≤ left → EvidenceAt p s 1 before after e → EvidenceAt p s left before after e
  evidence_later left e some h = record {
    is_way = h.is_way;
    shows = λ earlier lie. let holds = h.shows earlier lie in record {
      before = holds.before;
      reached = holds.reached;
      ahead = holds.ahead;
      is_ahead = later_ahead (job_of p p.change) left some holds.ahead holds.is_ahead;
      shows = holds.shows;
      is_theta = holds.is_theta;
      of_move = holds.of_move;
      of_statement = holds.of_statement;
    };
  }

  pub stops_free : (left : ℕ) (why : Stop) → 1 ≤ left → TurnStops p s 1 before after (primal_stop_of why) → TurnStops p s left before after (primal_stop_of why)
  stops_free left (stop.Overflow e) some h = evidence_later left e some h
  stops_free left stop.NoMemory some h = tt

-- what a path without a limit has reached, and where it ends or stops
module _ (p : LinearProgram) (lawful : IsLinearProgram p) (a : Matrix) (b : Basics) (s : List Status) (has : HasRates a b p s) (before : List Basics)
    (now : List Status) (ways : List Basics) (steps : ℕ) (h : HasReached turn p s before now ways steps) where
  fewer : steps < lists_of p
  fewer = reached_short p lawful a b s has before now ways steps h

  pub free_stops : (more : List Basics) (why : Stop) → TurnStops p now 1 ways more (primal_stop_of why) →
      PrimalStopsAlong p s now (lists_of p) before more (primal_stop_of why)
  free_stops more why stops =
      let few = fewer in
      stops_there p s before now ways steps h (lists_of p) more (primal_stop_of why) (omega (arith, few))
      (stops_free p now ways more (lists_of p - steps) why (omega (arith, few)) stops)

  pub free_ends : (reported : ℕ) (outcome : Outcome) → reported ≡ counted_steps steps → EndsHere p now reported outcome → CallEnds p s now (lists_of p) outcome
  free_ends reported outcome is_reported ends =
      let few = fewer in ends_there turn p s before now ways steps h (lists_of p) reported outcome (omega (arith, few)) is_reported ends

-- the count of steps stands still
pub counted_more : (reported steps : ℕ) → reported ≡ counted_steps steps → min (reported + 1) 4294967295 ≡ counted_steps (steps + 1)
counted_more reported steps e = omega (arith, e)

-- a step more leaves one less
pub one_less : (lists steps more : ℕ) → more ≡ steps + 1 → steps + 1 < lists → lists - more < lists - steps
one_less lists steps more e few = omega (arith, e, few)
