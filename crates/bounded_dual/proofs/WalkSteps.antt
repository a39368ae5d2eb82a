-- What each exit of the dual walk gives, from what its calls gave.
use Rattle.std.proofs.Common.{◌≡◌, ℕ, ◌+◌, ◌-◌, ◌≤◌, List, [], Result, Ok, Err, sym, subst, arith}
use Rattle.std.specs.Prelude.{None, IfErr}
use Rattle.lp_definitions.specs.LinearProgram.{Matrix, LinearProgram, Vector, size, IsLinearProgram}
use Rattle.lp_definitions.specs.Basis.{Basics, basics_of, ArePricesOf}
use Rattle.lp_definitions.specs.Waypoints.{KeepsWaypoints}
use Rattle.lp_definitions.specs.declared.Status.{Status}
use Rattle.lp_model.specs.RatesCalls.{IfOverflow}
use Rattle.lp_model.specs.declared.Stop.{Stop}
use Rattle.lp_model.specs.declared.Stop.TheVariants as stop
use Rattle.lp_laws.proofs.WaypointLaws.{keeps_then}
use Rattle.simplex_definitions.specs.DualPath.{dual_turn, HasRightPrices}
use Rattle.simplex_definitions.specs.Path.{after}
use Rattle.simplex_definitions.specs.Statements.{Dual}
use Rattle.basis_values.specs.Calls.{HasRates, PointRefused}
use Rattle.lp_model.specs.declared.reports.Outcome.{Outcome}
use Rattle.bounded_primal.specs.Calls.{RuleWaypointsFollow}
use Rattle.bounded_primal.specs.Moves.{move_by, StepRefused}
use Rattle.bounded_primal.specs.declared.moves.BlockingVariable.{BlockingVariable}
use Rattle.bounded_primal.specs.declared.moves.PrimalStop.TheVariants.{Limit, Overflow, NoMemory}
use Rattle.bounded_primal.proofs.PathWalk.{HasReached, begins, goes_over, goes_on_there, overflows_there}
use Rattle.bounded_primal.proofs.TurnEvidence.{step_refused_later}
use Rattle.bounded_primal.proofs.Within.{lie_same}
use Rattle.dual_step.specs.Prices.{ArePricesOver}
use Rattle.dual_step.proofs.StepEvidence.{of_step}
use Rattle.dual_step.proofs.StepPrices.{prices_after}
use Rattle.bounded_dual.specs.Stops.{dual_stop_of, DualStopsAlong}
use Rattle.bounded_dual.specs.Turns.{DualMovesOn, DualTurnStops}
use Rattle.bounded_dual.specs.declared.moves.DualStop.{DualStop}
use Rattle.bounded_dual.specs.declared.moves.DualStop.TheVariants.{NotDualFeasible, Path}
use Rattle.bounded_dual.proofs.DualEvidence.{dual_own, point_stops}

module _ (p : LinearProgram) (s : List Status) (before : List Basics) (now : List Status) (ways : List Basics) (steps : ℕ)
    (h : HasReached dual_turn p s before now ways steps) where
  -- a turn stops, and there were right prices where its limit is reached
  pub stops_there : (limit : ℕ) (more : List Basics) (why : DualStop) → HasRightPrices p s → steps ≤ limit → DualTurnStops p now (limit - steps) ways more why →
      DualStopsAlong p s now limit before more why
  stops_there limit more (NotDualFeasible j) right within t = absurd t
  stops_there limit more (Path Limit) right within t =
      (right, goes_on_there dual_turn p s before now ways steps h limit (omega (arith, t.0, within)) t.1.0 t.1.1)
  stops_there limit more (Path (Overflow e)) right within t =
      overflows_there dual_turn p s before now ways steps h (Dual p) limit more e within t.is_way (λ earlier lie. t.shows [] earlier lie)
  stops_there limit more (Path NoMemory) right within t = (h.bases, (h.path.0, h.path.1), omega (arith, h.taken, within))

  -- a call at the basis stops; no price is found wrong there
  pub point_stops_there : (limit : ℕ) (more : List Basics) (why : Stop) → p.change ≡ None → steps ≤ limit → IfOverflow why (PointRefused p ways now more) →
      DualStopsAlong p s now limit before more (dual_stop_of why)
  point_stops_there limit more (stop.Overflow e) no_change within r =
      let t = point_stops p no_change now (limit - steps) ways more (stop.Overflow e) r in
      overflows_there dual_turn p s before now ways steps h (Dual p) limit more e within t.is_way (λ earlier lie. t.shows [] earlier lie)
  point_stops_there limit more stop.NoMemory no_change within r = (h.bases, (h.path.0, h.path.1), omega (arith, h.taken, within))

  module _ (d xs : Vector) (q : ℕ) (by : BlockingVariable) (left : ℕ) (m : DualMovesOn p now d xs q by left) where
    -- a step more
    pub walk_more : (next : List Status) (mid more : List Basics) → next ≡ after now (move_by q by) →
        KeepsWaypoints p.matrix (basics_of now) ways (basics_of now) mid → KeepsWaypoints p.matrix (basics_of now) mid (basics_of next) more →
        HasReached dual_turn p s before next more (steps + 1)
    walk_more next mid more is first second =
        goes_over dual_turn p s before now ways steps h next more
        (record { tableau = m.moves.0; is_tableau = m.moves.1; move = move_by q by; turns = m.moves.2; is_next = is })
        (keeps_then p.matrix (basics_of now) ways (basics_of next) mid more first second)

    step_stops : p.change ≡ None → (mid more : List Basics) (why : Stop) → KeepsWaypoints p.matrix (basics_of now) ways (basics_of now) mid →
        IfOverflow why (StepRefused p mid now q by more) → DualTurnStops p now left ways more (dual_stop_of why)
    step_stops no_change mid more (stop.Overflow e) keeps refused =
        of_step p (Dual p) None now (dual_own p no_change now) left ways more e q by m.moves m.stands m.was_left
        (step_refused_later p ways mid more now q by e keeps refused)
    step_stops no_change mid more stop.NoMemory keeps refused = tt

    -- or the step is refused
    pub walk_stops : p.change ≡ None → HasRightPrices p s → (mid more : List Basics) (why : Stop) (limit : ℕ) → steps ≤ limit → left ≡ limit - steps →
        KeepsWaypoints p.matrix (basics_of now) ways (basics_of now) mid →
        IfOverflow why (StepRefused p mid now q by more) → DualStopsAlong p s now limit before more (dual_stop_of why)
    walk_stops no_change right mid more why limit within is_left keeps refused =
        stops_there limit more (dual_stop_of why) right within
        (subst (λ n. DualTurnStops p now n ways more (dual_stop_of why)) is_left (step_stops no_change mid more why keeps refused))

-- the prices that a step has taken over are those of the next basis
pub carried_prices : (p : LinearProgram) → IsLinearProgram p → p.change ≡ None → (a : Matrix) (b : Basics) (s : List Status) → HasRates a b p s →
    (d xs w v : Vector) (q : ℕ) (by : BlockingVariable) (left n : ℕ) → DualMovesOn p s d xs q by left → ArePricesOf p s w →
    n ≡ size p.matrix → ArePricesOver w xs by.p q n v → (next : List Status) → next ≡ after s (move_by q by) → ArePricesOf p next v
carried_prices p lawful no_change a b s has d xs w v q by left n m priced counted over next is =
    subst (λ (t : List Status). ArePricesOf p t v) (sym is)
    (prices_after p s lawful no_change
    (record { is_basis = has.is_basis; nonsingular = has.nonsingular }) w xs priced by.p q m.row m.leaves m.nonbasic m.row_pivot by.to m.stands v
    (subst (λ k. ArePricesOver w xs by.p q k v) counted over))

-- before any step
pub stops_at_once : (p : LinearProgram) → p.change ≡ None → (s : List Status) (limit : ℕ) (before more : List Basics) (why : Stop) →
    IfOverflow why (PointRefused p before s more) → DualStopsAlong p s s limit before more (dual_stop_of why)
stops_at_once p no_change s limit before more why h =
    point_stops_there p s before s before 0 (begins dual_turn p s before) limit more why no_change (omega arith) h

-- ---- a walk that begins after other calls at its first basis

module _ (p : LinearProgram) (s : List Status) (before ways : List Basics) (keeps : KeepsWaypoints p.matrix (basics_of s) before (basics_of s) ways) where
  pub follows_before : (now : List Status) (more : List Basics) → RuleWaypointsFollow dual_turn p s now ways more →
      RuleWaypointsFollow dual_turn p s now before more
  follows_before now more h = record {
    bases = h.bases;
    is_path = h.is_path;
    reaches = h.reaches;
    lie = λ earlier lie. h.lie earlier (lie_same p.matrix earlier s before ways keeps lie);
  }

  stop_before : (now : List Status) (limit : ℕ) (more : List Basics) (why : DualStop) → DualStopsAlong p s now limit ways more why →
      DualStopsAlong p s now limit before more why
  stop_before now limit more (NotDualFeasible j) h = h
  stop_before now limit more (Path Limit) h = h
  stop_before now limit more (Path (Overflow e)) h =
      record {
        bases = h.bases;
        is_path = h.is_path;
        reaches = h.reaches;
        within = h.within;
        is_way = h.is_way;
        shows = λ earlier lie. h.shows earlier
            (lie_same p.matrix earlier s before ways keeps lie);
      }
  stop_before now limit more (Path NoMemory) h = h

  pub stops_before : (now : List Status) (limit : ℕ) (more : List Basics) (result : Result Outcome DualStop) →
      IfErr result (DualStopsAlong p s now limit ways more) → IfErr result (DualStopsAlong p s now limit before more)
  stops_before now limit more (Ok outcome) h = h
  stops_before now limit more (Err why) h = stop_before now limit more why h
