use Rattle.std.proofs.Common.{◌≡◌, ◌-◌, ◌≤◌, subst, arith}
use Rattle.std.proofs.lemmas.Result.{err_from_is_err_and}
use Rattle.simplex_definitions.specs.Counts.{counted_steps}
use Rattle.simplex_definitions.specs.Path.{turn}
use Rattle.bounded_primal.specs.Turns.{TurnStops}
use Rattle.bounded_primal.proofs.PathWalk.{begins_at, goes_over, ends_there, stops_there, follows, follows_later}
use Rattle.bounded_primal.proofs.WalkCases.{stops_at_once}
use Rattle.bounded_primal.proofs.path.walk.Goals as goal

pub returns-in_err-standing-clause-stops : goal.returns-in_err-standing-clause-stops
returns-in_err-standing-clause-stops g c =
    let p = err_from_is_err_and c.from_residual.result c.from_residual.ensures.1 in
    rw (p.1, p.2)
    (stops_at_once c.args.lp.now c.args.basis.now c.args.limit (g.R.Rates.state c.args.rates.now).waypoints
    (g.R.Rates.state c.begin.new.rates).waypoints c.in_err-standing.field-0.0 c.in_err-standing.ensures.overflow)

pub returns-in_err-standing-clause-waypoints : goal.returns-in_err-standing-clause-waypoints
returns-in_err-standing-clause-waypoints g c =
    follows turn c.args.lp.now c.args.basis.now (g.R.Rates.state c.args.rates.now).waypoints c.args.basis.now (g.R.Rates.state c.begin.new.rates).waypoints 0
    (begins_at turn c.args.lp.now c.args.basis.now (g.R.Rates.state c.args.rates.now).waypoints
    (g.R.Rates.state c.begin.new.rates).waypoints c.in_err-standing.ensures.rates.1)

pub loop-outcome-init : goal.loop-outcome-init
loop-outcome-init g c = record {
  rates = c.in_ok-standing.ensures.rates.0;
  wants = c.requires.wants;
  stands = c.in_ok-standing.ensures.stands;
  counted = omega (arith, c.in_ok-standing.ensures.steps, c.in_ok-standing.ensures.left);
  reached =
      rw c.in_ok-standing.ensures.steps
      (begins_at turn c.args.lp.now c.args.basis.now (g.R.Rates.state c.args.rates.now).waypoints
      (g.R.Rates.state c.begin.new.rates).waypoints c.in_ok-standing.ensures.rates.1);
}

pub returns-in_err-outcome-clause-stops : goal.returns-in_err-outcome-clause-stops
returns-in_err-outcome-clause-stops g c =
    let p = err_from_is_err_and c.from_residual-in_err-outcome.result c.from_residual-in_err-outcome.ensures.1 in
    let stops = c.in_err-outcome.ensures.turn in
    let left : c.loop-outcome.standing.left ≡ c.args.limit - c.loop-outcome.standing.steps = omega (arith, c.loop-outcome.invariant.counted) in
    rw (p.1, p.2, stops.1)
    (stops_there c.args.lp.now c.args.basis.now (g.R.Rates.state c.args.rates.now).waypoints c.loop-outcome.basis
    (g.R.Rates.state c.loop-outcome.rates).waypoints c.loop-outcome.standing.steps c.loop-outcome.invariant.reached c.args.limit
    (g.R.Rates.state c.advance.new.rates).waypoints c.in_err-outcome.field-0.0 (omega (arith, c.loop-outcome.invariant.counted))
    (subst (λ n. TurnStops c.args.lp.now c.loop-outcome.basis n (g.R.Rates.state c.loop-outcome.rates).waypoints
    (g.R.Rates.state c.advance.new.rates).waypoints c.in_err-outcome.field-0.0) left stops.0))

pub returns-in_err-outcome-clause-waypoints : goal.returns-in_err-outcome-clause-waypoints
returns-in_err-outcome-clause-waypoints g c =
    let stops = c.in_err-outcome.ensures.turn in
    rw stops.1
    (follows_later turn c.args.lp.now c.args.basis.now (g.R.Rates.state c.args.rates.now).waypoints c.loop-outcome.basis
    (g.R.Rates.state c.loop-outcome.rates).waypoints c.loop-outcome.standing.steps c.loop-outcome.invariant.reached
    (g.R.Rates.state c.advance.new.rates).waypoints (rw stops.1 at c.in_err-outcome.ensures.waypoints))

pub returns-in-Some-clause-ends : goal.returns-in-Some-clause-ends
returns-in-Some-clause-ends g c =
    let ends = rw c.in-Some.is at c.in_ok-outcome.ensures.turn in
    let within : c.loop-outcome.standing.steps ≤ c.args.limit = omega (arith, c.loop-outcome.invariant.counted) in
    let counted : c.loop-outcome.standing.steps ≡ counted_steps c.loop-outcome.standing.steps = omega (arith, within) in
    rw ends.1
    (ends_there turn c.args.lp.now c.args.basis.now (g.R.Rates.state c.args.rates.now).waypoints c.loop-outcome.basis
    (g.R.Rates.state c.loop-outcome.rates).waypoints c.loop-outcome.standing.steps c.loop-outcome.invariant.reached
    c.args.limit c.loop-outcome.standing.steps c.in-Some.outcome within counted ends.0)

pub returns-in-Some-clause-waypoints : goal.returns-in-Some-clause-waypoints
returns-in-Some-clause-waypoints g c =
    let ends = rw c.in-Some.is at c.in_ok-outcome.ensures.turn in
    rw ends.1
    (follows_later turn c.args.lp.now c.args.basis.now (g.R.Rates.state c.args.rates.now).waypoints c.loop-outcome.basis
    (g.R.Rates.state c.loop-outcome.rates).waypoints c.loop-outcome.standing.steps c.loop-outcome.invariant.reached
    (g.R.Rates.state c.advance.new.rates).waypoints (rw ends.1 at c.in_ok-outcome.ensures.waypoints))

pub loop-outcome-preserved : goal.loop-outcome-preserved
loop-outcome-preserved g c =
    let moves = rw c.in-None.is at c.in_ok-outcome.ensures.turn in
    let stands = c.in_ok-outcome.ensures.stands c.in-None.is in
    record {
      rates = c.in_ok-outcome.ensures.rates;
      wants = c.in_ok-outcome.ensures.wants c.in-None.is;
      stands = record { sized = stands.sized; point = stands.point; kept = stands.kept; broken = stands.broken };
      counted = omega (arith, c.loop-outcome.invariant.counted, moves.was_left, c.in_ok-outcome.ensures.steps, c.in_ok-outcome.ensures.left);
      reached =
          rw c.in_ok-outcome.ensures.steps
          (goes_over turn c.args.lp.now c.args.basis.now (g.R.Rates.state c.args.rates.now).waypoints c.loop-outcome.basis
          (g.R.Rates.state c.loop-outcome.rates).waypoints c.loop-outcome.standing.steps c.loop-outcome.invariant.reached
          c.advance.new.basis (g.R.Rates.state c.advance.new.rates).waypoints moves.is_step c.in_ok-outcome.ensures.waypoints);
    }
