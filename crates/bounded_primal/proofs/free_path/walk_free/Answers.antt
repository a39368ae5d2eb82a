use Rattle.std.proofs.Common.{◌+◌, ◌∙◌, refl, sym, ap, subst, arith}
use Rattle.std.specs.Prelude.{min}
use Rattle.std.proofs.lemmas.Result.{err_from_is_err_and}
use Rattle.termination_laws.specs.Laws.{lists_of}
use Rattle.simplex_definitions.specs.Counts.{counted_steps}
use Rattle.simplex_definitions.specs.Path.{turn}
use Rattle.bounded_primal.specs.Turns.{TurnStops}
use Rattle.bounded_primal.proofs.PathWalk.{begins_at, goes_over, follows, follows_later}
use Rattle.bounded_primal.proofs.WalkCases.{stops_at_once}
use Rattle.bounded_primal.proofs.FreeWalk.{reached_short, free_ends, free_stops, counted_more, one_less}
use Rattle.bounded_primal.proofs.free_path.walk_free.Goals as goal

pub returns-in_err-standing-clause-stops : goal.returns-in_err-standing-clause-stops
returns-in_err-standing-clause-stops g c =
    let p = err_from_is_err_and c.from_residual.result c.from_residual.ensures.1 in
    rw (p.1, p.2)
    (stops_at_once c.args.lp.now c.args.basis.now (lists_of c.args.lp.now) (g.R.Rates.state c.args.rates.now).waypoints
    (g.R.Rates.state c.begin.new.rates).waypoints c.in_err-standing.field-0.0 c.in_err-standing.ensures.overflow)

pub returns-in_err-standing-clause-waypoints : goal.returns-in_err-standing-clause-waypoints
returns-in_err-standing-clause-waypoints g c =
    follows turn c.args.lp.now c.args.basis.now (g.R.Rates.state c.args.rates.now).waypoints c.args.basis.now (g.R.Rates.state c.begin.new.rates).waypoints 0
    (begins_at turn c.args.lp.now c.args.basis.now (g.R.Rates.state c.args.rates.now).waypoints
    (g.R.Rates.state c.begin.new.rates).waypoints c.in_err-standing.ensures.rates.1)

pub loop-ended-init : goal.loop-ended-init
loop-ended-init g c = record {
  some = omega (arith, c.open-book.ensures.parts, c.requires.some, c.requires.parts);
  counted = rw (c.open-book.ensures.total, c.in_ok-standing.ensures.steps) refl;
  rates = c.in_ok-standing.ensures.rates.0;
  wants = c.requires.wants;
  stands = c.in_ok-standing.ensures.stands;
  one_left = c.in_ok-standing.ensures.left;
  reached =
      rw c.open-book.ensures.total
      (begins_at turn c.args.lp.now c.args.basis.now (g.R.Rates.state c.args.rates.now).waypoints
      (g.R.Rates.state c.begin.new.rates).waypoints c.in_ok-standing.ensures.rates.1);
}

pub unlimited-requires : goal.unlimited-requires
unlimited-requires g c is =
    let stops = rw is at c.in-Err.ensures.turn in
    omega (arith, stops.0.0, c.loop-ended.invariant.one_left)

pub returns-in-Err-clause-stops : goal.returns-in-Err-clause-stops
returns-in-Err-clause-stops g c =
    let stops = c.in-Err.ensures.turn in
    rw stops.1
    (free_stops c.args.lp.now c.requires.lawful (g.R.Rates.state c.args.rates.now).matrix
    (g.R.Rates.state c.args.rates.now).basics c.args.basis.now c.requires.rates (g.R.Rates.state c.args.rates.now).waypoints c.loop-ended.basis
    (g.R.Rates.state c.loop-ended.rates).waypoints c.loop-ended.book.total c.loop-ended.invariant.reached
    (g.R.Rates.state c.advance.new.rates).waypoints c.unlimited.result
    (rw c.unlimited.ensures
    (subst (λ n. TurnStops c.args.lp.now c.loop-ended.basis n (g.R.Rates.state c.loop-ended.rates).waypoints
    (g.R.Rates.state c.advance.new.rates).waypoints c.in-Err.stop) c.loop-ended.invariant.one_left stops.0)))

pub returns-in-Err-clause-waypoints : goal.returns-in-Err-clause-waypoints
returns-in-Err-clause-waypoints g c =
    let stops = c.in-Err.ensures.turn in
    rw stops.1
    (follows_later turn c.args.lp.now c.args.basis.now (g.R.Rates.state c.args.rates.now).waypoints c.loop-ended.basis
    (g.R.Rates.state c.loop-ended.rates).waypoints c.loop-ended.book.total c.loop-ended.invariant.reached
    (g.R.Rates.state c.advance.new.rates).waypoints (rw stops.1 at c.in-Err.ensures.waypoints))

pub returns-in-Some-clause-ends : goal.returns-in-Some-clause-ends
returns-in-Some-clause-ends g c =
    let ends = rw c.in-Some.is at c.in-Ok.ensures.turn in
    rw ends.1
    (free_ends c.args.lp.now c.requires.lawful (g.R.Rates.state c.args.rates.now).matrix
    (g.R.Rates.state c.args.rates.now).basics c.args.basis.now c.requires.rates (g.R.Rates.state c.args.rates.now).waypoints c.loop-ended.basis
    (g.R.Rates.state c.loop-ended.rates).waypoints c.loop-ended.book.total c.loop-ended.invariant.reached
    c.loop-ended.standing.steps c.in-Some.outcome c.loop-ended.invariant.counted ends.0)

pub returns-in-Some-clause-waypoints : goal.returns-in-Some-clause-waypoints
returns-in-Some-clause-waypoints g c =
    let ends = rw c.in-Some.is at c.in-Ok.ensures.turn in
    rw ends.1
    (follows_later turn c.args.lp.now c.args.basis.now (g.R.Rates.state c.args.rates.now).waypoints c.loop-ended.basis
    (g.R.Rates.state c.loop-ended.rates).waypoints c.loop-ended.book.total c.loop-ended.invariant.reached
    (g.R.Rates.state c.advance.new.rates).waypoints (rw ends.1 at c.in-Ok.ensures.waypoints))

pub loop-ended-smaller : goal.loop-ended-smaller
loop-ended-smaller g c =
    let moves = rw c.in-None.is at c.in-Ok.ensures.turn in
    let few =
    reached_short c.args.lp.now c.requires.lawful (g.R.Rates.state c.args.rates.now).matrix
    (g.R.Rates.state c.args.rates.now).basics c.args.basis.now c.requires.rates (g.R.Rates.state c.args.rates.now).waypoints c.advance.new.basis
    (g.R.Rates.state c.advance.new.rates).waypoints (c.loop-ended.book.total + 1)
    (goes_over turn c.args.lp.now c.args.basis.now (g.R.Rates.state c.args.rates.now).waypoints c.loop-ended.basis
    (g.R.Rates.state c.loop-ended.rates).waypoints c.loop-ended.book.total c.loop-ended.invariant.reached
    c.advance.new.basis (g.R.Rates.state c.advance.new.rates).waypoints moves.is_step c.in-Ok.ensures.waypoints) in
    one_less (lists_of c.args.lp.now) c.loop-ended.book.total c.add.new.self.total c.add.ensures.total few

pub loop-ended-preserved : goal.loop-ended-preserved
loop-ended-preserved g c =
    let moves = rw c.in-None.is at c.in-Ok.ensures.turn in
    let stands = c.in-Ok.ensures.stands c.in-None.is in
    record {
      some = omega (arith, c.add.ensures.parts, c.loop-ended.invariant.some);
      counted =
          c.saturating_add.ensures ∙ ap (λ n. min (n + 1) 4294967295) c.in-Ok.ensures.steps
          ∙ counted_more c.loop-ended.standing.steps c.loop-ended.book.total c.loop-ended.invariant.counted
          ∙ ap counted_steps (sym c.add.ensures.total);
      rates = c.in-Ok.ensures.rates;
      wants = c.in-Ok.ensures.wants c.in-None.is;
      stands = record { sized = stands.sized; point = stands.point; kept = stands.kept; broken = stands.broken };
      one_left = c.in-Ok.ensures.left ∙ c.loop-ended.invariant.one_left;
      reached =
          rw c.add.ensures.total
          (goes_over turn c.args.lp.now c.args.basis.now (g.R.Rates.state c.args.rates.now).waypoints c.loop-ended.basis
          (g.R.Rates.state c.loop-ended.rates).waypoints c.loop-ended.book.total c.loop-ended.invariant.reached
          c.advance.new.basis (g.R.Rates.state c.advance.new.rates).waypoints moves.is_step c.in-Ok.ensures.waypoints);
    }
