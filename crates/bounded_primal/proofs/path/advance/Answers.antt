use Rattle.std.proofs.Common.{rules, List, ◌≡◌, ◌∙◌, length, refl, sym, ap}
use Rattle.std.proofs.lemmas.List.{with_items_is}
use Rattle.std.proofs.lemmas.Result.{err_from_is_err_and}
use Rattle.exact_values.specs.Rational.{ℚ}
use Rattle.lp_definitions.specs.LinearProgram.{value_at}
use Rattle.lp_definitions.specs.Basis.{basics_of}
use Rattle.lp_laws.proofs.WaypointLaws.{keeps_then}
use Rattle.bounded_primal.proofs.WalkCases.{step_made, step_stops}
use Rattle.bounded_primal.proofs.FirstWanted.{leaves_variable, wants_moved}
use Rattle.bounded_primal.proofs.Inside.{stays_inside}
use Rattle.bounded_primal.proofs.path.advance.Goals as goal

pub returns-in_err-outcome-clause-turn : goal.returns-in_err-outcome-clause-turn
returns-in_err-outcome-clause-turn g c =
    let p = err_from_is_err_and c.from_residual.result c.from_residual.ensures.1 in
    rw (p.1, p.2) (c.in_err-outcome.ensures.turn, refl)

pub step_over-requires-clause-step : goal.step_over-requires-clause-step
step_over-requires-clause-step g c =
    let moves = rw c.in-Moves.is at c.in_ok-outcome.ensures.turn in
    moves.step

pub returns-in_err-kept-in-Moves-clause-turn : goal.returns-in_err-kept-in-Moves-clause-turn
returns-in_err-kept-in-Moves-clause-turn g c =
    let p = err_from_is_err_and c.from_residual-in_err-kept-in-Moves.result c.from_residual-in_err-kept-in-Moves.ensures.1 in
    let moves = rw c.in-Moves.is at c.in_ok-outcome.ensures.turn in
    rw (p.1, p.2) (
      step_stops c.args.lp.now c.args.basis.now (value_at c.next_turn.new.direction) c.in-Moves.q c.in-Moves.by c.args.standing.now.left moves
          (g.R.Rates.state c.args.rates.now).waypoints (g.R.Rates.state c.next_turn.new.rates).waypoints
          (g.R.Rates.state c.step_over.new.rates).waypoints c.in_err-kept-in-Moves.field-0.0 c.in_ok-outcome.ensures.rates.1
          c.in_err-kept-in-Moves.ensures.overflow,
      c.in_err-kept-in-Moves.ensures.unchanged,
    )

pub returns-in_err-kept-in-Moves-clause-waypoints : goal.returns-in_err-kept-in-Moves-clause-waypoints
returns-in_err-kept-in-Moves-clause-waypoints g c =
    keeps_then c.args.lp.now.matrix (basics_of c.args.basis.now) (g.R.Rates.state c.args.rates.now).waypoints (basics_of c.step_over.new.basis)
    (g.R.Rates.state c.next_turn.new.rates).waypoints (g.R.Rates.state c.step_over.new.rates).waypoints
    c.in_ok-outcome.ensures.rates.1 c.in_err-kept-in-Moves.ensures.waypoints

pub outside_after-broken-requires-clause-stays : goal.outside_after-broken-requires-clause-stays
outside_after-broken-requires-clause-stays g c none =
    let moves = rw c.in-Moves.is at c.in_ok-outcome.ensures.turn in
    stays_inside c.args.lp.now (g.R.Rates.state c.args.rates.now).matrix
    (g.R.Rates.state c.args.rates.now).basics c.args.basis.now c.requires.rates
    (value_at c.args.workspace.now.point.items) c.requires.stands.point c.requires.uncrossed (sym c.requires.stands.broken ∙ none)
    c.requires.lawful (value_at c.next_turn.new.direction) c.in-Moves.q c.in-Moves.by c.args.standing.now.left moves c.step_over.new.basis
    c.in_ok-kept-in-Moves.ensures.basis
    (value_at c.step_over.new.point) c.in_ok-kept-in-Moves.ensures.point

pub renew_wants-requires-clause-first : goal.renew_wants-requires-clause-first
renew_wants-requires-clause-first g c =
    let moves = rw c.in-Moves.is at c.in_ok-outcome.ensures.turn in
    leaves_variable c.args.lp.now c.args.basis.now (value_at c.next_turn.new.direction) c.in-Moves.q c.in-Moves.by c.args.standing.now.left moves

pub renew_wants-requires-clause-second : goal.renew_wants-requires-clause-second
renew_wants-requires-clause-second g c =
    let moves = rw c.in-Moves.is at c.in_ok-outcome.ensures.turn in
    moves.nonbasic.0

pub renew_wants-requires-clause-others : goal.renew_wants-requires-clause-others
renew_wants-requires-clause-others g c =
    let moves = rw c.in-Moves.is at c.in_ok-outcome.ensures.turn in
    wants_moved c.args.lp.now c.args.basis.now c.requires.rates.is_basis c.args.wanted.now c.requires.wants
    (value_at c.next_turn.new.direction) c.in-Moves.q c.in-Moves.by c.args.standing.now.left moves c.step_over.new.basis c.in_ok-kept-in-Moves.ensures.basis

pub returns-in-Ends-clause-turn : goal.returns-in-Ends-clause-turn
returns-in-Ends-clause-turn g c =
    let ends = rw c.in-Ends.is at c.in_ok-outcome.ensures.turn in
    (ends, refl)

pub returns-in_ok-kept-in-Moves-clause-turn : goal.returns-in_ok-kept-in-Moves-clause-turn
returns-in_ok-kept-in-Moves-clause-turn g c =
    let moves = rw c.in-Moves.is at c.in_ok-outcome.ensures.turn in
    record {
      is_step = step_made c.args.lp.now c.args.basis.now (value_at c.next_turn.new.direction) c.in-Moves.q c.in-Moves.by c.args.standing.now.left moves
          c.step_over.new.basis c.in_ok-kept-in-Moves.ensures.basis;
      was_left = moves.was_left;
    }

pub returns-in_ok-kept-in-Moves-clause-waypoints : goal.returns-in_ok-kept-in-Moves-clause-waypoints
returns-in_ok-kept-in-Moves-clause-waypoints g c =
    keeps_then c.args.lp.now.matrix (basics_of c.args.basis.now) (g.R.Rates.state c.args.rates.now).waypoints (basics_of c.step_over.new.basis)
    (g.R.Rates.state c.next_turn.new.rates).waypoints (g.R.Rates.state c.step_over.new.rates).waypoints
    c.in_ok-outcome.ensures.rates.1 c.in_ok-kept-in-Moves.ensures.waypoints

pub next_turn-requires-clause-point : goal.next_turn-requires-clause-point
next_turn-requires-clause-point g c = rw c.as_mut_slice-point.ensures.value c.requires.stands.point

pub step_over-requires-clause-point : goal.step_over-requires-clause-point
step_over-requires-clause-point g c = rw c.as_mut_slice-point.ensures.value c.requires.stands.point

pub returns-in_ok-kept-in-Moves-clause-stands : goal.returns-in_ok-kept-in-Moves-clause-stands
returns-in_ok-kept-in-Moves-clause-stands g c _ =
    let point_places : length c.step_over.new.point ≡ c.args.workspace.now.point.len = search rules in
    let price_places : length c.next_turn.new.prices ≡ c.args.workspace.now.prices.len = search rules in
    let row_places : length c.next_turn.new.row ≡ c.args.workspace.now.row.len = search rules in
    let points = with_items_is c.args.workspace.now.point c.step_over.new.point point_places in
    let prices = with_items_is c.args.workspace.now.prices c.next_turn.new.prices price_places in
    let row = with_items_is c.args.workspace.now.row c.next_turn.new.row row_places in
    record {
      sized =
          record {
            point = ap (λ (xs : List ℚ). length xs) points ∙ point_places ∙ c.args.workspace.now.point.ok.0 ∙ c.requires.stands.sized.point;
            prices = ap (λ (xs : List ℚ). length xs) prices ∙ price_places ∙ c.args.workspace.now.prices.ok.0 ∙ c.requires.stands.sized.prices;
            row = ap (λ (xs : List ℚ). length xs) row ∙ row_places ∙ c.args.workspace.now.row.ok.0 ∙ c.requires.stands.sized.row;
            direction = c.in_ok-outcome.ensures.direction_places;
          };
      point = rw points c.in_ok-kept-in-Moves.ensures.point;
      kept = rw points c.in_ok-kept-in-Moves.ensures.kept;
      broken = rw points c.outside_after-broken.ensures;
    }
