use Rattle.std.proofs.Common.{◌-◌, sym, subst}
use Rattle.std.proofs.lemmas.Result.{err_from_is_err_and}
use Rattle.lp_definitions.specs.Basis.{IsOptimalBasis}
use Rattle.bounded_primal.specs.Moves.{move_by}
use Rattle.parametric_run.proofs.FaceWalk.{refused_stops, step_stops, faces_more, any_later, any_more, any_stops, any_follows}
use Rattle.parametric_run.proofs.faces.faces.Goals as goal

pub returns-in_err-face_turn-clause-found : goal.returns-in_err-face_turn-clause-found
returns-in_err-face_turn-clause-found g c =
    let p = err_from_is_err_and c.from_residual.result c.from_residual.ensures.1 in
    rw (p.1, p.2)
    (any_stops (g.M.Parametric.problem c.args.method.now) c.args.theta c.args.basis.now c.args.begun (g.R.Rates.state c.args.rates.now).waypoints c.turns.basis
    (g.R.Rates.state c.turns.rates).waypoints c.turns.left
    c.turns.invariant.any c.turns.invariant.reach
    (g.R.Rates.state c.face_turn.new.rates).waypoints c.in_err-face_turn.field-0.0 c.in_err-face_turn.ensures.turn)

pub returns-in_err-face_turn-clause-waypoints : goal.returns-in_err-face_turn-clause-waypoints
returns-in_err-face_turn-clause-waypoints g c =
    let m = g.M.Parametric.problem c.args.method.now in
    let before = (g.R.Rates.state c.args.rates.now).waypoints in
    let turned =
    any_later m c.args.theta c.args.basis.now c.args.begun before c.turns.basis (g.R.Rates.state c.turns.rates).waypoints c.turns.left c.turns.invariant.any
    (g.R.Rates.state c.face_turn.new.rates).waypoints c.in_err-face_turn.ensures.rates.1 in
    any_follows m c.args.theta c.args.basis.now c.args.begun before c.turns.basis
    (g.R.Rates.state c.face_turn.new.rates).waypoints c.turns.left turned c.turns.invariant.reach

pub returns-in-Done-clause-found : goal.returns-in-Done-clause-found
returns-in-Done-clause-found g c =
    let done = rw c.in-Done.is at c.in_ok-face_turn.ensures.turn in
    record {
      reach = c.turns.invariant.reach;
      done = done;
      optimal = c.turns.invariant.optimal;
      workspace = c.in_ok-face_turn.ensures.workspace;
      any =
          any_later (g.M.Parametric.problem c.args.method.now) c.args.theta c.args.basis.now c.args.begun
          (g.R.Rates.state c.args.rates.now).waypoints c.turns.basis (g.R.Rates.state c.turns.rates).waypoints c.turns.left
          c.turns.invariant.any (g.R.Rates.state c.face_turn.new.rates).waypoints c.in_ok-face_turn.ensures.rates.1;
    }

pub returns-in-Done-clause-waypoints : goal.returns-in-Done-clause-waypoints
returns-in-Done-clause-waypoints g c =
    let m = g.M.Parametric.problem c.args.method.now in
    let before = (g.R.Rates.state c.args.rates.now).waypoints in
    let turned =
    any_later m c.args.theta c.args.basis.now c.args.begun before c.turns.basis (g.R.Rates.state c.turns.rates).waypoints c.turns.left c.turns.invariant.any
    (g.R.Rates.state c.face_turn.new.rates).waypoints c.in_ok-face_turn.ensures.rates.1 in
    any_follows m c.args.theta c.args.basis.now c.args.begun before c.turns.basis
    (g.R.Rates.state c.face_turn.new.rates).waypoints c.turns.left turned c.turns.invariant.reach

pub returns-in-Ends-clause-found : goal.returns-in-Ends-clause-found
returns-in-Ends-clause-found g c =
    let ends = rw c.in-Ends.is at c.in_ok-face_turn.ensures.turn in
    record {
      left = c.turns.left;
      reach = c.turns.invariant.reach;
      ends = ends;
      any =
          any_later (g.M.Parametric.problem c.args.method.now) c.args.theta c.args.basis.now c.args.begun
          (g.R.Rates.state c.args.rates.now).waypoints c.turns.basis (g.R.Rates.state c.turns.rates).waypoints c.turns.left
          c.turns.invariant.any (g.R.Rates.state c.face_turn.new.rates).waypoints c.in_ok-face_turn.ensures.rates.1;
    }

pub returns-in-Ends-clause-waypoints : goal.returns-in-Ends-clause-waypoints
returns-in-Ends-clause-waypoints g c =
    let m = g.M.Parametric.problem c.args.method.now in
    let before = (g.R.Rates.state c.args.rates.now).waypoints in
    let turned =
    any_later m c.args.theta c.args.basis.now c.args.begun before c.turns.basis (g.R.Rates.state c.turns.rates).waypoints c.turns.left c.turns.invariant.any
    (g.R.Rates.state c.face_turn.new.rates).waypoints c.in_ok-face_turn.ensures.rates.1 in
    any_follows m c.args.theta c.args.basis.now c.args.begun before c.turns.basis
    (g.R.Rates.state c.face_turn.new.rates).waypoints c.turns.left turned c.turns.invariant.reach

pub returns-in_err-take-in-Moves-clause-found : goal.returns-in_err-take-in-Moves-clause-found
returns-in_err-take-in-Moves-clause-found g c =
    let p = err_from_is_err_and c.from_residual-in_err-take-in-Moves.result c.from_residual-in_err-take-in-Moves.ensures.1 in
    let moves = rw c.in-Moves.is at c.in_ok-face_turn.ensures.turn in
    let m = g.M.Parametric.problem c.args.method.now in
    let before = (g.R.Rates.state c.args.rates.now).waypoints in
    let turned =
    any_later m c.args.theta c.args.basis.now c.args.begun before c.turns.basis (g.R.Rates.state c.turns.rates).waypoints c.turns.left c.turns.invariant.any
    (g.R.Rates.state c.face_turn.new.rates).waypoints c.in_ok-face_turn.ensures.rates.1 in
    rw (p.1, p.2, c.in_err-take-in-Moves.ensures.unchanged)
    (any_stops m c.args.theta c.args.basis.now c.args.begun before c.turns.basis
    (g.R.Rates.state c.face_turn.new.rates).waypoints c.turns.left turned c.turns.invariant.reach (g.R.Rates.state c.take.new.rates).waypoints _
    (step_stops m c.args.theta c.turns.basis c.turns.left (g.R.Rates.state c.face_turn.new.rates).waypoints
    (g.R.Rates.state c.take.new.rates).waypoints c.face_turn.new.workspace c.in-Moves.q c.in-Moves.by moves
    c.in_err-take-in-Moves.field-0.0 c.in_err-take-in-Moves.ensures.overflow))

pub returns-in_err-take-in-Moves-clause-waypoints : goal.returns-in_err-take-in-Moves-clause-waypoints
returns-in_err-take-in-Moves-clause-waypoints g c =
    let m = g.M.Parametric.problem c.args.method.now in
    let before = (g.R.Rates.state c.args.rates.now).waypoints in
    let turned =
    any_later m c.args.theta c.args.basis.now c.args.begun before c.turns.basis (g.R.Rates.state c.turns.rates).waypoints c.turns.left c.turns.invariant.any
    (g.R.Rates.state c.face_turn.new.rates).waypoints c.in_ok-face_turn.ensures.rates.1 in
    let stopped =
    any_later m c.args.theta c.args.basis.now c.args.begun before c.turns.basis (g.R.Rates.state c.face_turn.new.rates).waypoints c.turns.left turned
    (g.R.Rates.state c.take.new.rates).waypoints
    (rw c.in_err-take-in-Moves.ensures.unchanged at c.in_err-take-in-Moves.ensures.waypoints) in
    rw c.in_err-take-in-Moves.ensures.unchanged
    (any_follows m c.args.theta c.args.basis.now c.args.begun before c.turns.basis
    (g.R.Rates.state c.take.new.rates).waypoints c.turns.left stopped c.turns.invariant.reach)

pub turns-preserved : goal.turns-preserved
turns-preserved g c =
    let moves = rw c.in-Moves.is at c.in_ok-face_turn.ensures.turn in
    let m = g.M.Parametric.problem c.args.method.now in
    let before = (g.R.Rates.state c.args.rates.now).waypoints in
    let turned =
    any_later m c.args.theta c.args.basis.now c.args.begun before c.turns.basis (g.R.Rates.state c.turns.rates).waypoints c.turns.left c.turns.invariant.any
    (g.R.Rates.state c.face_turn.new.rates).waypoints c.in_ok-face_turn.ensures.rates.1 in
    let stepped =
    any_more m c.args.theta c.args.basis.now c.args.begun before c.turns.basis
    (g.R.Rates.state c.face_turn.new.rates).waypoints c.turns.left turned c.take.new.basis (g.R.Rates.state c.take.new.rates).waypoints
    (move_by c.in-Moves.q c.in-Moves.by) c.turns.invariant.reach moves.moves moves.is_left c.in_ok-take-in-Moves.ensures.basis
    c.in_ok-take-in-Moves.ensures.waypoints in
    record {
      rates = c.in_ok-refresh.ensures.rates.0;
      workspace = c.in_ok-refresh.ensures.workspace;
      optimal = subst (IsOptimalBasis ((g.M.Parametric.problem c.args.method.now).family c.args.theta)) (sym c.in_ok-take-in-Moves.ensures.basis) moves.keeps;
      reach =
          faces_more m c.args.theta c.args.basis.now c.args.begun c.turns.basis c.take.new.basis c.turns.left
          (move_by c.in-Moves.q c.in-Moves.by) c.turns.invariant.reach moves.moves moves.is_left
          c.in_ok-take-in-Moves.ensures.basis;
      any =
          any_later m c.args.theta c.args.basis.now c.args.begun before c.take.new.basis (g.R.Rates.state c.take.new.rates).waypoints (c.turns.left - 1) stepped
          (g.R.Rates.state c.refresh.new.rates).waypoints c.in_ok-refresh.ensures.rates.1;
    }

pub returns-in_err-refresh-clause-found : goal.returns-in_err-refresh-clause-found
returns-in_err-refresh-clause-found g c =
    let p = err_from_is_err_and c.from_residual-in_err-refresh.result c.from_residual-in_err-refresh.ensures.1 in
    let moves = rw c.in-Moves.is at c.in_ok-face_turn.ensures.turn in
    let m = g.M.Parametric.problem c.args.method.now in
    let before = (g.R.Rates.state c.args.rates.now).waypoints in
    let turned =
    any_later m c.args.theta c.args.basis.now c.args.begun before c.turns.basis (g.R.Rates.state c.turns.rates).waypoints c.turns.left c.turns.invariant.any
    (g.R.Rates.state c.face_turn.new.rates).waypoints c.in_ok-face_turn.ensures.rates.1 in
    let stepped =
    any_more m c.args.theta c.args.basis.now c.args.begun before c.turns.basis
    (g.R.Rates.state c.face_turn.new.rates).waypoints c.turns.left turned c.take.new.basis (g.R.Rates.state c.take.new.rates).waypoints
    (move_by c.in-Moves.q c.in-Moves.by) c.turns.invariant.reach moves.moves moves.is_left c.in_ok-take-in-Moves.ensures.basis
    c.in_ok-take-in-Moves.ensures.waypoints in
    let reach =
    faces_more m c.args.theta c.args.basis.now c.args.begun c.turns.basis c.take.new.basis c.turns.left
    (move_by c.in-Moves.q c.in-Moves.by) c.turns.invariant.reach moves.moves moves.is_left
    c.in_ok-take-in-Moves.ensures.basis in
    rw (p.1, p.2)
    (any_stops m c.args.theta c.args.basis.now c.args.begun before c.take.new.basis (g.R.Rates.state c.take.new.rates).waypoints
    (c.turns.left - 1) stepped reach (g.R.Rates.state c.refresh.new.rates).waypoints _
    (refused_stops m c.args.theta c.take.new.basis (c.turns.left - 1) (g.R.Rates.state c.take.new.rates).waypoints
    (g.R.Rates.state c.refresh.new.rates).waypoints c.in_err-refresh.field-0.0 c.in_err-refresh.ensures.overflow))

pub returns-in_err-refresh-clause-waypoints : goal.returns-in_err-refresh-clause-waypoints
returns-in_err-refresh-clause-waypoints g c =
    let moves = rw c.in-Moves.is at c.in_ok-face_turn.ensures.turn in
    let m = g.M.Parametric.problem c.args.method.now in
    let before = (g.R.Rates.state c.args.rates.now).waypoints in
    let turned =
    any_later m c.args.theta c.args.basis.now c.args.begun before c.turns.basis (g.R.Rates.state c.turns.rates).waypoints c.turns.left c.turns.invariant.any
    (g.R.Rates.state c.face_turn.new.rates).waypoints c.in_ok-face_turn.ensures.rates.1 in
    let stepped =
    any_more m c.args.theta c.args.basis.now c.args.begun before c.turns.basis
    (g.R.Rates.state c.face_turn.new.rates).waypoints c.turns.left turned c.take.new.basis (g.R.Rates.state c.take.new.rates).waypoints
    (move_by c.in-Moves.q c.in-Moves.by) c.turns.invariant.reach moves.moves moves.is_left c.in_ok-take-in-Moves.ensures.basis
    c.in_ok-take-in-Moves.ensures.waypoints in
    let reach =
    faces_more m c.args.theta c.args.basis.now c.args.begun c.turns.basis c.take.new.basis c.turns.left
    (move_by c.in-Moves.q c.in-Moves.by) c.turns.invariant.reach moves.moves moves.is_left
    c.in_ok-take-in-Moves.ensures.basis in
    let last =
    any_later m c.args.theta c.args.basis.now c.args.begun before c.take.new.basis (g.R.Rates.state c.take.new.rates).waypoints (c.turns.left - 1) stepped
    (g.R.Rates.state c.refresh.new.rates).waypoints c.in_err-refresh.ensures.rates.1 in
    any_follows m c.args.theta c.args.basis.now c.args.begun before c.take.new.basis (g.R.Rates.state c.refresh.new.rates).waypoints
    (c.turns.left - 1) last reach
