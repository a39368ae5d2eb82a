use Rattle.std.proofs.Common.{◌≡◌, refl, sym, ap, subst, ◌∙◌, arith}
use Rattle.std.specs.Prelude.{IsTrue}
use Rattle.std.proofs.lemmas.Result.{err_from_is_err_and}
use Rattle.lp_definitions.specs.LinearProgram.{value_at}
use Rattle.simplex_definitions.specs.Path.{after}
use Rattle.simplex_laws.specs.Laws.{IsNonsingularBasis}
use Rattle.basis_values.specs.Motions.{may_move}
use Rattle.basis_values.proofs.Kept.{kept_same}
use Rattle.bounded_primal.specs.Moves.{move_by}
use Rattle.bounded_primal.proofs.StepFacts.{step_reaches, limit_apart}
use Rattle.parametric_run.specs.declared.workspace.Workspace.{Workspace}
use Rattle.parametric_run.proofs.Workspaces.{direction_kept}
use Rattle.para_objective.specs.Faces.{face_up}
use Rattle.para_objective.specs.Method.{objective_problem}
use Rattle.para_objective.proofs.FaceFacts.{face_done, feasible, nonbasic, may, face_ends, face_moves, face_keeps, face_pivot, face_by_blocking_variable}
use Rattle.para_objective.proofs.FaceFacts.{face_enters}
use Rattle.para_objective.proofs.FaceStops.{turn_stops}
use Rattle.para_objective.proofs.RunEvidence.{of_step}
use Rattle.para_objective.proofs.method.ObjectiveParametric.face_turn.Goals as goal

pub returns-in_default-clause-turn : goal.returns-in_default-clause-turn
returns-in_default-clause-turn g c =
    let at : IsNonsingularBasis c.args.self.now.lp.now c.args.basis.now =
    record { is_basis = c.requires.rates.is_basis; nonsingular = c.requires.rates.nonsingular } in
    face_done c.args.self.now.lp.now c.args.self.now.row c.requires.fits.lawful c.requires.fits.row c.requires.fits.free c.args.theta c.args.basis.now at
    (value_at c.args.workspace.now.point.items) c.requires.workspace.point c.requires.optimal
    (value_at c.args.workspace.now.change.items) c.requires.workspace.change c.in_default.ensures

pub returns-in_default-clause-rates : goal.returns-in_default-clause-rates
returns-in_default-clause-rates g c =
    kept_same (g.R.Rates.state c.args.rates.now).waypoints c.requires.rates

pub rises-up-requires-clause-variable : goal.rises-up-requires-clause-variable
rises-up-requires-clause-variable g c =
    let at : IsNonsingularBasis c.args.self.now.lp.now c.args.basis.now =
    record { is_basis = c.requires.rates.is_basis; nonsingular = c.requires.rates.nonsingular } in
    (nonbasic c.args.self.now.lp.now c.args.self.now.row c.requires.fits.lawful c.requires.fits.row c.requires.fits.free c.args.theta c.args.basis.now at
    (value_at c.args.workspace.now.point.items) c.requires.workspace.point c.requires.optimal
    (value_at c.args.workspace.now.change.items) c.requires.workspace.change c.in-Some.q c.in-Some.ensures).0

pub blocking_variable_of-requires-clause-feasible : goal.blocking_variable_of-requires-clause-feasible
blocking_variable_of-requires-clause-feasible g c =
    let at : IsNonsingularBasis c.args.self.now.lp.now c.args.basis.now =
    record { is_basis = c.requires.rates.is_basis; nonsingular = c.requires.rates.nonsingular } in
    feasible c.args.self.now.lp.now c.args.self.now.row c.requires.fits.lawful c.requires.fits.row c.requires.fits.free c.args.theta c.args.basis.now at
    (value_at c.args.workspace.now.point.items) c.requires.workspace.point c.requires.optimal
    (value_at c.args.workspace.now.change.items) c.requires.workspace.change

pub blocking_variable_of-requires-clause-nonbasic : goal.blocking_variable_of-requires-clause-nonbasic
blocking_variable_of-requires-clause-nonbasic g c =
    let at : IsNonsingularBasis c.args.self.now.lp.now c.args.basis.now =
    record { is_basis = c.requires.rates.is_basis; nonsingular = c.requires.rates.nonsingular } in
    nonbasic c.args.self.now.lp.now c.args.self.now.row c.requires.fits.lawful c.requires.fits.row c.requires.fits.free c.args.theta c.args.basis.now at
    (value_at c.args.workspace.now.point.items) c.requires.workspace.point c.requires.optimal
    (value_at c.args.workspace.now.change.items) c.requires.workspace.change c.in-Some.q c.in-Some.ensures

pub blocking_variable_of-requires-clause-may : goal.blocking_variable_of-requires-clause-may
blocking_variable_of-requires-clause-may g c =
    let at : IsNonsingularBasis c.args.self.now.lp.now c.args.basis.now =
    record { is_basis = c.requires.rates.is_basis; nonsingular = c.requires.rates.nonsingular } in
    subst (λ up. IsTrue (may_move c.args.self.now.lp.now c.args.basis.now up c.in-Some.q)) (sym c.rises-up.ensures)
    (may c.args.self.now.lp.now c.args.self.now.row c.requires.fits.lawful c.requires.fits.row c.requires.fits.free c.args.theta c.args.basis.now at
    (value_at c.args.workspace.now.point.items) c.requires.workspace.point c.requires.optimal
    (value_at c.args.workspace.now.change.items) c.requires.workspace.change c.in-Some.q c.in-Some.ensures)

pub returns-in_err-stopped-clause-turn : goal.returns-in_err-stopped-clause-turn
returns-in_err-stopped-clause-turn g c =
    let at : IsNonsingularBasis c.args.self.now.lp.now c.args.basis.now =
    record { is_basis = c.requires.rates.is_basis; nonsingular = c.requires.rates.nonsingular } in
    let p = err_from_is_err_and c.from_residual.result c.from_residual.ensures.1 in
    rw (p.1, p.2)
    (λ from. turn_stops c.args.self.now.lp.now c.args.self.now.row c.requires.fits.no_change c.args.theta c.args.basis.now from c.args.left
    (g.R.Rates.state c.args.rates.now).waypoints (g.R.Rates.state c.blocking_variable_of.new.rates).waypoints c.in-Some.q
    (face_enters c.args.self.now.lp.now c.args.self.now.row c.requires.fits.lawful c.requires.fits.row c.requires.fits.free c.args.theta c.args.basis.now at
    (value_at c.args.workspace.now.point.items) c.requires.workspace.point c.requires.optimal (value_at c.args.workspace.now.change.items)
    c.requires.workspace.change c.in-Some.q c.in-Some.ensures)
    (value_at c.args.workspace.now.point.items) c.rises-up.result c.in_err-stopped.field-0.0 c.in_err-stopped.ensures.overflow)

pub returns-in_default-stopped-clause-turn : goal.returns-in_default-stopped-clause-turn
returns-in_default-stopped-clause-turn g c =
    let at : IsNonsingularBasis c.args.self.now.lp.now c.args.basis.now =
    record { is_basis = c.requires.rates.is_basis; nonsingular = c.requires.rates.nonsingular } in
    let last =
    direction_kept
    (objective_problem c.args.self.now.lp.now c.args.self.now.row) c.args.basis.now c.args.workspace.now c.blocking_variable_of.new.workspace
    c.requires.workspace c.in_ok-stopped.ensures.others c.in_ok-stopped.ensures.places in
    let up_is : c.rises-up.result ≡ face_up c.args.self.now.lp.now (value_at c.blocking_variable_of.new.workspace.change.items) c.in-Some.q =
    c.rises-up.ensures ∙ ap (λ (w : Workspace). face_up c.args.self.now.lp.now (value_at w.change.items) c.in-Some.q) (sym c.in_ok-stopped.ensures.others) in
    face_ends c.args.self.now.lp.now c.args.self.now.row c.requires.fits.lawful c.requires.fits.row c.requires.fits.free c.args.theta c.args.basis.now at
    (value_at c.blocking_variable_of.new.workspace.point.items) last.point c.requires.optimal
    (value_at c.blocking_variable_of.new.workspace.change.items) last.change c.in-Some.q c.in-Some.ensures
    (value_at c.blocking_variable_of.new.workspace.direction) c.in_ok-stopped.ensures.direction c.rises-up.result up_is
    (sym c.in_default-stopped.is ∙ c.in_ok-stopped.ensures.blocking_variable) c.blocking_variable_of.new.workspace.point.items last.sized.point
    (λ k is. refl) c.in_ok-end.end c.in_ok-end.ensures

pub returns-in_default-stopped-clause-workspace : goal.returns-in_default-stopped-clause-workspace
returns-in_default-stopped-clause-workspace g c =
    let last =
    direction_kept
    (objective_problem c.args.self.now.lp.now c.args.self.now.row) c.args.basis.now c.args.workspace.now c.blocking_variable_of.new.workspace
    c.requires.workspace c.in_ok-stopped.ensures.others c.in_ok-stopped.ensures.places in
    last

pub returns-then-left-eq0-clause-turn : goal.returns-then-left-eq0-clause-turn
returns-then-left-eq0-clause-turn g c =
    let at : IsNonsingularBasis c.args.self.now.lp.now c.args.basis.now =
    record { is_basis = c.requires.rates.is_basis; nonsingular = c.requires.rates.nonsingular } in
    let last =
    direction_kept
    (objective_problem c.args.self.now.lp.now c.args.self.now.row) c.args.basis.now c.args.workspace.now c.blocking_variable_of.new.workspace
    c.requires.workspace c.in_ok-stopped.ensures.others c.in_ok-stopped.ensures.places in
    let up_is : c.rises-up.result ≡ face_up c.args.self.now.lp.now (value_at c.blocking_variable_of.new.workspace.change.items) c.in-Some.q =
    c.rises-up.ensures ∙ ap (λ (w : Workspace). face_up c.args.self.now.lp.now (value_at w.change.items) c.in-Some.q) (sym c.in_ok-stopped.ensures.others) in
    λ from. (
      c.if-left-eq0.true,
      (
        after c.args.basis.now (move_by c.in-Some.q c.in-Some-stopped.by),
        (
          move_by c.in-Some.q c.in-Some-stopped.by,
          face_moves c.args.self.now.lp.now c.args.self.now.row c.requires.fits.lawful c.requires.fits.row
              c.requires.fits.free c.args.theta c.args.basis.now at (value_at c.blocking_variable_of.new.workspace.point.items) last.point c.requires.optimal
              (value_at c.blocking_variable_of.new.workspace.change.items) last.change c.in-Some.q c.in-Some.ensures
              (value_at c.blocking_variable_of.new.workspace.direction) c.in_ok-stopped.ensures.direction c.rises-up.result up_is c.in-Some-stopped.by
              (sym c.in-Some-stopped.is ∙ c.in_ok-stopped.ensures.blocking_variable),
          refl,
        ),
      ),
    )

pub returns-clause-turn : goal.returns-clause-turn
returns-clause-turn g c =
    let at : IsNonsingularBasis c.args.self.now.lp.now c.args.basis.now =
    record { is_basis = c.requires.rates.is_basis; nonsingular = c.requires.rates.nonsingular } in
    let last =
    direction_kept
    (objective_problem c.args.self.now.lp.now c.args.self.now.row) c.args.basis.now c.args.workspace.now c.blocking_variable_of.new.workspace
    c.requires.workspace c.in_ok-stopped.ensures.others c.in_ok-stopped.ensures.places in
    let up_is : c.rises-up.result ≡ face_up c.args.self.now.lp.now (value_at c.blocking_variable_of.new.workspace.change.items) c.in-Some.q =
    c.rises-up.ensures ∙ ap (λ (w : Workspace). face_up c.args.self.now.lp.now (value_at w.change.items) c.in-Some.q) (sym c.in_ok-stopped.ensures.others) in
    let left = c.if-left-eq0.false in
    let moves =
    face_moves c.args.self.now.lp.now c.args.self.now.row c.requires.fits.lawful c.requires.fits.row c.requires.fits.free c.args.theta c.args.basis.now at
    (value_at c.blocking_variable_of.new.workspace.point.items) last.point c.requires.optimal
    (value_at c.blocking_variable_of.new.workspace.change.items) last.change c.in-Some.q c.in-Some.ensures
    (value_at c.blocking_variable_of.new.workspace.direction) c.in_ok-stopped.ensures.direction c.rises-up.result up_is c.in-Some-stopped.by
    (sym c.in-Some-stopped.is ∙ c.in_ok-stopped.ensures.blocking_variable) in
    let pivot =
    face_pivot c.args.self.now.lp.now c.args.self.now.row c.requires.fits.lawful c.requires.fits.row c.requires.fits.free c.args.theta c.args.basis.now at
    (value_at c.blocking_variable_of.new.workspace.point.items) last.point c.requires.optimal
    (value_at c.blocking_variable_of.new.workspace.change.items) last.change c.in-Some.q c.in-Some.ensures
    (value_at c.blocking_variable_of.new.workspace.direction) c.in_ok-stopped.ensures.direction c.rises-up.result up_is c.in-Some-stopped.by
    (sym c.in-Some-stopped.is ∙ c.in_ok-stopped.ensures.blocking_variable) in
    let step =
    face_by_blocking_variable c.args.self.now.lp.now c.args.self.now.row c.requires.fits.lawful c.requires.fits.row c.requires.fits.free c.args.theta
    c.args.basis.now at
    (value_at c.blocking_variable_of.new.workspace.point.items) last.point c.requires.optimal
    (value_at c.blocking_variable_of.new.workspace.change.items) last.change c.in-Some.q c.in-Some.ensures
    (value_at c.blocking_variable_of.new.workspace.direction) c.in_ok-stopped.ensures.direction c.rises-up.result up_is c.in-Some-stopped.by
    (sym c.in-Some-stopped.is ∙ c.in_ok-stopped.ensures.blocking_variable) in
    let reach =
    step_reaches c.args.self.now.lp.now c.args.basis.now (value_at c.blocking_variable_of.new.workspace.point.items)
    (value_at c.blocking_variable_of.new.workspace.direction) c.in-Some.q c.in-Some-stopped.by step pivot in
    record {
      moves = moves;
      keeps =
          face_keeps c.args.self.now.lp.now c.args.self.now.row c.requires.fits.lawful c.requires.fits.row c.requires.fits.free c.args.theta c.args.basis.now at
          (value_at c.blocking_variable_of.new.workspace.point.items) last.point c.requires.optimal
          (value_at c.blocking_variable_of.new.workspace.change.items) last.change c.in-Some.q c.in-Some.ensures
          (value_at c.blocking_variable_of.new.workspace.direction) c.in_ok-stopped.ensures.direction c.rises-up.result up_is c.in-Some-stopped.by
          (sym c.in-Some-stopped.is ∙ c.in_ok-stopped.ensures.blocking_variable);
      ready =
          record {
            nonbasic = nonbasic c.args.self.now.lp.now c.args.self.now.row c.requires.fits.lawful c.requires.fits.row c.requires.fits.free c.args.theta
                c.args.basis.now at (value_at c.blocking_variable_of.new.workspace.point.items) last.point c.requires.optimal
                (value_at c.blocking_variable_of.new.workspace.change.items) last.change c.in-Some.q c.in-Some.ensures;
            direction =
                c.in_ok-stopped.ensures.direction;
            pivot = pivot;
            step = step;
          };
      is_left = omega (arith, left);
      refused = λ from before now e h.
          of_step c.args.self.now.lp.now c.args.self.now.row from c.requires.fits.no_change c.args.basis.now c.args.left before now e c.args.theta c.in-Some.q
          (face_enters c.args.self.now.lp.now c.args.self.now.row c.requires.fits.lawful c.requires.fits.row c.requires.fits.free c.args.theta
          c.args.basis.now at (value_at c.blocking_variable_of.new.workspace.point.items) last.point c.requires.optimal
          (value_at c.blocking_variable_of.new.workspace.change.items) last.change c.in-Some.q c.in-Some.ensures) c.in-Some-stopped.by moves
          (limit_apart c.args.self.now.lp.now c.in-Some-stopped.by.p c.in-Some-stopped.by.to reach.limit reach.is_limit).0 (omega (arith, left)) h;
    }

pub returns-clause-workspace : goal.returns-clause-workspace
returns-clause-workspace g c =
    let last =
    direction_kept
    (objective_problem c.args.self.now.lp.now c.args.self.now.row) c.args.basis.now c.args.workspace.now c.blocking_variable_of.new.workspace
    c.requires.workspace c.in_ok-stopped.ensures.others c.in_ok-stopped.ensures.places in
    last
