use Rattle.lp_definitions.specs.LinearProgram.{value_at}
use Rattle.lp_definitions.specs.Basis.{basics_of}
use Rattle.lp_laws.proofs.WaypointLaws.{keeps_same}
use Rattle.bounded_primal.specs.KeptPoints.{all_needed}
use Rattle.bounded_primal.proofs.Agreement.{needed_kept, needed_same}
use Rattle.bounded_primal.proofs.StepFacts.{after_agrees, after_exact}
use Rattle.bounded_primal.proofs.StepRefusals.{move_refused}
use Rattle.bounded_primal.proofs.step.step_over.Goals as goal

pub returns-in-Err-clause-waypoints : goal.returns-in-Err-clause-waypoints
returns-in-Err-clause-waypoints g c = keeps_same c.args.lp.now.matrix (basics_of c.args.basis.now) (g.R.Rates.state c.args.rates.now).waypoints

pub returns-in-Err-clause-overflow : goal.returns-in-Err-clause-overflow
returns-in-Err-clause-overflow g c =
    move_refused c.args.lp.now c.args.basis.now c.requires.step.point
    (value_at c.args.step.now.direction.now) c.args.step.now.q c.args.step.now.by.now c.requires.rates.is_basis c.requires.rates.nonsingular
    c.requires.nonbasic c.requires.direction c.requires.moves c.requires.step.is_step c.requires.step.is_point c.in-Err.evidence
    (value_at c.args.point.now) (all_needed c.args.kept) (needed_same c.args.lp.now c.args.basis.now c.requires.rates.is_basis
    c.requires.rates.nonsingular c.requires.step.point c.requires.step.is_point (value_at c.args.point.now) (all_needed c.args.kept) c.requires.point
    (λ is. c.requires.kept (needed_kept c.args.kept is))) (g.R.Rates.state c.args.rates.now).waypoints (g.R.Rates.state c.args.rates.now).waypoints
    c.in-Err.ensures.refused

pub returns-clause-point : goal.returns-clause-point
returns-clause-point g c =
    rw c.in_ok-change_basis.ensures.basis
    (after_agrees c.args.lp.now c.args.basis.now c.requires.step.point
    (value_at c.args.step.now.direction.now) c.args.step.now.q c.args.step.now.by.now c.requires.rates.is_basis c.requires.rates.nonsingular
    c.requires.nonbasic c.requires.direction c.requires.moves c.requires.step.is_step c.requires.step.is_point (value_at c.args.point.now)
    (value_at c.move_point.new.point) c.requires.point c.in-Ok.ensures.limited)

pub returns-clause-kept : goal.returns-clause-kept
returns-clause-kept g c all =
    rw c.in_ok-change_basis.ensures.basis
    (after_exact c.args.lp.now c.args.basis.now c.requires.step.point
    (value_at c.args.step.now.direction.now) c.args.step.now.q c.args.step.now.by.now c.requires.rates.is_basis c.requires.rates.nonsingular
    c.requires.nonbasic c.requires.direction c.requires.moves c.requires.step.is_step c.requires.step.is_point (value_at c.args.point.now)
    (value_at c.move_point.new.point) (c.requires.kept (c.in-Ok.ensures.kept all)) (c.in-Ok.ensures.moved all))
