use Rattle.std.proofs.Common.{◌≡◌, Err, rules, sym, ◌∙◌, ap, subst, arith}
use Rattle.lp_definitions.specs.LinearProgram.{value_at}
use Rattle.lp_definitions.specs.Basis.{Basics, basics_of, exchanged}
use Rattle.lp_definitions.specs.Waypoints.{KeepsWaypoints}
use Rattle.lp_laws.proofs.WaypointLaws.{keeps_same}
use Rattle.bounded_primal.proofs.StepFacts.{reaches, leaver_basic, leaver_status, basics_replaced, has_replaced, basics_flipped, has_flipped, flip_is}
use Rattle.bounded_primal.proofs.StepRefusals.{exchange_refused, keeps_to}
use Rattle.bounded_primal.proofs.step.change_basis.Goals as goal

pub returns-then-by-q-clause-basis : goal.returns-then-by-q-clause-basis
returns-then-by-q-clause-basis g c =
    c.flip.ensures
    ∙ flip_is c.args.lp.now c.args.basis.now c.requires.step.point
    (value_at c.args.step.now.direction.now) c.args.step.now.q c.args.step.now.by.now c.requires.rates.is_basis c.requires.rates.nonsingular
    c.requires.nonbasic c.requires.direction c.requires.moves c.requires.step.is_step c.if-by-q.true

pub returns-then-by-q-clause-rates : goal.returns-then-by-q-clause-rates
returns-then-by-q-clause-rates g c =
    rw c.flip.ensures
    (has_flipped c.args.lp.now c.args.basis.now c.requires.step.point
    (value_at c.args.step.now.direction.now) c.args.step.now.q c.args.step.now.by.now c.requires.rates.is_basis c.requires.rates.nonsingular
    c.requires.nonbasic c.requires.direction c.requires.moves c.requires.step.is_step (g.R.Rates.state c.args.rates.now).matrix
    (g.R.Rates.state c.args.rates.now).basics c.if-by-q.true c.requires.rates.same_matrix c.requires.rates.same_basics)

pub returns-then-by-q-clause-waypoints : goal.returns-then-by-q-clause-waypoints
returns-then-by-q-clause-waypoints g c =
    subst (λ (b : Basics). KeepsWaypoints c.args.lp.now.matrix (basics_of c.args.basis.now) (g.R.Rates.state c.args.rates.now).waypoints b
    (g.R.Rates.state c.args.rates.now).waypoints)
    (sym (ap basics_of c.flip.ensures
    ∙ basics_flipped c.args.lp.now c.args.basis.now c.requires.step.point
    (value_at c.args.step.now.direction.now) c.args.step.now.q c.args.step.now.by.now c.requires.rates.is_basis c.requires.rates.nonsingular
    c.requires.nonbasic c.requires.direction c.requires.moves c.requires.step.is_step))
    (keeps_same c.args.lp.now.matrix (basics_of c.args.basis.now) (g.R.Rates.state c.args.rates.now).waypoints)

pub exchange_along-requires-clause-leaves : goal.exchange_along-requires-clause-leaves
exchange_along-requires-clause-leaves g c =
    rw (c.requires.rates.same_matrix, c.requires.rates.same_basics)
    (leaver_basic c.args.lp.now c.args.basis.now c.requires.step.point
    (value_at c.args.step.now.direction.now) c.args.step.now.q c.args.step.now.by.now c.requires.rates.is_basis c.requires.rates.nonsingular
    c.requires.nonbasic c.requires.direction c.requires.moves c.requires.step.is_step c.if-by-q.false)

pub exchange_along-requires-clause-enters : goal.exchange_along-requires-clause-enters
exchange_along-requires-clause-enters g c = rw (c.requires.rates.same_matrix, c.requires.rates.same_basics) c.requires.nonbasic

pub exchange_along-requires-clause-direction : goal.exchange_along-requires-clause-direction
exchange_along-requires-clause-direction g c = rw (c.requires.rates.same_matrix, c.requires.rates.same_basics) c.requires.direction

pub exchange_along-requires-clause-places : goal.exchange_along-requires-clause-places
exchange_along-requires-clause-places g c = rw c.requires.rates.same_matrix c.requires.direction_places

pub returns-in_err-exchange_along-clause-overflow : goal.returns-in_err-exchange_along-clause-overflow
returns-in_err-exchange_along-clause-overflow g c =
    let is_err : c.from_residual.result ≡ Err c.in_err-exchange_along.field-0.0 = search rules in
    rw is_err (exchange_refused c.args.lp.now c.args.basis.now c.args.step.now.q c.args.step.now.by.now (g.R.Rates.state c.args.rates.now).matrix
    (g.R.Rates.state c.args.rates.now).basics (g.R.Rates.state c.exchange_along.new.self).basics
    (g.R.Rates.state c.args.rates.now).waypoints
    (g.R.Rates.state c.exchange_along.new.self).waypoints c.in_err-exchange_along.field-0.0 c.requires.rates c.in_err-exchange_along.ensures.err
    c.exchange_along.ensures.waypoints c.in_err-exchange_along.ensures.overflow)

pub replace-requires-clause-p_low : goal.replace-requires-clause-p_low
replace-requires-clause-p_low g c =
    (reaches c.args.lp.now c.args.basis.now c.requires.step.point
    (value_at c.args.step.now.direction.now) c.args.step.now.q c.args.step.now.by.now c.requires.rates.is_basis c.requires.rates.nonsingular
    c.requires.nonbasic c.requires.direction c.requires.moves c.requires.step.is_step).is_variable.0

pub replace-requires-clause-leaves : goal.replace-requires-clause-leaves
replace-requires-clause-leaves g c =
    leaver_status c.args.lp.now c.args.basis.now c.requires.step.point
    (value_at c.args.step.now.direction.now) c.args.step.now.q c.args.step.now.by.now c.requires.rates.is_basis c.requires.rates.nonsingular
    c.requires.nonbasic c.requires.direction c.requires.moves c.requires.step.is_step c.if-by-q.false

pub returns-clause-rates : goal.returns-clause-rates
returns-clause-rates g c =
    rw c.replace.ensures
    (has_replaced c.args.lp.now c.args.basis.now c.requires.step.point
    (value_at c.args.step.now.direction.now) c.args.step.now.q c.args.step.now.by.now c.requires.rates.is_basis c.requires.rates.nonsingular
    c.requires.nonbasic c.requires.direction c.requires.moves c.requires.step.is_step (g.R.Rates.state c.exchange_along.new.self).matrix
    (g.R.Rates.state c.exchange_along.new.self).basics c.if-by-q.false (c.exchange_along.ensures.same_matrix ∙ c.requires.rates.same_matrix)
    (c.in_ok-exchange_along.ensures.ok ∙ ap (λ (b : Basics). exchanged b c.args.step.now.by.now.p c.args.step.now.q) c.requires.rates.same_basics))

pub returns-clause-waypoints : goal.returns-clause-waypoints
returns-clause-waypoints g c =
    keeps_to c.args.lp.now c.args.basis.now c.replace.new.self (g.R.Rates.state c.args.rates.now).matrix (g.R.Rates.state c.args.rates.now).basics
    (g.R.Rates.state c.exchange_along.new.self).basics (g.R.Rates.state c.args.rates.now).waypoints
    (g.R.Rates.state c.exchange_along.new.self).waypoints c.requires.rates
    (c.in_ok-exchange_along.ensures.ok ∙ ap (λ (b : Basics). exchanged b c.args.step.now.by.now.p c.args.step.now.q) c.requires.rates.same_basics
    ∙ sym (ap basics_of c.replace.ensures
    ∙ basics_replaced c.args.lp.now c.args.basis.now c.requires.step.point
    (value_at c.args.step.now.direction.now) c.args.step.now.q c.args.step.now.by.now c.requires.rates.is_basis c.requires.rates.nonsingular
    c.requires.nonbasic c.requires.direction c.requires.moves c.requires.step.is_step))
    c.exchange_along.ensures.waypoints

pub replace-requires-clause-p_high : goal.replace-requires-clause-p_high
replace-requires-clause-p_high g c =
    omega (
      arith,
      (reaches c.args.lp.now c.args.basis.now c.requires.step.point
          (value_at c.args.step.now.direction.now) c.args.step.now.q c.args.step.now.by.now c.requires.rates.is_basis c.requires.rates.nonsingular
          c.requires.nonbasic c.requires.direction c.requires.moves c.requires.step.is_step).is_variable.1,
      c.requires.rates.is_basis.counted,
    )
