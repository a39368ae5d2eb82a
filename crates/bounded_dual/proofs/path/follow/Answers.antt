use Rattle.std.proofs.Common.{List, Ok, refl, sym, subst, ◌∙◌}
use Rattle.std.proofs.lemmas.Result.{err_from_is_err_and}
use Rattle.exact_values.specs.Rational.{ℚ}
use Rattle.lp_definitions.specs.LinearProgram.{value_at}
use Rattle.lp_definitions.specs.Basis.{ArePricesOf}
use Rattle.lp_model.specs.declared.reports.Outcome.TheVariants.{Crossed}
use Rattle.simplex_definitions.specs.DualPath.{dual_turn}
use Rattle.bounded_primal.proofs.PathWalk.{begins_at, follows, stays}
use Rattle.bounded_dual.specs.declared.moves.DualStop.{DualStop}
use Rattle.bounded_dual.proofs.Ending.{crossed_call, all_right, one_wrong}
use Rattle.bounded_dual.proofs.WalkSteps.{stops_at_once, follows_before, stops_before}
use Rattle.bounded_dual.proofs.CompleteDual.{ends_result}
use Rattle.bounded_dual.proofs.path.follow.Goals as goal

pub returns-in_err-workspace-clause-waypoints : goal.returns-in_err-workspace-clause-waypoints
returns-in_err-workspace-clause-waypoints g c = stays dual_turn c.args.lp.now c.args.basis.now (g.R.Rates.state c.args.rates.now).waypoints

pub returns-in_err-fill_prices-clause-stops : goal.returns-in_err-fill_prices-clause-stops
returns-in_err-fill_prices-clause-stops g c =
    let p = err_from_is_err_and c.from_residual-in_err-fill_prices.result c.from_residual-in_err-fill_prices.ensures.1 in
    rw (p.1, p.2)
    (stops_at_once c.args.lp.now c.requires.no_change c.args.basis.now c.args.limit (g.R.Rates.state c.args.rates.now).waypoints
    (g.R.Rates.state c.fill_prices.new.rates).waypoints c.in_err-fill_prices.field-0.0 c.in_err-fill_prices.ensures.overflow)

pub returns-in_err-fill_prices-clause-waypoints : goal.returns-in_err-fill_prices-clause-waypoints
returns-in_err-fill_prices-clause-waypoints g c =
    follows dual_turn c.args.lp.now c.args.basis.now (g.R.Rates.state c.args.rates.now).waypoints c.args.basis.now
    (g.R.Rates.state c.fill_prices.new.rates).waypoints 0
    (begins_at dual_turn c.args.lp.now c.args.basis.now (g.R.Rates.state c.args.rates.now).waypoints
    (g.R.Rates.state c.fill_prices.new.rates).waypoints c.in_err-fill_prices.ensures.rates.1)

pub returns-in-Some-clause-stops : goal.returns-in-Some-clause-stops
returns-in-Some-clause-stops g c =
    let priced : ArePricesOf c.args.lp.now c.args.basis.now (value_at c.deref.result.now) =
    subst (λ (xs : List ℚ). ArePricesOf c.args.lp.now c.args.basis.now (value_at xs)) (sym c.deref.ensures.value) c.in_ok-fill_prices.ensures.prices in (
      one_wrong c.args.lp.now c.args.basis.now (record { is_basis = c.requires.rates.is_basis; nonsingular = c.requires.rates.nonsingular })
          (value_at c.deref.result.now) priced c.in-Some.j c.in-Some.ensures,
      refl,
    )

pub returns-in-Some-clause-waypoints : goal.returns-in-Some-clause-waypoints
returns-in-Some-clause-waypoints g c =
    follows dual_turn c.args.lp.now c.args.basis.now (g.R.Rates.state c.args.rates.now).waypoints c.args.basis.now
    (g.R.Rates.state c.fill_prices.new.rates).waypoints 0
    (begins_at dual_turn c.args.lp.now c.args.basis.now (g.R.Rates.state c.args.rates.now).waypoints
    (g.R.Rates.state c.fill_prices.new.rates).waypoints c.in_ok-fill_prices.ensures.rates.1)

pub returns-in-Some-crossed-clause-ends : goal.returns-in-Some-crossed-clause-ends
returns-in-Some-crossed-clause-ends g c =
    let priced : ArePricesOf c.args.lp.now c.args.basis.now (value_at c.deref.result.now) =
    subst (λ (xs : List ℚ). ArePricesOf c.args.lp.now c.args.basis.now (value_at xs)) (sym c.deref.ensures.value) c.in_ok-fill_prices.ensures.prices in
    let right =
    all_right c.args.lp.now c.args.basis.now (record { is_basis = c.requires.rates.is_basis; nonsingular = c.requires.rates.nonsingular })
    (value_at c.deref.result.now) priced (sym c.in_default.is ∙ c.wrong_price.ensures) in
    let call =
    crossed_call c.args.lp.now c.args.basis.now (record { is_basis = c.requires.rates.is_basis; nonsingular = c.requires.rates.nonsingular })
    (value_at c.deref.result.now) priced (g.R.Rates.state c.args.rates.now).waypoints
    (g.R.Rates.state c.fill_prices.new.rates).waypoints c.in_ok-fill_prices.ensures.rates.1 c.in-Some-crossed.k c.args.limit c.in-Some-crossed.ensures in
    ends_result c.args.lp.now c.requires.lawful c.requires.no_change (g.R.Rates.state c.args.rates.now).matrix
    (g.R.Rates.state c.args.rates.now).basics c.args.basis.now c.requires.rates right c.args.basis.now c.args.limit {E = DualStop}
    (Ok (Crossed c.in-Some-crossed.k)) call

pub returns-in-Some-crossed-clause-waypoints : goal.returns-in-Some-crossed-clause-waypoints
returns-in-Some-crossed-clause-waypoints g c =
    follows dual_turn c.args.lp.now c.args.basis.now (g.R.Rates.state c.args.rates.now).waypoints c.args.basis.now
    (g.R.Rates.state c.fill_prices.new.rates).waypoints 0
    (begins_at dual_turn c.args.lp.now c.args.basis.now (g.R.Rates.state c.args.rates.now).waypoints
    (g.R.Rates.state c.fill_prices.new.rates).waypoints c.in_ok-fill_prices.ensures.rates.1)

pub walk-requires-clause-right : goal.walk-requires-clause-right
walk-requires-clause-right g c =
    let priced : ArePricesOf c.args.lp.now c.args.basis.now (value_at c.deref.result.now) =
    subst (λ (xs : List ℚ). ArePricesOf c.args.lp.now c.args.basis.now (value_at xs)) (sym c.deref.ensures.value) c.in_ok-fill_prices.ensures.prices in
    all_right c.args.lp.now c.args.basis.now (record { is_basis = c.requires.rates.is_basis; nonsingular = c.requires.rates.nonsingular })
    (value_at c.deref.result.now) priced (sym c.in_default.is ∙ c.wrong_price.ensures)

pub returns-clause-ends : goal.returns-clause-ends
returns-clause-ends g c =
    let priced : ArePricesOf c.args.lp.now c.args.basis.now (value_at c.deref.result.now) =
    subst (λ (xs : List ℚ). ArePricesOf c.args.lp.now c.args.basis.now (value_at xs)) (sym c.deref.ensures.value) c.in_ok-fill_prices.ensures.prices in
    let right =
    all_right c.args.lp.now c.args.basis.now (record { is_basis = c.requires.rates.is_basis; nonsingular = c.requires.rates.nonsingular })
    (value_at c.deref.result.now) priced (sym c.in_default.is ∙ c.wrong_price.ensures) in
    ends_result c.args.lp.now c.requires.lawful c.requires.no_change (g.R.Rates.state c.args.rates.now).matrix
    (g.R.Rates.state c.args.rates.now).basics c.args.basis.now c.requires.rates right c.walk.new.basis c.args.limit c.walk.result c.walk.ensures.ends

pub returns-clause-stops : goal.returns-clause-stops
returns-clause-stops g c =
    stops_before c.args.lp.now c.args.basis.now (g.R.Rates.state c.args.rates.now).waypoints (g.R.Rates.state c.fill_prices.new.rates).waypoints
    c.in_ok-fill_prices.ensures.rates.1 c.walk.new.basis c.args.limit
    (g.R.Rates.state c.walk.new.rates).waypoints c.walk.result c.walk.ensures.stops

pub returns-clause-waypoints : goal.returns-clause-waypoints
returns-clause-waypoints g c =
    follows_before c.args.lp.now c.args.basis.now (g.R.Rates.state c.args.rates.now).waypoints (g.R.Rates.state c.fill_prices.new.rates).waypoints
    c.in_ok-fill_prices.ensures.rates.1 c.walk.new.basis
    (g.R.Rates.state c.walk.new.rates).waypoints c.walk.ensures.waypoints
