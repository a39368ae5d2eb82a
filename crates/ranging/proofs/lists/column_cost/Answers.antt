use Rattle.std.proofs.Common.{◌≡◌, ◌-◌, rules, arith, sym, ap, ◌∙◌, subst}
use Rattle.std.specs.Prelude.{◌↔◌}
use Rattle.lp_definitions.specs.LinearProgram.{value_at, cost}
use Rattle.ranging.specs.Intervals.{IsIn, taken_from, DifferenceRefused}
use Rattle.lp_definitions.specs.Basis.{IsOptimalBasis}
use Rattle.simplex_definitions.specs.Ranges.{with_cost}
use Rattle.ranging.specs.Tables.{AreEndsOfRow}
use Rattle.ranging.proofs.Results.{IfOk-map}
use Rattle.ranging.proofs.Distances.{ends_read}
use Rattle.ranging.proofs.AtBasis.{basic_by_test, nonbasic_by_test}
use Rattle.ranging.proofs.Items.{column_exact, basic_cost_refused, own_ends_are, nonbasic_cost_refused}
use Rattle.ranging.proofs.lists.column_cost.Goals as goal
use Rattle.basis_values.proofs.TermLaws.{IfErr-map}
use Rattle.lp_laws.proofs.Places.{value_read}

pub returns-then-stands_basic-clause-interval : goal.returns-then-stands_basic-clause-interval
returns-then-stands_basic-clause-interval c =
    let basic =
    basic_by_test c.args.at.now.lp.now c.args.at.now.basis.now c.args.k c.stands_basic.result c.requires.optimum.optimal.is_basis.counted c.requires.variable
    c.stands_basic.ensures c.if-stands_basic.true in
    let past = c.requires.past in
    let rows : c.lp.inside.rows ≡ c.args.at.now.lp.now.matrix.rows = search rules in
    let costs : c.cost.result ≡ cost c.args.at.now.lp.now (c.args.k - c.args.at.now.lp.now.matrix.rows) =
    c.cost.ensures ∙ ap (λ m. cost c.args.at.now.lp.now (c.args.k - m)) rows in
    let row = c.requires.optimum.lawful.objective_row in
    let of_row : AreEndsOfRow c.args.at.now.lp.now c.args.at.now.basis.now c.args.k c.index-found-k.result =
    subst (AreEndsOfRow c.args.at.now.lp.now c.args.at.now.basis.now c.args.k)
    (sym (ends_read c.args.found.now c.args.k c.index-found-k.result (omega arith) c.index-found-k.is))
    (c.requires.found.each c.args.k c.requires.variable.0 c.requires.variable.1 basic (λ e. absurd (omega (arith, e, row.1, past)))) in
    IfOk-map c.cost_interval.result
    (λ interval is t. subst (λ i. IsIn i t ↔ IsOptimalBasis (with_cost c.args.at.now.lp.now c.args.k t) c.args.at.now.basis.now)
    (sym (is ∙ ap (λ v. taken_from v c.index-found-k.result) costs))
    (column_exact c.args.at.now.lp.now c.args.at.now.basis.now c.requires.optimum.lawful c.requires.optimum.no_change c.requires.optimum.optimal c.args.k
    c.requires.variable c.requires.past c.index-found-k.result of_row t)) c.cost_interval.ensures.interval

pub returns-then-stands_basic-clause-refused : goal.returns-then-stands_basic-clause-refused
returns-then-stands_basic-clause-refused c =
    let basic =
    basic_by_test c.args.at.now.lp.now c.args.at.now.basis.now c.args.k c.stands_basic.result c.requires.optimum.optimal.is_basis.counted c.requires.variable
    c.stands_basic.ensures c.if-stands_basic.true in
    let past = c.requires.past in
    let rows : c.lp.inside.rows ≡ c.args.at.now.lp.now.matrix.rows = search rules in
    let costs : c.cost.result ≡ cost c.args.at.now.lp.now (c.args.k - c.args.at.now.lp.now.matrix.rows) =
    c.cost.ensures ∙ ap (λ m. cost c.args.at.now.lp.now (c.args.k - m)) rows in
    let row = c.requires.optimum.lawful.objective_row in
    let of_row : AreEndsOfRow c.args.at.now.lp.now c.args.at.now.basis.now c.args.k c.index-found-k.result =
    subst (AreEndsOfRow c.args.at.now.lp.now c.args.at.now.basis.now c.args.k)
    (sym (ends_read c.args.found.now c.args.k c.index-found-k.result (omega arith) c.index-found-k.is))
    (c.requires.found.each c.args.k c.requires.variable.0 c.requires.variable.1 basic (λ e. absurd (omega (arith, e, row.1, past)))) in
    IfErr-map c.cost_interval.result
    (λ e h. basic_cost_refused c.args.at.now.lp.now c.args.at.now.basis.now c.requires.optimum.lawful c.requires.optimum.no_change c.requires.optimum.optimal
    c.args.k (c.requires.variable, basic) c.requires.past c.index-found-k.result of_row e
    (subst (λ v. DifferenceRefused v c.index-found-k.result c.args.k e) costs h)) c.cost_interval.ensures.refused

pub returns-clause-interval : goal.returns-clause-interval
returns-clause-interval c =
    let out =
    nonbasic_by_test c.args.at.now.lp.now c.args.at.now.basis.now c.args.k c.stands_basic.result c.requires.optimum.optimal.is_basis.counted
    c.requires.variable c.stands_basic.ensures c.if-stands_basic.false in
    IfOk-map c.nonbasic_cost.result
    (λ interval is t. subst (λ i. IsIn i t ↔ IsOptimalBasis (with_cost c.args.at.now.lp.now c.args.k t) c.args.at.now.basis.now) (sym is)
    (column_exact c.args.at.now.lp.now c.args.at.now.basis.now c.requires.optimum.lawful c.requires.optimum.no_change c.requires.optimum.optimal c.args.k
    c.requires.variable c.requires.past _
    (own_ends_are c.args.at.now.lp.now c.args.at.now.basis.now c.requires.optimum.lawful c.requires.optimum.no_change c.requires.optimum.optimal
    (value_at c.args.at.now.prices.now) c.requires.optimum.prices c.args.k (c.requires.variable, out) c.index-prices-k.result
    (value_read c.args.at.now.prices.now c.args.k c.index-prices-k.result
    (omega (arith, c.requires.optimum.price_places)) c.index-prices-k.is)) t)) c.nonbasic_cost.ensures.interval

pub returns-clause-refused : goal.returns-clause-refused
returns-clause-refused c =
    let out =
    nonbasic_by_test c.args.at.now.lp.now c.args.at.now.basis.now c.args.k c.stands_basic.result c.requires.optimum.optimal.is_basis.counted
    c.requires.variable c.stands_basic.ensures c.if-stands_basic.false in
    IfErr-map c.nonbasic_cost.result
    (λ e h. nonbasic_cost_refused c.args.at.now.lp.now c.args.at.now.basis.now c.requires.optimum.lawful c.requires.optimum.no_change c.requires.optimum.optimal
    (value_at c.args.at.now.prices.now) c.requires.optimum.prices c.args.k (c.requires.variable, out) c.index-prices-k.result
    (value_read c.args.at.now.prices.now c.args.k c.index-prices-k.result
    (omega (arith, c.requires.optimum.price_places)) c.index-prices-k.is) c.requires.past e h) c.nonbasic_cost.ensures.refused
