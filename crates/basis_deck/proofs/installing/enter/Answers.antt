use Rattle.std.proofs.Common.{◌≡◌, ◌∙◌, sym, true}
use Rattle.std.proofs.lemmas.Result.{err_from_is_err_and}
use Rattle.lp_definitions.specs.Basis.{basics_of, is_in}
use Rattle.basis_deck.proofs.OnWay.{column_stops, singular, pivot, engine_entered, exchange_stops}
use Rattle.basis_deck.proofs.installing.enter.Goals as goal

pub returns-in_err-column-clause-stops : goal.returns-in_err-column-clause-stops
returns-in_err-column-clause-stops g c =
    let p = err_from_is_err_and c.from_residual.result c.from_residual.ensures.1 in
    rw (p.1, p.2)
    (column_stops c.args.lp.now.matrix (basics_of c.args.basis.now) (g.E.Rates.state c.args.engine.now).matrix (g.E.Rates.state c.args.engine.now).basics
    (g.E.Rates.state c.args.engine.now).waypoints c.args.k
    c.requires.same_matrix c.requires.under_way c.column.new.out (g.E.Rates.state c.column.new.self).basics
    (g.E.Rates.state c.column.new.self).waypoints c.in_err-column.field-0.0
    c.column.ensures.kept.same_basics c.column.ensures.kept.waypoints c.in_err-column.ensures.overflow)

pub returns-in_default-clause-stops : goal.returns-in_default-clause-stops
returns-in_default-clause-stops g c =
    let mark : is_in (basics_of c.args.basis.now) c.args.k ≡ true = sym c.stands_basic.ensures ∙ c.if-not-stands_basic.false in
    singular c.args.lp.now.matrix (basics_of c.args.basis.now) (g.E.Rates.state c.args.engine.now).matrix (g.E.Rates.state c.args.engine.now).basics
    (g.E.Rates.state c.args.engine.now).waypoints c.args.k
    c.requires.same_matrix c.requires.under_way c.requires.column c.requires.variable mark
    (g.E.Rates.state c.column.new.self).matrix (g.E.Rates.state c.column.new.self).basics
    (g.E.Rates.state c.column.new.self).waypoints c.column.ensures.kept.same_matrix c.column.ensures.kept.same_basics c.column.ensures.kept.waypoints
    c.column.new.out c.in_ok-column.ensures.direction c.in_default.ensures

pub exchange-requires-clause-pivot : goal.exchange-requires-clause-pivot
exchange-requires-clause-pivot g c =
    let mark : is_in (basics_of c.args.basis.now) c.args.k ≡ true = sym c.stands_basic.ensures ∙ c.if-not-stands_basic.false in
    pivot c.args.lp.now.matrix (basics_of c.args.basis.now) (g.E.Rates.state c.args.engine.now).matrix (g.E.Rates.state c.args.engine.now).basics
    (g.E.Rates.state c.args.engine.now).waypoints c.args.k
    c.requires.same_matrix c.requires.under_way c.requires.column c.requires.variable mark
    (g.E.Rates.state c.column.new.self).matrix (g.E.Rates.state c.column.new.self).basics
    (g.E.Rates.state c.column.new.self).waypoints c.column.ensures.kept.same_matrix c.column.ensures.kept.same_basics c.column.ensures.kept.waypoints
    c.column.new.out c.in_ok-column.ensures.direction c.in-Some.p c.in-Some.ensures

pub returns-in_err-exchange-clause-stops : goal.returns-in_err-exchange-clause-stops
returns-in_err-exchange-clause-stops g c =
    let p = err_from_is_err_and c.from_residual-in_err-exchange.result c.from_residual-in_err-exchange.ensures.1 in
    let mark : is_in (basics_of c.args.basis.now) c.args.k ≡ true = sym c.stands_basic.ensures ∙ c.if-not-stands_basic.false in
    rw (p.1, p.2)
    (exchange_stops c.args.lp.now.matrix (basics_of c.args.basis.now) (g.E.Rates.state c.args.engine.now).matrix (g.E.Rates.state c.args.engine.now).basics
    (g.E.Rates.state c.args.engine.now).waypoints c.args.k
    c.requires.same_matrix c.requires.under_way c.requires.column c.requires.variable mark
    (g.E.Rates.state c.column.new.self).matrix (g.E.Rates.state c.column.new.self).basics
    (g.E.Rates.state c.column.new.self).waypoints c.column.ensures.kept.same_matrix c.column.ensures.kept.same_basics c.column.ensures.kept.waypoints
    c.column.new.out c.in_ok-column.ensures.direction c.in-Some.p c.in-Some.ensures
    (g.E.Rates.state c.exchange.new.self).basics
    (g.E.Rates.state c.exchange.new.self).waypoints c.in_err-exchange.field-0.0 c.in_err-exchange.ensures.err c.exchange.ensures.waypoints
    c.in_err-exchange.ensures.overflow)

pub returns-clause-under_way : goal.returns-clause-under_way
returns-clause-under_way g c =
    let mark : is_in (basics_of c.args.basis.now) c.args.k ≡ true = sym c.stands_basic.ensures ∙ c.if-not-stands_basic.false in
    engine_entered c.args.lp.now.matrix (basics_of c.args.basis.now) (g.E.Rates.state c.args.engine.now).matrix (g.E.Rates.state c.args.engine.now).basics
    (g.E.Rates.state c.args.engine.now).waypoints c.args.k
    c.requires.same_matrix c.requires.under_way c.requires.column c.requires.variable mark
    (g.E.Rates.state c.column.new.self).matrix (g.E.Rates.state c.column.new.self).basics
    (g.E.Rates.state c.column.new.self).waypoints c.column.ensures.kept.same_matrix c.column.ensures.kept.same_basics c.column.ensures.kept.waypoints
    c.column.new.out c.in_ok-column.ensures.direction c.in-Some.p c.in-Some.ensures
    (g.E.Rates.state c.exchange.new.self).basics (g.E.Rates.state c.exchange.new.self).waypoints c.in_ok-exchange.ensures.ok c.exchange.ensures.waypoints
