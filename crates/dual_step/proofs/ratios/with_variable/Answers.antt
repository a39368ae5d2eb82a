use Rattle.std.proofs.Common.{◌≡◌, ◌-◌, true, false, sym, ◌∙◌, ap, subst, arith}
use Rattle.std.specs.Prelude.{Option, not}
use Rattle.exact_values.specs.Rational.{ℚ}
use Rattle.lp_definitions.specs.LinearProgram.{value_at}
use Rattle.simplex_definitions.specs.Moves.{lowers, signed}
use Rattle.dual_step.specs.Cheapest.{brings, IsBest}
use Rattle.dual_step.specs.declared.ratios.Candidate.{Candidate}
use Rattle.dual_step.proofs.BestRatio.{brings_apart, best_without, best_first, best_kept, best_refused}
use Rattle.dual_step.proofs.ratios.with_variable.Goals as goal
use Rattle.lp_laws.proofs.Places.{value_read}

pub returns-then-not-may_lower-clause-best : goal.returns-then-not-may_lower-clause-best
returns-then-not-may_lower-clause-best c =
    let rate_is : c.index-row-k.result ≡ value_at c.args.test.now.row.now c.args.k =
    value_read c.args.test.now.row.now c.args.k c.index-row-k.result (omega arith) c.index-row-k.is in
    let none : brings c.args.test.now.lp.now c.args.test.now.basis.now (value_at c.args.test.now.row.now) c.args.test.now.below c.args.k ≡ false
    = ap (λ (x : ℚ). lowers c.args.test.now.lp.now c.args.test.now.basis.now (λ _. x) c.args.k)
    (sym (c.counted.ensures ∙ ap (signed (not c.args.test.now.below)) rate_is)) ∙ sym c.may_lower.ensures ∙ c.if-not-may_lower.true in
    best_without c.args.test.now.lp.now c.args.test.now.basis.now (value_at c.args.test.now.prices.now)
    (value_at c.args.test.now.row.now) c.args.test.now.below c.args.k c.requires.variable c.args.best none c.requires.best

pub returns-in_default-clause-best : goal.returns-in_default-clause-best
returns-in_default-clause-best c =
    let price_is : c.index-prices-k.result ≡ value_at c.args.test.now.prices.now c.args.k =
    value_read c.args.test.now.prices.now c.args.k c.index-prices-k.result (omega arith) c.index-prices-k.is in
    let rate_is : c.index-row-k.result ≡ value_at c.args.test.now.row.now c.args.k =
    value_read c.args.test.now.row.now c.args.k c.index-row-k.result (omega arith) c.index-row-k.is in
    let may : brings c.args.test.now.lp.now c.args.test.now.basis.now (value_at c.args.test.now.row.now) c.args.test.now.below c.args.k ≡ true
    = ap (λ (x : ℚ). lowers c.args.test.now.lp.now c.args.test.now.basis.now (λ _. x) c.args.k)
    (sym (c.counted.ensures ∙ ap (signed (not c.args.test.now.below)) rate_is)) ∙ sym c.may_lower.ensures ∙ c.if-not-may_lower.false in
    best_first c.args.test.now.lp.now c.args.test.now.basis.now (value_at c.args.test.now.prices.now)
    (value_at c.args.test.now.row.now) c.args.test.now.below c.args.k c.requires.variable c.index-prices-k.result c.index-row-k.result price_is rate_is may
    (subst (λ (o : Option Candidate). IsBest c.args.test.now.lp.now c.args.test.now.basis.now (value_at c.args.test.now.prices.now)
    (value_at c.args.test.now.row.now) c.args.test.now.below (c.args.k - 1) o) c.in_default.is c.requires.best)

pub cheaper-requires-clause-best : goal.cheaper-requires-clause-best
cheaper-requires-clause-best c zero =
    let best =
    subst (λ (o : Option Candidate). IsBest c.args.test.now.lp.now c.args.test.now.basis.now (value_at c.args.test.now.prices.now)
    (value_at c.args.test.now.row.now) c.args.test.now.below (c.args.k - 1) o) c.in-Some.is c.requires.best in
    brings_apart c.args.test.now.lp.now c.args.test.now.basis.now (value_at c.args.test.now.prices.now)
    (value_at c.args.test.now.row.now) c.args.test.now.below c.in-Some.present.q best.candidate.restores_feasibility
    (sym best.candidate.is_rate ∙ zero)

pub cheaper-requires-clause-other : goal.cheaper-requires-clause-other
cheaper-requires-clause-other c zero =
    let rate_is : c.index-row-k.result ≡ value_at c.args.test.now.row.now c.args.k =
    value_read c.args.test.now.row.now c.args.k c.index-row-k.result (omega arith) c.index-row-k.is in
    let may : brings c.args.test.now.lp.now c.args.test.now.basis.now (value_at c.args.test.now.row.now) c.args.test.now.below c.args.k ≡ true
    = ap (λ (x : ℚ). lowers c.args.test.now.lp.now c.args.test.now.basis.now (λ _. x) c.args.k)
    (sym (c.counted.ensures ∙ ap (signed (not c.args.test.now.below)) rate_is)) ∙ sym c.may_lower.ensures ∙ c.if-not-may_lower.false in
    brings_apart c.args.test.now.lp.now c.args.test.now.basis.now (value_at c.args.test.now.prices.now)
    (value_at c.args.test.now.row.now) c.args.test.now.below c.args.k may (sym rate_is ∙ zero)

pub returns-in-Ok-clause-best : goal.returns-in-Ok-clause-best
returns-in-Ok-clause-best c =
    let price_is : c.index-prices-k.result ≡ value_at c.args.test.now.prices.now c.args.k =
    value_read c.args.test.now.prices.now c.args.k c.index-prices-k.result (omega arith) c.index-prices-k.is in
    let rate_is : c.index-row-k.result ≡ value_at c.args.test.now.row.now c.args.k =
    value_read c.args.test.now.row.now c.args.k c.index-row-k.result (omega arith) c.index-row-k.is in
    let may : brings c.args.test.now.lp.now c.args.test.now.basis.now (value_at c.args.test.now.row.now) c.args.test.now.below c.args.k ≡ true
    = ap (λ (x : ℚ). lowers c.args.test.now.lp.now c.args.test.now.basis.now (λ _. x) c.args.k)
    (sym (c.counted.ensures ∙ ap (signed (not c.args.test.now.below)) rate_is)) ∙ sym c.may_lower.ensures ∙ c.if-not-may_lower.false in
    best_kept c.args.test.now.lp.now c.args.test.now.basis.now (value_at c.args.test.now.prices.now)
    (value_at c.args.test.now.row.now) c.args.test.now.below c.args.k c.requires.variable c.index-prices-k.result c.index-row-k.result price_is rate_is may
    c.in-Some.present c.in-Ok.now c.in-Ok.ensures.cheaper
    (subst (λ (o : Option Candidate). IsBest c.args.test.now.lp.now c.args.test.now.basis.now (value_at c.args.test.now.prices.now)
    (value_at c.args.test.now.row.now) c.args.test.now.below (c.args.k - 1) o) c.in-Some.is c.requires.best)

pub returns-in-Err-clause-refused : goal.returns-in-Err-clause-refused
returns-in-Err-clause-refused c =
    let price_is : c.index-prices-k.result ≡ value_at c.args.test.now.prices.now c.args.k =
    value_read c.args.test.now.prices.now c.args.k c.index-prices-k.result (omega arith) c.index-prices-k.is in
    let rate_is : c.index-row-k.result ≡ value_at c.args.test.now.row.now c.args.k =
    value_read c.args.test.now.row.now c.args.k c.index-row-k.result (omega arith) c.index-row-k.is in
    let may : brings c.args.test.now.lp.now c.args.test.now.basis.now (value_at c.args.test.now.row.now) c.args.test.now.below c.args.k ≡ true
    = ap (λ (x : ℚ). lowers c.args.test.now.lp.now c.args.test.now.basis.now (λ _. x) c.args.k)
    (sym (c.counted.ensures ∙ ap (signed (not c.args.test.now.below)) rate_is)) ∙ sym c.may_lower.ensures ∙ c.if-not-may_lower.false in
    best_refused c.args.test.now.lp.now c.args.test.now.basis.now (value_at c.args.test.now.prices.now)
    (value_at c.args.test.now.row.now) c.args.test.now.below c.args.k c.requires.variable c.index-prices-k.result c.index-row-k.result price_is rate_is may
    c.args.test.now.r c.in-Some.present c.in-Err.evidence
    (subst (λ (o : Option Candidate). IsBest c.args.test.now.lp.now c.args.test.now.basis.now (value_at c.args.test.now.prices.now)
    (value_at c.args.test.now.row.now) c.args.test.now.below (c.args.k - 1) o) c.in-Some.is c.requires.best)
    c.in-Err.ensures.refused
