use Rattle.std.proofs.Common.{◌≡◌, ◌∙◌, Err, rules, arith, sym, subst}
use Rattle.std.specs.Prelude.{Some}
use Rattle.exact_values.specs.Rational.{ℚ}
use Rattle.simplex_definitions.specs.Moves.{signed}
use Rattle.basis_values.specs.Reach.{IsAhead}
use Rattle.lp_definitions.specs.LinearProgram.{value_at}
use Rattle.basis_values.proofs.Lengths.{distance_refused, change_refused, length_is, signed_apart}
use Rattle.basis_values.proofs.reach.length_to.Goals as goal
use Rattle.lp_laws.proofs.Places.{value_read}

pub returns-in_err-distance-clause-refused : goal.returns-in_err-distance-clause-refused
returns-in_err-distance-clause-refused c =
    let is_err : c.from_residual.result ≡ Err c.in_err-distance.field-0.0 = search rules in
    rw is_err (distance_refused c.args.lp.now (value_at c.args.point.now)
    (value_at c.args.direction.now) c.args.up c.args.q c.args.k c.in-Some.ahead c.reduced-rate.result c.reduced-value.result
    (c.reduced-rate.ensures ∙ value_read c.args.direction.now c.args.k c.index-direction-k.result (omega arith) c.index-direction-k.is)
    (subst (λ (x : ℚ). IsAhead c.args.lp.now (λ _. signed c.args.up x) c.args.k (Some c.in-Some.ahead)) (sym c.reduced-rate.ensures) c.in-Some.ensures)
    (c.reduced-value.ensures ∙ value_read c.args.point.now c.args.k c.index-point-k.result (omega arith) c.index-point-k.is)
    c.formula.result c.in_err-distance.field-0.0 c.formula.ensures c.in_err-distance.ensures.refused)

pub quotient-requires : goal.quotient-requires
quotient-requires c = λ e. signed_apart c.args.up c.index-direction-k.result c.in-Some.ensures.3 (sym c.reduced-rate.ensures ∙ e)

pub returns-in_err-change-clause-refused : goal.returns-in_err-change-clause-refused
returns-in_err-change-clause-refused c =
    let is_err : c.from_residual-in_err-change.result ≡ Err c.in_err-change.field-0.0 = search rules in
    rw is_err (change_refused c.args.lp.now (value_at c.args.point.now)
    (value_at c.args.direction.now) c.args.up c.args.q c.args.k c.in-Some.ahead c.reduced-rate.result c.reduced-value.result
    (c.reduced-rate.ensures ∙ value_read c.args.direction.now c.args.k c.index-direction-k.result (omega arith) c.index-direction-k.is)
    (subst (λ (x : ℚ). IsAhead c.args.lp.now (λ _. signed c.args.up x) c.args.k (Some c.in-Some.ahead)) (sym c.reduced-rate.ensures) c.in-Some.ensures)
    (c.reduced-value.ensures ∙ value_read c.args.point.now c.args.k c.index-point-k.result (omega arith) c.index-point-k.is)
    c.formula-2.result c.in_err-change.field-0.0 c.in_ok-distance.distance c.in_ok-distance.ensures.value c.formula-2.ensures c.in_err-change.ensures.refused
    c.in_err-change.ensures.divides)

pub returns-clause-length : goal.returns-clause-length
returns-clause-length c =
    length_is c.args.lp.now (value_at c.args.point.now)
    (value_at c.args.direction.now) c.args.up c.args.q c.args.k c.in-Some.ahead c.reduced-rate.result c.reduced-value.result
    (c.reduced-rate.ensures ∙ value_read c.args.direction.now c.args.k c.index-direction-k.result (omega arith) c.index-direction-k.is)
    (subst (λ (x : ℚ). IsAhead c.args.lp.now (λ _. signed c.args.up x) c.args.k (Some c.in-Some.ahead)) (sym c.reduced-rate.ensures) c.in-Some.ensures)
    (c.reduced-value.ensures ∙ value_read c.args.point.now c.args.k c.index-point-k.result (omega arith) c.index-point-k.is)
    c.in_ok-distance.distance c.in_ok-change.change c.counted.result c.in_ok-distance.ensures.value c.in_ok-change.ensures.value c.counted.ensures
