use Rattle.std.proofs.Common.{◌≡◌, ℕ, Err, rules, sym, ◌∙◌, subst, arith}
use Rattle.lp_definitions.specs.LinearProgram.{value_at}
use Rattle.lp_definitions.specs.Basis.{basics_of}
use Rattle.basis_values.specs.Points.{AreAdded, ColumnTermRefused}
use Rattle.basis_values.proofs.PointSums.{more_basic, more_zero, more_added, more_refused}
use Rattle.basis_values.proofs.Kept.{kept_same, kept_by}
use Rattle.basis_values.proofs.RatesStops.{column_refused}
use Rattle.basis_values.proofs.point.add_direction.Goals as goal

pub returns-then-stands_basic-clause-rates : goal.returns-then-stands_basic-clause-rates
returns-then-stands_basic-clause-rates g c = kept_same (g.R.Rates.state c.args.rates.now).waypoints c.requires.rates

pub returns-then-stands_basic-clause-so_far : goal.returns-then-stands_basic-clause-so_far
returns-then-stands_basic-clause-so_far g c =
    more_basic c.args.lp.now c.args.basis.now c.args.summand.now.j c.requires.variable.0 (value_at c.args.point.now) c.requires.so_far
    (sym c.stands_basic.ensures ∙ c.if-stands_basic.true)

pub returns-then-is_zero-clause-rates : goal.returns-then-is_zero-clause-rates
returns-then-is_zero-clause-rates g c = kept_same (g.R.Rates.state c.args.rates.now).waypoints c.requires.rates

pub returns-then-is_zero-clause-so_far : goal.returns-then-is_zero-clause-so_far
returns-then-is_zero-clause-so_far g c =
    more_zero c.args.lp.now c.args.basis.now c.args.summand.now.j c.requires.variable.0 (value_at c.args.point.now) c.requires.so_far c.requires.variable
    (sym c.stands_basic.ensures ∙ c.if-stands_basic.false)
    (sym c.requires.value ∙ c.is_zero.ensures.0 c.if-is_zero.true)

pub returns-in_err-column-clause-overflow : goal.returns-in_err-column-clause-overflow
returns-in_err-column-clause-overflow g c =
    let is_err : c.from_residual.result ≡ Err c.in_err-column.field-0.0 = search rules in
    rw is_err (column_refused c.args.lp.now c.args.basis.now (g.R.Rates.state c.args.rates.now).matrix (g.R.Rates.state c.args.rates.now).basics
    (g.R.Rates.state c.column.new.self).basics (g.R.Rates.state c.args.rates.now).waypoints
    (g.R.Rates.state c.column.new.self).waypoints c.in_err-column.field-0.0
    c.requires.rates c.column.ensures.kept.same_basics c.column.ensures.kept.waypoints c.in_err-column.ensures.overflow)

pub add_multiple-requires-clause-small : goal.add_multiple-requires-clause-small
add_multiple-requires-clause-small g c = omega (arith, c.requires.lawful.is_matrix.small, c.requires.rates.is_basis.counted)

pub returns-in-Ok-clause-so_far : goal.returns-in-Ok-clause-so_far
returns-in-Ok-clause-so_far g c =
    more_added c.args.lp.now c.args.basis.now c.args.summand.now.j c.requires.variable.0 (value_at c.args.point.now) (value_at c.add_multiple.new.point)
    (value_at c.column.new.out) c.args.summand.now.value
    c.requires.rates.nonsingular c.requires.so_far (c.requires.variable, sym c.stands_basic.ensures ∙ c.if-stands_basic.false)
    (rw (c.requires.rates.same_matrix, c.requires.rates.same_basics) at c.in_ok-column.ensures.direction)
    c.requires.value
    (subst (λ (n : ℕ). AreAdded (basics_of c.args.basis.now) (value_at c.column.new.out) c.args.summand.now.value (value_at c.args.point.now) n
    (value_at c.add_multiple.new.point)) c.requires.rates.is_basis.counted c.in-Ok.ensures.added)

pub returns-in-Err-clause-overflow : goal.returns-in-Err-clause-overflow
returns-in-Err-clause-overflow g c =
    more_refused c.args.lp.now c.args.basis.now c.args.summand.now.j c.requires.variable.0 (value_at c.args.point.now)
    (value_at c.column.new.out) c.args.summand.now.value c.args.summand.now.before c.in-Err.evidence
    c.requires.rates.is_basis c.requires.rates.nonsingular c.requires.so_far (c.requires.variable, sym c.stands_basic.ensures ∙ c.if-stands_basic.false)
    (rw (c.requires.rates.same_matrix, c.requires.rates.same_basics) at c.in_ok-column.ensures.direction)
    c.requires.value c.requires.before
    (g.R.Rates.state c.args.rates.now).waypoints (g.R.Rates.state c.column.new.self).waypoints
    (subst (λ (n : ℕ). ColumnTermRefused (basics_of c.args.basis.now) (value_at c.column.new.out) c.args.summand.now.value
    (value_at c.args.point.now) c.args.summand.now.j c.args.summand.now.before n c.in-Err.evidence) c.requires.rates.is_basis.counted c.in-Err.ensures.refused)

pub returns-in_err-column-clause-rates : goal.returns-in_err-column-clause-rates
returns-in_err-column-clause-rates g c =
    kept_by c.requires.rates c.column.ensures.kept.same_matrix c.column.ensures.kept.same_basics c.column.ensures.kept.waypoints

pub returns-in-Ok-clause-rates : goal.returns-in-Ok-clause-rates
returns-in-Ok-clause-rates g c = kept_by c.requires.rates c.column.ensures.kept.same_matrix c.column.ensures.kept.same_basics c.column.ensures.kept.waypoints

pub returns-in-Err-clause-rates : goal.returns-in-Err-clause-rates
returns-in-Err-clause-rates g c = kept_by c.requires.rates c.column.ensures.kept.same_matrix c.column.ensures.kept.same_basics c.column.ensures.kept.waypoints
