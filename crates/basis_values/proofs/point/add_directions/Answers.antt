use Rattle.std.proofs.Common.{◌≡◌, ℕ, Err, refl, rules, sym, subst, arith}
use Rattle.lp_definitions.specs.LinearProgram.{value_at, size}
use Rattle.lp_definitions.specs.Basis.{basics_of}
use Rattle.lp_laws.specs.Points.{standing}
use Rattle.lp_laws.proofs.Places.{value_next}
use Rattle.lp_model.proofs.Stops.{IfOverflow-map}
use Rattle.basis_values.specs.Points.{IsSoFar}
use Rattle.basis_values.proofs.PointSums.{so_far-begins, so_far-ends}
use Rattle.basis_values.proofs.Covered.{point_refused_later}
use Rattle.basis_values.proofs.Kept.{kept_same, kept_then}
use Rattle.basis_values.proofs.point.add_directions.Goals as goal

pub loop-k-init : goal.loop-k-init
loop-k-init g c = record {
  rates = kept_same (g.R.Rates.state c.args.rates.now).waypoints c.requires.rates;
  counted = refl;
  few = omega arith;
  so_far = so_far-begins c.args.lp.now c.args.basis.now c.requires.rates.is_basis (value_at c.args.point.now) c.requires.begins;
}

pub add_direction-requires-clause-value : goal.add_direction-requires-clause-value
add_direction-requires-clause-value g c = sym (value_next c.loop-k.point c.loop-k.k c.index-point-k.result (omega arith) c.index-point-k.is)

pub returns-in_err-add_direction-clause-rates : goal.returns-in_err-add_direction-clause-rates
returns-in_err-add_direction-clause-rates g c = kept_then c.loop-k.invariant.rates c.add_direction.ensures.rates

pub returns-in_err-add_direction-clause-overflow : goal.returns-in_err-add_direction-clause-overflow
returns-in_err-add_direction-clause-overflow g c =
    let is_err : c.from_residual.result ≡ Err c.in_err-add_direction.field-0.0 = search rules in
    rw is_err (IfOverflow-map c.in_err-add_direction.field-0.0
    (λ e h. point_refused_later c.args.lp.now (g.R.Rates.state c.args.rates.now).waypoints (g.R.Rates.state c.loop-k.rates).waypoints
    (g.R.Rates.state c.add_direction.new.rates).waypoints c.args.basis.now e c.loop-k.invariant.rates.1 h)
    c.in_err-add_direction.ensures.overflow)

pub loop-k-preserved : goal.loop-k-preserved
loop-k-preserved g c = record {
  rates = kept_then c.loop-k.invariant.rates c.add_direction.ensures.rates;
  counted = c.counted_on-nonbasics.ensures.counted;
  few = c.counted_on-nonbasics.ensures.small;
  so_far = c.in_ok-add_direction.ensures.so_far;
}

pub returns-clause-point : goal.returns-clause-point
returns-clause-point g c =
    let all : c.loop-k.k ≡ size c.args.lp.now.matrix = omega arith in
    so_far-ends c.args.lp.now c.args.basis.now c.requires.rates.is_basis c.requires.rates.nonsingular (value_at c.loop-k.point)
    (subst (λ (n : ℕ). IsSoFar c.args.lp.now.matrix (basics_of c.args.basis.now) (standing c.args.lp.now c.args.basis.now) n
    (value_at c.loop-k.point)) all c.loop-k.invariant.so_far)
