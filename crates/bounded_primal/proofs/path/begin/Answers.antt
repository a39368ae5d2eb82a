use Rattle.std.proofs.Common.{◌∙◌, ap, sym}
use Rattle.lp_definitions.specs.LinearProgram.{value_at}
use Rattle.bounded_primal.proofs.Agreement.{point_agrees}
use Rattle.bounded_primal.proofs.path.begin.Goals as goal

pub returns-clause-stands : goal.returns-clause-stands
returns-clause-stands g c = record {
  sized = c.in_ok-fill_point.ensures.sized;
  point =
      point_agrees c.args.lp.now c.args.basis.now c.in_ok-fill_point.ensures.rates.0.is_basis c.in_ok-fill_point.ensures.rates.0.nonsingular
      (value_at c.fill_point.new.self.point.items) c.in_ok-fill_point.ensures.point;
  kept = λ _. c.in_ok-fill_point.ensures.point;
  broken = rw c.deref.ensures.value at c.outside.ensures;
}
