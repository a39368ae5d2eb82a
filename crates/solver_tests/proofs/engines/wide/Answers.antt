-- The program that is written out is lawful, by the test that computes.
use Rattle.std.proofs.Common.{refl}
use Rattle.lp_definitions.proofs.Lawful.{tested}
use Rattle.solver_tests.proofs.engines.wide.Goals as goal

pub invariant_of-result : goal.invariant_of-result
invariant_of-result c =
    rw (
      c.in_ok-lower.ensures.items,
      c.in_ok-upper.ensures.items,
      c.in_ok-rhs.ensures.items,
      c.in_ok-columns.ensures.items,
      c.in_ok-x.ensures.items,
      c.in_ok-y.ensures.items,
    ) (tested _ refl)
