-- The opening basis is a basis.
use Rattle.lp_laws.proofs.Statuses.{IsBasis-opening}
use Rattle.solver_tests.proofs.engines.placed.Goals as goal

pub loop-r-init : goal.loop-r-init
loop-r-init c = rw c.in_ok-basis.ensures (IsBasis-opening c.args.lp.now)
