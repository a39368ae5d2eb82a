use Rattle.para_objective.specs.Reach.{zero_at}
use Rattle.para_objective.proofs.Zeros.{best_less}
use Rattle.para_objective.proofs.reaching.nearer.Goals as goal

pub returns-then-stands_before-clause-nearer : goal.returns-then-stands_before-clause-nearer
returns-then-stands_before-clause-nearer c = best_less c.args.best (zero_at c.args.price c.args.rate) (c.stands_before.ensures c.if-stands_before.true)
