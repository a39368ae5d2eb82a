use Rattle.std.proofs.Common.{sym, ◌∙◌}
use Rattle.exact_values.proofs.TestsLaws.{le_from_lt_fails}
use Rattle.para_objective.proofs.Zeros.{other_less, best_less}
use Rattle.para_objective.proofs.reaching.lesser.Goals as goal

pub returns-then-is_less : goal.returns-then-is_less
returns-then-is_less c = other_less c.args.best c.args.other (sym c.is_less.ensures ∙ c.if-is_less.true)

pub returns : goal.returns
returns c = best_less c.args.best c.args.other (le_from_lt_fails c.args.other c.args.best (sym c.is_less.ensures ∙ c.if-is_less.false))
