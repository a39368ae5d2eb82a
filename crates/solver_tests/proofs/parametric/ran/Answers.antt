-- The last value isn't less than the first.
use Rattle.std.proofs.Common.{sym, ◌∙◌}
use Rattle.solver_tests.proofs.parametric.ran.Goals as goal
use Rattle.exact_values.proofs.TestsLaws.{le_from_lt_fails}

pub para_obj-requires-clause-forward : goal.para_obj-requires-clause-forward
para_obj-requires-clause-forward c = le_from_lt_fails c.args.to c.args.from (sym c.is_less.ensures ∙ c.if-is_less.false)

pub para_rhs-requires-clause-forward : goal.para_rhs-requires-clause-forward
para_rhs-requires-clause-forward c = le_from_lt_fails c.args.to c.args.from (sym c.is_less.ensures ∙ c.if-is_less.false)
