use Rattle.std.proofs.Common.{subst}
use Rattle.lp_definitions.specs.LinearProgram.{value_at}
use Rattle.check_definitions.specs.declared.Verdict.{Verdict}
use Rattle.walk_definitions.specs.Checkers.{checker_of_any_length}
use Rattle.listing_claims.specs.Solutions.{printed_test}
use Rattle.long_solutions.specs.Answers.{Answers}
use Rattle.long_solutions.proofs.solutions.printed_holds.Goals as goal

pub returns : goal.returns
returns c = λ problem.
    subst (λ (v : Verdict). Answers c.in_ok-holds.holds v)
    (λ i.
    printed_test checker_of_any_length (record { problem = problem; lp = c.args.lp.now }) c.args.mark (value_at (c.deref.ensures.value i))
    (value_at (c.deref-2.ensures.value i)) (value_at (c.deref-3.ensures.value i)))
    (c.in_ok-holds.ensures problem c.deref.result.now c.deref-2.result.now (c.in_ok-point.ensures c.deref.result.now c.in_ok-point_column.ensures)
    (c.in_ok-prices.ensures c.deref-2.result.now c.in_ok-price_column.ensures))
