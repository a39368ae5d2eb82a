use Rattle.std.proofs.Common.{sym, ◌∙◌}
use Rattle.lp_definitions.specs.LinearProgram.{value_at}
use Rattle.basis_values.specs.Prices.{worth_by}
use Rattle.bounded_primal.proofs.TurnChoices.{entering_within, some_improves}
use Rattle.bounded_primal.proofs.turns.improving.Goals as goal

pub entering_variable_at-requires-clause-variable : goal.entering_variable_at-requires-clause-variable
entering_variable_at-requires-clause-variable c =
    entering_within c.args.lp.now c.args.basis.now (worth_by c.args.lp.now (value_at c.args.prices.now)) c.in_ok-q.q (sym c.in_ok-q.was ∙ c.wrong_price.ensures)

pub returns : goal.returns
returns c =
    some_improves c.args.lp.now c.args.basis.now (value_at c.args.prices.now) c.in_ok-q.q c.entering_variable_at.result
    (sym c.in_ok-q.was ∙ c.wrong_price.ensures) c.entering_variable_at.ensures
