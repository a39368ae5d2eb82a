use Rattle.std.proofs.Common.{sym, ◌∙◌, arith}
use Rattle.basis_values.proofs.Skips.{found_least, found_none, one_more}
use Rattle.lp_definitions.specs.LinearProgram.{value_at}
use Rattle.para_objective.specs.Breaks.{is_entering_variable}
use Rattle.para_objective.proofs.EnteringVariables.{entering_variable_at}
use Rattle.para_objective.proofs.breaks.entering_variable_by.Goals as goal

pub returns-then-may_move : goal.returns-then-may_move
returns-then-may_move c =
    found_least c.args.lp.now
    (is_entering_variable c.args.lp.now c.args.basis.now c.args.theta (value_at c.args.prices.now) (value_at c.args.change.now)) c.loop-k.k
    (omega arith) c.loop-k.invariant
    (entering_variable_at c.args.lp.now c.args.basis.now c.args.theta c.args.prices.now c.args.change.now c.loop-k.k c.index-prices-k.result
    c.index-change-k.result (omega arith) (omega arith) c.index-prices-k.is c.index-change-k.is ∙ sym c.may_move.ensures ∙ c.if-may_move.true)

pub loop-k-preserved : goal.loop-k-preserved
loop-k-preserved c =
    one_more c.args.lp.now
    (is_entering_variable c.args.lp.now c.args.basis.now c.args.theta (value_at c.args.prices.now)
    (value_at c.args.change.now)) c.loop-k.k c.loop-k.invariant
    (entering_variable_at c.args.lp.now c.args.basis.now c.args.theta c.args.prices.now c.args.change.now c.loop-k.k c.index-prices-k.result
    c.index-change-k.result (omega arith) (omega arith) c.index-prices-k.is c.index-change-k.is ∙ sym c.may_move.ensures ∙ c.if-may_move.false)

pub returns : goal.returns
returns c =
    found_none c.args.lp.now
    (is_entering_variable c.args.lp.now c.args.basis.now c.args.theta (value_at c.args.prices.now) (value_at c.args.change.now)) c.loop-k.k
    (omega arith) c.loop-k.invariant
