use Rattle.std.proofs.Common.{sym, ◌∙◌, arith}
use Rattle.lp_definitions.specs.LinearProgram.{value_at}
use Rattle.simplex_definitions.specs.Moves.{lowers}
use Rattle.basis_values.specs.Motions.{motion}
use Rattle.basis_values.proofs.Skips.{found_least, found_none, one_more, lowers_at}
use Rattle.basis_values.proofs.choices.entering_variable.Goals as goal

pub returns-then-may_lower : goal.returns-then-may_lower
returns-then-may_lower c =
    found_least c.args.lp.now (lowers c.args.lp.now c.args.basis.now (motion (value_at c.args.rates.now) c.args.up)) c.loop-k.k (omega arith) c.loop-k.invariant
    (lowers_at c.args.lp.now c.args.basis.now c.args.rates.now c.args.up c.loop-k.k c.index-rates-k.result c.counted.result
    (omega arith) c.index-rates-k.is c.counted.ensures ∙ sym c.may_lower.ensures ∙ c.if-may_lower.true)

pub loop-k-preserved : goal.loop-k-preserved
loop-k-preserved c =
    one_more c.args.lp.now (lowers c.args.lp.now c.args.basis.now (motion (value_at c.args.rates.now) c.args.up)) c.loop-k.k c.loop-k.invariant
    (lowers_at c.args.lp.now c.args.basis.now c.args.rates.now c.args.up c.loop-k.k c.index-rates-k.result c.counted.result
    (omega arith) c.index-rates-k.is c.counted.ensures ∙ sym c.may_lower.ensures ∙ c.if-may_lower.false)

pub returns : goal.returns
returns c =
    found_none c.args.lp.now (lowers c.args.lp.now c.args.basis.now (motion (value_at c.args.rates.now) c.args.up)) c.loop-k.k (omega arith) c.loop-k.invariant
