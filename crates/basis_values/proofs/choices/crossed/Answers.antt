use Rattle.std.proofs.Common.{sym, ◌∙◌, arith}
use Rattle.simplex_definitions.specs.Moves.{is_crossed}
use Rattle.basis_values.proofs.Skips.{found_least, found_none}
use Rattle.basis_values.proofs.choices.crossed.Goals as goal

pub returns-then-is_crossed : goal.returns-then-is_crossed
returns-then-is_crossed c =
    found_least c.args.lp.now (is_crossed c.args.lp.now) c.loop-k.k (omega arith) c.loop-k.invariant (sym c.is_crossed.ensures ∙ c.if-is_crossed.true)

pub returns : goal.returns
returns c = found_none c.args.lp.now (is_crossed c.args.lp.now) c.loop-k.k (omega arith) c.loop-k.invariant
