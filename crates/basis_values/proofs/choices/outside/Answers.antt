use Rattle.std.proofs.Common.{sym, ◌∙◌, arith}
use Rattle.std.specs.Prelude.{◌&&◌}
use Rattle.lp_definitions.specs.LinearProgram.{value_at}
use Rattle.lp_definitions.specs.Basis.{basics_of, is_in}
use Rattle.simplex_definitions.specs.Moves.{is_outside}
use Rattle.basis_values.proofs.Skips.{found_least, found_none}
use Rattle.basis_values.proofs.choices.outside.Goals as goal

pub returns-then-lies_outside : goal.returns-then-lies_outside
returns-then-lies_outside c =
    found_least c.args.lp.now (λ k. is_in (basics_of c.args.basis.now) k && is_outside c.args.lp.now (value_at c.args.point.now) k) c.loop-k.k
    (omega arith) c.loop-k.invariant (sym c.lies_outside.ensures ∙ c.if-lies_outside.true)

pub returns : goal.returns
returns c =
    found_none c.args.lp.now (λ k. is_in (basics_of c.args.basis.now) k && is_outside c.args.lp.now (value_at c.args.point.now) k) c.loop-k.k
    (omega arith) c.loop-k.invariant
