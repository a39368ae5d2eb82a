use Rattle.std.proofs.Common.{sym, ap, ap₂, ◌∙◌, arith}
use Rattle.exact_values.specs.Tests.{lt_ℚ}
use Rattle.lp_definitions.specs.LinearProgram.{value_at}
use Rattle.simplex_definitions.specs.Moves.{signed}
use Rattle.bounded_primal.proofs.TurnChoices.{moved_at}
use Rattle.bounded_primal.proofs.turns.entering_variable_at.Goals as goal
use Rattle.lp_laws.proofs.Places.{value_read}

pub returns : goal.returns
returns c =
    let read =
    value_read c.args.prices.now c.args.q c.index-prices-q.result
    (omega (arith, c.requires.variable.0, c.requires.variable.1, c.requires.places)) c.index-prices-q.is in
    sym (moved_at c.args.lp.now (value_at c.args.prices.now) c.is_minimized.result c.is_less-up.result c.args.q c.is_minimized.ensures
    (c.is_less-up.ensures ∙ ap₂ lt_ℚ (c.counted.ensures ∙ ap (signed c.is_minimized.result) read) c.whole.ensures))
