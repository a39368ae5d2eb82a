use Rattle.std.proofs.Common.{◌∙◌, ap, sym}
use Rattle.simplex_definitions.specs.Moves.{signed}
use Rattle.basis_values.proofs.Lasting.{counted_back}
use Rattle.basis_values.proofs.reach.counted_twice.Goals as goal

pub returns-else-rises : goal.returns-else-rises
returns-else-rises c =
    c.counted_ratio-else-rises.ensures ∙ counted_back c.args.up c.args.value.now
    ∙ ap (λ rises. signed rises (signed c.args.up c.args.value.now)) (sym c.if-rises.false)
