use Rattle.std.proofs.Common.{◌∙◌, ap, sym}
use Rattle.lp_definitions.specs.LinearProgram.{Vector, value_at}
use Rattle.simplex_definitions.specs.Moves.{entering}
use Rattle.basis_values.proofs.choices.wrong_price.Goals as goal

pub returns : goal.returns
returns c =
    c.entering_variable.ensures
    ∙ ap (λ (f : Vector). entering c.args.lp.now c.args.basis.now f) (λ i k. (sym (c.is_minimized.ensures (value_at c.args.prices.now k))) i)
