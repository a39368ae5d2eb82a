use Rattle.std.proofs.Common.{◌∙◌, ap, ap₂}
use Rattle.exact_values.specs.Rational.{neg_ℚ}
use Rattle.lp_definitions.specs.LinearProgram.{LinearProgram, entry, cost, on_row}
use Rattle.long_programs.specs.Programs.{program_of, rate_at}
use Rattle.long_programs.proofs.Compared.{cost_taken}
use Rattle.long_programs.proofs.Moves.{cost_at}
use Rattle.long_programs.proofs.programs.subtract_cost.Goals as goal

pub returns : goal.returns
returns c = λ theta moves.
    let p = c.args.at.now.lp.now in
    let change = c.args.at.now.change in
    cost_taken theta (entry p.matrix p.objective c.args.j) (rate_at p change c.args.j)
    (cost (program_of p change theta) c.args.j) c.args.bottom.now c.args.moved.now _ _ _ _ _ moves
    (cost_at p change theta c.args.j c.requires.plain)
    (c.neg.ensures
    ∙ ap neg_ℚ (c.number_on-cost.ensures ∙ ap₂ on_row c.column.ensures (ap (λ (p : LinearProgram). p.objective) c.lp.view_is))) c.in_ok-add.ensures
    (c.neg-2.ensures ∙ ap neg_ℚ c.rate_at.ensures) c.in_ok-add-2.ensures
