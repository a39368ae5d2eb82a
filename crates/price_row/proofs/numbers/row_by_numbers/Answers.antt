use Rattle.std.proofs.Common.{sym, subst}
use Rattle.lp_definitions.specs.LinearProgram.{size}
use Rattle.whole_vectors.specs.Quotients.{Represent}
use Rattle.price_row.specs.Known.{HasMultipliers}
use Rattle.price_row.proofs.numbers.row_by_numbers.Goals as goal

pub fill_by_numbers-requires-clause-known : goal.fill_by_numbers-requires-clause-known
fill_by_numbers-requires-clause-known g c =
    subst (λ xs. Represent (HasMultipliers c.args.file.now (size c.args.file.now.matrix) c.args.row) c.in_ok-denominator.denominator xs)
    (sym c.all.ensures.numbers) c.in_ok-denominator.ensures.known
