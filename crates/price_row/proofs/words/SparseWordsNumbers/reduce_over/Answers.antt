use Rattle.std.proofs.Common.{refl}
use Rattle.price_row.proofs.words.SparseWordsNumbers.reduce_over.Goals as goal

pub returns-clause-same : goal.returns-clause-same
returns-clause-same c = record { apart = c.requires.apart; each = λ k. refl }
