use Rattle.exact_values.specs.Rational.{zero_ℚ}
use Rattle.whole_vectors.specs.Words.{wholes}
use Rattle.whole_vectors.specs.Ranks.{AreChangedTo}
use Rattle.whole_vectors.proofs.sparse_words.clear_listed.Given as goal

-- the numbers so far are 0
abbrev pub invariant-loop-rank : goal.invariant-loop-rank
invariant-loop-rank l = AreChangedTo (λ x. zero_ℚ) l.listed l.rank (wholes l.fn.numbers) (wholes l.numbers)
