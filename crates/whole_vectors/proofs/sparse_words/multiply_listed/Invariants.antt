use Rattle.exact_values.specs.Rational.{◌*ℚ◌}
use Rattle.whole_vectors.specs.Words.{wholes}
use Rattle.whole_vectors.specs.Ranks.{AreChangedTo, AreKept}
use Rattle.whole_vectors.proofs.sparse_words.multiply_listed.Given as goal

-- the numbers so far are multiplied, and those of other places stay
abbrev pub invariant-loop-rank : goal.invariant-loop-rank
invariant-loop-rank l =
    AreKept l.listed (wholes l.fn.numbers) (wholes l.numbers) × AreChangedTo (λ x. x *ℚ l.by) l.listed l.rank (wholes l.fn.numbers) (wholes l.numbers)
