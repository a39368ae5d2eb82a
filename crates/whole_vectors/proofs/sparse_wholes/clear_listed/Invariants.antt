use Rattle.std.specs.Prelude.{All}
use Rattle.exact_values.specs.Rational.{zero_ℚ}
use Rattle.frac128.specs.Terms.{Fits}
use Rattle.whole_vectors.specs.Words.{wholes}
use Rattle.whole_vectors.specs.Ranks.{AreChangedTo}
use Rattle.whole_vectors.proofs.sparse_wholes.clear_listed.Given as goal

-- the numbers so far are 0, and all fit
abbrev pub invariant-loop-rank : goal.invariant-loop-rank
invariant-loop-rank l = All Fits l.numbers × AreChangedTo (λ x. zero_ℚ) l.listed l.rank (wholes l.fn.numbers) (wholes l.numbers)
