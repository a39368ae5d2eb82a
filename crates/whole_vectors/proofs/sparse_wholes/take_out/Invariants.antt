use Rattle.std.specs.Prelude.{All}
use Rattle.exact_values.specs.Rational.{whole, ◌/ℚ◌}
use Rattle.frac128.specs.Terms.{Fits}
use Rattle.whole_vectors.specs.Words.{wholes}
use Rattle.whole_vectors.specs.Ranks.{AreChangedTo, AreKept}
use Rattle.whole_vectors.proofs.sparse_wholes.take_out.Given as goal

-- the numbers so far are divided, those of other places stay, and all fit
abbrev pub invariant-loop-rank : goal.invariant-loop-rank
invariant-loop-rank l =
    All Fits l.numbers ×
    (AreKept l.listed (wholes l.fn.numbers) (wholes l.numbers) × AreChangedTo (λ x. x /ℚ whole l.factor) l.listed l.rank (wholes l.fn.numbers)
    (wholes l.numbers))
