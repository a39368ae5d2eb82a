use Rattle.std.proofs.Common.{ℕ, get_or}
use Rattle.exact_values.specs.Rational.{zero_ℚ, ◌/ℚ◌}
use Rattle.whole_vectors.specs.Words.{wholes}
use Rattle.whole_vectors.specs.Ranks.{IsRank, AreWritten}
use Rattle.whole_vectors.proofs.sparse_wholes.divide_listed.Given as goal

-- the quotients so far are there
abbrev pub invariant-loop-rank : goal.invariant-loop-rank
invariant-loop-rank l = (rank : ℕ → ℕ) → IsRank rank l.listed → AreWritten rank l.listed (λ n. get_or (wholes l.numbers) n zero_ℚ /ℚ l.by) l.rank l.fn.out l.out
