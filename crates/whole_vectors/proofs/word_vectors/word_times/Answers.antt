use Rattle.std.proofs.Common.{sym, subst, ℤ, ◌^◌, ◌≤◌}
use Rattle.std.specs.Prelude.{unsigned_abs}
use Rattle.whole_vectors.proofs.Words.{product_is, product_small}
use Rattle.whole_vectors.proofs.word_vectors.word_times.Goals as goal

pub returns-clause-value : goal.returns-clause-value
returns-clause-value c = product_is c.args.x c.args.y c.ranges.x c.ranges.y

pub returns-clause-small : goal.returns-clause-small
returns-clause-small c =
    subst (λ (z : ℤ). unsigned_abs z ≤ 2 ^ 126) (sym (returns-clause-value c)) (product_small c.args.x c.args.y c.ranges.x c.ranges.y)
