use Rattle.std.proofs.Common.{sym, ◌∙◌, ap, subst, ℤ}
use Rattle.std.specs.Prelude.{◌+ℤ◌, ◌*ℤ◌}
use Rattle.frac128.specs.Terms.{Fits}
use Rattle.frac128.proofs.Parts.{read, read_fitting}
use Rattle.whole_vectors.proofs.Words.{word_total_is, word_total_fits, word_total_wide}
use Rattle.whole_vectors.proofs.word_vectors.word_total.Goals as goal

pub overflow_add-result : goal.overflow_add-result
overflow_add-result c =
    rw (word_total_is c.args.sum c.args.x c.args.y c.ranges.sum c.ranges.x c.ranges.y)
    (word_total_wide c.args.sum c.args.x c.args.y c.ranges.sum c.ranges.x c.ranges.y)

pub returns-clause-value : goal.returns-clause-value
returns-clause-value c =
    ap read (word_total_is c.args.sum c.args.x c.args.y c.ranges.sum c.ranges.x c.ranges.y)
    ∙ read_fitting (c.args.sum +ℤ c.args.x *ℤ c.args.y) (word_total_fits c.args.sum c.args.x c.args.y c.ranges.sum c.ranges.x c.ranges.y)

pub returns-clause-fits : goal.returns-clause-fits
returns-clause-fits c =
    subst (λ (z : ℤ). Fits z) (sym (returns-clause-value c)) (word_total_fits c.args.sum c.args.x c.args.y c.ranges.sum c.ranges.x c.ranges.y)
