use Rattle.std.proofs.Common.{rules, ◌≡◌, ◌∙◌, ap, ap₂, of_z, to_z, ℤ}
use Rattle.std.specs.Int.{w128}
use Rattle.std.proofs.lemmas.Int.{to_z-of_z}
use Rattle.exact_values.specs.Rational.{whole, ◌+ℚ◌, ◌*ℚ◌}
use Rattle.eta_file.proofs.FileLaws.{some_map}
use Rattle.whole_vectors.proofs.Words.{word_twice}
use Rattle.price_row.proofs.whole.SparseWholesNumbers.plus_word.Goals as goal

pub returns-clause-value : goal.returns-clause-value
returns-clause-value c =
    some_map c.whole_sum.result (λ v. whole v ≡ whole (to_z w128 (of_z w128 c.args.sum)) +ℚ whole (to_z w128 (of_z w128 c.args.x)) *ℚ c.whole.result)
    (λ v. whole v ≡ whole c.args.sum +ℚ whole c.args.x *ℚ whole c.args.y)
    (λ v is_v.
    is_v ∙ ap₂ (λ (s x : ℤ). whole s +ℚ whole x *ℚ c.whole.result) (to_z-of_z w128 c.args.sum (search rules)) (to_z-of_z w128 c.args.x (search rules))
    ∙ ap (λ q. whole c.args.sum +ℚ whole c.args.x *ℚ q) (c.whole.ensures ∙ ap whole (word_twice c.args.y c.ranges.y)))
    c.whole_sum.ensures.value
