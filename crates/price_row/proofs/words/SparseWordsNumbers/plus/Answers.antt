use Rattle.std.proofs.Common.{rules, ◌≡◌, ◌∙◌, ap₂, of_z, to_z}
use Rattle.std.specs.Int.{w64}
use Rattle.std.proofs.lemmas.Int.{to_z-of_z}
use Rattle.exact_values.specs.Rational.{whole, ◌+ℚ◌, ◌*ℚ◌}
use Rattle.eta_file.proofs.FileLaws.{some_map}
use Rattle.price_row.proofs.words.SparseWordsNumbers.plus.Goals as goal

pub returns-clause-value : goal.returns-clause-value
returns-clause-value c =
    some_map c.word_sum.result (λ v. whole v ≡ whole (to_z w64 (of_z w64 c.args.sum)) +ℚ whole (to_z w64 (of_z w64 c.args.x)) *ℚ c.args.y)
    (λ v. whole v ≡ whole c.args.sum +ℚ whole c.args.x *ℚ c.args.y)
    (λ v is_v. is_v ∙ ap₂ (λ s x. whole s +ℚ whole x *ℚ c.args.y) (to_z-of_z w64 c.args.sum (search rules)) (to_z-of_z w64 c.args.x (search rules)))
    c.word_sum.ensures
