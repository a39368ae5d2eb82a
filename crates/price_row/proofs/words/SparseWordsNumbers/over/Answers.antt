use Rattle.std.proofs.Common.{rules, ◌≡◌, ◌∙◌, ap, of_z, to_z}
use Rattle.std.specs.Int.{w64}
use Rattle.std.proofs.lemmas.Int.{to_z-of_z}
use Rattle.exact_values.specs.Rational.{whole, ◌/ℚ◌}
use Rattle.eta_file.proofs.FileLaws.{some_map}
use Rattle.price_row.proofs.words.SparseWordsNumbers.over.Goals as goal

pub returns : goal.returns
returns c = record {
  value =
      some_map c.word_quotient.result (λ v. v ≡ whole (to_z w64 (of_z w64 c.args.n)) /ℚ c.args.by) (λ v. v ≡ whole c.args.n /ℚ c.args.by)
      (λ v is_v. is_v ∙ ap (λ x. whole x /ℚ c.args.by) (to_z-of_z w64 c.args.n (search rules))) c.word_quotient.ensures;
}
