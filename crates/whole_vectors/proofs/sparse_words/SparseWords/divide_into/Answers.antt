use Rattle.std.proofs.Common.{◌-◌, ◌∙◌, ap, sym, length, ℕ, get_or}
use Rattle.exact_values.specs.Rational.{zero_ℚ, ◌/ℚ◌, inverse_ℚ}
use Rattle.exact_values.proofs.RingLaws.{zero-mul}
use Rattle.whole_vectors.specs.Words.{wholes}
use Rattle.whole_vectors.specs.Quotients.{AreQuotients}
use Rattle.whole_vectors.specs.Ranks.{IsRank, AreWritten}
use Rattle.whole_vectors.proofs.Ranked.{all_written, unit_map, none_at}
use Rattle.whole_vectors.proofs.sparse_words.SparseWords.divide_into.Goals as goal

pub returns : goal.returns
returns c =
    let a = c.self.inside in
    let f = λ (n : ℕ). get_or (wholes a.numbers.items) n zero_ℚ /ℚ c.args.by in
    rw (← c.self.view_is)
    (unit_map c.divide_listed.result
    ((rank : ℕ → ℕ) → IsRank rank a.listed.items → AreWritten rank a.listed.items f (length a.listed.items) c.args.out.now c.divide_listed.new.out)
    (AreQuotients c.args.by (wholes a.numbers.items) c.divide_listed.new.out)
    (λ written. record {
      each = λ k. all_written a.listed.items a.ranks.items f c.args.out.now c.divide_listed.new.out c.self.invariant.ranked written
          (λ n out. none_at c.args.out.now n c.requires.zero ∙ sym (ap (λ x. x /ℚ c.args.by) (c.self.invariant.covered n out) ∙ zero-mul (inverse_ℚ c.args.by)))
          (k - 1);
    })
    (rw (c.deref.ensures.value, c.deref-2.ensures.value) at c.divide_listed.ensures))
