-- What holds of all that a reader may read.
use Rattle.std.proofs.Common.{◌≡◌, ℕ, ◌≤◌, List, ◌∷◌, Bool, true, false, Option, Some, None, refl, subst, arith, codes, drop, length, option_map}
use Rattle.std.proofs.Common.{option_and_then, nat_le, IfSome}
use Rattle.std.specs.Prelude.{if◌then◌else◌, bytes_eq, ◌&&◌}
use Rattle.std.specs.Option.{option_or}
use Rattle.std.proofs.lemmas.Bool.Decides.{nat_tests}
use Rattle.card_definitions.specs.Numbers.{digits_value}
use Rattle.card_definitions.specs.Words.{named}
use Rattle.listing_definitions.specs.Numbers.{digits}
use Rattle.listing_definitions.specs.Report.{Check}
use Rattle.listing_definitions.specs.Report as reports
use Rattle.walk_definitions.specs.Checkers.{checker_of_128_bits}
use Rattle.walk_definitions.specs.Words.{Parsed, left_after, with_text, word_in, with_word, fraction_in, count_in}
use Rattle.walk_definitions.specs.Forms.{all_operations}
use Rattle.walk_definitions.specs.Tables.{then_more}
use Rattle.walk_definitions.specs.Reading.{with_check}

module _ {X : Type 0} (P : X → Type 0) where
  pub after_text : (text : List ℕ) (reads : List ℕ → Option X) (rest : List ℕ) → ((left : List ℕ) → IfSome (reads left) P) →
      IfSome (with_text text reads rest) P
  after_text text reads rest h = by (left_after text rest)
    where
      by : (left : Option (List ℕ)) → IfSome (option_and_then reads left) P
      by None = tt
      by (Some left) = h left

  pub after_word : {Y : Type 0} (of : List ℕ → Option Y) (reads : Y → List ℕ → Option X) (rest : List ℕ)
      → ((y : Y) → of (word_in rest) ≡ Some y → (left : List ℕ) → IfSome (reads y left) P) → IfSome (with_word of reads rest) P
  after_word {Y = Y} of reads rest h = by (of (word_in rest)) refl
    where
      by : (o : Option Y) → of (word_in rest) ≡ o → IfSome (option_and_then (λ y. reads y (drop (length (word_in rest)) rest)) o) P
      by None is = tt
      by (Some y) is = h y is (drop (length (word_in rest)) rest)

  pub one_or_other : (o other : Option X) → IfSome o P → IfSome other P → IfSome (option_or o other) P
  one_or_other None other h k = k
  one_or_other (Some x) other h k = h

  pub if_none_else : (b : Bool) (o : Option X) → (b ≡ false → IfSome o P) → IfSome (if b then None else o) P
  if_none_else true o h = tt
  if_none_else false o h = h refl

  pub after_check : (reads : Check → List ℕ → Option X) (rest : List ℕ) → ((check : Check) (left : List ℕ) → IfSome (reads check left) P) →
      IfSome (with_check reads rest) P
  after_check reads rest h =
      one_or_other (with_text (codes "CHECKED\n") (reads reports.Checked) rest) _
      (after_text (codes "CHECKED\n") (reads reports.Checked) rest (h reports.Checked))
      (after_text (codes "UNCHECKED ") _ rest (λ at. after_word (named all_operations) _ at (λ op known on.
      after_text (codes " ") _ on (λ on. after_word (fraction_in checker_of_128_bits) _ on (λ left known on.
      after_text (codes " ") _ on (λ on. after_word (fraction_in checker_of_128_bits) _ on (λ right known on.
      after_text (codes "\n") _ on (h (reports.Unchecked (record { op = op; left = left; right = right }))))))))))

  -- what is made of what is read
  pub mapped : {Y : Type 0} (Q : Y → Type 0) (f : Y → X) (o : Option Y) → IfSome o Q → ((y : Y) → Q y → P (f y)) → IfSome (option_map f o) P
  mapped Q f None h k = tt
  mapped Q f (Some y) h k = k y h

  pub gone_on : {Y : Type 0} (Q : Y → Type 0) (f : Y → Option X) (o : Option Y) → IfSome o Q → ((y : Y) → Q y → IfSome (f y) P) → IfSome (option_and_then f o) P
  gone_on Q f None h k = tt
  gone_on Q f (Some y) h k = k y h

  -- what holds where it is read
  pub at_some : (o : Option X) (x : X) → o ≡ Some x → IfSome o P → P x
  at_some o x e h = subst (λ (o : Option X). IfSome o P) e h

-- of a list, what its first member and the others give
pub listed_more : {X : Type 0} (P : X → Type 0) (Q R : List X → Type 0) (o : Parsed X) (reads : List ℕ → Parsed (List X))
    → IfSome o (λ got. P got.0) → ((rest : List ℕ) → IfSome (reads rest) (λ got. Q got.0)) → ((x : X) (xs : List X) → P x → Q xs → R (x ∷ xs))
    → IfSome (then_more o reads) (λ got. R got.0)
listed_more P Q R None reads h k joined = tt
listed_more {X = X} P Q R (Some got) reads h k joined =
    mapped (λ more. R more.0) (λ more. Q more.0) (λ more. (got.0 ∷ more.0, more.1)) (reads got.1) (k got.1) (λ more q. joined got.0 more.0 h q)

-- a count is no greater than the greatest one
pub count_within : (most : ℕ) (word : List ℕ) (k : ℕ) → count_in most word ≡ Some k → k ≤ most
unfolding count_in
count_within most word k e = by (nat_le (digits_value word) most) (bytes_eq (digits (digits_value word)) word) refl e
  where
    by : (small same : Bool) → nat_le (digits_value word) most ≡ small → (if small && same then Some (digits_value word) else None) ≡ Some k → k ≤ most
    by true true is e = let here : digits_value word ≡ k = cc in grind (arith, nat_tests)
    by true false is e = cc
    by false same is e = cc
