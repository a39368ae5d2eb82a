-- Words, read one after another.
use Rattle.std.proofs.Common.{◌≡◌, ℕ, ◌≤◌, Bool, true, false, if◌then◌else◌, ◌&&◌, List, length, drop, Option, Some, None, refl, ap, ◌∙◌, arith}
use Rattle.std.specs.Prelude.{codes, option_and_then, nat_le, bytes_eq}
use Rattle.std.specs.Option.{option_or}
use Rattle.std.proofs.lemmas.Bool.Decides.{nat_tests}
use Rattle.std.proofs.lemmas.Option.{same_Some}
use Rattle.frac128.specs.declared.Op.{Op}
use Rattle.frac128.specs.declared.Refused.{Refused}
use Rattle.exact_values.specs.Rational.{ℚ}
use Rattle.card_definitions.specs.Numbers.{digits_value}
use Rattle.card_definitions.specs.Words.{named}
use Rattle.listing_definitions.specs.Numbers.{digits}
use Rattle.listing_definitions.specs.Report.{Check, Checked, Unchecked}
use Rattle.walk_definitions.specs.Checkers.{checker_of_128_bits}
use Rattle.walk_definitions.specs.Words.{Parsed, left_after, with_text, word_in, with_word, fraction_in, count_in, max_count}
use Rattle.walk_definitions.specs.Forms.{all_operations}
use Rattle.walk_definitions.specs.Reading.{with_check, Claim}
use Rattle.listing_answers.specs.Words.{labelled, refusal_in, IsCheckRead, IsCheckAfter, IsRayHeadRead}

-- ---- what is made of what is read

pub text_then : {X Y : Type 0} (text : List ℕ) (g : X → Option Y) (reads : List ℕ → Option X) (rest : List ℕ) →
    with_text text (λ left. option_and_then g (reads left)) rest ≡ option_and_then g (with_text text reads rest)
text_then {X} {Y} text g reads rest = by (left_after text rest)
  where
    by : (o : Option (List ℕ)) → option_and_then (λ left. option_and_then g (reads left)) o ≡ option_and_then g (option_and_then reads o)
    by None = refl
    by (Some left) = refl

pub word_then : {X Y Z : Type 0} (of : List ℕ → Option Z) (g : X → Option Y) (reads : Z → List ℕ → Option X) (rest : List ℕ) →
    with_word of (λ z left. option_and_then g (reads z left)) rest ≡ option_and_then g (with_word of reads rest)
word_then {X} {Y} {Z} of g reads rest = by (of (word_in rest))
  where
    by : (o : Option Z) →
        option_and_then (λ z. option_and_then g (reads z (drop (length (word_in rest)) rest))) o ≡ option_and_then g
        (option_and_then (λ z. reads z (drop (length (word_in rest)) rest)) o)
    by None = refl
    by (Some z) = refl

-- a word after a text, and what is read after it
pub labelled_then : {X Y : Type 0} (text : List ℕ) (of : List ℕ → Option X) (reads : X → List ℕ → Option Y) (rest : List ℕ) →
    with_text text (with_word of reads) rest ≡ option_and_then (λ got. reads got.0 got.1) (labelled text of rest)
labelled_then {X} {Y} text of reads rest =
    (λ i. with_text text (λ left. word_then of (λ (got : X × List ℕ). reads got.0 got.1) (λ x left. Some (x, left)) left i) rest)
    ∙ text_then text (λ (got : X × List ℕ). reads got.0 got.1) (with_word of (λ x left. Some (x, left))) rest

pub labelled_read : {X Y : Type 0} (text : List ℕ) (of : List ℕ → Option X) (reads : X → List ℕ → Option Y) (rest : List ℕ) (x : X) (new : List ℕ) →
    labelled text of rest ≡ Some (x, new) → with_text text (with_word of reads) rest ≡ reads x new
labelled_read {X} {Y} text of reads rest x new e = labelled_then text of reads rest ∙ ap (option_and_then (λ (got : X × List ℕ). reads got.0 got.1)) e

pub labelled_missing : {X Y : Type 0} (text : List ℕ) (of : List ℕ → Option X) (reads : X → List ℕ → Option Y) (rest : List ℕ) → labelled text of rest ≡ None →
    with_text text (with_word of reads) rest ≡ None
labelled_missing {X} {Y} text of reads rest e = labelled_then text of reads rest ∙ ap (option_and_then (λ (got : X × List ℕ). reads got.0 got.1)) e

-- a count isn't more than the greatest one
count_most : (most : ℕ) (word : List ℕ) (n : ℕ) → count_in most word ≡ Some n → n ≤ most
unfolding count_in
count_most most word n e = by (nat_le (digits_value word) most) refl (bytes_eq (digits (digits_value word)) word) e
  where
    by : (a : Bool) → nat_le (digits_value word) most ≡ a → (b : Bool) → (if a && b then Some (digits_value word) else None) ≡ Some n → n ≤ most
    by true le true e = let same : digits_value word ≡ n = cc in grind (arith, nat_tests, le, same)
    by true le false e = absurd (cc e)
    by false le b e = absurd (cc e)

pub labelled_most : (text : List ℕ) (most : ℕ) (rest : List ℕ) (n : ℕ) (new : List ℕ) → labelled text (count_in most) rest ≡ Some (n, new) → n ≤ most
labelled_most text most rest n new e = by (left_after text rest) e
  where
    at : (left : List ℕ) (o : Option ℕ) → count_in most (word_in left) ≡ o →
        option_and_then {U = ℕ × List ℕ} (λ x. Some (x, drop (length (word_in left)) left)) o ≡ Some (n, new) → n ≤ most
    at left None is e = absurd (cc e)
    at left (Some x) is e =
        let same : x ≡ n = ap (λ (p : ℕ × List ℕ). p.0) (same_Some (x, drop (length (word_in left)) left) (n, new) e) in count_most most (word_in left) n
        (is ∙ ap Some same)

    by : (o : Option (List ℕ)) → option_and_then {U = ℕ × List ℕ} (with_word (count_in most) (λ x left. Some (x, left))) o ≡ Some (n, new) → n ≤ most
    by None e = absurd (cc e)
    by (Some left) e = at left (count_in most (word_in left)) refl e

-- ---- the word of a check

module _ (next : Check → List ℕ → Parsed Claim) where
  abbrev pub after_refusal : Refused × List ℕ → Parsed Claim
  after_refusal got = next (Unchecked got.0) got.1

  abbrev made : Op → ℚ → ℚ → List ℕ → Parsed Refused
  made op left right rest = Some (record { op = op; left = left; right = right }, rest)

  at_right : (op : Op) (left : ℚ) (rest : List ℕ) →
      with_word (fraction_in checker_of_128_bits) (λ right. with_text (codes "\n") (λ rest. option_and_then after_refusal (made op left right rest))) rest
      ≡ option_and_then after_refusal (with_word (fraction_in checker_of_128_bits) (λ right. with_text (codes "\n") (made op left right)) rest)
  at_right op left rest =
      (λ i. with_word (fraction_in checker_of_128_bits) (λ right rest. text_then (codes "\n") after_refusal (made op left right) rest i) rest)
      ∙ word_then (fraction_in checker_of_128_bits) after_refusal (λ right. with_text (codes "\n") (made op left right)) rest

  abbrev from_left : Op → ℚ → List ℕ → Parsed Refused
  from_left op left = with_text (codes " ") (with_word (fraction_in checker_of_128_bits) (λ right. with_text (codes "\n") (made op left right)))

  at_left : (op : Op) (rest : List ℕ) →
      with_word (fraction_in checker_of_128_bits)
      (λ left. with_text (codes " ")
      (with_word (fraction_in checker_of_128_bits)
      (λ right. with_text (codes "\n") (λ rest. option_and_then after_refusal (made op left right rest))))) rest
      ≡ option_and_then after_refusal (with_word (fraction_in checker_of_128_bits) (from_left op) rest)
  at_left op rest =
      (λ i. with_word (fraction_in checker_of_128_bits) (λ left rest. with_text (codes " ") (λ rest. at_right op left rest i) rest) rest)
      ∙ (λ i. with_word (fraction_in checker_of_128_bits)
      (λ left rest. text_then (codes " ") after_refusal
      (with_word (fraction_in checker_of_128_bits) (λ right. with_text (codes "\n") (made op left right))) rest i) rest)
      ∙ word_then (fraction_in checker_of_128_bits) after_refusal (from_left op) rest

  abbrev from_op : Op → List ℕ → Parsed Refused
  from_op op = with_text (codes " ") (with_word (fraction_in checker_of_128_bits) (from_left op))

  at_op : (rest : List ℕ) →
      with_word (named all_operations)
      (λ op. with_text (codes " ")
      (with_word (fraction_in checker_of_128_bits)
      (λ left. with_text (codes " ")
      (with_word (fraction_in checker_of_128_bits)
      (λ right. with_text (codes "\n") (λ rest. option_and_then after_refusal (made op left right rest))))))) rest
      ≡ option_and_then after_refusal (with_word (named all_operations) from_op rest)
  at_op rest =
      (λ i. with_word (named all_operations) (λ op rest. with_text (codes " ") (λ rest. at_left op rest i) rest) rest)
      ∙ (λ i. with_word (named all_operations)
      (λ op rest. text_then (codes " ") after_refusal (with_word (fraction_in checker_of_128_bits) (from_left op)) rest i) rest)
      ∙ word_then (named all_operations) after_refusal from_op rest

  -- where the other word doesn't stand
  pub not_made : (old : List ℕ) → left_after (codes "CHECKED\n") old ≡ None → with_check next old ≡ option_and_then after_refusal (refusal_in old)
  not_made old none =
      ap (λ o. option_or (option_and_then (next Checked) o)
      (with_text (codes "UNCHECKED ")
      (with_word (named all_operations)
      (λ op. with_text (codes " ")
      (with_word (fraction_in checker_of_128_bits)
      (λ left. with_text (codes " ")
      (with_word (fraction_in checker_of_128_bits)
      (λ right. with_text (codes "\n") (λ rest. option_and_then after_refusal (made op left right rest)))))))) old)) none
      ∙ (λ i. with_text (codes "UNCHECKED ") (λ rest. at_op rest i) old)
      ∙ text_then (codes "UNCHECKED ") after_refusal (with_word (named all_operations) from_op) old

pub check_after_text : (text old left new : List ℕ) (result : Option Bool) → left_after text old ≡ Some left → IsCheckRead left new result →
    IsCheckAfter text old new result
check_after_text text old left new None e h = λ next. ap (option_and_then (with_check next)) e ∙ h next
check_after_text text old left new (Some b) e h =
    record { check = h.check; reads = λ next. ap (option_and_then (with_check next)) e ∙ h.reads next; says = h.says }

pub ray_head_read : (steps : ℕ) (old left new : List ℕ) (result : Option Bool) →
    labelled (codes "INFEASIBLE STEPS ") (count_in max_count) old ≡ Some (steps, left) → IsCheckAfter (codes " RAY ") left new result →
    IsRayHeadRead old new result
ray_head_read steps old left new None e h =
    λ next. labelled_read (codes "INFEASIBLE STEPS ") (count_in max_count)
    (λ steps. with_text (codes " RAY ") (with_check (λ check rest. next steps check rest))) old steps left e ∙ h (next steps)
ray_head_read steps old left new (Some b) e h = record {
  steps = steps;
  check = h.check;
  reads =
      λ next. labelled_read (codes "INFEASIBLE STEPS ") (count_in max_count)
      (λ steps. with_text (codes " RAY ") (with_check (λ check rest. next steps check rest))) old steps left e ∙ h.reads (next steps);
  says = h.says;
}

pub ray_head_missing : (old new : List ℕ) → labelled (codes "INFEASIBLE STEPS ") (count_in max_count) old ≡ None → IsRayHeadRead old new None
ray_head_missing old new e =
    λ next. labelled_missing (codes "INFEASIBLE STEPS ") (count_in max_count)
    (λ steps. with_text (codes " RAY ") (with_check (λ check rest. next steps check rest))) old e
