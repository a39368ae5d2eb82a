-- What the checker reads of a word.
use Rattle.std.proofs.Common.{◌≡◌, ℕ, Bool, true, false, List, Option, Some, None, if◌then◌else◌, refl, ap₂}
use Rattle.std.specs.Prelude.{bytes_eq}
use Rattle.exact_values.specs.Rational.{ℚ}
use Rattle.listing_definitions.specs.Numbers.{rational_text}
use Rattle.walk_definitions.specs.Checkers.{checker_of_any_length}
use Rattle.walk_definitions.specs.Words.{spelled, is_long, fraction_in}

abbrev read_by : List ℕ → Bool → Bool → Option ℚ
read_by word long same = if long then None else if same then Some (spelled word) else None

read_is : (word : List ℕ) (long same : Bool) → is_long checker_of_any_length word ≡ long → bytes_eq (rational_text (spelled word)) word ≡ same →
    fraction_in checker_of_any_length word ≡ read_by word long same
unfolding fraction_in
read_is word long same long_is same_is = ap₂ (read_by word) long_is same_is

pub long_is_none : (word : List ℕ) → is_long checker_of_any_length word ≡ true → fraction_in checker_of_any_length word ≡ None
long_is_none word long = read_is word true (bytes_eq (rational_text (spelled word)) word) long refl

pub other_is_none : (word : List ℕ) → is_long checker_of_any_length word ≡ false → bytes_eq (rational_text (spelled word)) word ≡ false →
    fraction_in checker_of_any_length word ≡ None
other_is_none word short other = read_is word false false short other

pub text_is_read : (word : List ℕ) → is_long checker_of_any_length word ≡ false → bytes_eq (rational_text (spelled word)) word ≡ true →
    fraction_in checker_of_any_length word ≡ Some (spelled word)
text_is_read word short same = read_is word false true short same
