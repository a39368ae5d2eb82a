-- What stands at the beginning of a text.
--     Parsed X                     what is read there, with what is left after it
--     left_after text rest         what is left after a text, where it stands there
--     with_text text reads         a text stands there, and this is read after it
--     word_in rest                 the bytes up to the first blank or line feed
--     with_word of reads           a word that means something, and this is read after it
--     fraction_in C, count_in      a number, as the listing writes it, which the checker reads
--     form_in C                    the same, but for a number that is too long to be read for its value
use Rattle.std.specs.Prelude.{ℕ, [], ◌∷◌, Bool, false, not, ◌||◌, ◌&&◌, ◌==◌, pos, List, Option, Some, None, take, drop, length, bytes_eq, nat_le, nat_lt}
use Rattle.std.specs.Prelude.{if◌then◌else◌, unwrap_or, option_and_then}
use Rattle.std.specs.List.{before_first, after_first, list_all, list_any}
use Rattle.exact_values.specs.Rational.{ℚ, whole, fraction, neg_ℚ}
use Rattle.card_definitions.specs.Numbers.{is_digit, digits_value}
use Rattle.listing_definitions.specs.Numbers.{digits, rational_text}
use Rattle.walk_definitions.specs.Checkers.{Checker}

abbrev pub Parsed : Type 0 → Type 0
Parsed X = Option (X × List ℕ)

abbrev pub left_after : List ℕ → List ℕ → Option (List ℕ)
left_after text rest = if bytes_eq (take (length text) rest) text then Some (drop (length text) rest) else None

abbrev pub with_text : {X : Type 0} → List ℕ → (List ℕ → Option X) → List ℕ → Option X
with_text text reads rest = option_and_then reads (left_after text rest)

-- a blank or a line feed ends a word
abbrev pub ends_word : ℕ → Bool
ends_word byte = byte == 32 || byte == 10

abbrev pub word_in : List ℕ → List ℕ
word_in rest = before_first ends_word rest

abbrev pub with_word : {X Y : Type 0} → (List ℕ → Option X) → (X → List ℕ → Option Y) → List ℕ → Option Y
with_word of reads rest = option_and_then (λ x. reads x (drop (length (word_in rest)) rest)) (of (word_in rest))

-- ---- numbers: each is made of its word, whatever the bytes are, and the word has to be its text

abbrev pub is_slash : ℕ → Bool
is_slash byte = byte == 47

-- the number before the slash, and the one after it, or 1
abbrev pub top_of : List ℕ → ℕ
top_of word = digits_value (before_first is_slash word)

abbrev pub bottom_of : List ℕ → ℕ
bottom_of word = if list_any is_slash word then digits_value (after_first is_slash word) else 1

abbrev pub spelled_size : List ℕ → ℚ
spelled_size word = fraction (pos (top_of word)) (bottom_of word)

-- its opposite after a minus
abbrev pub spelled : List ℕ → ℚ
spelled word = elim (left_after (45 ∷ []) word) [
  | None ↦ spelled_size word
  | Some size ↦ neg_ℚ (spelled_size size)
]

-- what stands after a minus, if one stands first
abbrev pub unsigned : List ℕ → List ℕ
unsigned word = unwrap_or (left_after (45 ∷ []) word) word

-- at least one digit, and the first isn't 0
abbrev pub are_digits : List ℕ → Bool
are_digits [] = false
are_digits (byte ∷ bytes) = is_digit byte && (not (byte == 48) && list_all is_digit bytes)

-- digits, or digits over digits; whether they are in lowest terms isn't looked at
abbrev pub has_number_form : List ℕ → Bool
has_number_form size = if list_any is_slash size then are_digits (before_first is_slash size) && are_digits (after_first is_slash size) else are_digits size

-- it has the form of a number, with more digits than so many above or below the line
abbrev pub is_longer : ℕ → List ℕ → Bool
is_longer most size = has_number_form size && (nat_lt most (length (before_first is_slash size)) || nat_lt most (length (after_first is_slash size)))

abbrev pub is_long : Checker → List ℕ → Bool
is_long C word = elim C.most_digits [
  | None ↦ false
  | Some most ↦ is_longer most (unsigned word)
]

-- a fraction that the arithmetic reads, and that isn't too long
unfoldable pub fraction_in : Checker → List ℕ → Option ℚ
fraction_in C word =
    if is_long C word then None else if C.arithmetic.reads (spelled word) && bytes_eq (rational_text (spelled word)) word then Some (spelled word) else None

-- A number that is too long may stand wherever a number may. It is taken for 1, since a multiplier isn't 0.
abbrev pub form_in : Checker → List ℕ → Option ℚ
form_in C word = if is_long C word then Some (whole (pos 1)) else fraction_in C word

-- a count up to a greatest one
unfoldable pub count_in : ℕ → List ℕ → Option ℕ
count_in most word = if nat_le (digits_value word) most && bytes_eq (digits (digits_value word)) word then Some (digits_value word) else None

-- a printed count has 32 bits
abbrev pub max_count : ℕ
max_count = 4294967295
