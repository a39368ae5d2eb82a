-- Table lines, as they are read, by how the word of a number is.
--     Slot                         what may stand at a place of a line
--     line_in of sheet slots k     the line of variable k
--     table_in of sheet slots ks   the lines of these variables, one after another
--     ray_in of sheet ks           a line for each variable that has one, in this order, with a number other than 0
--     column_of place lines        the numbers at a place of the lines, from 0
--     multipliers sheet lines      a number for each variable, and 0 where it has no line
use Rattle.std.specs.Prelude.{ℕ, Bool, false, ◌&&◌, List, [], ◌∷◌, ◌++◌, Option, Some, None, map, find, option_map, option_and_then, slice_get, codes, bytes_eq}
use Rattle.std.specs.Prelude.{nat_eq, if◌then◌else◌}
use Rattle.exact_values.specs.Rational.{ℚ, zero_ℚ}
use Rattle.exact_values.specs.Tests.{eq_ℚ}
use Rattle.lp_definitions.specs.LinearProgram.{variables}
use Rattle.card_definitions.specs.Cards.{is_blank}
use Rattle.card_definitions.specs.Numbers.{is_digit}
use Rattle.card_definitions.specs.Words.{named, without_leading}
use Rattle.listing_definitions.specs.declared.At.{At}
use Rattle.listing_definitions.specs.declared.At.TheVariants.{Basic, Outside, Equal, Lower, Upper, Free}
use Rattle.listing_definitions.specs.Report.{Value, Code, Number, Line}
use Rattle.listing_definitions.specs.Text.{at_text, value_text, number5, name8}
use Rattle.question_definitions.specs.Answers.{Sheet}
use Rattle.answer_definitions.specs.Lines.{name_of}
use Rattle.walk_definitions.specs.Words.{Parsed, left_after, with_text, with_word}

-- any of the six codes, any number, or this value alone
pub data Slot : Type 0 where
  AnyCode AnyNumber : Slot
  Known : Value → Slot

abbrev pub all_codes : List (List ℕ × At)
all_codes = map (λ at. (at_text at, at)) (Basic ∷ Outside ∷ Equal ∷ Lower ∷ Upper ∷ Free ∷ [])

abbrev pub value_in : (List ℕ → Option ℚ) → Slot → List ℕ → Option Value
value_in of AnyCode word = option_map Code (named all_codes word)
value_in of AnyNumber word = option_map Number (of word)
value_in of (Known value) word = if bytes_eq (value_text value) word then Some value else None

-- a blank stands before each value
abbrev pub slot_in : (List ℕ → Option ℚ) → Slot → List ℕ → Parsed Value
slot_in of slot rest = with_text (codes " ") (with_word (value_in of slot) (λ value left. Some (value, left))) rest

-- one thing is read, and then a list of more
abbrev pub then_more : {X : Type 0} → Parsed X → (List ℕ → Parsed (List X)) → Parsed (List X)
then_more None reads = None
then_more (Some got) reads = option_map (λ more. (got.0 ∷ more.0, more.1)) (reads got.1)

abbrev pub values_in : (List ℕ → Option ℚ) → List Slot → List ℕ → Parsed (List Value)
values_in of [] rest = Some ([], rest)
values_in of (slot ∷ slots) rest = then_more (slot_in of slot rest) (values_in of slots)

abbrev pub number_of : Option Value → ℚ
number_of (Some (Number x)) = x
number_of _ = zero_ℚ

abbrev pub number_at : ℕ → Line → ℚ
number_at place line = number_of (slice_get line.values place)

-- the first number of the line of variable k, and 0 where it has none
abbrev pub numbered : ℕ → List Line → ℚ
numbered k lines = elim (find (λ line. nat_eq line.number k) lines) [
  | None ↦ zero_ℚ
  | Some line ↦ number_at 0 line
]

abbrev pub begins : (ℕ → Bool) → List ℕ → Bool
begins p [] = false
begins p (byte ∷ bytes) = p byte

-- blanks or none, at least one digit, and a blank
abbrev pub begins_table_line : List ℕ → Bool
begins_table_line rest =
    let digits_on = without_leading is_blank rest in begins is_digit digits_on && begins is_blank (without_leading is_digit digits_on)

-- two numbers; and where a variable stands in an interval of a parametric run, with its value and price and their rates
abbrev pub pair_slots : ℕ → List Slot
pair_slots k = AnyNumber ∷ AnyNumber ∷ []

abbrev pub part_slots : ℕ → List Slot
part_slots k = AnyCode ∷ AnyNumber ∷ AnyNumber ∷ AnyNumber ∷ AnyNumber ∷ []

module _ (sheet : Sheet) where
  -- the head of a line: its number in 5 places, a blank, its name in 8 places. It is taken off before anything is split, since a name may
  -- have blanks.
  abbrev pub line_head : ℕ → List ℕ
  line_head k = number5 k ++ (codes " " ++ name8 (name_of sheet k))

  abbrev pub line_of : ℕ → List Value → Line
  line_of k values = record { number = k; name = name_of sheet k; values = values }

module _ (of : List ℕ → Option ℚ) (sheet : Sheet) where
  abbrev pub line_in : List Slot → ℕ → List ℕ → Parsed Line
  line_in slots k rest =
      option_and_then (λ got. option_map (λ left. (line_of sheet k got.0, left)) (left_after (codes "\n") got.1))
      (with_text (line_head sheet k) (values_in of slots) rest)

  abbrev pub table_in : (ℕ → List Slot) → List ℕ → List ℕ → Parsed (List Line)
  table_in slots [] rest = Some ([], rest)
  table_in slots (k ∷ ks) rest = then_more (line_in (slots k) k rest) (table_in slots ks)

  -- a line with one number, which isn't 0
  abbrev pub multiplier_in : ℕ → List ℕ → Parsed Line
  multiplier_in k rest = option_and_then (λ got. if eq_ℚ (number_at 0 got.0) zero_ℚ then None else Some got) (line_in (AnyNumber ∷ []) k rest)

  -- such a line for each variable that has one here, in this order; after them no table line may follow
  abbrev pub ray_in : List ℕ → List ℕ → Parsed (List Line)
  ray_in [] rest = if begins_table_line rest then None else Some ([], rest)
  ray_in (k ∷ ks) rest = elim (left_after (line_head sheet k) rest) [
    | None ↦ ray_in ks rest
    | Some values ↦ then_more (multiplier_in k rest) (ray_in ks)
  ]

-- a number for each variable, and 0 where it has no line
abbrev pub multipliers : Sheet → List Line → List ℚ
multipliers sheet lines = map (λ k. numbered k lines) (variables sheet.lp.matrix)

abbrev pub column_of : ℕ → List Line → List ℚ
column_of place lines = map (number_at place) lines
