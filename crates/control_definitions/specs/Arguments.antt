-- The arguments that statements take: texts and names in quotes, numbers, labels, and the options of SETUP.
use Rattle.std.specs.Prelude.{ℕ, ◌-◌, Bool, not, ◌||◌, ◌&&◌, ◌==◌, nat_le, List, [], ◌∷◌, ◌++◌, Option, Some, None, codes, if◌then◌else◌, unwrap_or, option_map}
use Rattle.std.specs.Prelude.{option_and_then, filter_map, take, drop, length, bytes_eq, slice_get, pos, negsuc, ℤ}
use Rattle.std.specs.List.{list_all, list_any}
use Rattle.std.specs.Result.{result_ok}
use Rattle.exact_values.specs.Rational.{ℚ}
use Rattle.lp_definitions.specs.declared.Sense.{Sense}
use Rattle.lp_definitions.specs.declared.Sense.TheVariants.{Min, Max}
use Rattle.card_definitions.specs.Words.{named, is_empty, without_trailing}
use Rattle.card_definitions.specs.Cards.{is_blank, is_printable}
use Rattle.card_definitions.specs.Numbers.{is_digit, number_of}
use Rattle.control_definitions.specs.declared.TheConstants.{MAX_STEPS}
use Rattle.control_definitions.specs.Program.{SetupOptions}
use Rattle.control_definitions.specs.Statements.{is_quote}

-- the value, where it passes
abbrev pub if_passes : {X : Type 0} → (X → Bool) → X → Option X
if_passes p x = if p x then Some x else None

-- ---- texts in quotes

-- what stands between two quotes, where no other quote does
abbrev pub quotation : List ℕ → Option (List ℕ)
quotation argument =
    let inner = take (length argument - 2) (drop 1 argument) in
    if bytes_eq argument (39 ∷ inner ++ 39 ∷ []) && not (list_any is_quote inner) then Some inner else None

-- a title has at most 60 bytes
abbrev pub title_argument : List ℕ → Option (List ℕ)
title_argument argument = option_and_then (if_passes (λ text. nat_le (length text) 60)) (quotation argument)

-- a name has 0 to 8 printable bytes, of which the last isn't a blank
abbrev pub is_name : List ℕ → Bool
is_name text = nat_le (length text) 8 && list_all is_printable text && bytes_eq (without_trailing is_blank text) text

abbrev pub quoted_name : List ℕ → Option (List ℕ)
quoted_name argument = option_and_then (if_passes is_name) (quotation argument)

-- ---- numbers

-- the value of a number, which has at most 12 bytes
abbrev pub number_argument : List ℕ → Option ℚ
number_argument argument =
    option_and_then (λ text. option_map (λ decimal. decimal.value) (result_ok (number_of text))) (if_passes (λ text. nat_le (length text) 12) argument)

-- the number of steps that a value allows: a whole one from 0 to 1,000,000
abbrev pub steps_of : ℤ → ℕ → Option ℕ
steps_of (pos n) denominator = if denominator == 1 && nat_le n MAX_STEPS then Some n else None
steps_of (negsuc n) denominator = None

abbrev pub steps_argument : List ℕ → Option ℕ
steps_argument argument = option_and_then (λ value. steps_of value.numerator value.denominator) (number_argument argument)

-- a limit on steps is such a number, or none, which is said by the text 'NONE'
abbrev pub limit_argument : List ℕ → Option (Option ℕ)
limit_argument argument = if bytes_eq argument (codes "'NONE'") then Some None else option_map (λ steps. Some steps) (steps_argument argument)

-- ---- labels

-- A to Z and 0 to 9
abbrev pub is_label_byte : ℕ → Bool
is_label_byte byte = is_digit byte || nat_le 65 byte && nat_le byte 90

-- 1 to 8 of these
abbrev pub is_label : List ℕ → Bool
is_label text = not (is_empty text) && nat_le (length text) 8 && list_all is_label_byte text

abbrev pub label_text : List ℕ → Option (List ℕ)
label_text argument = if_passes is_label argument

-- ---- the options of SETUP

-- one choice of SETUP: of a bound set, of a range set, or of the sense
pub data SetupArgument : Type 0 where
  BoundSet RangeSet : List ℕ → SetupArgument
  Direction : Sense → SetupArgument

-- the words that take the set's name after them, and those that stand alone
abbrev pub set_words : List (List ℕ × (List ℕ → SetupArgument))
set_words = (codes "BOUND", BoundSet) ∷ (codes "RANGE", RangeSet) ∷ []

abbrev pub sense_words : List (List ℕ × SetupArgument)
sense_words = (codes "MIN", Direction Min) ∷ (codes "MAX", Direction Max) ∷ []

-- the choice that two arguments make, and the one that an argument alone makes
abbrev pub set_choice : List ℕ → List ℕ → Option SetupArgument
set_choice word name = option_and_then (λ choice. option_map choice (quoted_name name)) (option_and_then (named set_words) (quotation word))

abbrev pub sense_choice : List ℕ → Option SetupArgument
sense_choice word = option_and_then (named sense_words) (quotation word)

-- a choice and those after it
abbrev pub led_by : Option SetupArgument → Option (List SetupArgument) → Option (List SetupArgument)
led_by (Some choice) (Some others) = Some (choice ∷ others)
led_by _ _ = None

-- The choices that the arguments make in order: each is a set's word with its name, or a sense alone.
abbrev pub choices : List (List ℕ) → Option (List SetupArgument)
choices [] = Some []
choices (word ∷ []) = led_by (sense_choice word) (Some [])
choices (word ∷ next ∷ arguments) = elim (sense_choice word) [
  | Some choice ↦ led_by (Some choice) (choices (next ∷ arguments))
  | None ↦ led_by (set_choice word next) (choices arguments)
]

abbrev pub bound_chosen : SetupArgument → Option (List ℕ)
bound_chosen (BoundSet name) = Some name
bound_chosen _ = None

abbrev pub range_chosen : SetupArgument → Option (List ℕ)
range_chosen (RangeSet name) = Some name
range_chosen _ = None

abbrev pub sense_chosen : SetupArgument → Option Sense
sense_chosen (Direction sense) = Some sense
sense_chosen _ = None

-- whether at most one choice is of this kind
abbrev pub is_chosen_once : {X : Type 0} → (SetupArgument → Option X) → List SetupArgument → Bool
is_chosen_once kind list = nat_le (length (filter_map kind list)) 1

-- what was chosen of this kind, if anything was
abbrev pub chosen : {X : Type 0} → (SetupArgument → Option X) → List SetupArgument → Option X
chosen kind list = slice_get (filter_map kind list) 0

-- each kind of choice stands at most once
abbrev pub is_setup : List SetupArgument → Bool
is_setup list = is_chosen_once bound_chosen list && is_chosen_once range_chosen list && is_chosen_once sense_chosen list

-- a set that isn't chosen doesn't apply, and MIN is the default
abbrev pub options_of : List SetupArgument → SetupOptions
options_of list = record {
  bound = chosen bound_chosen list;
  range = chosen range_chosen list;
  sense = unwrap_or (chosen sense_chosen list) Min;
}

-- parentheses hold one argument at least
abbrev pub setup_arguments : List (List ℕ) → Option SetupOptions
setup_arguments [] = None
setup_arguments (first ∷ others) = option_map options_of (option_and_then (if_passes is_setup) (choices (first ∷ others)))
