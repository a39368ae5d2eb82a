-- The label and the statement of a control card, and the words of a statement.
--     label_of card, statement_of card     what stands in columns 1 to 72; after the statement stands a remark
--     verb_word statement                  the text up to the first parenthesis, or the whole statement
--     arguments_of statement               what stands between the parentheses, cut at the commas outside quotes
--     first_argument statement             the text of the first argument, also where the statement isn't well formed
use Rattle.std.specs.Prelude.{ℕ, ◌-◌, ◌%◌, Bool, false, not, ◌&&◌, ◌==◌, List, [], ◌∷◌, Option, Some, None, if◌then◌else◌, map, scan, take, drop, length}
use Rattle.std.specs.Prelude.{count_by, bytes_eq}
use Rattle.std.specs.List.{before_first, after_first, slice_split, position_or_len, list_any}
use Rattle.card_definitions.specs.Words.{without_leading}
use Rattle.card_definitions.specs.Cards.{is_blank}
use Rattle.control_definitions.specs.declared.TheConstants.{READ_COLUMNS}

abbrev pub is_quote : ℕ → Bool
is_quote byte = byte == 39

abbrev pub is_comma : ℕ → Bool
is_comma byte = byte == 44

abbrev pub is_open_parenthesis : ℕ → Bool
is_open_parenthesis byte = byte == 40

abbrev pub is_close_parenthesis : ℕ → Bool
is_close_parenthesis byte = byte == 41

-- ---- quotes

-- each byte of a text, beside whether it stands within quotes: a quote begins them, and the next one ends them; inside says
-- whether the text begins within quotes
abbrev pub marked_from : Bool → List ℕ → List (Bool × ℕ)
marked_from inside text = scan (λ within byte. if is_quote byte then not within else within) (λ within byte. (within, byte)) inside text

abbrev pub marked : List ℕ → List (Bool × ℕ)
marked text = marked_from false text

-- whether a byte stands outside quotes, and passes
abbrev pub outside : (ℕ → Bool) → Bool × ℕ → Bool
outside p entry = not entry.0 && p entry.1

abbrev pub has_outside : (ℕ → Bool) → List ℕ → Bool
has_outside p text = list_any (outside p) (marked text)

-- what stands before the first byte outside quotes that passes, or all
abbrev pub before_outside : (ℕ → Bool) → List ℕ → List ℕ
before_outside p text = take (position_or_len (outside p) (marked text)) text

-- the parts between the bytes outside quotes that pass
abbrev pub split_outside : (ℕ → Bool) → List ℕ → List (List ℕ)
split_outside p text = map (λ part. map (λ entry. entry.1) part) (slice_split (outside p) (marked text))

-- ---- the two parts of a card

-- columns 73 to 80 aren't read
abbrev pub read_columns : List ℕ → List ℕ
read_columns card = take READ_COLUMNS card

-- The label of a card is the text from column 1 to the first blank; where column 1 is blank, there is none.
unfoldable pub label_of : List ℕ → List ℕ
label_of card = before_first is_blank (read_columns card)

-- The statement of a card goes from the first byte after the label that isn't blank to the first blank outside quotes.
unfoldable pub statement_of : List ℕ → List ℕ
statement_of card = before_outside is_blank (without_leading is_blank (drop (length (label_of card)) (read_columns card)))

-- whether a quote of the statement isn't closed
abbrev pub is_unclosed : List ℕ → Bool
is_unclosed statement = count_by is_quote statement % 2 == 1

-- ---- the words of a statement

abbrev pub verb_word : List ℕ → List ℕ
verb_word statement = before_first is_open_parenthesis statement

abbrev pub after_parenthesis : List ℕ → List ℕ
after_parenthesis statement = after_first is_open_parenthesis statement

-- A statement has no parentheses; or it has arguments between a parenthesis and one at its end; or neither.
pub data Arguments : Type 0 where
  Without Malformed : Arguments
  With : List (List ℕ) → Arguments

-- the text without the parenthesis that ends it
abbrev pub without_close : List ℕ → Option (List ℕ)
without_close text = if bytes_eq (drop (length text - 1) text) (41 ∷ []) then Some (take (length text - 1) text) else None

-- the parts of what stands between the parentheses
abbrev pub between_parentheses : Option (List ℕ) → Arguments
between_parentheses None = Malformed
between_parentheses (Some text) = With (split_outside is_comma text)

abbrev pub arguments_of : List ℕ → Arguments
arguments_of statement =
    if list_any is_open_parenthesis statement then between_parentheses (without_close (after_parenthesis statement)) else Without

-- what stands after the parenthesis up to the first comma outside quotes or, where there is none, up to the first closing
-- parenthesis outside quotes, or else to the statement's end
abbrev pub first_argument : List ℕ → List ℕ
first_argument statement =
    let text = after_parenthesis statement in
    before_outside (if has_outside is_comma text then is_comma else is_close_parenthesis) text
