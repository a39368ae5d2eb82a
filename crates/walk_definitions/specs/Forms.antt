-- Lines that can't be attested: the stops that a run chooses, or that only a basis or a device shows, and the reports that only a basis
-- shows.
--     Piece                        a text, or a word of a kind
--     left_by form rest            what is left after these pieces, where they stand at the beginning, one after another
--     is_open_stop rest            the first line of a stop text that can't be attested stands here, whole
--     is_ranges rest               the first line of RANGE stands here, whole
--     is_punched name rest         the line of PUNCH stands here, for a problem of this name
--     is_inserted name rest        the line of INSERT stands here, for a deck of this name
use Rattle.std.specs.Prelude.{ℕ, Bool, false, List, [], ◌∷◌, ◌++◌, Option, Some, None, is_some, option_and_then, map, drop, length, codes, if◌then◌else◌}
use Rattle.std.specs.List.{list_any}
use Rattle.frac128.specs.declared.Op.{Op}
use Rattle.frac128.specs.declared.Op.TheVariants.{Add, Sub, Mul, Div}
use Rattle.card_definitions.specs.Words.{named}
use Rattle.problem_definitions.specs.Names.{Name}
use Rattle.listing_definitions.specs.Text.{operation_text, name8}
use Rattle.walk_definitions.specs.Checkers.{checker_of_128_bits}
use Rattle.walk_definitions.specs.Words.{left_after, word_in, fraction_in, count_in, max_count}

-- the words of the four operations
abbrev pub all_operations : List (List ℕ × Op)
all_operations = map (λ op. (operation_text op, op)) (Add ∷ Sub ∷ Mul ∷ Div ∷ [])

-- the numbers are those of a run, whatever the checker
pub data Piece : Type 0 where
  Text : List ℕ → Piece
  Count Fraction Operation : Piece

-- a word is of a kind
abbrev pub is_of : Piece → List ℕ → Bool
is_of (Text text) word = false
is_of Count word = is_some (count_in max_count word)
is_of Fraction word = is_some (fraction_in checker_of_128_bits word)
is_of Operation word = is_some (named all_operations word)

abbrev pub left_by_piece : Piece → List ℕ → Option (List ℕ)
left_by_piece (Text text) rest = left_after text rest
left_by_piece piece rest = if is_of piece (word_in rest) then Some (drop (length (word_in rest)) rest) else None

abbrev pub left_by : List Piece → List ℕ → Option (List ℕ)
left_by [] rest = Some rest
left_by (piece ∷ pieces) rest = option_and_then (left_by pieces) (left_by_piece piece rest)

abbrev pub has_form : List Piece → List ℕ → Bool
has_form form rest = is_some (left_by form rest)

-- ---- stop texts: the limit on steps, faults of devices and memory, a singular basis, wrong prices, and an overflow

abbrev pub limit_stop : List Piece
limit_stop = Text (codes "STOP 16 ITERATION LIMIT ") ∷ Count ∷ Text (codes " CARD ") ∷ Count ∷ Text (codes "\n") ∷ []

abbrev pub read_fault : List Piece
read_fault = Text (codes "STOP 24 READ FAULT\n") ∷ []

abbrev pub punch_fault : List Piece
punch_fault = Text (codes "STOP 26 PUNCH FAULT\n") ∷ []

abbrev pub memory_stop : List Piece
memory_stop = Text (codes "STOP 28 MEMORY\n") ∷ []

abbrev pub singular_stop : List Piece
singular_stop = Text (codes "STOP 10 VERB FAULT 15 CARD ") ∷ Count ∷ Text (codes "\n") ∷ []

abbrev pub price_stop : List Piece
price_stop = Text (codes "STOP 10 VERB FAULT 16 CARD ") ∷ Count ∷ Text (codes " VARIABLE ") ∷ Count ∷ Text (codes "\n") ∷ []

-- the formula and the operation, the numbers, and what follows them
abbrev pub overflow_operation : List Piece
overflow_operation = Text (codes "STOP 20 OVERFLOW F") ∷ Count ∷ Text (codes " ") ∷ Operation ∷ Text (codes " ") ∷ Fraction ∷ Text (codes " ") ∷ Fraction ∷ []

abbrev pub overflow_numbers : List Piece
overflow_numbers =
    Text (codes " P ") ∷ Count ∷ Text (codes " Q ") ∷ Count ∷ Text (codes " I ") ∷ Count ∷ Text (codes " J ") ∷ Count ∷ Text (codes " TERM ") ∷ Count ∷ []

abbrev pub overflow_end : List Piece
overflow_end = Text (codes " THETA ") ∷ Fraction ∷ Text (codes " CARD ") ∷ Count ∷ Text (codes "\n") ∷ []

abbrev pub overflow_stop : List Piece
overflow_stop = overflow_operation ++ (overflow_numbers ++ overflow_end)

unfoldable pub is_open_stop : List ℕ → Bool
is_open_stop rest =
    list_any (λ form. has_form form rest) (limit_stop ∷ read_fault ∷ punch_fault ∷ memory_stop ∷ singular_stop ∷ price_stop ∷ overflow_stop ∷ [])

-- ---- reports

unfoldable pub is_ranges : List ℕ → Bool
is_ranges rest = has_form (Text (codes "RANGE\n") ∷ []) rest

-- a verb with a name, and a count after its word
abbrev pub counted_line : List ℕ → Name → List ℕ → List Piece
counted_line verb name word = Text (verb ++ (name8 name ++ word)) ∷ Count ∷ Text (codes "\n") ∷ []

unfoldable pub is_punched : Name → List ℕ → Bool
is_punched name rest = has_form (counted_line (codes "PUNCH   ") name (codes " CARDS ")) rest

unfoldable pub is_inserted : Name → List ℕ → Bool
is_inserted name rest = has_form (counted_line (codes "INSERT  ") name (codes " BASIC ")) rest
