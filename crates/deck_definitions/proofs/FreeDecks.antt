-- Worked free decks, computed.
use Rattle.std.specs.Prelude.{◌≡◌, refl, ℕ, List, [], ◌∷◌, codes, Option, Some, None, map}
use Prim.Native.String.{String}
use Rattle.card_definitions.specs.declared.NumberFault.TheVariants.{BadCharacter}
use Rattle.card_definitions.specs.Cards.{Card, numbered_from}
use Rattle.card_definitions.specs.Fields.{words, reading_of}
use Rattle.card_definitions.specs.Numbers.{number_fault}
use Rattle.problem_definitions.specs.Numbering.{numbered}
use Rattle.deck_definitions.specs.declared.DeckFault.{DeckFault}
use Rattle.deck_definitions.specs.declared.DeckFaultKind.{DeckFaultKind}
use Rattle.deck_definitions.specs.declared.DeckFaultKind.TheVariants.{BadRowType, DuplicateRow, UnknownRow, DuplicateEntry, Number, BadBoundType, UnknownColumn}
use Rattle.deck_definitions.specs.declared.DeckFaultKind.TheVariants.{ExtraField, WordCount, LongName, LongNumber}
use Rattle.deck_definitions.specs.Described.{described}
use Rattle.deck_definitions.specs.Conversion.{deck_fault, card_fault, conversion}

abbrev of_deck : List String → List Card
of_deck cards = numbered_from 1 (map codes cards)

abbrev found : ℕ → DeckFaultKind → Option DeckFault
found card kind = Some (record { card = card; kind = kind })

-- a free deck and a fixed one that say the same
free_deck : conversion
    (of_deck ("NAME          ONE       FREE" ∷ "ROWS" ∷ " N COST" ∷ " G LOW" ∷ "COLUMNS" ∷ " X COST 1 LOW 1" ∷ "RHS" ∷ " LOW 1" ∷ "RANGES" ∷ " R LOW 2"
    ∷ "BOUNDS" ∷ " UP X 4" ∷ " FR B X" ∷ "ENDATA" ∷ [])) None
    ≡ conversion
    (of_deck ("NAME          ONE" ∷ "ROWS" ∷ " N  COST" ∷ " G  LOW" ∷ "COLUMNS" ∷ "    X         COST      1              LOW       1" ∷ "RHS"
    ∷ "              LOW       1" ∷ "RANGES" ∷ "    R         LOW       2" ∷ "BOUNDS" ∷ " UP           X         4" ∷ " FR B         X" ∷ "ENDATA" ∷ []))
    None
unfolding conversion numbered deck_fault card_fault described reading_of words number_fault
free_deck = refl

-- ---- a card of ROWS

abbrev with_row : String → Option DeckFault
with_row card = deck_fault (of_deck ("NAME          ONE       FREE" ∷ "ROWS" ∷ " N COST" ∷ " G LOW" ∷ card ∷ "COLUMNS" ∷ "ENDATA" ∷ []))

third_row : with_row " L CAP" ≡ None
unfolding deck_fault card_fault described reading_of words number_fault
third_row = refl

no_such_type : with_row " Q R" ≡ found 5 BadRowType
unfolding deck_fault card_fault described reading_of words number_fault
no_such_type = refl

-- the type is tested before the number of words
bad_type_of_three : with_row " Q R X" ≡ found 5 BadRowType
unfolding deck_fault card_fault described reading_of words number_fault
bad_type_of_three = refl

three_words_in_rows : with_row " L R X" ≡ found 5 WordCount
unfolding deck_fault card_fault described reading_of words number_fault
three_words_in_rows = refl

row_without_name : with_row " L" ≡ found 5 WordCount
unfolding deck_fault card_fault described reading_of words number_fault
row_without_name = refl

-- a plain row has no parts
parts_of_plain : with_row " L A COST 1" ≡ found 5 WordCount
unfolding deck_fault card_fault described reading_of words number_fault
parts_of_plain = refl

long_row : with_row " L LONGNAME9" ≡ found 5 LongName
unfolding deck_fault card_fault described reading_of words number_fault
long_row = refl

row_again : with_row " G LOW" ≡ found 5 DuplicateRow
unfolding deck_fault card_fault described reading_of words number_fault
row_again = refl

-- ---- a combination

-- two parts on a card, and the same combination on two cards of a fixed deck
free_combination : conversion
    (of_deck ("NAME          ONE       FREE" ∷ "ROWS" ∷ " N COST" ∷ " G LOW" ∷ " DL S COST 1 LOW -2" ∷ "COLUMNS" ∷ " X COST 1 LOW 1" ∷ "RHS" ∷ " S 4"
    ∷ "ENDATA" ∷ [])) None
    ≡ conversion
    (of_deck ("NAME          ONE" ∷ "ROWS" ∷ " N  COST" ∷ " G  LOW" ∷ " DL S         COST      1" ∷ " DL S         LOW       -2" ∷ "COLUMNS"
    ∷ "    X         COST      1              LOW       1" ∷ "RHS" ∷ "              S         4" ∷ "ENDATA" ∷ [])) None
unfolding conversion numbered deck_fault card_fault described reading_of words number_fault
free_combination = refl

without_parts : with_row " DN S" ≡ None
unfolding deck_fault card_fault described reading_of words number_fault
without_parts = refl

one_part : with_row " DL S COST 1" ≡ None
unfolding deck_fault card_fault described reading_of words number_fault
one_part = refl

two_parts : with_row " DL S COST 1 LOW -2" ≡ None
unfolding deck_fault card_fault described reading_of words number_fault
two_parts = refl

combination_without_name : with_row " DN" ≡ found 5 WordCount
unfolding deck_fault card_fault described reading_of words number_fault
combination_without_name = refl

part_without_number : with_row " DN S COST" ≡ found 5 WordCount
unfolding deck_fault card_fault described reading_of words number_fault
part_without_number = refl

second_without_number : with_row " DL S COST 1 LOW" ≡ found 5 WordCount
unfolding deck_fault card_fault described reading_of words number_fault
second_without_number = refl

long_combination : with_row " DL LONGNAME9 COST 1" ≡ found 5 LongName
unfolding deck_fault card_fault described reading_of words number_fault
long_combination = refl

long_part : with_row " DL S LONGNAME9 1" ≡ found 5 LongName
unfolding deck_fault card_fault described reading_of words number_fault
long_part = refl

long_multiplier : with_row " DL S COST 1234567890123" ≡ found 5 LongNumber
unfolding deck_fault card_fault described reading_of words number_fault
long_multiplier = refl

bad_multiplier : with_row " DL S COST 1 LOW 1.2.3" ≡ found 5 (Number (BadCharacter 4) 21)
unfolding deck_fault card_fault described reading_of words number_fault
bad_multiplier = refl

part_of_itself : with_row " DL S S 1" ≡ found 5 UnknownRow
unfolding deck_fault card_fault described reading_of words number_fault
part_of_itself = refl

combination_again : with_row " DL COST COST 1" ≡ found 5 DuplicateRow
unfolding deck_fault card_fault described reading_of words number_fault
combination_again = refl

-- ---- a card of COLUMNS

abbrev with_entries : String → Option DeckFault
with_entries card = deck_fault (of_deck ("NAME          ONE       FREE" ∷ "ROWS" ∷ " N COST" ∷ " G LOW" ∷ "COLUMNS" ∷ card ∷ "ENDATA" ∷ []))

two_words : with_entries " X COST" ≡ found 6 WordCount
unfolding deck_fault card_fault described reading_of words number_fault
two_words = refl

four_words : with_entries " X COST 1 LOW" ≡ found 6 WordCount
unfolding deck_fault card_fault described reading_of words number_fault
four_words = refl

long_column : with_entries " LONGNAME9 COST 1" ≡ found 6 LongName
unfolding deck_fault card_fault described reading_of words number_fault
long_column = refl

long_number : with_entries " X COST 1234567890123" ≡ found 6 LongNumber
unfolding deck_fault card_fault described reading_of words number_fault
long_number = refl

-- a bad character has a column of the card
bad_number : with_entries " X COST 1 LOW 1.2.3" ≡ found 6 (Number (BadCharacter 4) 18)
unfolding deck_fault card_fault described reading_of words number_fault
bad_number = refl

no_number : with_entries " X COST 1 LOW Q" ≡ found 6 (Number (BadCharacter 1) 15)
unfolding deck_fault card_fault described reading_of words number_fault
no_number = refl

entry_again : with_entries " X COST 1 COST 1" ≡ found 6 DuplicateEntry
unfolding deck_fault card_fault described reading_of words number_fault
entry_again = refl

no_such_row : with_entries " X NOROW 1" ≡ found 6 UnknownRow
unfolding deck_fault card_fault described reading_of words number_fault
no_such_row = refl

-- the whole card counts
past_column_61 : with_entries " X COST 1                                                          Y" ≡ found 6 WordCount
unfolding deck_fault card_fault described reading_of words number_fault
past_column_61 = refl

-- ---- a card of BOUNDS

abbrev with_bound : String → Option DeckFault
with_bound card = deck_fault (of_deck ("NAME          ONE       FREE" ∷ "ROWS" ∷ " N COST" ∷ "COLUMNS" ∷ " X COST 1" ∷ "BOUNDS" ∷ card ∷ "ENDATA" ∷ []))

free_column : with_bound " FR X" ≡ None
unfolding deck_fault card_fault described reading_of words number_fault
free_column = refl

upper_bound : with_bound " UP B X 1" ≡ None
unfolding deck_fault card_fault described reading_of words number_fault
upper_bound = refl

bound_without_number : with_bound " UP X" ≡ found 7 WordCount
unfolding deck_fault card_fault described reading_of words number_fault
bound_without_number = refl

bound_with_number : with_bound " MI B X 1" ≡ found 7 WordCount
unfolding deck_fault card_fault described reading_of words number_fault
bound_with_number = refl

-- the type is tested before the number of words
no_such_bound : with_bound " BV" ≡ found 7 BadBoundType
unfolding deck_fault card_fault described reading_of words number_fault
no_such_bound = refl

long_bound : with_bound " FX B X 12345678901E1" ≡ found 7 LongNumber
unfolding deck_fault card_fault described reading_of words number_fault
long_bound = refl

no_such_column : with_bound " UP B Y 1" ≡ found 7 UnknownColumn
unfolding deck_fault card_fault described reading_of words number_fault
no_such_column = refl

-- ---- the NAME card

abbrev with_header : String → Option DeckFault
with_header card = deck_fault (of_deck (card ∷ "ROWS" ∷ " N COST" ∷ "COLUMNS" ∷ "ENDATA" ∷ []))

free_without_name : with_header "NAME                    FREE" ≡ None
unfolding deck_fault card_fault described reading_of words number_fault
free_without_name = refl

-- another filled column from 23 on, or FREE elsewhere, leaves the deck fixed
filled_30 : with_header "NAME          ONE       FREE X" ≡ found 3 ExtraField
unfolding deck_fault card_fault described reading_of words number_fault
filled_30 = refl

filled_24 : with_header "NAME          ONE      XFREE" ≡ found 3 ExtraField
unfolding deck_fault card_fault described reading_of words number_fault
filled_24 = refl

filled_80 : with_header "NAME          ONE       FREE                                                   X" ≡ found 3 ExtraField
unfolding deck_fault card_fault described reading_of words number_fault
filled_80 = refl

one_column_early : with_header "NAME          ONE      FREE" ≡ found 3 ExtraField
unfolding deck_fault card_fault described reading_of words number_fault
one_column_early = refl

name_alone : with_header "NAME ONE FREE" ≡ found 3 ExtraField
unfolding deck_fault card_fault described reading_of words number_fault
name_alone = refl
