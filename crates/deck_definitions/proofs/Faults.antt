-- Each fault of a data deck, on worked decks, computed. The decks begin at card 8 of a job.
use Rattle.std.specs.Prelude.{◌≡◌, refl, ℕ, List, [], ◌∷◌, ◌++◌, codes, Option, Some, None, map, replicate}
use Prim.Native.String.{String}
use Rattle.card_definitions.specs.declared.NumberFault.TheVariants.{Empty, BadCharacter, NoDigit, ExponentRange}
use Rattle.card_definitions.specs.Cards.{Card, numbered_from}
use Rattle.card_definitions.specs.Fields.{Reading, Fixed, reading_of}
use Rattle.card_definitions.specs.Numbers.{number_fault}
use Rattle.problem_definitions.specs.declared.RowKind.TheVariants.{L}
use Rattle.problem_definitions.specs.Names.{Name}
use Rattle.problem_definitions.specs.Problem.{plain_row, combination, Problem}
use Rattle.deck_definitions.specs.declared.DeckFault.{DeckFault}
use Rattle.deck_definitions.specs.declared.DeckFaultKind.{DeckFaultKind}
use Rattle.deck_definitions.specs.declared.DeckFaultKind.TheVariants.{SectionOrder, UnknownSection, BadRowType, DuplicateRow, ColumnSplit, UnknownRow}
use Rattle.deck_definitions.specs.declared.DeckFaultKind.TheVariants.{DuplicateEntry, Number, RangeOnFree, BadBoundType, UnknownColumn, BoundTwice, NoEndata}
use Rattle.deck_definitions.specs.declared.DeckFaultKind.TheVariants.{Marker, EmptyName, TooManyRows, TooManyColumns, TooManyEntries, ExtraField}
use Rattle.deck_definitions.specs.declared.Section.TheVariants.{Columns, Rhs}
use Rattle.deck_definitions.specs.Described.{described}
use Rattle.deck_definitions.specs.Tests.{row_fault, columns_fault, pair_fault}
use Rattle.deck_definitions.specs.Conversion.{deck_fault, card_fault}

abbrev of_deck : List String → List Card
of_deck cards = numbered_from 8 (map codes cards)

abbrev found : ℕ → DeckFaultKind → Option DeckFault
found card kind = Some (record { card = card; kind = kind })

abbrev fault_of : List String → Option DeckFault
fault_of cards = deck_fault (of_deck cards)

-- a deck with one row, and what follows from card 11 on
abbrev after_cost : List String → Option DeckFault
after_cost cards = deck_fault (of_deck ("NAME          T" ∷ "ROWS" ∷ " N  COST" ∷ cards))

-- a deck with two rows and one column, and what follows from card 14 on
abbrev after_x : List String → Option DeckFault
after_x cards = deck_fault (of_deck ("NAME          T" ∷ "ROWS" ∷ " N  COST" ∷ " L  LIM" ∷ "COLUMNS" ∷ "    X         COST      1" ∷ cards))

-- the first card that isn't skipped is a NAME card, and no data card follows it directly
first_data_card : fault_of ("    X" ∷ "NAME" ∷ "ROWS" ∷ []) ≡ found 8 SectionOrder
unfolding deck_fault card_fault described reading_of number_fault
first_data_card = refl

first_unknown : fault_of ("OBJSENSE" ∷ []) ≡ found 8 SectionOrder
unfolding deck_fault card_fault described reading_of number_fault
first_unknown = refl

first_rows : fault_of ("* note" ∷ "ROWS" ∷ "ENDATA" ∷ []) ≡ found 9 SectionOrder
unfolding deck_fault card_fault described reading_of number_fault
first_rows = refl

data_after_name : fault_of ("NAME          T" ∷ " N  COST" ∷ "ROWS" ∷ []) ≡ found 9 SectionOrder
unfolding deck_fault card_fault described reading_of number_fault
data_after_name = refl

name_twice : fault_of ("NAME          T" ∷ "NAME          T" ∷ []) ≡ found 9 SectionOrder
unfolding deck_fault card_fault described reading_of number_fault
name_twice = refl

cut_off : fault_of ("NAME          T" ∷ "ROWS" ∷ " N  COST" ∷ "COLUMNS" ∷ "ENDAT" ∷ []) ≡ found 12 UnknownSection
unfolding deck_fault card_fault described reading_of number_fault
cut_off = refl

-- the row type
bad_row_type : after_cost (" Q  R1" ∷ "ENDATA" ∷ []) ≡ found 11 BadRowType
unfolding deck_fault card_fault described reading_of number_fault
bad_row_type = refl

bad_combination_type : after_cost (" DX R1" ∷ "ENDATA" ∷ []) ≡ found 11 BadRowType
unfolding deck_fault card_fault described reading_of number_fault
bad_combination_type = refl

-- a row type may stand in column 3
type_in_column_3 : after_cost ("  L R1" ∷ "COLUMNS" ∷ "ENDATA" ∷ []) ≡ None
unfolding deck_fault card_fault described reading_of number_fault
type_in_column_3 = refl

empty_row : after_cost (" L" ∷ "ENDATA" ∷ []) ≡ found 11 EmptyName
unfolding deck_fault card_fault described reading_of number_fault
empty_row = refl

row_twice : after_cost (" L  R1" ∷ " G  COST" ∷ "ENDATA" ∷ []) ≡ found 12 DuplicateRow
unfolding deck_fault card_fault described reading_of number_fault
row_twice = refl

third_field : after_cost (" L  R1        X" ∷ "ENDATA" ∷ []) ≡ found 11 ExtraField
unfolding deck_fault card_fault described reading_of number_fault
third_field = refl

sixth_field : after_cost (" L  R1                                                X" ∷ "ENDATA" ∷ []) ≡ found 11 ExtraField
unfolding deck_fault card_fault described reading_of number_fault
sixth_field = refl

-- columns 62 to 80 are not read
after_the_fields : after_cost (" L  R1                                                       X                 Y" ∷ "COLUMNS" ∷ "ENDATA" ∷ []) ≡ None
unfolding deck_fault card_fault described reading_of number_fault
after_the_fields = refl

-- a gap that is not blank comes before the row type, and the row type before what follows
gap_first : after_cost (" Q  R1      X" ∷ "ENDATA" ∷ []) ≡ found 11 ExtraField
unfolding deck_fault card_fault described reading_of number_fault
gap_first = refl

type_first : after_cost (" Q" ∷ "ENDATA" ∷ []) ≡ found 11 BadRowType
unfolding deck_fault card_fault described reading_of number_fault
type_first = refl

-- sections
unknown_section : after_cost ("OBJSENSE" ∷ "ENDATA" ∷ []) ≡ found 11 UnknownSection
unfolding deck_fault card_fault described reading_of number_fault
unknown_section = refl

sections_turned : after_cost ("RHS" ∷ "ENDATA" ∷ []) ≡ found 11 SectionOrder
unfolding deck_fault card_fault described reading_of number_fault
sections_turned = refl

section_twice : after_cost ("COLUMNS" ∷ "COLUMNS" ∷ "ENDATA" ∷ []) ≡ found 12 SectionOrder
unfolding deck_fault card_fault described reading_of number_fault
section_twice = refl

sets_turned : after_cost ("COLUMNS" ∷ "BOUNDS" ∷ "RHS" ∷ "ENDATA" ∷ []) ≡ found 13 SectionOrder
unfolding deck_fault card_fault described reading_of number_fault
sets_turned = refl

no_columns_section : after_cost ("ENDATA" ∷ []) ≡ found 11 SectionOrder
unfolding deck_fault card_fault described reading_of number_fault
no_columns_section = refl

word_alone : after_cost ("COLUMNS and what follows" ∷ "RHS" ∷ "RANGES" ∷ "BOUNDS" ∷ "ENDATA of it" ∷ []) ≡ None
unfolding deck_fault card_fault described reading_of number_fault
word_alone = refl

skipped_cards : after_cost ("* note" ∷ "" ∷ "COLUMNS" ∷ "* note" ∷ "ENDATA" ∷ []) ≡ None
unfolding deck_fault card_fault described reading_of number_fault
skipped_cards = refl

-- the card is the last of the deck, skipped or not
no_endata : after_cost ("COLUMNS" ∷ "* end" ∷ "" ∷ []) ≡ found 13 NoEndata
unfolding deck_fault card_fault described reading_of number_fault
no_endata = refl

fault_before_end : after_cost ("COLUMNS" ∷ "    X         C         1" ∷ []) ≡ found 12 UnknownRow
unfolding deck_fault card_fault described reading_of number_fault
fault_before_end = refl

-- columns
column_split : after_cost
    ("COLUMNS" ∷ "    X         COST      1" ∷ "    Y         COST      1" ∷ "    X         COST      2" ∷ "ENDATA" ∷ []) ≡ found 14 ColumnSplit
unfolding deck_fault card_fault described reading_of number_fault
column_split = refl

column_goes_on : after_cost
    ("* the cards of one column" ∷ " L  LIM" ∷ "COLUMNS" ∷ "    X         COST      1" ∷ "    X         LIM       2" ∷ "ENDATA" ∷ []) ≡ None
unfolding deck_fault card_fault described reading_of number_fault
column_goes_on = refl

entry_twice : after_cost ("COLUMNS" ∷ "    X         COST      1" ∷ "    X         COST      1" ∷ "ENDATA" ∷ []) ≡ found 13 DuplicateEntry
unfolding deck_fault card_fault described reading_of number_fault
entry_twice = refl

entry_twice_on_card : after_cost ("COLUMNS" ∷ "    X         COST      1              COST      0" ∷ "ENDATA" ∷ []) ≡ found 12 DuplicateEntry
unfolding deck_fault card_fault described reading_of number_fault
entry_twice_on_card = refl

unknown_row : after_cost ("COLUMNS" ∷ "    X         COST      1              LIM       1" ∷ "ENDATA" ∷ []) ≡ found 12 UnknownRow
unfolding deck_fault card_fault described reading_of number_fault
unknown_row = refl

empty_column : after_cost ("COLUMNS" ∷ "              COST      1" ∷ "ENDATA" ∷ []) ≡ found 12 EmptyName
unfolding deck_fault card_fault described reading_of number_fault
empty_column = refl

empty_pair : after_cost ("COLUMNS" ∷ "    X" ∷ "ENDATA" ∷ []) ≡ found 12 EmptyName
unfolding deck_fault card_fault described reading_of number_fault
empty_pair = refl

second_pair_alone : after_cost ("COLUMNS" ∷ "    X                                  COST      1" ∷ "ENDATA" ∷ []) ≡ found 12 EmptyName
unfolding deck_fault card_fault described reading_of number_fault
second_pair_alone = refl

second_name_alone : after_cost ("COLUMNS" ∷ "    X         COST      1              COST" ∷ "ENDATA" ∷ []) ≡ found 12 DuplicateEntry
unfolding deck_fault card_fault described reading_of number_fault
second_name_alone = refl

second_value_alone : after_cost ("COLUMNS" ∷ "    X         COST      1                        2" ∷ "ENDATA" ∷ []) ≡ found 12 EmptyName
unfolding deck_fault card_fault described reading_of number_fault
second_value_alone = refl

marker_card : after_cost ("COLUMNS" ∷ "    M1        'MARKER'" ∷ "ENDATA" ∷ []) ≡ found 12 Marker
unfolding deck_fault card_fault described reading_of number_fault
marker_card = refl

marker_after : after_cost ("COLUMNS" ∷ "    X         COST      1              'MARKER'  'INTORG'" ∷ "ENDATA" ∷ []) ≡ found 12 Marker
unfolding deck_fault card_fault described reading_of number_fault
marker_after = refl

filled_kind : after_cost ("COLUMNS" ∷ " N  X         COST      1" ∷ "ENDATA" ∷ []) ≡ found 12 ExtraField
unfolding deck_fault card_fault described reading_of number_fault
filled_kind = refl

-- numbers: a bad character has its column
no_number : after_cost ("COLUMNS" ∷ "    X         COST" ∷ "ENDATA" ∷ []) ≡ found 12 (Number Empty 0)
unfolding deck_fault card_fault described reading_of number_fault
no_number = refl

two_points : after_cost ("COLUMNS" ∷ "    X         COST      1.2.3" ∷ "ENDATA" ∷ []) ≡ found 12 (Number (BadCharacter 4) 28)
unfolding deck_fault card_fault described reading_of number_fault
two_points = refl

two_points_after : after_cost (" L  LIM" ∷ "COLUMNS" ∷ "    X         COST      1              LIM        1.2.3" ∷ "ENDATA" ∷ []) ≡ found 13
    (Number (BadCharacter 5) 54)
unfolding deck_fault card_fault described reading_of number_fault
two_points_after = refl

no_digit : after_cost ("COLUMNS" ∷ "    X         COST      ." ∷ "ENDATA" ∷ []) ≡ found 12 (Number NoDigit 0)
unfolding deck_fault card_fault described reading_of number_fault
no_digit = refl

large_exponent : after_cost ("COLUMNS" ∷ "    X         COST      1E19" ∷ "ENDATA" ∷ []) ≡ found 12 (Number ExponentRange 0)
unfolding deck_fault card_fault described reading_of number_fault
large_exponent = refl

-- the cards of a set needn't stand together
item_twice : after_x ("RHS" ∷ "    B         LIM       1" ∷ "    C         LIM       1" ∷ "    B         LIM       2" ∷ "ENDATA" ∷ []) ≡ found 17 DuplicateEntry
unfolding deck_fault card_fault described reading_of number_fault
item_twice = refl

items_of_two_sets : after_x
    ("RHS" ∷ "    B         LIM       1" ∷ "              LIM       1              COST      2" ∷ "    B         COST      2" ∷ "ENDATA" ∷ []) ≡ None
unfolding deck_fault card_fault described reading_of number_fault
items_of_two_sets = refl

right_hand_side_kind : after_x ("RHS" ∷ "  X B         LIM       1" ∷ "ENDATA" ∷ []) ≡ found 15 ExtraField
unfolding deck_fault card_fault described reading_of number_fault
right_hand_side_kind = refl

right_hand_side_row : after_x ("RHS" ∷ "    B         LIMIT     1" ∷ "ENDATA" ∷ []) ≡ found 15 UnknownRow
unfolding deck_fault card_fault described reading_of number_fault
right_hand_side_row = refl

-- only a card of COLUMNS is a marker
right_hand_side_marker : after_x ("RHS" ∷ "    B         'MARKER'  1" ∷ "ENDATA" ∷ []) ≡ found 15 UnknownRow
unfolding deck_fault card_fault described reading_of number_fault
right_hand_side_marker = refl

free_right_hand_side : after_x ("RHS" ∷ "    B         COST      1" ∷ "ENDATA" ∷ []) ≡ None
unfolding deck_fault card_fault described reading_of number_fault
free_right_hand_side = refl

range_on_free : after_x ("RANGES" ∷ "    R         LIM       1              COST      X" ∷ "ENDATA" ∷ []) ≡ found 15 RangeOnFree
unfolding deck_fault card_fault described reading_of number_fault
range_on_free = refl

range_twice : after_x ("RANGES" ∷ "    R         LIM       1              LIM       X" ∷ "ENDATA" ∷ []) ≡ found 15 DuplicateEntry
unfolding deck_fault card_fault described reading_of number_fault
range_twice = refl

-- bounds
bound_type : after_x ("BOUNDS" ∷ " BV BND       X         1" ∷ "ENDATA" ∷ []) ≡ found 15 BadBoundType
unfolding deck_fault card_fault described reading_of number_fault
bound_type = refl

bound_gap : after_x ("BOUNDS" ∷ " BVX" ∷ "ENDATA" ∷ []) ≡ found 15 ExtraField
unfolding deck_fault card_fault described reading_of number_fault
bound_gap = refl

bound_without_column : after_x ("BOUNDS" ∷ " UP BND                 1" ∷ "ENDATA" ∷ []) ≡ found 15 EmptyName
unfolding deck_fault card_fault described reading_of number_fault
bound_without_column = refl

unknown_column : after_x ("BOUNDS" ∷ " UP BND       Y         1" ∷ "ENDATA" ∷ []) ≡ found 15 UnknownColumn
unfolding deck_fault card_fault described reading_of number_fault
unknown_column = refl

bound_twice : after_x ("BOUNDS" ∷ " UP BND       X         1" ∷ " LO BND       X         1" ∷ " PL BND       X" ∷ "ENDATA" ∷ []) ≡ found 17 BoundTwice
unfolding deck_fault card_fault described reading_of number_fault
bound_twice = refl

bound_fixed_after : after_x ("BOUNDS" ∷ " MI BND       X" ∷ " FX BND       X         1" ∷ "ENDATA" ∷ []) ≡ found 16 BoundTwice
unfolding deck_fault card_fault described reading_of number_fault
bound_fixed_after = refl

bounds_of_two_sets : after_x ("BOUNDS" ∷ " UP BND       X         1" ∷ " UP           X         1" ∷ " MI BND       X" ∷ "ENDATA" ∷ []) ≡ None
unfolding deck_fault card_fault described reading_of number_fault
bounds_of_two_sets = refl

bound_number : after_x ("BOUNDS" ∷ " UP BND       X         1X" ∷ "ENDATA" ∷ []) ≡ found 15 (Number (BadCharacter 2) 26)
unfolding deck_fault card_fault described reading_of number_fault
bound_number = refl

-- field 4 of FR, MI and PL is not read
unread_number : after_x ("BOUNDS" ∷ " FR BND       X         1X" ∷ "ENDATA" ∷ []) ≡ None
unfolding deck_fault card_fault described reading_of number_fault
unread_number = refl

bound_fifth_field : after_x ("BOUNDS" ∷ " FR BND       X                        Y" ∷ "ENDATA" ∷ []) ≡ found 15 ExtraField
unfolding deck_fault card_fault described reading_of number_fault
bound_fifth_field = refl

-- the limits, at the last lawful row, column and entry and one more
abbrev many : ℕ → ℕ → Problem Name
many rows columns = record {
  name = [];
  rows = replicate rows (plain_row L (codes "R"));
  columns = replicate columns (record { name = codes "C"; items = [] });
  rhs = [];
  ranges = [];
  bounds = [];
}

abbrev read : String → Reading
read card = reading_of Fixed (codes card)

row_1000 : row_fault (many 999 0) (read " L  NEW") ≡ None
unfolding reading_of
row_1000 = refl

row_1001 : row_fault (many 1000 0) (read " L  NEW") ≡ Some TooManyRows
unfolding reading_of
row_1001 = refl

-- a card that goes on with a combination begins no row
more_parts : row_fault (record (many 0 0) { rows = replicate 999 (plain_row L (codes "R")) ++ combination L (codes "S") [] ∷ [] })
    (read " DL S         R         1") ≡ None
unfolding reading_of number_fault
more_parts = refl

column_5000 : columns_fault (many 1 4999) (read "    NEW       R         1") ≡ None
unfolding reading_of number_fault
column_5000 = refl

column_5001 : columns_fault (many 1 5000) (read "    NEW       R         1") ≡ Some TooManyColumns
unfolding reading_of number_fault
column_5001 = refl

entry_50000 : pair_fault (many 1 1) Columns [] 49999 (record { row = codes "R"; value = codes "1"; column = 25 }) ≡ None
unfolding number_fault
entry_50000 = refl

entry_50001 : pair_fault (many 1 1) Columns [] 50000 (record { row = codes "R"; value = codes "1"; column = 25 }) ≡ Some TooManyEntries
unfolding number_fault
entry_50001 = refl

no_limit_in_sets : pair_fault (many 1 1) Rhs [] 50000 (record { row = codes "R"; value = codes "1"; column = 25 }) ≡ None
unfolding number_fault
no_limit_in_sets = refl
