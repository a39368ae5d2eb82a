-- The faults of REVISE decks, on worked decks, computed.
use Rattle.std.specs.Prelude.{◌≡◌, refl, ℕ, List, [], ◌∷◌, codes, Option, Some, None, map}
use Prim.Native.String.{String}
use Rattle.card_definitions.specs.declared.NumberFault.TheVariants.{Empty, BadCharacter}
use Rattle.card_definitions.specs.Cards.{numbered_from}
use Rattle.card_definitions.specs.Fields.{reading_of}
use Rattle.card_definitions.specs.Numbers.{number_fault}
use Rattle.deck_definitions.specs.declared.DeckFault.{DeckFault}
use Rattle.deck_definitions.specs.declared.DeckFaultKind.{DeckFaultKind}
use Rattle.deck_definitions.specs.declared.DeckFaultKind.TheVariants.{SectionOrder, UnknownSection, BadRowType, DuplicateRow, ColumnSplit, UnknownRow}
use Rattle.deck_definitions.specs.declared.DeckFaultKind.TheVariants.{DuplicateEntry, Number, RangeOnFree, BadBoundType, UnknownColumn, NoEndata, Marker}
use Rattle.deck_definitions.specs.declared.DeckFaultKind.TheVariants.{EmptyName, TooManyEntries, ExtraField, UnknownAction, NoAnchor, DeleteMissing}
use Rattle.deck_definitions.specs.declared.DeckFaultKind.TheVariants.{ModifyMissing}
use Rattle.deck_definitions.specs.declared.Section.TheVariants.{Columns}
use Rattle.deck_definitions.specs.DataCards.{Pair, entry_of}
use Rattle.revise_definitions.specs.Revision.{revise_fault, revise_card_fault, revised}
use Rattle.revise_definitions.specs.Tests.{puts_fault}
use Rattle.revise_definitions.proofs.Old.{old}

abbrev found : ℕ → DeckFaultKind → Option DeckFault
found card kind = Some (record { card = card; kind = kind })

-- the fault of a deck that revises the old problem: a NAME card, and these cards from card 2 on
abbrev faults : List String → Option DeckFault
faults cards = revise_fault old (numbered_from 1 (map codes ("NAME          REV" ∷ cards)))

-- nothing comes before the NAME card
no_name : revise_fault old (numbered_from 1 (map codes (" MODIFY" ∷ "NAME" ∷ []))) ≡ found 1 SectionOrder
unfolding revise_fault revise_card_fault revised reading_of
no_name = refl

-- an action card or a data card directly after NAME, whatever else is wrong with it
first_action : faults (" MODIFY" ∷ "ROWS" ∷ "ENDATA" ∷ []) ≡ found 2 SectionOrder
unfolding revise_fault revise_card_fault revised reading_of number_fault
first_action = refl

first_unknown_action : faults (" CHANGE" ∷ "ROWS" ∷ "ENDATA" ∷ []) ≡ found 2 SectionOrder
unfolding revise_fault revise_card_fault revised reading_of number_fault
first_unknown_action = refl

first_data : faults ("    X" ∷ "ENDATA" ∷ []) ≡ found 2 SectionOrder
unfolding revise_fault revise_card_fault revised reading_of number_fault
first_data = refl

-- every section but NAME may be missing, and the order holds
sections_missing : faults ("BOUNDS" ∷ "ENDATA" ∷ []) ≡ None
unfolding revise_fault revise_card_fault revised reading_of number_fault
sections_missing = refl

no_section : faults ("ENDATA" ∷ []) ≡ None
unfolding revise_fault revise_card_fault revised reading_of number_fault
no_section = refl

sections_turned : faults ("RHS" ∷ "COLUMNS" ∷ "ENDATA" ∷ []) ≡ found 3 SectionOrder
unfolding revise_fault revise_card_fault revised reading_of number_fault
sections_turned = refl

unknown_section : faults ("OBJSENSE" ∷ "ENDATA" ∷ []) ≡ found 2 UnknownSection
unfolding revise_fault revise_card_fault revised reading_of number_fault
unknown_section = refl

no_endata : faults ("ROWS" ∷ "* end" ∷ []) ≡ found 3 NoEndata
unfolding revise_fault revise_card_fault revised reading_of number_fault
no_endata = refl

-- unknown actions, actions that a section has not, and data cards without an action
unknown_action : faults ("ROWS" ∷ " CHANGE" ∷ " G  LIM" ∷ "ENDATA" ∷ []) ≡ found 3 UnknownAction
unfolding revise_fault revise_card_fault revised reading_of number_fault
unknown_action = refl

long_word : faults ("ROWS" ∷ " MODIFYING" ∷ "ENDATA" ∷ []) ≡ found 3 UnknownAction
unfolding revise_fault revise_card_fault revised reading_of number_fault
long_word = refl

insert_in_rhs : faults ("RHS" ∷ " AFTER" ∷ "ENDATA" ∷ []) ≡ found 3 UnknownAction
unfolding revise_fault revise_card_fault revised reading_of number_fault
insert_in_rhs = refl

insert_in_bounds : faults ("BOUNDS" ∷ " BEFORE       NONE" ∷ "ENDATA" ∷ []) ≡ found 3 UnknownAction
unfolding revise_fault revise_card_fault revised reading_of number_fault
insert_in_bounds = refl

no_action : faults ("ROWS" ∷ " N  A" ∷ "ENDATA" ∷ []) ≡ found 3 UnknownAction
unfolding revise_fault revise_card_fault revised reading_of number_fault
no_action = refl

action_of_other_section : faults ("ROWS" ∷ " MODIFY" ∷ "COLUMNS" ∷ "    X         COST      1" ∷ "ENDATA" ∷ []) ≡ found 5 UnknownAction
unfolding revise_fault revise_card_fault revised reading_of number_fault
action_of_other_section = refl

-- no other test is made on a data card without an action
no_action_and_a_gap : faults ("ROWS" ∷ "    A       X" ∷ "ENDATA" ∷ []) ≡ found 3 UnknownAction
unfolding revise_fault revise_card_fault revised reading_of number_fault
no_action_and_a_gap = refl

-- what else stands on an action card is not read
action_cards_whole : faults ("ROWS" ∷ " MODIFY     X                Y" ∷ "ENDATA" ∷ []) ≡ None
unfolding revise_fault revise_card_fault revised reading_of number_fault
action_cards_whole = refl

-- anchors: a row in ROWS, a column in COLUMNS, or none
no_anchor_row : faults ("ROWS" ∷ " AFTER        X" ∷ "ENDATA" ∷ []) ≡ found 3 NoAnchor
unfolding revise_fault revise_card_fault revised reading_of number_fault
no_anchor_row = refl

no_anchor_column : faults ("COLUMNS" ∷ " BEFORE       LIM" ∷ "ENDATA" ∷ []) ≡ found 3 NoAnchor
unfolding revise_fault revise_card_fault revised reading_of number_fault
no_anchor_column = refl

anchors : faults ("ROWS" ∷ " AFTER        LIM" ∷ " BEFORE" ∷ "COLUMNS" ∷ " AFTER        Y" ∷ " BEFORE" ∷ "ENDATA" ∷ []) ≡ None
unfolding revise_fault revise_card_fault revised reading_of number_fault
anchors = refl

anchor_unread : faults ("ROWS" ∷ " MODIFY       NONE" ∷ " DELETE       NONE" ∷ "ENDATA" ∷ []) ≡ None
unfolding revise_fault revise_card_fault revised reading_of number_fault
anchor_unread = refl

anchor_deleted : faults ("ROWS" ∷ " DELETE" ∷ " L  LIM" ∷ " AFTER        LIM" ∷ "ENDATA" ∷ []) ≡ found 5 NoAnchor
unfolding revise_fault revise_card_fault revised reading_of number_fault
anchor_deleted = refl

-- ROWS under MODIFY
modify_missing_row : faults ("ROWS" ∷ " MODIFY" ∷ " N  X" ∷ "ENDATA" ∷ []) ≡ found 4 ModifyMissing
unfolding revise_fault revise_card_fault revised reading_of number_fault
modify_missing_row = refl

modify_bad_type : faults ("ROWS" ∷ " MODIFY" ∷ " Q  LIM" ∷ "ENDATA" ∷ []) ≡ found 4 BadRowType
unfolding revise_fault revise_card_fault revised reading_of number_fault
modify_bad_type = refl

modify_combination : faults ("ROWS" ∷ " MODIFY" ∷ " DN LIM" ∷ "ENDATA" ∷ []) ≡ found 4 BadRowType
unfolding revise_fault revise_card_fault revised reading_of number_fault
modify_combination = refl

-- the name and the row come before the type
modify_nameless_combination : faults ("ROWS" ∷ " MODIFY" ∷ " DN" ∷ "ENDATA" ∷ []) ≡ found 4 EmptyName
unfolding revise_fault revise_card_fault revised reading_of number_fault
modify_nameless_combination = refl

modify_missing_row_of_bad_type : faults ("ROWS" ∷ " MODIFY" ∷ " Q  X" ∷ "ENDATA" ∷ []) ≡ found 4 ModifyMissing
unfolding revise_fault revise_card_fault revised reading_of number_fault
modify_missing_row_of_bad_type = refl

modify_empty_row : faults ("ROWS" ∷ " MODIFY" ∷ " N" ∷ "ENDATA" ∷ []) ≡ found 4 EmptyName
unfolding revise_fault revise_card_fault revised reading_of number_fault
modify_empty_row = refl

modify_to_free : faults ("ROWS" ∷ " MODIFY" ∷ " N  LIM       X" ∷ "ENDATA" ∷ []) ≡ found 4 RangeOnFree
unfolding revise_fault revise_card_fault revised reading_of number_fault
modify_to_free = refl

modify_gap : faults ("ROWS" ∷ " MODIFY" ∷ " Q          X" ∷ "ENDATA" ∷ []) ≡ found 4 ExtraField
unfolding revise_fault revise_card_fault revised reading_of number_fault
modify_gap = refl

modify_third_field : faults ("ROWS" ∷ " MODIFY" ∷ " G  LIM       X" ∷ "ENDATA" ∷ []) ≡ found 4 ExtraField
unfolding revise_fault revise_card_fault revised reading_of number_fault
modify_third_field = refl

-- ROWS under DELETE, where field 1 is not read
delete_missing_row : faults ("ROWS" ∷ " DELETE" ∷ " G  ZZ        X" ∷ "ENDATA" ∷ []) ≡ found 4 DeleteMissing
unfolding revise_fault revise_card_fault revised reading_of number_fault
delete_missing_row = refl

delete_row_twice : faults ("ROWS" ∷ " DELETE" ∷ " Q  LIM" ∷ " Q  LIM" ∷ "ENDATA" ∷ []) ≡ found 5 DeleteMissing
unfolding revise_fault revise_card_fault revised reading_of number_fault
delete_row_twice = refl

delete_empty_row : faults ("ROWS" ∷ " DELETE" ∷ " G" ∷ "ENDATA" ∷ []) ≡ found 4 EmptyName
unfolding revise_fault revise_card_fault revised reading_of number_fault
delete_empty_row = refl

delete_row_third_field : faults ("ROWS" ∷ " DELETE" ∷ " G  LIM       X" ∷ "ENDATA" ∷ []) ≡ found 4 ExtraField
unfolding revise_fault revise_card_fault revised reading_of number_fault
delete_row_third_field = refl

-- ROWS under BEFORE and AFTER
insert_known_row : faults ("ROWS" ∷ " AFTER" ∷ " G  NEW" ∷ " G  LIM" ∷ "ENDATA" ∷ []) ≡ found 5 DuplicateRow
unfolding revise_fault revise_card_fault revised reading_of number_fault
insert_known_row = refl

insert_deleted_row : faults ("ROWS" ∷ " DELETE" ∷ " G  LIM" ∷ " AFTER" ∷ " G  LIM" ∷ "ENDATA" ∷ []) ≡ None
unfolding revise_fault revise_card_fault revised reading_of number_fault
insert_deleted_row = refl

-- COLUMNS under MODIFY
modify_missing_column : faults ("COLUMNS" ∷ " MODIFY" ∷ "    V         COST      1" ∷ "ENDATA" ∷ []) ≡ found 4 ModifyMissing
unfolding revise_fault revise_card_fault revised reading_of number_fault
modify_missing_column = refl

modify_marker : faults ("COLUMNS" ∷ " MODIFY" ∷ "    V         'MARKER'" ∷ "ENDATA" ∷ []) ≡ found 4 Marker
unfolding revise_fault revise_card_fault revised reading_of number_fault
modify_marker = refl

modify_unknown_row : faults ("COLUMNS" ∷ " MODIFY" ∷ "    X         COST      1              ZZ        1" ∷ "ENDATA" ∷ []) ≡ found 4 UnknownRow
unfolding revise_fault revise_card_fault revised reading_of number_fault
modify_unknown_row = refl

modify_number : faults ("COLUMNS" ∷ " MODIFY" ∷ "    X         COST      1              COST      1.2.3" ∷ "ENDATA" ∷ []) ≡ found 4 (Number (BadCharacter 4) 53)
unfolding revise_fault revise_card_fault revised reading_of number_fault
modify_number = refl

-- a row named twice is no fault there
modify_row_twice : faults ("COLUMNS" ∷ " MODIFY" ∷ "    Y         LIM       1              LIM       2" ∷ "ENDATA" ∷ []) ≡ None
unfolding revise_fault revise_card_fault revised reading_of number_fault
modify_row_twice = refl

modify_kind : faults ("COLUMNS" ∷ " MODIFY" ∷ " N  X" ∷ "ENDATA" ∷ []) ≡ found 4 ExtraField
unfolding revise_fault revise_card_fault revised reading_of number_fault
modify_kind = refl

-- COLUMNS under DELETE
delete_missing_column : faults ("COLUMNS" ∷ " DELETE" ∷ "    V         ZZ        1" ∷ "ENDATA" ∷ []) ≡ found 4 DeleteMissing
unfolding revise_fault revise_card_fault revised reading_of number_fault
delete_missing_column = refl

delete_entry_unknown_row : faults ("COLUMNS" ∷ " DELETE" ∷ "    Y         ZZ        1" ∷ "ENDATA" ∷ []) ≡ found 4 UnknownRow
unfolding revise_fault revise_card_fault revised reading_of number_fault
delete_entry_unknown_row = refl

delete_missing_entry : faults ("COLUMNS" ∷ " DELETE" ∷ "    Y         LIM       1" ∷ "ENDATA" ∷ []) ≡ found 4 DeleteMissing
unfolding revise_fault revise_card_fault revised reading_of number_fault
delete_missing_entry = refl

delete_entry_value : faults ("COLUMNS" ∷ " DELETE" ∷ "    Y         COST      1" ∷ "ENDATA" ∷ []) ≡ found 4 ExtraField
unfolding revise_fault revise_card_fault revised reading_of number_fault
delete_entry_value = refl

delete_column_value : faults ("COLUMNS" ∷ " DELETE" ∷ "    Y                   1" ∷ "ENDATA" ∷ []) ≡ found 4 ExtraField
unfolding revise_fault revise_card_fault revised reading_of number_fault
delete_column_value = refl

delete_kind : faults ("COLUMNS" ∷ " DELETE" ∷ " N  V" ∷ "ENDATA" ∷ []) ≡ found 4 ExtraField
unfolding revise_fault revise_card_fault revised reading_of number_fault
delete_kind = refl

-- COLUMNS under BEFORE and AFTER
insert_known_column : faults ("COLUMNS" ∷ " AFTER" ∷ "    V         COST      1" ∷ "    Y         COST      1" ∷ "ENDATA" ∷ []) ≡ found 5 ColumnSplit
unfolding revise_fault revise_card_fault revised reading_of number_fault
insert_known_column = refl

insert_column_goes_on : faults ("COLUMNS" ∷ " AFTER" ∷ "    V         COST      1" ∷ "    V         LIM       1" ∷ "ENDATA" ∷ []) ≡ None
unfolding revise_fault revise_card_fault revised reading_of number_fault
insert_column_goes_on = refl

insert_column_under_next : faults
    ("COLUMNS" ∷ " AFTER" ∷ "    V         COST      1" ∷ " AFTER" ∷ "    V         LIM       1" ∷ "ENDATA" ∷ []) ≡ found 6 ColumnSplit
unfolding revise_fault revise_card_fault revised reading_of number_fault
insert_column_under_next = refl

insert_entry_twice : faults ("COLUMNS" ∷ " AFTER" ∷ "    V         COST      1" ∷ "    V         COST      1" ∷ "ENDATA" ∷ []) ≡ found 5 DuplicateEntry
unfolding revise_fault revise_card_fault revised reading_of number_fault
insert_entry_twice = refl

-- RHS and RANGES
modify_sets : faults
    ("RHS" ∷ " MODIFY" ∷ "    B         LIM       1              LIM       2" ∷ "RANGES" ∷ " MODIFY" ∷ "    NEW       LIM       1" ∷ "ENDATA" ∷ []) ≡ None
unfolding revise_fault revise_card_fault revised reading_of number_fault
modify_sets = refl

modify_range_on_free : faults ("RANGES" ∷ " MODIFY" ∷ "    R         COST      X" ∷ "ENDATA" ∷ []) ≡ found 4 RangeOnFree
unfolding revise_fault revise_card_fault revised reading_of number_fault
modify_range_on_free = refl

modify_set_kind : faults ("RHS" ∷ " MODIFY" ∷ " N" ∷ "ENDATA" ∷ []) ≡ found 4 ExtraField
unfolding revise_fault revise_card_fault revised reading_of number_fault
modify_set_kind = refl

delete_missing_set : faults ("RHS" ∷ " DELETE" ∷ "    C         ZZ        1" ∷ "ENDATA" ∷ []) ≡ found 4 DeleteMissing
unfolding revise_fault revise_card_fault revised reading_of number_fault
delete_missing_set = refl

delete_item_unknown_row : faults ("RHS" ∷ " DELETE" ∷ "    B         ZZ" ∷ "ENDATA" ∷ []) ≡ found 4 UnknownRow
unfolding revise_fault revise_card_fault revised reading_of number_fault
delete_item_unknown_row = refl

delete_missing_item : faults ("RHS" ∷ " DELETE" ∷ "    B         COST" ∷ "ENDATA" ∷ []) ≡ found 4 DeleteMissing
unfolding revise_fault revise_card_fault revised reading_of number_fault
delete_missing_item = refl

delete_item_value : faults ("RHS" ∷ " DELETE" ∷ "    B         LIM       1" ∷ "ENDATA" ∷ []) ≡ found 4 ExtraField
unfolding revise_fault revise_card_fault revised reading_of number_fault
delete_item_value = refl

delete_item_twice : faults ("RHS" ∷ " DELETE" ∷ "    B         LIM" ∷ "    B         LIM" ∷ "ENDATA" ∷ []) ≡ found 5 DeleteMissing
unfolding revise_fault revise_card_fault revised reading_of number_fault
delete_item_twice = refl

-- BOUNDS
modify_bound_type : faults ("BOUNDS" ∷ " MODIFY" ∷ " BV BND       ZZ" ∷ "ENDATA" ∷ []) ≡ found 4 BadBoundType
unfolding revise_fault revise_card_fault revised reading_of number_fault
modify_bound_type = refl

modify_unknown_column : faults ("BOUNDS" ∷ " MODIFY" ∷ " UP BND       ZZ        1" ∷ "ENDATA" ∷ []) ≡ found 4 UnknownColumn
unfolding revise_fault revise_card_fault revised reading_of number_fault
modify_unknown_column = refl

modify_empty_column : faults ("BOUNDS" ∷ " MODIFY" ∷ " UP BND" ∷ "ENDATA" ∷ []) ≡ found 4 EmptyName
unfolding revise_fault revise_card_fault revised reading_of number_fault
modify_empty_column = refl

modify_bound_number : faults ("BOUNDS" ∷ " MODIFY" ∷ " UP BND       X" ∷ "ENDATA" ∷ []) ≡ found 4 (Number Empty 0)
unfolding revise_fault revise_card_fault revised reading_of number_fault
modify_bound_number = refl

-- an end touched twice is no fault there
modify_bound_twice : faults ("BOUNDS" ∷ " MODIFY" ∷ " UP BND       X         1" ∷ " FX BND       X         1" ∷ " FR BND       X" ∷ "ENDATA" ∷ []) ≡ None
unfolding revise_fault revise_card_fault revised reading_of number_fault
modify_bound_twice = refl

delete_missing_bounds : faults ("BOUNDS" ∷ " DELETE" ∷ " QQ C         ZZ        1" ∷ "ENDATA" ∷ []) ≡ found 4 DeleteMissing
unfolding revise_fault revise_card_fault revised reading_of number_fault
delete_missing_bounds = refl

delete_unknown_column : faults ("BOUNDS" ∷ " DELETE" ∷ " QQ BND       ZZ        1" ∷ "ENDATA" ∷ []) ≡ found 4 UnknownColumn
unfolding revise_fault revise_card_fault revised reading_of number_fault
delete_unknown_column = refl

delete_missing_bound : faults ("BOUNDS" ∷ " DELETE" ∷ " QQ BND       Y         1" ∷ "ENDATA" ∷ []) ≡ found 4 DeleteMissing
unfolding revise_fault revise_card_fault revised reading_of number_fault
delete_missing_bound = refl

delete_bound_value : faults ("BOUNDS" ∷ " DELETE" ∷ " QQ BND       X         1" ∷ "ENDATA" ∷ []) ≡ found 4 ExtraField
unfolding revise_fault revise_card_fault revised reading_of number_fault
delete_bound_value = refl

-- Entry 50,001 of the columns may replace one, and not be added; of two pairs on one new row only the first counts.
abbrev pair : String → Pair
pair row = record { row = codes row; value = codes "1"; column = 25 }

replaced_entry : puts_fault old Columns (entry_of (pair "COST") ∷ []) 50000 (pair "COST" ∷ []) ≡ None
unfolding number_fault
replaced_entry = refl

added_entry : puts_fault old Columns (entry_of (pair "COST") ∷ []) 50000 (pair "LIM" ∷ []) ≡ Some TooManyEntries
unfolding number_fault
added_entry = refl

one_row_twice : puts_fault old Columns [] 49999 (pair "LIM" ∷ pair "LIM" ∷ []) ≡ None
unfolding number_fault
one_row_twice = refl

two_rows : puts_fault old Columns [] 49999 (pair "LIM" ∷ pair "COST" ∷ []) ≡ Some TooManyEntries
unfolding number_fault
two_rows = refl
