-- Worked revisions of combinations, computed.
use Rattle.std.specs.Prelude.{◌≡◌, refl, ℕ, List, [], ◌∷◌, codes, Option, Some, None, Ok, map}
use Prim.Native.String.{String}
use Rattle.card_definitions.specs.declared.NumberFault.TheVariants.{BadCharacter}
use Rattle.card_definitions.specs.Cards.{Card, numbered_from}
use Rattle.card_definitions.specs.Fields.{words, reading_of}
use Rattle.card_definitions.specs.Numbers.{decimal_of, number_fault}
use Rattle.problem_definitions.specs.declared.RowKind.{RowKind}
use Rattle.problem_definitions.specs.declared.RowKind.TheVariants.{N, G, L}
use Rattle.problem_definitions.specs.Names.{Name}
use Rattle.problem_definitions.specs.Problem.{Problem, Row, Entry, combination}
use Rattle.problem_definitions.specs.Numbering.{numbered, by_names}
use Rattle.deck_definitions.specs.declared.DeckFault.{DeckFault}
use Rattle.deck_definitions.specs.declared.DeckFaultKind.{DeckFaultKind}
use Rattle.deck_definitions.specs.declared.DeckFaultKind.TheVariants.{BadRowType, DuplicateRow, UnknownRow, DuplicateEntry, Number, RangeOnFree, DeleteMissing}
use Rattle.deck_definitions.specs.declared.DeckFaultKind.TheVariants.{EntryOnCombination}
use Rattle.revise_definitions.specs.Revision.{revised, revise_fault, revise_card_fault, revision}
use Rattle.revise_definitions.proofs.Old.{row, entry, group}

abbrev found : ℕ → DeckFaultKind → Option DeckFault
found card kind = Some (record { card = card; kind = kind })

abbrev sum_row : RowKind → String → List (Entry Name) → Row Name
sum_row kind name parts = combination kind (codes name) parts

-- the problem that these decks revise: S is the sum of A and B
abbrev sums : Problem Name
sums = record {
  name = codes "SUMS";
  rows = row N "COST" ∷ row L "A" ∷ row L "B" ∷ sum_row L "S" (entry "A" "1" ∷ entry "B" "1" ∷ []) ∷ [];
  columns = group "X" (entry "COST" "-1" ∷ entry "A" "1" ∷ []) ∷ group "Y" (entry "COST" "-1" ∷ entry "B" "1" ∷ []) ∷ [];
  rhs = group "" (entry "A" "3" ∷ entry "B" "3" ∷ entry "S" "4" ∷ []) ∷ [];
  ranges = group "R" (entry "S" "1" ∷ []) ∷ [];
  bounds = [];
}

abbrev of_deck : List String → List Card
of_deck cards = numbered_from 1 (map codes ("NAME                    FREE" ∷ cards))

abbrev rows_after : List String → List (Row Name)
rows_after cards = (revised sums (of_deck cards)).rows

abbrev faults : List String → Option DeckFault
faults cards = revise_fault sums (of_deck cards)

-- a deck with fields at fixed columns
abbrev fixed : List String → List Card
fixed cards = numbered_from 1 (map codes ("NAME          REV" ∷ cards))

-- ---- MODIFY

-- a part is replaced where it stands, or added at the end
modified : rows_after ("ROWS" ∷ " MODIFY" ∷ " DG S A 2" ∷ " DL S COST 5 B 7" ∷ [])
    ≡ row N "COST" ∷ row L "A" ∷ row L "B" ∷ sum_row L "S" (entry "A" "2" ∷ entry "B" "7" ∷ entry "COST" "5" ∷ []) ∷ []
unfolding revised reading_of words
modified = refl

kind_modified : rows_after ("ROWS" ∷ " MODIFY" ∷ " DG S A 2" ∷ []) ≡ row N "COST" ∷ row L "A" ∷ row L "B" ∷ sum_row G "S"
    (entry "A" "2" ∷ entry "B" "1" ∷ []) ∷ []
unfolding revised reading_of words
kind_modified = refl

-- a plain row stays plain, and a combination one
plain_for_combination : faults ("ROWS" ∷ " MODIFY" ∷ " L S" ∷ "ENDATA" ∷ []) ≡ found 4 BadRowType
unfolding revise_fault revise_card_fault revised reading_of words number_fault
plain_for_combination = refl

combination_for_plain : faults ("ROWS" ∷ " MODIFY" ∷ " DL A COST 1" ∷ "ENDATA" ∷ []) ≡ found 4 BadRowType
unfolding revise_fault revise_card_fault revised reading_of words number_fault
combination_for_plain = refl

-- a part stands on a row before the combination; it may be named twice
modified_twice : faults ("ROWS" ∷ " MODIFY" ∷ " DL S A 1 A 2" ∷ "ENDATA" ∷ []) ≡ None
unfolding revise_fault revise_card_fault revised reading_of words number_fault
modified_twice = refl

part_of_itself : faults ("ROWS" ∷ " MODIFY" ∷ " DL S S 1" ∷ "ENDATA" ∷ []) ≡ found 4 UnknownRow
unfolding revise_fault revise_card_fault revised reading_of words number_fault
part_of_itself = refl

later_part : faults ("ROWS" ∷ " AFTER" ∷ " G T" ∷ " MODIFY" ∷ " DL S T 1" ∷ "ENDATA" ∷ []) ≡ found 6 UnknownRow
unfolding revise_fault revise_card_fault revised reading_of words number_fault
later_part = refl

-- a combination with a range doesn't become free
freed_with_range : faults ("ROWS" ∷ " MODIFY" ∷ " DN S ZZ 1" ∷ "ENDATA" ∷ []) ≡ found 4 RangeOnFree
unfolding revise_fault revise_card_fault revised reading_of words number_fault
freed_with_range = refl

-- the fields 5 and 6 may be filled where 3 and 4 are blank
second_pair_alone : (revised sums (fixed ("ROWS" ∷ " MODIFY" ∷ " DL S                                  B         2" ∷ []))).rows
    ≡ row N "COST" ∷ row L "A" ∷ row L "B" ∷ sum_row L "S" (entry "A" "1" ∷ entry "B" "2" ∷ []) ∷ []
unfolding revised reading_of
second_pair_alone = refl

second_number : revise_fault sums (fixed ("ROWS" ∷ " MODIFY" ∷ " DL S                                  B         1.2.3" ∷ "ENDATA" ∷ [])) ≡ found 4
    (Number (BadCharacter 4) 53)
unfolding revise_fault revise_card_fault revised reading_of number_fault
second_number = refl

-- ---- DELETE

-- a row goes with the parts on it; a combination may have none left
part_deleted : rows_after ("ROWS" ∷ " DELETE" ∷ " A" ∷ []) ≡ row N "COST" ∷ row L "B" ∷ sum_row L "S" (entry "B" "1" ∷ []) ∷ []
unfolding revised reading_of words
part_deleted = refl

parts_deleted : rows_after ("ROWS" ∷ " DELETE" ∷ " A" ∷ " B" ∷ []) ≡ row N "COST" ∷ sum_row L "S" [] ∷ []
unfolding revised reading_of words
parts_deleted = refl

combination_deleted : revised sums (of_deck ("ROWS" ∷ " DELETE" ∷ " S" ∷ [])) ≡ record sums {
  rows = row N "COST" ∷ row L "A" ∷ row L "B" ∷ [];
  rhs = group "" (entry "A" "3" ∷ entry "B" "3" ∷ []) ∷ [];
  ranges = [];
}
unfolding revised reading_of words
combination_deleted = refl

-- ---- BEFORE and AFTER

-- cards one after another with one type and one name are of one combination
inserted : rows_after ("ROWS" ∷ " BEFORE B" ∷ " DL U A 1" ∷ " DL U COST 0" ∷ " G V" ∷ " DN W V 1 U 2" ∷ [])
    ≡ row N "COST" ∷ row L "A" ∷ sum_row L "U" (entry "A" "1" ∷ entry "COST" "0" ∷ []) ∷ row G "V" ∷ sum_row N "W"
    (entry "V" "1" ∷ entry "U" "2" ∷ []) ∷ row L "B" ∷ sum_row L "S" (entry "A" "1" ∷ entry "B" "1" ∷ []) ∷ []
unfolding revised reading_of words
inserted = refl

inserted_after : rows_after ("ROWS" ∷ " AFTER COST" ∷ " DL U COST 2" ∷ " DL U" ∷ " G V" ∷ [])
    ≡ row N "COST" ∷ sum_row L "U" (entry "COST" "2" ∷ []) ∷ row G "V" ∷ row L "A" ∷ row L "B" ∷ sum_row L "S" (entry "A" "1" ∷ entry "B" "1" ∷ []) ∷ []
unfolding revised reading_of words
inserted_after = refl

lawful_insertions : faults
    ("ROWS" ∷ " BEFORE B" ∷ " DL U A 1" ∷ "* a remark" ∷ " DL U COST 0" ∷ " G V" ∷ " DN W V 1 U 2" ∷ " AFTER" ∷ " DE Z S 1 W 1" ∷ "ENDATA" ∷ []) ≡ None
unfolding revise_fault revise_card_fault revised reading_of words number_fault
lawful_insertions = refl

-- a part stands on a row before the place of the new one
part_at_place : faults ("ROWS" ∷ " BEFORE B" ∷ " DL U B 1" ∷ "ENDATA" ∷ []) ≡ found 4 UnknownRow
unfolding revise_fault revise_card_fault revised reading_of words number_fault
part_at_place = refl

part_after_place : faults ("ROWS" ∷ " AFTER A" ∷ " DL U A 1" ∷ " DL U S 1" ∷ "ENDATA" ∷ []) ≡ found 5 UnknownRow
unfolding revise_fault revise_card_fault revised reading_of words number_fault
part_after_place = refl

part_twice : faults ("ROWS" ∷ " AFTER A" ∷ " DL U A 1" ∷ " DL U COST 1 A 1" ∷ "ENDATA" ∷ []) ≡ found 5 DuplicateEntry
unfolding revise_fault revise_card_fault revised reading_of words number_fault
part_twice = refl

-- another type, another row or another action card between ends a combination
other_type : faults ("ROWS" ∷ " AFTER" ∷ " DL U A 1" ∷ " DG U B 1" ∷ "ENDATA" ∷ []) ≡ found 5 DuplicateRow
unfolding revise_fault revise_card_fault revised reading_of words number_fault
other_type = refl

other_row_between : faults ("ROWS" ∷ " AFTER" ∷ " DL U A 1" ∷ " G V" ∷ " DL U B 1" ∷ "ENDATA" ∷ []) ≡ found 6 DuplicateRow
unfolding revise_fault revise_card_fault revised reading_of words number_fault
other_row_between = refl

action_between : faults ("ROWS" ∷ " AFTER" ∷ " DL U A 1" ∷ " AFTER" ∷ " DL U B 1" ∷ "ENDATA" ∷ []) ≡ found 6 DuplicateRow
unfolding revise_fault revise_card_fault revised reading_of words number_fault
action_between = refl

plain_twice : faults ("ROWS" ∷ " AFTER" ∷ " G U" ∷ " G U" ∷ "ENDATA" ∷ []) ≡ found 5 DuplicateRow
unfolding revise_fault revise_card_fault revised reading_of words number_fault
plain_twice = refl

-- ---- COLUMNS

entry_put : faults ("COLUMNS" ∷ " MODIFY" ∷ " X S 1" ∷ "ENDATA" ∷ []) ≡ found 4 EntryOnCombination
unfolding revise_fault revise_card_fault revised reading_of words number_fault
entry_put = refl

entry_inserted : faults ("COLUMNS" ∷ " AFTER" ∷ " Z A 1 S 1" ∷ "ENDATA" ∷ []) ≡ found 4 EntryOnCombination
unfolding revise_fault revise_card_fault revised reading_of words number_fault
entry_inserted = refl

entry_deleted : faults ("COLUMNS" ∷ " DELETE" ∷ " X S" ∷ "ENDATA" ∷ []) ≡ found 4 DeleteMissing
unfolding revise_fault revise_card_fault revised reading_of words number_fault
entry_deleted = refl

-- ---- whole revisions

-- the numbers of parts follow the edited order
renumbered : revision (numbered sums) (of_deck ("ROWS" ∷ " BEFORE" ∷ " L NEW" ∷ "RANGES" ∷ " DELETE" ∷ " R" ∷ "ENDATA" ∷ [])) None ≡ Ok (record {
  name = [];
  rows =
      row L "NEW" ∷ row N "COST" ∷ row L "A" ∷ row L "B" ∷ combination L (codes "S")
      (record { row = 3; value = decimal_of (codes "1") } ∷ record { row = 4; value = decimal_of (codes "1") } ∷ []) ∷ [];
  columns =
      group "X" (record { row = 2; value = decimal_of (codes "-1") } ∷ record { row = 3; value = decimal_of (codes "1") } ∷ []) ∷ group "Y"
      (record { row = 2; value = decimal_of (codes "-1") } ∷ record { row = 4; value = decimal_of (codes "1") } ∷ []) ∷ [];
  rhs =
      group "" (record { row = 3; value = decimal_of (codes "3") } ∷ record { row = 4; value = decimal_of (codes "3") } ∷ record {
        row = 5;
        value = decimal_of
            (codes "4");
      } ∷ []) ∷ [];
  ranges = [];
  bounds = [];
})
unfolding revision revised revise_fault revise_card_fault reading_of words numbered by_names
renumbered = refl
