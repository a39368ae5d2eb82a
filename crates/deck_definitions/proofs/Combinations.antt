-- Worked decks with combinations, computed.
use Rattle.std.specs.Prelude.{◌≡◌, refl, ℕ, List, [], ◌∷◌, codes, Option, Some, None, option_map, map}
use Rattle.std.specs.Result.{result_ok}
use Prim.Native.String.{String}
use Rattle.card_definitions.specs.declared.NumberFault.TheVariants.{Empty, BadCharacter}
use Rattle.card_definitions.specs.Cards.{Card, numbered_from}
use Rattle.card_definitions.specs.Fields.{reading_of}
use Rattle.card_definitions.specs.Numbers.{decimal_of, number_fault}
use Rattle.problem_definitions.specs.declared.RowKind.TheVariants.{N, L, E}
use Rattle.problem_definitions.specs.Names.{Name}
use Rattle.problem_definitions.specs.Problem.{plain_row, combination, Entry, Problem}
use Rattle.problem_definitions.specs.Numbering.{numbered}
use Rattle.deck_definitions.specs.declared.DeckFault.{DeckFault}
use Rattle.deck_definitions.specs.declared.DeckFaultKind.{DeckFaultKind}
use Rattle.deck_definitions.specs.declared.DeckFaultKind.TheVariants.{DuplicateRow, UnknownRow, DuplicateEntry, Number, RangeOnFree, EmptyName, ExtraField}
use Rattle.deck_definitions.specs.declared.DeckFaultKind.TheVariants.{EntryOnCombination}
use Rattle.deck_definitions.specs.Described.{described}
use Rattle.deck_definitions.specs.Conversion.{deck_fault, card_fault, conversion}
use Rattle.deck_definitions.specs.Written.{row_cards, data_card}

abbrev of_deck : List String → List Card
of_deck cards = numbered_from 8 (map codes cards)

abbrev found : ℕ → DeckFaultKind → Option DeckFault
found card kind = Some (record { card = card; kind = kind })

abbrev part : String → String → Entry Name
part row value = record { row = codes row; value = decimal_of (codes value) }

-- three parts on two cards with a comment between them, one without parts, and one of a combination
parts_in_order :
    (described []
    (of_deck ("NAME" ∷ "ROWS" ∷ " N  COST" ∷ " L  A" ∷ " DL S         A         1              COST      -1" ∷ " DE U" ∷ " DN V         S         2"
    ∷ " DN V                                  A         3" ∷ []))).rows
    ≡ plain_row N (codes "COST") ∷ plain_row L (codes "A") ∷ combination L (codes "S") (part "A" "1" ∷ part "COST" "-1" ∷ []) ∷ combination E
    (codes "U") [] ∷ combination N (codes "V") (part "S" "2" ∷ part "A" "3" ∷ []) ∷ []
unfolding described reading_of
parts_in_order = refl

-- rows COST, A and the combination S, and what follows from card 13 on
abbrev after_s : List String → Option DeckFault
after_s cards = deck_fault (of_deck ("NAME          T" ∷ "ROWS" ∷ " N  COST" ∷ " L  A" ∷ " DL S         A         1" ∷ cards))

another_type : after_s (" DG S         COST      1" ∷ []) ≡ found 13 DuplicateRow
unfolding deck_fault card_fault described reading_of number_fault
another_type = refl

part_twice : after_s (" DL S         A         2" ∷ []) ≡ found 13 DuplicateEntry
unfolding deck_fault card_fault described reading_of number_fault
part_twice = refl

of_itself : after_s (" DL S         S         2" ∷ []) ≡ found 13 UnknownRow
unfolding deck_fault card_fault described reading_of number_fault
of_itself = refl

no_part_name : after_s (" DL S                   2" ∷ []) ≡ found 13 EmptyName
unfolding deck_fault card_fault described reading_of number_fault
no_part_name = refl

other_between : after_s (" L  B" ∷ " DL S         COST      2" ∷ []) ≡ found 14 DuplicateRow
unfolding deck_fault card_fault described reading_of number_fault
other_between = refl

on_combination : after_s ("COLUMNS" ∷ "    X         A         1" ∷ "    X         S         1" ∷ []) ≡ found 15 EntryOnCombination
unfolding deck_fault card_fault described reading_of number_fault
on_combination = refl

range_on_it : after_s (" DN F" ∷ "COLUMNS" ∷ "RANGES" ∷ "    R         S         1" ∷ "    R         F         1" ∷ []) ≡ found 17 RangeOnFree
unfolding deck_fault card_fault described reading_of number_fault
range_on_it = refl

-- fields 5 and 6 filled with 3 and 4 blank, and the column of a bad number there
bad_multiplier : after_s (" DL S                                  COST      1X" ∷ []) ≡ found 13 (Number (BadCharacter 2) 51)
unfolding deck_fault card_fault described reading_of number_fault
bad_multiplier = refl

no_multiplier : after_s (" DL S         COST" ∷ []) ≡ found 13 (Number Empty 0)
unfolding deck_fault card_fault described reading_of number_fault
no_multiplier = refl

later_row : after_s (" DL T         B         1" ∷ " L  B" ∷ []) ≡ found 13 UnknownRow
unfolding deck_fault card_fault described reading_of number_fault
later_row = refl

-- a plain row never goes on with a combination, nor a combination with a plain row
plain_again : after_s (" L  S" ∷ []) ≡ found 13 DuplicateRow
unfolding deck_fault card_fault described reading_of number_fault
plain_again = refl

combination_again : after_s (" L  B" ∷ " DL B         A         1" ∷ []) ≡ found 14 DuplicateRow
unfolding deck_fault card_fault described reading_of number_fault
combination_again = refl

plain_with_part : after_s (" L  B         A         1" ∷ []) ≡ found 13 ExtraField
unfolding deck_fault card_fault described reading_of number_fault
plain_with_part = refl

without_name : after_s (" DN" ∷ []) ≡ found 13 EmptyName
unfolding deck_fault card_fault described reading_of number_fault
without_name = refl

-- a skipped card between two cards of a combination doesn't part them, and a right-hand side may stand on it
note_between : after_s
    ("* note" ∷ " DL S         COST      -1" ∷ "COLUMNS" ∷ "    X         A         1" ∷ "RHS" ∷ "    B         S         4" ∷ "ENDATA" ∷ []) ≡ None
unfolding deck_fault card_fault described reading_of number_fault
note_between = refl

-- a row of the marker's name may be a part
part_on_marker : after_s (" L  'MARKER'" ∷ " DL T         'MARKER'  1" ∷ "COLUMNS" ∷ "ENDATA" ∷ []) ≡ None
unfolding deck_fault card_fault described reading_of number_fault
part_on_marker = refl

-- the first card of ROWS may be that of a combination
combination_first : deck_fault (of_deck ("NAME" ∷ "ROWS" ∷ " DN OBJ" ∷ "COLUMNS" ∷ "ENDATA" ∷ [])) ≡ None
unfolding deck_fault card_fault described reading_of number_fault
combination_first = refl

-- a combination of a combination, by numbers
by_number : option_map (λ (problem : Problem ℕ). map (λ row. option_map (map (λ part. part.row)) row.parts) problem.rows)
    (result_ok (conversion
    (of_deck ("NAME" ∷ "ROWS" ∷ " N  COST" ∷ " G  A" ∷ " DL S         A         .5" ∷ " DG U         S         4              A         -1" ∷ "COLUMNS"
    ∷ "ENDATA" ∷ [])) None))
    ≡ Some (None ∷ None ∷ Some (2 ∷ []) ∷ Some (3 ∷ 2 ∷ []) ∷ [])
unfolding conversion numbered deck_fault card_fault described reading_of number_fault
by_number = refl

written_parts : row_cards
    (combination L (codes "S") (part "A" "1" ∷ part "COST" "-1" ∷ [])) ≡ codes " DL S         A         1" ∷ codes " DL S         COST      -1" ∷ []
unfolding data_card
written_parts = refl

written_without : row_cards (combination E (codes "U") []) ≡ codes " DE U" ∷ []
unfolding data_card
written_without = refl
