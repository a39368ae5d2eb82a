-- Worked revisions by free decks, computed.
use Rattle.std.specs.Prelude.{◌≡◌, refl, ℕ, List, [], ◌∷◌, codes, Option, Some, None, map}
use Prim.Native.String.{String}
use Rattle.card_definitions.specs.Cards.{Card, numbered_from}
use Rattle.card_definitions.specs.Fields.{words, reading_of}
use Rattle.card_definitions.specs.Numbers.{number_fault}
use Rattle.problem_definitions.specs.Names.{Name}
use Rattle.problem_definitions.specs.Problem.{Problem}
use Rattle.deck_definitions.specs.declared.DeckFault.{DeckFault}
use Rattle.deck_definitions.specs.declared.DeckFaultKind.{DeckFaultKind}
use Rattle.deck_definitions.specs.declared.DeckFaultKind.TheVariants.{SectionOrder, BadRowType, RangeOnFree, BadBoundType, WordCount, LongName, UnknownAction}
use Rattle.deck_definitions.specs.declared.DeckFaultKind.TheVariants.{NoAnchor, DeleteMissing, ModifyMissing}
use Rattle.revise_definitions.specs.Revision.{revised, revise_fault, revise_card_fault}
use Rattle.revise_definitions.proofs.Old.{old}

abbrev found : ℕ → DeckFaultKind → Option DeckFault
found card kind = Some (record { card = card; kind = kind })

abbrev of_deck : String → List String → List Card
of_deck header cards = numbered_from 1 (map codes (header ∷ cards))

-- what a free deck makes of the old problem, and a fixed one
abbrev free : List String → Problem Name
free cards = revised old (of_deck "NAME          REV       FREE" cards)

abbrev fixed : List String → Problem Name
fixed cards = revised old (of_deck "NAME          REV" cards)

-- the fault of a free deck with these cards from card 2 on
abbrev faults : List String → Option DeckFault
faults cards = revise_fault old (of_deck "NAME          REV       FREE" cards)

-- ---- the same edits by words and by columns

rows_edited : free ("ROWS" ∷ " AFTER COST" ∷ " G A" ∷ " N Z" ∷ " MODIFY" ∷ " E LIM" ∷ " BEFORE" ∷ " L TOP" ∷ " DELETE" ∷ " Z" ∷ [])
    ≡ fixed ("ROWS" ∷ " AFTER        COST" ∷ " G  A" ∷ " N  Z" ∷ " MODIFY" ∷ " E  LIM" ∷ " BEFORE" ∷ " L  TOP" ∷ " DELETE" ∷ "    Z" ∷ [])
unfolding revised reading_of words
rows_edited = refl

columns_edited : free ("COLUMNS" ∷ " BEFORE Y" ∷ " Z COST 3 LIM 4" ∷ " MODIFY" ∷ " X COST 5" ∷ " DELETE" ∷ " X LIM" ∷ " Y" ∷ [])
    ≡ fixed ("COLUMNS" ∷ " BEFORE       Y" ∷ "    Z         COST      3              LIM       4" ∷ " MODIFY" ∷ "    X         COST      5" ∷ " DELETE"
    ∷ "    X         LIM" ∷ "    Y" ∷ [])
unfolding revised reading_of words
columns_edited = refl

sets_edited : free
    ("RHS" ∷ " MODIFY" ∷ " LIM 9" ∷ " B COST 1" ∷ " DELETE" ∷ " B LIM" ∷ "RANGES" ∷ " DELETE" ∷ " R" ∷ "BOUNDS" ∷ " MODIFY" ∷ " FR BND Y" ∷ " UP X 7"
    ∷ " DELETE" ∷ " BND X" ∷ [])
    ≡ fixed ("RHS" ∷ " MODIFY" ∷ "              LIM       9" ∷ "    B         COST      1" ∷ " DELETE" ∷ "    B         LIM" ∷ "RANGES" ∷ " DELETE" ∷ "    R"
    ∷ "BOUNDS" ∷ " MODIFY" ∷ " FR BND       Y" ∷ " UP           X         7" ∷ " DELETE" ∷ "    BND       X" ∷ [])
unfolding revised reading_of words
sets_edited = refl

-- ---- faults

no_fault : faults ("ROWS" ∷ " MODIFY" ∷ " G LIM" ∷ "COLUMNS" ∷ " DELETE" ∷ " X LIM" ∷ " Y" ∷ "ENDATA" ∷ []) ≡ None
unfolding revise_fault revise_card_fault revised reading_of words number_fault
no_fault = refl

-- a second word that is too long is the name of nothing; under MODIFY names aren't read
long_anchor : faults ("ROWS" ∷ " MODIFY LONGNAME9" ∷ " AFTER LONGNAME9" ∷ "ENDATA" ∷ []) ≡ found 4 NoAnchor
unfolding revise_fault revise_card_fault revised reading_of words number_fault
long_anchor = refl

missing_anchor : faults ("ROWS" ∷ " BEFORE NOROW" ∷ "ENDATA" ∷ []) ≡ found 3 NoAnchor
unfolding revise_fault revise_card_fault revised reading_of words number_fault
missing_anchor = refl

-- three words are no action card, and what is none needs an action before it
three_words : faults ("ROWS" ∷ " BEFORE LIM CAP" ∷ "ENDATA" ∷ []) ≡ found 3 UnknownAction
unfolding revise_fault revise_card_fault revised reading_of words number_fault
three_words = refl

no_action : faults ("ROWS" ∷ " Q R X Y" ∷ "ENDATA" ∷ []) ≡ found 3 UnknownAction
unfolding revise_fault revise_card_fault revised reading_of words number_fault
no_action = refl

insertion_in_rhs : faults ("RHS" ∷ " BEFORE" ∷ "ENDATA" ∷ []) ≡ found 3 UnknownAction
unfolding revise_fault revise_card_fault revised reading_of words number_fault
insertion_in_rhs = refl

directly_after_name : faults (" MODIFY" ∷ "ENDATA" ∷ []) ≡ found 2 SectionOrder
unfolding revise_fault revise_card_fault revised reading_of words number_fault
directly_after_name = refl

data_after_name : faults (" X COST 1" ∷ "ENDATA" ∷ []) ≡ found 2 SectionOrder
unfolding revise_fault revise_card_fault revised reading_of words number_fault
data_after_name = refl

-- under DELETE a card has no type
delete_words : faults ("ROWS" ∷ " DELETE" ∷ " N LIM" ∷ "ENDATA" ∷ []) ≡ found 4 WordCount
unfolding revise_fault revise_card_fault revised reading_of words number_fault
delete_words = refl

delete_entry_words : faults ("COLUMNS" ∷ " DELETE" ∷ " X LIM 1" ∷ "ENDATA" ∷ []) ≡ found 4 WordCount
unfolding revise_fault revise_card_fault revised reading_of words number_fault
delete_entry_words = refl

delete_long_name : faults ("ROWS" ∷ " DELETE" ∷ " LONGNAME9" ∷ "ENDATA" ∷ []) ≡ found 4 LongName
unfolding revise_fault revise_card_fault revised reading_of words number_fault
delete_long_name = refl

delete_set : faults ("RHS" ∷ " DELETE" ∷ " B LIM" ∷ " B" ∷ "ENDATA" ∷ []) ≡ found 5 DeleteMissing
unfolding revise_fault revise_card_fault revised reading_of words number_fault
delete_set = refl

-- one word is a set
delete_bounds_of_column : faults ("BOUNDS" ∷ " DELETE" ∷ " X" ∷ "ENDATA" ∷ []) ≡ found 4 DeleteMissing
unfolding revise_fault revise_card_fault revised reading_of words number_fault
delete_bounds_of_column = refl

modify_free_row : faults ("ROWS" ∷ " MODIFY" ∷ " N LIM" ∷ "ENDATA" ∷ []) ≡ found 4 RangeOnFree
unfolding revise_fault revise_card_fault revised reading_of words number_fault
modify_free_row = refl

modify_missing_row : faults ("ROWS" ∷ " MODIFY" ∷ " L NOROW" ∷ "ENDATA" ∷ []) ≡ found 4 ModifyMissing
unfolding revise_fault revise_card_fault revised reading_of words number_fault
modify_missing_row = refl

modify_bad_type : faults ("ROWS" ∷ " MODIFY" ∷ " Q NOROW" ∷ "ENDATA" ∷ []) ≡ found 4 BadRowType
unfolding revise_fault revise_card_fault revised reading_of words number_fault
modify_bad_type = refl

-- the first word is tested before the number of words
modify_bad_word : faults ("ROWS" ∷ " MODIFY" ∷ " Q" ∷ "ENDATA" ∷ []) ≡ found 4 BadRowType
unfolding revise_fault revise_card_fault revised reading_of words number_fault
modify_bad_word = refl

modify_combination_words : faults ("ROWS" ∷ " MODIFY" ∷ " DL" ∷ "ENDATA" ∷ []) ≡ found 4 WordCount
unfolding revise_fault revise_card_fault revised reading_of words number_fault
modify_combination_words = refl

modify_bad_bound : faults ("BOUNDS" ∷ " MODIFY" ∷ " BV" ∷ "ENDATA" ∷ []) ≡ found 4 BadBoundType
unfolding revise_fault revise_card_fault revised reading_of words number_fault
modify_bad_bound = refl
