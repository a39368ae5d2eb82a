-- The program of a job's control cards, or the first control fault.
--     control_card_fault before card       the fault of a card after PROGRAM, where these cards stand before it
--     control_fault cards                  the fault that decides
--     compiled cards                       the fault, or the program
use Rattle.std.specs.Prelude.{ℕ, ◌+◌, max, Bool, true, false, not, ◌&&◌, nat_lt, List, [], ◌∷◌, Option, Some, None, Result, codes, if◌then◌else◌, unwrap_or}
use Rattle.std.specs.Prelude.{option_map, option_and_then, filter_map, find, position, take, length, is_none, is_some, bytes_eq}
use Rattle.std.specs.List.{position_or_len, list_any}
use Rattle.std.specs.Option.{option_map_or}
use Rattle.card_definitions.specs.Words.{named, is_empty, each_after, ◌⟹◌, first_fault, unless}
use Rattle.card_definitions.specs.Cards.{Card, live, last_number, numbered_cards}
use Rattle.control_definitions.specs.declared.TheConstants.{MAX_STATEMENTS}
use Rattle.control_definitions.specs.declared.ControlFault.{ControlFault}
use Rattle.control_definitions.specs.declared.ControlFaultKind.{ControlFaultKind}
use Rattle.control_definitions.specs.declared.ControlFaultKind.TheVariants.{NoProgram, NoPend, UnknownVerb, BadLabel, LabelTwice, NoLabel, BadArgument}
use Rattle.control_definitions.specs.declared.ControlFaultKind.TheVariants.{UnknownCell, UnknownDemand, Unclosed, TooManyStatements}
use Rattle.control_definitions.specs.Program.{Statement, Verb, Program, label_argument, verb_by}
use Rattle.control_definitions.specs.Statements.{label_of, statement_of, is_unclosed, verb_word, Arguments, Without, With, arguments_of, first_argument}
use Rattle.control_definitions.specs.Arguments.{is_label, quotation}
use Rattle.control_definitions.specs.Verbs.{verb_words, cell_words, demand_words, verb_of}

-- the numbers of the control faults
abbrev pub fault_number : ControlFaultKind → ℕ
fault_number NoProgram = 1
fault_number NoPend = 2
fault_number UnknownVerb = 3
fault_number BadLabel = 4
fault_number LabelTwice = 5
fault_number NoLabel = 6
fault_number BadArgument = 7
fault_number UnknownCell = 8
fault_number UnknownDemand = 9
fault_number Unclosed = 10
fault_number TooManyStatements = 11

-- a fault as it is reported: by its number and its card
abbrev pub fault_at : ℕ → ControlFaultKind → ControlFault
fault_at card kind = record { number = fault_number kind; card = card }

-- ---- the tests of one card

abbrev pub has_label : List ℕ → Bool
has_label card = not (is_empty (label_of card))

abbrev pub has_bad_label : List ℕ → Bool
has_bad_label card = has_label card && not (is_label (label_of card))

-- whether a card before has the label of this card
abbrev pub has_label_twice : List Card → List ℕ → Bool
has_label_twice before card = has_label card && list_any (λ other. bytes_eq (label_of other.bytes) (label_of card)) before

-- whether a card's verb is this word
abbrev pub has_verb : List ℕ → List ℕ → Bool
has_verb word card = bytes_eq (verb_word (statement_of card)) word

-- PROGRAM stands alone, or has one text in quotes, which isn't read
abbrev pub is_program_argument : Arguments → Bool
is_program_argument Without = true
is_program_argument (With (text ∷ [])) = is_some (quotation text)
is_program_argument _ = false

abbrev pub is_program : List ℕ → Bool
is_program card = has_verb (codes "PROGRAM") card && is_program_argument (arguments_of (statement_of card))

-- PEND ends the program, and has no argument
abbrev pub is_pend : List ℕ → Bool
is_pend card = has_verb (codes "PEND") card

abbrev pub is_lawful_pend : List ℕ → Bool
is_lawful_pend card = bytes_eq (statement_of card) (codes "PEND")

-- whether a card of this verb begins its arguments with a word that the table lacks
abbrev pub lacks_word : {X : Type 0} → List ℕ → List (List ℕ × X) → List ℕ → Bool
lacks_word verb table card = has_verb verb card && is_none (named table (first_argument (statement_of card)))

-- The fault of the first card: its label is tested first, and then whether it is PROGRAM.
abbrev pub head_fault : List ℕ → Option ControlFaultKind
head_fault card = first_fault (
    (has_bad_label card ⟹ BadLabel) ∷
    (not (is_program card) ⟹ NoProgram) ∷ [])

-- The fault of a card after PROGRAM: the tests are made in this order. The cards before it are PROGRAM's and one for each
-- statement before, so that it would be a statement of as many as they are.
unfoldable pub control_card_fault : List Card → List ℕ → Option ControlFaultKind
control_card_fault before card = first_fault (
    (has_bad_label card ⟹ BadLabel) ∷
    (has_label_twice before card ⟹ LabelTwice) ∷
    (is_unclosed (statement_of card) ⟹ Unclosed) ∷
    (is_none (named verb_words (verb_word (statement_of card))) ⟹ UnknownVerb) ∷
    (lacks_word (codes "MOVE") cell_words card ⟹ UnknownCell) ∷
    (lacks_word (codes "MVADR") demand_words card ⟹ UnknownDemand) ∷
    (not (is_lawful_pend card) && is_none (verb_of card) ⟹ BadArgument) ∷
    (not (is_pend card) && nat_lt MAX_STATEMENTS (length before) ⟹ TooManyStatements) ∷ [])

-- the fault of the first card that has one, where the cards before stand before them all
abbrev pub first_control_fault : List Card → List Card → Option ControlFault
first_control_fault before cards =
    first_fault (each_after (λ earlier card. option_map (fault_at card.number) (control_card_fault earlier card.bytes)) before cards)

-- ---- the program

-- the cards after PROGRAM up to and with the first PEND, or all where there is none
abbrev pub program_cards : List Card → List Card
program_cards cards = take (position_or_len (λ card. is_pend card.bytes) cards + 1) cards

-- The position of a label, by the program's cards from PROGRAM on: PROGRAM's label stands for the first statement, and
-- PEND's for the program's end.
abbrev pub position_of : List Card → List ℕ → Option ℕ
position_of cards label = option_map (max 1) (position (λ card. bytes_eq (label_of card.bytes) label) cards)

-- whether a card's statement names a label that no card has
abbrev pub misses_label : List Card → Card → Bool
misses_label cards card = option_map_or (λ label. is_none (position_of cards label)) (option_and_then label_argument (verb_of card.bytes)) false

-- the verb with positions in place of labels
abbrev pub positioned : List Card → Verb (List ℕ) → Verb ℕ
positioned cards verb = verb_by (λ label. unwrap_or (position_of cards label) 0) verb

-- the statement of a card; PEND has none
abbrev pub statement_on : List Card → Card → Option (Statement ℕ)
statement_on cards card = option_map (λ verb. record { card = card.number; verb = positioned cards verb }) (verb_of card.bytes)

-- the program of the cards from PROGRAM to PEND
abbrev pub program_of : List Card → Program
program_of cards = record { statements = filter_map (statement_on cards) cards; decks_from = last_number cards + 1 }

-- ---- the fault that decides

-- The faults of a program as a whole, which come only where no card up to its end has another: the job ends before PEND, on
-- its last card; or a statement names a label that no card has. The earlier card decides, and the end where it is one card.
abbrev pub end_fault : ℕ → Bool → Option Card → Option ControlFault
end_fault last true missing = option_map (λ card. fault_at card.number NoLabel) missing
end_fault last false None = Some (fault_at last NoPend)
end_fault last false (Some card) = Some (if nat_lt card.number last then fault_at card.number NoLabel else fault_at last NoPend)

-- The first fault of a job's cards that aren't skipped, where the job's last card has this number. Where all are skipped,
-- the fault stands on the job's last card, and the number is 0 where there is none.
abbrev pub live_fault : ℕ → List Card → Option ControlFault
live_fault last [] = Some (fault_at last NoProgram)
live_fault last (head ∷ cards) = first_fault (
    option_map (fault_at head.number) (head_fault head.bytes) ∷
    first_control_fault (head ∷ []) (program_cards cards) ∷
    end_fault last (list_any (λ card. is_pend card.bytes) cards) (find (misses_label (head ∷ program_cards cards)) (program_cards cards)) ∷ [])

unfoldable pub control_fault : List (List ℕ) → Option ControlFault
control_fault cards = live_fault (length cards) (live (numbered_cards cards))

-- the program's cards: PROGRAM's, and those up to PEND
abbrev pub cards_to_pend : List Card → List Card
cards_to_pend [] = []
cards_to_pend (head ∷ cards) = head ∷ program_cards cards

-- What a job's cards compile to: the first control fault, or the program of the cards from PROGRAM to PEND.
unfoldable pub compiled : List (List ℕ) → Result Program ControlFault
compiled cards = unless (control_fault cards) (program_of (cards_to_pend (live (numbered_cards cards))))
