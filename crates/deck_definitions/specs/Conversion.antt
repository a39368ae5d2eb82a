-- The first fault of a data deck, and the problem of a deck without one.
use Rattle.std.specs.Prelude.{ℕ, Bool, false, not, List, [], ◌∷◌, nat_lt, length, is_none, Option, Some, None, Result, if◌then◌else◌, unwrap_or, option_map}
use Rattle.std.specs.List.{list_any}
use Rattle.card_definitions.specs.Words.{named, each_after, ◌⟹◌, first_fault, unless}
use Rattle.card_definitions.specs.Cards.{Card, live, last_number}
use Rattle.card_definitions.specs.Fields.{Reading, reading_of, gaps_are_blank, words, first_word, fields_for}
use Rattle.problem_definitions.specs.Names.{Name}
use Rattle.problem_definitions.specs.Problem.{Problem}
use Rattle.problem_definitions.specs.Numbering.{numbered}
use Rattle.deck_definitions.specs.declared.DeckFault.{DeckFault}
use Rattle.deck_definitions.specs.declared.DeckFaultKind.{DeckFaultKind}
use Rattle.deck_definitions.specs.declared.DeckFaultKind.TheVariants.{SectionOrder, UnknownSection, BadRowType, BadBoundType, NoEndata, ExtraField, WordCount}
use Rattle.deck_definitions.specs.declared.DeckFaultKind.TheVariants.{LongName, LongNumber}
use Rattle.deck_definitions.specs.declared.Section.{Section}
use Rattle.deck_definitions.specs.declared.Section.TheVariants.{Header, Rows, Columns, Rhs, Ranges, Bounds, Endata}
use Rattle.deck_definitions.specs.declared.Style.{Style}
use Rattle.deck_definitions.specs.declared.Style.TheVariants.{FixedFields, FreeFields}
use Rattle.deck_definitions.specs.Sections.{may_follow, section_words, section_word, is_section_card, section_after, is_section_after, header_name}
use Rattle.deck_definitions.specs.DataCards.{style_of, form_on, words_on, is_row_type, bound_kinds}
use Rattle.deck_definitions.specs.Described.{described}
use Rattle.deck_definitions.specs.Tests.{row_fault, columns_fault, set_fault, bounds_fault}

-- The tests of a section card, by a rule that says what may follow: the first card of a deck is a NAME card, and every
-- other begins a known section that may follow the one before.
abbrev pub section_card_fault : (Section → Section → Bool) → Option Section → List ℕ → Option DeckFaultKind
section_card_fault follows before card = by before (named section_words (section_word card))
  where
    by : Option Section → Option Section → Option DeckFaultKind
    by None (Some Header) = None
    by None _ = Some SectionOrder
    by (Some before) None = Some UnknownSection
    by (Some before) (Some section) = not (follows before section) ⟹ SectionOrder

-- the test of a card whose fields stand at fixed columns: the gaps between them are blank
abbrev pub gaps_fault : List ℕ → Option DeckFaultKind
gaps_fault card = not (gaps_are_blank card) ⟹ ExtraField

-- the test of a free card's first word, where it tells a type
abbrev pub type_fault : Section → List ℕ → Option DeckFaultKind
type_fault Rows word = not (is_row_type word) ⟹ BadRowType
type_fault Bounds word = is_none (named bound_kinds word) ⟹ BadBoundType
type_fault _ word = None

-- whether a text has more bytes than so many
abbrev pub is_longer : ℕ → List ℕ → Bool
is_longer most text = nat_lt most (length text)

-- the tests of the words of a free card, where its section takes these lists of fields
abbrev pub words_fault : List (List ℕ) → List ℕ → Reading → Option DeckFaultKind
words_fault lists card read = first_fault (
    (is_none (fields_for lists (length (words card))) ⟹ WordCount) ∷
    (list_any (is_longer 8) (read.name1 ∷ read.name2 ∷ read.name3 ∷ []) ⟹ LongName) ∷
    (list_any (is_longer 12) (read.value1 ∷ read.value2 ∷ []) ⟹ LongNumber) ∷ [])

-- Whether a data card has its form: at fixed columns the gaps are blank; by words their type, their number and their lengths
-- are lawful, tested in this order. A card that names what is to be deleted has no type.
abbrev pub form_fault : Style → Section → Bool → List ℕ → Option DeckFaultKind
form_fault FixedFields section deletes card = gaps_fault card
form_fault FreeFields section deletes card = first_fault (
    (if deletes then None else type_fault section (first_word card)) ∷
    words_fault (words_on section deletes (first_word card)) card (reading_of (form_on FreeFields section deletes card) card) ∷ [])

-- the tests of a data card in its section
abbrev pub section_fault : Problem Name → Section → Reading → Option DeckFaultKind
section_fault seen Rows card = row_fault seen card
section_fault seen Columns card = columns_fault seen card
section_fault seen Rhs card = set_fault seen Rhs seen.rhs card
section_fault seen Ranges card = set_fault seen Ranges seen.ranges card
section_fault seen Bounds card = bounds_fault seen card
section_fault seen Header card = Some SectionOrder
section_fault seen Endata card = Some SectionOrder

-- a data card stands in a section after NAME; it has its form, and passes the tests of its section
abbrev pub data_card_fault : Problem Name → Style → Option Section → List ℕ → Option DeckFaultKind
data_card_fault seen style None card = Some SectionOrder
data_card_fault seen style (Some Header) card = Some SectionOrder
data_card_fault seen style (Some section) card =
    first_fault (
    form_fault style section false card ∷
    section_fault seen section (reading_of (form_on style section false card) card) ∷ [])

-- The fault of a card, as a condition on it and on the cards before it in the deck.
unfoldable pub card_fault : List Card → List ℕ → Option DeckFaultKind
card_fault before card =
    if is_section_card card then section_card_fault may_follow (section_after before) card
    else data_card_fault (described [] before) (style_of before) (section_after before) card

-- the first fault that a test finds in a list of cards, after the cards before it
abbrev pub first_faulty : (List Card → List ℕ → Option DeckFaultKind) → List Card → List Card → Option DeckFault
first_faulty test before cards =
    first_fault (each_after (λ before card. option_map (λ kind. record { card = card.number; kind = kind }) (test before card.bytes)) before cards)

-- The fault of a deck, by a test of a card after others: that of the first faulty card, or else that ENDATA is
-- missing, on the deck's last card. Skipped cards are left out.
abbrev pub fault_by : (List Card → List ℕ → Option DeckFaultKind) → List Card → Option DeckFault
fault_by test deck = first_fault (
    first_faulty test [] (live deck) ∷
    (not (is_section_after Endata (live deck)) ⟹ record { card = last_number deck; kind = NoEndata }) ∷ [])

-- The first fault of a data deck.
unfoldable pub deck_fault : List Card → Option DeckFault
deck_fault deck = fault_by card_fault deck

-- the name on the first card
abbrev pub deck_name : List Card → Name
deck_name [] = []
deck_name (card ∷ cards) = header_name card.bytes

-- What a data deck converts to: its first fault, or the problem that it describes, under this name or else its own.
unfoldable pub conversion : List Card → Option Name → Result (Problem ℕ) DeckFault
conversion deck name =
    let cards = live deck in
    unless (deck_fault deck) (numbered (described (unwrap_or name (deck_name cards)) cards))
