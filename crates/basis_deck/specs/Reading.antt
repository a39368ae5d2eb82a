-- What a reader of a basis deck knows after the cards so far, what one more card does to it, and how reading stops.
use Rattle.std.specs.Prelude.{◌≡◌, ℕ, ◌-◌, Bool, true, false, not, ◌&&◌, List, [], ◌∷◌, Option, Some, None, Err, fold, map, if◌then◌else◌, nat_eq, unwrap_or}
use Rattle.std.specs.Prelude.{option_map, slice_index_or, slice_set}
use Rattle.std.specs.List.{list_any}
use Rattle.std.specs.Option.{option_or}
use Rattle.lp_definitions.specs.LinearProgram.{LinearProgram, variables}
use Rattle.lp_definitions.specs.Basis.{with_status}
use Rattle.lp_definitions.specs.declared.Status.{Status}
use Rattle.card_definitions.specs.Words.{named, ◌⟹◌, first_fault}
use Rattle.card_definitions.specs.Cards.{Card}
use Rattle.card_definitions.specs.Fields.{Fixed, Reading, reading_of}
use Rattle.problem_definitions.specs.Problem.{Problem, has_group}
use Rattle.deck_definitions.specs.declared.DeckFaultKind.{DeckFaultKind}
use Rattle.deck_definitions.specs.declared.DeckFaultKind.TheVariants.{SectionOrder, UnknownColumn, BadBasisCode, NamedTwice, NoSuchLimit}
use Rattle.deck_definitions.specs.declared.Section.{Section}
use Rattle.deck_definitions.specs.declared.Section.TheVariants.{Header, Endata}
use Rattle.deck_definitions.specs.Sections.{is_section, is_section_card, section_begun, section_after}
use Rattle.deck_definitions.specs.Conversion.{section_card_fault, gaps_fault}
use Rattle.deck_definitions.specs.declared.DeckFault.{DeckFault}
use Rattle.card_reader.specs.declared.stop.CardStop.{CardStop}
use Rattle.card_reader.specs.Stop.{IfFault}
use Rattle.basis_deck_definitions.specs.declared.Code.{Code}
use Rattle.basis_deck_definitions.specs.Placings.{code_words, Placing, placings_by}
use Rattle.basis_deck_definitions.specs.Reading.{has_limit_of, row_fault, filled_after, placings_of, stands_for, basis_reading}

-- the problem and the linear program, the section that goes on, where each variable stands, and whether a card named it
pub record State : Type 0 where
  pub problem : Problem ℕ
  pub lp : LinearProgram
  pub section : Option Section
  pub statuses : List Status
  pub marks : List Bool

-- whether each variable is one of these placings'
abbrev pub marks_of : LinearProgram → List Placing → List Bool
marks_of lp placings = map (λ k. list_any (λ placing. nat_eq placing.variable k) placings) (variables lp.matrix)

-- after these cards
abbrev pub state_of : Problem ℕ → LinearProgram → List Card → State
state_of problem lp cards =
    record {
      problem = problem;
      lp = lp;
      section = section_after cards;
      statuses = stands_for problem lp cards;
      marks = marks_of lp
          (placings_of problem cards);
    }

-- after NAME comes ENDATA
abbrev pub ends_after : Section → Section → Bool
ends_after before section = is_section Header before && is_section Endata section

abbrev pub is_marked : List Bool → Placing → Bool
is_marked marks placing = slice_index_or marks (placing.variable - 1) false

-- the tests of a card with a known code
abbrev pub code_test : State → Reading → Code → Option DeckFaultKind
code_test state card code = first_fault (
    (not (has_group state.problem.columns card.name1) ⟹ UnknownColumn) ∷
    row_fault state.problem card code ∷
    (list_any (is_marked state.marks) (placings_by state.problem card code) ⟹ NamedTwice) ∷
    (list_any (λ placing. not (has_limit_of state.lp placing)) (placings_by state.problem card code) ⟹ NoSuchLimit) ∷
    filled_after card code ∷ [])

abbrev pub read_test : State → Reading → Option Code → Option DeckFaultKind
read_test state card None = Some BadBasisCode
read_test state card (Some code) = code_test state card code

-- the fault of a data card after NAME
abbrev pub data_test : State → List ℕ → Option DeckFaultKind
data_test state card = first_fault (gaps_fault card ∷ read_test state (reading_of Fixed card) (named code_words ((reading_of Fixed card).kind)) ∷ [])

-- the fault of a data card
abbrev pub inner_test : State → List ℕ → Option DeckFaultKind
inner_test state card = if unwrap_or (option_map (is_section Header) state.section) false then data_test state card else Some SectionOrder

-- the fault of a card
abbrev pub fault_at : State → List ℕ → Option DeckFaultKind
fault_at state card = if is_section_card card then section_card_fault ends_after state.section card else inner_test state card

-- one more placing
abbrev pub with_placing : State → Placing → State
with_placing state placing =
    record state { statuses = with_status state.statuses placing.variable placing.status; marks = slice_set state.marks (placing.variable - 1) true }

-- what a card with a code adds
abbrev pub with_code : State → Reading → Code → State
with_code state card code = fold with_placing state (placings_by state.problem card code)

abbrev pub with_read : State → Reading → Option Code → State
with_read state card None = state
with_read state card (Some code) = with_code state card code

abbrev pub with_data : State → Reading → State
with_data state card = with_read state card (named code_words card.kind)

-- one more card
abbrev pub state_with : State → List ℕ → State
state_with state card =
    if is_section_card card then record state { section = option_or (section_begun card) state.section }
    else with_data state (reading_of Fixed card)

-- a fault is what the deck gives
abbrev pub Refuses : Problem ℕ → LinearProgram → List Card → CardStop DeckFault → Type 0
Refuses problem lp deck stop = IfFault (λ found. basis_reading problem lp deck ≡ Err found) stop
