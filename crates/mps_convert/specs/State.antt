-- What a reader of a data deck knows after the cards so far, and what one more card does to it.
use Rattle.std.specs.Prelude.{ℕ, false, List, [], Option, Some, None, if◌then◌else◌, unwrap_or}
use Rattle.std.specs.Option.{option_or}
use Rattle.card_definitions.specs.Cards.{Card}
use Rattle.card_definitions.specs.Fields.{reading_of}
use Rattle.problem_definitions.specs.Names.{Name}
use Rattle.problem_definitions.specs.Problem.{Problem}
use Rattle.deck_definitions.specs.declared.DeckFaultKind.{DeckFaultKind}
use Rattle.deck_definitions.specs.declared.Section.{Section}
use Rattle.deck_definitions.specs.declared.Style.{Style}
use Rattle.deck_definitions.specs.DataCards.{style_begun, style_of, form_on}
use Rattle.deck_definitions.specs.Sections.{may_follow, is_section_card, section_begun, section_after}
use Rattle.deck_definitions.specs.Described.{described}
use Rattle.deck_definitions.specs.Conversion.{section_card_fault, data_card_fault}
use Rattle.deck_definitions.specs.Steps.{with_card}

-- the section that goes on, the style of the deck, and the problem described so far
pub record State : Type 0 where
  pub section : Option Section
  pub style : Style
  pub problem : Problem Name

-- after these cards
abbrev pub state_of : List Card → State
state_of cards = record { section = section_after cards; style = style_of cards; problem = described [] cards }

-- the fault of a card
abbrev pub fault_at : State → List ℕ → Option DeckFaultKind
fault_at state card =
    if is_section_card card then section_card_fault may_follow state.section card
    else data_card_fault state.problem state.style state.section card

-- the problem with what a data card gives to the section in which it stands, if any
abbrev pub with_data : Option Section → Style → List ℕ → Problem Name → Problem Name
with_data None style card problem = problem
with_data (Some section) style card problem = with_card section (reading_of (form_on style section false card) card) problem

-- one more card
abbrev pub state_with : State → List ℕ → State
state_with state card = record {
  section = option_or (section_begun card) state.section;
  style = unwrap_or (style_begun card) state.style;
  problem = if is_section_card card then state.problem else with_data state.section state.style card state.problem;
}
