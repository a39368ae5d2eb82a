-- What a reader of a REVISE deck knows after the cards so far, and what one more card does to it.
use Rattle.std.specs.Prelude.{ℕ, false, List, [], ◌∷◌, Option, Some, None, if◌then◌else◌, unwrap_or, option_map}
use Rattle.std.specs.Option.{option_or}
use Rattle.card_definitions.specs.Words.{first_fault}
use Rattle.card_definitions.specs.Cards.{Card}
use Rattle.card_definitions.specs.Fields.{Reading, reading_of}
use Rattle.problem_definitions.specs.Names.{Name}
use Rattle.problem_definitions.specs.Problem.{Problem}
use Rattle.deck_definitions.specs.declared.DeckFaultKind.{DeckFaultKind}
use Rattle.deck_definitions.specs.declared.DeckFaultKind.TheVariants.{SectionOrder, UnknownAction}
use Rattle.deck_definitions.specs.declared.Section.{Section}
use Rattle.deck_definitions.specs.declared.Section.TheVariants.{Header}
use Rattle.deck_definitions.specs.Sections.{is_section_card, section_begun, section_after}
use Rattle.deck_definitions.specs.declared.Style.{Style}
use Rattle.deck_definitions.specs.DataCards.{style_begun, style_of, form_on}
use Rattle.deck_definitions.specs.Conversion.{section_card_fault, form_fault}
use Rattle.revise_definitions.specs.declared.Action.{Action}
use Rattle.revise_definitions.specs.Actions.{is_action_card, action_on, anchor_on, deletes, action_after, anchor_after, under_after}
use Rattle.revise_definitions.specs.Tests.{action_fault}
use Rattle.revise_definitions.specs.Revision.{revised, may_come_after}
use Rattle.revise_edits.specs.Summary.{Under, under_of, edited_by, with_card_under}
use Rattle.revise_edits.specs.EditTests.{edit_test}

-- the deck's style, the section and the action that go on, what is known of the data cards under the action, and the
-- revised problem so far
pub record State : Type 0 where
  pub style : Style
  pub section : Option Section
  pub action : Option Action
  pub under : Under
  pub problem : Problem Name

-- after these cards
abbrev pub state_of : Problem Name → List Card → State
state_of old cards = record {
  style = style_of cards;
  section = section_after cards;
  action = action_after cards;
  under = under_of (anchor_after cards) (under_after cards);
  problem = revised old cards;
}

-- the fault of a data card in a section, under an action or none
abbrev pub data_fault : State → Section → List ℕ → Option DeckFaultKind
data_fault state section card = by state.action
  where
    by : Option Action → Option DeckFaultKind
    by None = Some UnknownAction
    by (Some action) = first_fault (
        form_fault state.style section (deletes action) card ∷
        edit_test state.problem section action state.under (reading_of (form_on state.style section (deletes action) card) card) ∷ [])

-- the fault of an action card or a data card in a section
abbrev pub standing_fault : State → Section → List ℕ → Option DeckFaultKind
standing_fault state section card =
    if is_action_card state.style card then action_fault state.problem section (action_on state.style card) (anchor_on state.style card)
    else data_fault state section card

-- the fault of an action card or a data card
abbrev pub inner_fault : State → List ℕ → Option DeckFaultKind
inner_fault state card = by state.section
  where
    by : Option Section → Option DeckFaultKind
    by None = Some SectionOrder
    by (Some Header) = Some SectionOrder
    by (Some section) = standing_fault state section card

-- the fault of a card
abbrev pub fault_at : State → List ℕ → Option DeckFaultKind
fault_at state card = if is_section_card card then section_card_fault may_come_after state.section card else inner_fault state card

-- the problem after the edit of a data card, if it stands under an action in a section
abbrev pub problem_in : State → Reading → Option Section → Option Action → Problem Name
problem_in state card (Some section) (Some action) = edited_by section action state.under card state.problem
problem_in state card (Some section) None = state.problem
problem_in state card None action = state.problem

abbrev pub problem_with : State → Reading → Problem Name
problem_with state card = problem_in state card state.section state.action

-- what is read of a data card
abbrev pub read_at : State → List ℕ → Reading
read_at state card = reading_of (form_on state.style (unwrap_or state.section Header) (unwrap_or (option_map deletes state.action) false) card) card

-- one more action card or data card
abbrev pub inner_with : State → List ℕ → State
inner_with state card =
    if is_action_card state.style card then record state {
      action = action_on state.style card;
      under = under_of
          (unwrap_or (anchor_on state.style card) []) [];
    }
    else record state { under = with_card_under state.under (read_at state card); problem = problem_with state (read_at state card) }

-- one more card
abbrev pub state_with : State → List ℕ → State
state_with state card =
    if is_section_card card then record state {
      style = unwrap_or (style_begun card) state.style;
      section = option_or
          (section_begun card) state.section;
      action = None;
      under = under_of [] [];
    }
    else inner_with state card
