-- The first fault of a basis deck, and the status list of a deck without one.
--     placings_of problem cards    where the cards put variables
--     stands_for problem lp cards  the status list that the cards stand for
--     basis_card_fault             the fault of a card, after the cards before it
--     basis_reading                the first fault of a deck, or the status list that it stands for
use Rattle.std.specs.Prelude.{ℕ, Bool, true, not, ◌&&◌, List, [], ◌∷◌, Option, Some, None, Result, fold, if◌then◌else◌, is_none, nat_eq, unwrap_or, option_map}
use Rattle.std.specs.List.{list_any, flat_map}
use Rattle.lp_definitions.specs.LinearProgram.{LinearProgram, lower_of, upper_of}
use Rattle.lp_definitions.specs.Basis.{with_status, opening_statuses}
use Rattle.lp_definitions.specs.declared.Status.{Status}
use Rattle.lp_definitions.specs.declared.Status.TheVariants.{Bs, Ll, Ul, Fr}
use Rattle.card_definitions.specs.Words.{named, ◌⟹◌, first_fault, unless}
use Rattle.card_definitions.specs.Cards.{Card, live}
use Rattle.card_definitions.specs.Fields.{Fixed, Reading, reading_of}
use Rattle.problem_definitions.specs.Problem.{Problem, has_row, has_group}
use Rattle.deck_definitions.specs.declared.DeckFault.{DeckFault}
use Rattle.deck_definitions.specs.declared.DeckFaultKind.{DeckFaultKind}
use Rattle.deck_definitions.specs.declared.DeckFaultKind.TheVariants.{SectionOrder, UnknownRow, UnknownColumn, BadBasisCode, NamedTwice, NoSuchLimit}
use Rattle.deck_definitions.specs.declared.Section.TheVariants.{Header, Endata}
use Rattle.deck_definitions.specs.Sections.{is_section, is_section_card, section_after, is_section_after}
use Rattle.deck_definitions.specs.Tests.{filled_from_3, filled_from_4}
use Rattle.deck_definitions.specs.Conversion.{section_card_fault, gaps_fault, fault_by}
use Rattle.basis_deck_definitions.specs.declared.Code.{Code}
use Rattle.basis_deck_definitions.specs.declared.Code.TheVariants.{Exchanges, Stands}
use Rattle.basis_deck_definitions.specs.Placings.{code_words, Placing, placings_by}

-- the limit at which a status stands is there; what is basic needs none
abbrev pub has_limit_of : LinearProgram → Placing → Bool
has_limit_of lp placing = by placing.status
  where
    by : Status → Bool
    by Bs = true
    by Ll = not (is_none (lower_of lp placing.variable))
    by Ul = not (is_none (upper_of lp placing.variable))
    by Fr = is_none (lower_of lp placing.variable) && is_none (upper_of lp placing.variable)

-- one of the placings before is of the same variable
abbrev pub is_named_in : List Placing → Placing → Bool
is_named_in before placing = list_any (λ earlier. nat_eq earlier.variable placing.variable) before

-- what stands after the names is blank
abbrev pub filled_after : Reading → Code → Option DeckFaultKind
filled_after card (Exchanges to) = filled_from_4 card
filled_after card (Stands at) = filled_from_3 card

module _ (problem : Problem ℕ) where
  -- what a card says, if it is a data card with a code
  abbrev pub placings_on : Card → List Placing
  placings_on card =
      let read = reading_of Fixed card.bytes in
      if is_section_card card.bytes then [] else unwrap_or (option_map (placings_by problem read) (named code_words read.kind)) []

  abbrev pub placings_of : List Card → List Placing
  placings_of cards = flat_map placings_on cards

  -- the row of an exchange is there
  abbrev pub row_fault : Reading → Code → Option DeckFaultKind
  row_fault card (Exchanges to) = not (has_row problem.rows card.name2) ⟹ UnknownRow
  row_fault card (Stands at) = None

module _ (problem : Problem ℕ) (lp : LinearProgram) where
  -- each variable opens as SETUP opens it, and goes where the cards put it, in their order
  unfoldable pub stands_for : List Card → List Status
  stands_for cards = fold (λ s placing. with_status s placing.variable placing.status) (opening_statuses lp) (placings_of problem cards)

  -- the tests of a card with a known code, after what earlier cards say
  abbrev pub code_fault : List Placing → Reading → Code → Option DeckFaultKind
  code_fault before card code = first_fault (
      (not (has_group problem.columns card.name1) ⟹ UnknownColumn) ∷
      row_fault problem card code ∷
      (list_any (is_named_in before) (placings_by problem card code) ⟹ NamedTwice) ∷
      (list_any (λ placing. not (has_limit_of lp placing)) (placings_by problem card code) ⟹ NoSuchLimit) ∷
      filled_after card code ∷ [])

  abbrev pub by_code : List Placing → Reading → Option Code → Option DeckFaultKind
  by_code before card None = Some BadBasisCode
  by_code before card (Some code) = code_fault before card code

  -- its fields stand at fixed columns in every basis deck
  abbrev pub basis_data_fault : List Placing → List ℕ → Option DeckFaultKind
  basis_data_fault before card =
      let read = reading_of Fixed card in
      first_fault (gaps_fault card ∷ by_code before read (named code_words read.kind) ∷ [])

  -- The fault of a card, as a condition on it and on the cards before it: after NAME come data cards, and then ENDATA.
  unfoldable pub basis_card_fault : List Card → List ℕ → Option DeckFaultKind
  basis_card_fault before card =
      if is_section_card card then section_card_fault (λ earlier section. is_section Header earlier && is_section Endata section) (section_after before) card
      else (if is_section_after Header before then basis_data_fault (placings_of problem before) card else Some SectionOrder)

  -- What a basis deck says: its first fault, or the status list that it stands for.
  unfoldable pub basis_reading : List Card → Result (List Status) DeckFault
  basis_reading deck = unless (fault_by basis_card_fault deck) (stands_for (live deck))
