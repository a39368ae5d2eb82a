-- The conversion of a whole deck, by its parts: the first faulty card, its end and its name.
use Rattle.std.proofs.Common.{◌≡◌, ℕ, ◌+◌, ◌-◌, ◌≤◌, true, false, cond, not, List, [], ◌∷◌, ◌++◌, Option, Some, None, Ok, take, drop, slice_get, refl, ap, sym}
use Rattle.std.proofs.Common.{subst, ◌∙◌, unwrap_or}
use Rattle.card_definitions.specs.Words.{unless}
use Rattle.card_definitions.specs.Cards.{Card, live, numbered_cards, cards_between, is_skipped}
use Rattle.card_definitions.proofs.FirstFaults.{no_first}
use Rattle.card_definitions.proofs.Numbered.{live-append}
use Rattle.problem_definitions.specs.Names.{Name}
use Rattle.problem_definitions.specs.Problem.{Problem}
use Rattle.problem_definitions.specs.Numbering.{numbered}
use Rattle.problem_definitions.specs.Valid.{IsName, IsProblem}
use Rattle.deck_definitions.specs.declared.Style.TheVariants.{FixedFields}
use Rattle.deck_definitions.specs.Sections.{header_name}
use Rattle.deck_definitions.specs.Described.{described}
use Rattle.deck_definitions.specs.Conversion.{card_fault, first_faulty, fault_by, deck_fault, deck_name, conversion}
use Rattle.deck_definitions.proofs.Converted.{described-problem, printable_live}
use Rattle.deck_definitions.specs.Readings.{ArePrintableCards}
use Rattle.deck_definitions.specs.declared.DeckFault.{DeckFault}
use Rattle.card_reader.specs.declared.stop.CardStop.{CardStop}
use Rattle.card_reader.specs.declared.stop.CardStop.TheVariants.{Fault, NoMemory}
use Rattle.deck_fields.specs.Stops.{Stops}
use Rattle.deck_fields.proofs.Between.{cards_up_to, cards_more, cards_split}
use Rattle.mps_convert.specs.State.{State, state_of}
use Rattle.mps_convert.specs.Conversion.{Refuses}

module _ (deck : List Card) (name : Option Name) where
  made : Problem ℕ
  made = numbered (described (unwrap_or name (deck_name (live deck))) (live deck))

  by_fault : conversion deck name ≡ unless (fault_by card_fault deck) made
  unfolding conversion deck_fault made
  by_fault = refl

  -- the fault of the deck is what it converts to
  pub faulty : (stop : CardStop DeckFault) → Stops card_fault deck stop → Refuses deck name stop
  faulty NoMemory h = tt
  faulty (Fault found) h = by_fault ∙ ap (λ o. unless o made) h

  -- without one it converts to the problem that it describes
  pub whole : fault_by card_fault deck ≡ None → conversion deck name ≡ Ok (numbered (described (unwrap_or name (deck_name (live deck))) (live deck)))
  unfolding made
  whole fine = by_fault ∙ ap (λ o. unless o made) fine

  -- and no card is faulty
  pub cards_fine : fault_by card_fault deck ≡ None → first_faulty card_fault [] (live deck) ≡ None
  cards_fine fine = no_first (first_faulty card_fault [] (live deck)) _ fine

-- a problem under another name
pub named_as : (name : Name) (cards : List Card) (problem : Problem Name) → problem ≡ described [] cards → record problem { name = name } ≡ described name cards
unfolding described
named_as name cards problem is = ap (λ (p : Problem Name). record p { name = name }) is

-- what a draft shows after the cards of a deck without a fault, under a name, is a problem
pub is_problem : (deck : List Card) (own : Name) (problem : Problem Name) → IsName own → ArePrintableCards deck → fault_by card_fault deck ≡ None
    → problem ≡ described [] (live deck)
    → IsProblem (numbered (record problem { name = own }))
is_problem deck own problem named printable fine is =
    subst (λ (p : Problem Name). IsProblem (numbered p)) (sym (named_as own (live deck) problem is))
    (described-problem own (live deck) named (printable_live deck printable) (cards_fine deck None fine))

-- and the deck converts to it
pub converts : (deck : List Card) (name : Option Name) (own : Name) (viewed : Problem Name) (problem : Problem ℕ) → fault_by card_fault deck ≡ None
    → viewed ≡ described [] (live deck) → own ≡ unwrap_or name (deck_name (live deck)) → problem ≡ numbered (record viewed { name = own })
    → conversion deck name ≡ Ok problem
converts deck name own viewed problem fine is own_is problem_is =
    whole deck name fine
    ∙ ap (λ (p : Problem ℕ). Ok p)
    (ap (λ n. numbered (described n (live deck))) (sym own_is) ∙ ap numbered (sym (named_as own (live deck) viewed is)) ∙ sym problem_is)

-- after no card
pub nothing_read : (state : State) → state.section ≡ None → state.style ≡ FixedFields →
    state.problem ≡ record { name = []; rows = []; columns = []; rhs = []; ranges = []; bounds = [] } → state ≡ state_of []
unfolding described
nothing_read state section style problem = λ i. record { section = section i; style = style i; problem = problem i }

-- ---- the first card

module _ (first number : ℕ) (cards : List (List ℕ)) (card : List ℕ) (from_one : 1 ≤ first) (from : first ≤ number)
    (at : slice_get cards (number - 1) ≡ Some card)
    (none : live (cards_up_to first number cards) ≡ []) where
  up_to : live (cards_up_to first (number + 1) cards) ≡ cond (not (is_skipped card)) (record { number = number; bytes = card } ∷ []) []
  up_to =
      ap live (cards_more first number cards card from_one from at)
      ∙ live-append (cards_up_to first number cards) (record { number = number; bytes = card } ∷ [])
      ∙ ap (λ cs. cs ++ cond (not (is_skipped card)) (record { number = number; bytes = card } ∷ []) []) none

  -- one more skipped card
  pub still_none : is_skipped card ≡ true → live (cards_up_to first (number + 1) cards) ≡ []
  still_none skipped = up_to ∙ ap (λ b. cond (not b) (record { number = number; bytes = card } ∷ []) []) skipped

  -- the first card that isn't skipped has the deck's name
  pub name_at_first : (last : ℕ) → number ≤ last → is_skipped card ≡ false → deck_name (live (cards_between first last cards)) ≡ header_name card
  name_at_first last below live_card =
      let rest = take (last + 1 - first - (number + 1 - first)) (drop (number + 1 - first) (drop (first - 1) (numbered_cards cards))) in
      ap (λ cs. deck_name (live cs)) (cards_split first number last cards below from)
      ∙ ap deck_name (live-append (cards_up_to first (number + 1) cards) rest)
      ∙ ap (λ cs. deck_name (cs ++ live rest)) (up_to ∙ ap (λ b. cond (not b) (record { number = number; bytes = card } ∷ []) []) live_card)
