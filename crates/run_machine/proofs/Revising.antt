-- What REVISE finds.
use Rattle.std.proofs.Common.{◌≡◌, ℕ, ◌+◌, ◌≤◌, length, List, Option, None, Some, Result, Ok, Err, IfOk, drop, refl, ap, ◌∙◌}
use Rattle.std.specs.Prelude.{IfErr}
use Rattle.card_definitions.specs.Cards.{Card, numbered_cards}
use Rattle.deck_definitions.specs.Decks.{decks_of, deck_taken}
use Rattle.deck_definitions.specs.declared.DeckFault.{DeckFault}
use Rattle.card_reader.specs.declared.stop.CardStop.{CardStop}
use Rattle.card_reader.specs.declared.stop.CardStop.TheVariants.{Fault, NoMemory}
use Rattle.revise_definitions.specs.Revision.{revision}
use Rattle.revise_deck.specs.Revision.{Refuses}
use Rattle.problem_definitions.specs.Names.{Name}
use Rattle.problem_definitions.specs.Problem.{Problem}
use Rattle.control_definitions.specs.Cells.{Cells}
use Rattle.listing_definitions.specs.declared.VerbFault.TheVariants.{DeckNotFound, NoProblem}
use Rattle.listing_definitions.specs.Report as reports
use Rattle.problem_file.specs.Filed.{Filed}
use Rattle.run_definitions.specs.State.{Present, State, problem_of}
use Rattle.run_definitions.specs.Moves.{StatementOutcome, DecidesAlone}
use Rattle.run_definitions.specs.Verbs.{revises, verb_move}
use Rattle.run_machine.specs.declared.taking.DeckVerb.TheVariants.{Revise}
use Rattle.run_machine.specs.declared.taking.Described.TheVariants as described
use Rattle.run_machine.specs.declared.end.End.TheVariants.{Verb}
use Rattle.run_machine.specs.declared.machine.Machine.{Machine}
use Rattle.run_machine.specs.Standing.{filed, Represents}
use Rattle.run_machine.specs.Describing.{decks_from, Describes, described_as}
use Rattle.run_machine.proofs.Giving.{problem_view, settles_fault, settles_found}
use Rattle.run_machine.proofs.Filing.{takes, takes_nothing, takes_refused, takes_problem, filed_after}

module _ {K : Type 0} (Shows : Filed → K → Present → Type 0) (card : ℕ) (cards : List (List ℕ)) (machine : Machine K) where
  pub finds_no_problem : filed machine.cells.xoldname machine.file ≡ None →
      Describes Shows Revise card cards machine (Ok (described.Ends (Verb NoProblem card)))
  unfolding verb_move
  finds_no_problem none =
      λ position executed state s. settles_fault card NoProblem (problem_of state.cells.xoldname state.file) _
      (problem_view s (λ (c : Cells). c.xoldname) None none)

  module _ (old : Problem ℕ) (on_file : filed machine.cells.xoldname machine.file ≡ Some old) (wanted : Option Name)
      (same_name : wanted ≡ machine.cells.xdata) where
    -- what follows where the old problem is on file
    gives_revised : {position executed : ℕ} {state : State} → Represents Shows cards machine position executed state → (outcome : StatementOutcome) →
        DecidesAlone card (takes card (λ deck. revision old deck state.cells.xpbname) reports.Revised state) outcome →
        DecidesAlone card (revises card state) outcome
    gives_revised {state = state} s outcome given =
        settles_found card NoProblem (problem_of state.cells.xoldname state.file)
        (λ old. takes card (λ deck. revision old deck state.cells.xpbname) reports.Revised state) old outcome
        (problem_view s (λ (c : Cells). c.xoldname) (Some old) on_file) given

    pub finds_no_revision : deck_taken wanted (decks_from machine.decks_from cards) ≡ None →
        Describes Shows Revise card cards machine (Ok (described.Ends (Verb DeckNotFound card)))
    unfolding verb_move
    finds_no_revision none = λ position executed state s.
        gives_revised s _ (takes_nothing Shows card cards machine wanted same_name s (λ deck. revision old deck state.cells.xpbname) reports.Revised none)

    pub finds_a_revision : (given : Result (Problem ℕ) (CardStop DeckFault)) (deck : List Card) (last from_card : ℕ) →
        deck_taken wanted (decks_from machine.decks_from cards) ≡ Some (deck, decks_of (drop last (numbered_cards cards))) →
        IfOk given (λ problem. revision old deck machine.cells.xpbname ≡ Ok problem) → IfErr given (Refuses old deck machine.cells.xpbname) →
        last ≤ length cards → from_card ≡ last + 1 → Describes Shows Revise card cards machine (described_as given from_card)
    unfolding verb_move
    finds_a_revision (Ok problem) deck last from_card taken ok err within is =
        filed_after Shows Revise card cards machine problem last from_card within is
        (λ position executed state s.
        gives_revised s _
        (takes_problem Shows card cards machine wanted same_name s (λ deck. revision old deck state.cells.xpbname) reports.Revised deck
        (decks_of (drop last (numbered_cards cards))) problem taken
        (ap (λ (c : Cells). revision old deck c.xpbname) s.cells ∙ ok)))
    finds_a_revision (Err (Fault fault)) deck last from_card taken ok err within is = λ position executed state s.
        gives_revised s _
        (takes_refused Shows card cards machine wanted same_name s (λ deck. revision old deck state.cells.xpbname) reports.Revised deck
        (decks_of (drop last (numbered_cards cards))) fault taken
        (ap (λ (c : Cells). revision old deck c.xpbname) s.cells ∙ err))
    finds_a_revision (Err NoMemory) deck last from_card taken ok err within is = refl
