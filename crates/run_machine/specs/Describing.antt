-- What CONVERT and REVISE find before the machine changes.
use Rattle.std.specs.Prelude.{◌≡◌, ℕ, ◌+◌, ◌-◌, ◌≤◌, List, ◌∷◌, None, Result, Ok, Err, length, drop}
use Rattle.card_definitions.specs.Cards.{Card, numbered_cards}
use Rattle.deck_definitions.specs.Decks.{decks_of}
use Rattle.deck_definitions.specs.declared.DeckFault.{DeckFault}
use Rattle.card_reader.specs.declared.stop.CardStop.{CardStop}
use Rattle.card_reader.specs.declared.stop.CardStop.TheVariants.{Fault, NoMemory}
use Rattle.problem_definitions.specs.Problem.{Problem}
use Rattle.control_definitions.specs.Program as program
use Rattle.listing_definitions.specs.Report as reports
use Rattle.problem_file.specs.Filed.{Filed as Problems}
use Rattle.run_definitions.specs.State.{Present, State}
use Rattle.run_definitions.specs.Moves.{Nothing, Prints, next, DecidesAlone}
use Rattle.run_definitions.specs.Verbs.{size_of, verb_move}
use Rattle.run_machine.specs.declared.act.Act.TheVariants as act
use Rattle.run_machine.specs.declared.act.Halt.{Halt}
use Rattle.run_machine.specs.declared.act.Halt.TheVariants as halt
use Rattle.run_machine.specs.declared.taking.DeckVerb.{DeckVerb}
use Rattle.run_machine.specs.declared.taking.DeckVerb.TheVariants.{Convert, Revise}
use Rattle.run_machine.specs.declared.taking.Described.{Described}
use Rattle.run_machine.specs.declared.taking.Described.TheVariants.{Filed, Ends}
use Rattle.run_machine.specs.declared.end.End.TheVariants as ends
use Rattle.run_machine.specs.declared.machine.Machine.{Machine}
use Rattle.run_machine.specs.Standing.{FromEach}
use Rattle.run_machine.specs.Statements.{LeadsTo}

-- the verb of a statement that takes a deck
abbrev pub verb_of : DeckVerb → program.Verb ℕ
verb_of Convert = program.Convert
verb_of Revise = program.Revise

-- what it prints of the problem that it files
abbrev pub report_of : DeckVerb → reports.Filed → reports.Report
report_of Convert filed = reports.Converted filed
report_of Revise filed = reports.Revised filed

-- the decks from a card on
abbrev pub decks_from : ℕ → List (List ℕ) → List (List Card)
decks_from number cards = decks_of (drop (number - 1) (numbered_cards cards))

-- the state with the problem on file and these decks left, without setup and mark
abbrev pub with_problem : Problem ℕ → List (List Card) → State → State
with_problem problem decks state = record state { file = problem ∷ state.file; decks = decks; setup = None; mark = None }

-- the problem that a deck gives is to be filed, and a fault of the deck ends the run; else there is no memory
abbrev pub described_as : Result (Problem ℕ) (CardStop DeckFault) → ℕ → Result Described Halt
described_as (Ok problem) from_card = Ok (Filed problem from_card)
described_as (Err (Fault fault)) from_card = Ok (Ends (ends.Deck fault))
described_as (Err NoMemory) from_card = Err halt.NoMemory

module _ {K : Type 0} (Shows : Problems → K → Present → Type 0) (verb : DeckVerb) (card : ℕ) (cards : List (List ℕ)) (machine : Machine K) where
  -- From each state that the machine shows, the statement files and prints this problem; the decks that are left are those from the
  -- next card on.
  pub record IsDescribed (problem : Problem ℕ) (from_card : ℕ) : Type 0 where
    pub files : FromEach Shows cards machine (λ position executed state.
        DecidesAlone card (verb_move (verb_of verb) card state)
        (next (Prints (report_of verb (size_of problem))) (with_problem problem (decks_from from_card cards) state)))
    pub first : 1 ≤ from_card
    pub last : from_card ≤ length cards + 1

  -- A problem is to be filed, or from each state that the machine shows the statement ends the run, or there is no memory.
  abbrev pub Describes : Result Described Halt → Type 0
  Describes (Ok (Filed problem from_card)) = IsDescribed problem from_card
  Describes (Ok (Ends end)) =
      FromEach Shows cards machine (λ position executed state.
      LeadsTo Shows DecidesAlone (verb_of verb) card cards position executed state machine Nothing (act.Ends end))
  Describes (Err stop) = stop ≡ halt.NoMemory
