-- What a plain verb does has no operation that could be refused; so at no statement of a plain job evidence holds.
use Rattle.std.proofs.Common.{◌-◌, ℕ, List}
use Rattle.std.specs.Prelude.{Option, Some, None, Result, Ok, Err}
use Rattle.card_definitions.specs.Cards.{Card}
use Rattle.deck_definitions.specs.declared.DeckFault.{DeckFault}
use Rattle.deck_definitions.specs.Conversion.{conversion}
use Rattle.deck_definitions.specs.Decks.{deck_taken}
use Rattle.revise_definitions.specs.Revision.{revision}
use Rattle.control_definitions.specs.Program.{Verb, Initialz, Title, MoveName, MoveNumber, MoveLimit, Mvadr, Goto, Convert, Setup, Primal, Dual, Revise}
use Rattle.control_definitions.specs.Program.{Ranging, Paraobj, Pararhs, Solution, Bcdout, Punch, Insert, Exit}
use Rattle.listing_definitions.specs.declared.VerbFault.{VerbFault}
use Rattle.listing_definitions.specs.Report.{Converted, Revised}
use Rattle.question_definitions.specs.Solving.{Solving}
use Rattle.run_definitions.specs.State.{State, problem_of}
use Rattle.run_definitions.specs.Moves.{StatementMove, or_fault}
use Rattle.run_definitions.specs.Verbs.{or_deck_fault, files, verb_move}
use Rattle.determinism_laws.specs.Laws.{HasEvidence, MeetsNoEvidence}
use Rattle.plain_job_laws.specs.Laws.{IsPlain, IsPlainJob}

module _ (S : Solving) where
  -- no evidence of an operation of the move holds
  record HasNone (move : StatementMove) : Type 0 where
    none : HasEvidence S move → ⊥

  unless_fault : {X : Type 0} (card : ℕ) (fault : VerbFault) (o : Option X) (go : X → StatementMove) → ((x : X) → HasNone (go x)) →
      HasNone (or_fault card fault o go)
  unless_fault card fault None go is = record { none = λ e. e }
  unless_fault card fault (Some x) go is = is x

  unless_deck_fault : {X : Type 0} (r : Result X DeckFault) (go : X → StatementMove) → ((x : X) → HasNone (go x)) → HasNone (or_deck_fault r go)
  unless_deck_fault (Err fault) go is = record { none = λ e. e }
  unless_deck_fault (Ok x) go is = is x

  plain_none : (verb : Verb ℕ) (card : ℕ) (state : State) → IsPlain verb → HasNone (verb_move verb card state)
  unfolding verb_move
  plain_none Initialz card state is = record { none = λ e. e }
  plain_none (Title text) card state is = record { none = λ e. e }
  plain_none (MoveName cell name) card state is = record { none = λ e. e }
  plain_none (MoveNumber cell value) card state is = record { none = λ e. e }
  plain_none (MoveLimit limit) card state is = record { none = λ e. e }
  plain_none (Mvadr demand position) card state is = record { none = λ e. e }
  plain_none (Goto position) card state is = record { none = λ e. e }
  plain_none Convert card state is =
      unless_fault {X = List Card × List (List Card)} card VerbFault.DeckNotFound (deck_taken state.cells.xdata state.decks) _ (λ taken.
      unless_deck_fault (conversion taken.0 state.cells.xpbname) (files Converted taken.1 state) (λ problem. record { none = λ e. e }))
  plain_none Revise card state is =
      unless_fault card VerbFault.NoProblem (problem_of state.cells.xoldname state.file) _ (λ old.
      unless_fault {X = List Card × List (List Card)} card VerbFault.DeckNotFound (deck_taken state.cells.xdata state.decks) _ (λ taken.
      unless_deck_fault (revision old taken.0 state.cells.xpbname) (files Revised taken.1 state) (λ problem. record { none = λ e. e })))
  plain_none Bcdout card state is = unless_fault card VerbFault.NoProblem (problem_of state.cells.xpbname state.file) _ (λ problem. record { none = λ e. e })
  plain_none Exit card state is = record { none = λ e. e }
  plain_none (Setup options) card state is = absurd is
  plain_none Primal card state is = absurd is
  plain_none Dual card state is = absurd is
  plain_none Solution card state is = absurd is
  plain_none Ranging card state is = absurd is
  plain_none Paraobj card state is = absurd is
  plain_none Pararhs card state is = absurd is
  plain_none Punch card state is = absurd is
  plain_none Insert card state is = absurd is

  pub plain_meets_none : (bytes : List ℕ) → IsPlainJob bytes → MeetsNoEvidence S bytes
  plain_meets_none bytes plain program reports cards state statement so_far is within evidence =
      (plain_none statement.verb statement.card _ (plain program (state.position - 1) statement so_far.is_program is)).none evidence
