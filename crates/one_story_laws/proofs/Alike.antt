-- Two states that are the same but for the bases, and moves that lead two runs alike.
--     SameSetup, SameStanding      the same problem and options; and else all is the same
--     Alike a b                    two outcomes: what is printed says the same, and what follows is the same but for the bases
--     IsStopped Open a             an outcome cuts the run off
--     IsAlike .. first second      the outcomes of two moves are alike, or the first one cuts its run off
use Rattle.std.proofs.Common.{◌≡◌, ◌⊎◌, inl, inr, ℕ, ◌+◌, List, refl, sym, subst}
use Rattle.std.specs.Prelude.{All, Option, Some, None, Result, Ok, Err}
use Rattle.lp_definitions.specs.LinearProgram.{LinearProgram}
use Rattle.problem_definitions.specs.Problem.{Problem}
use Rattle.deck_definitions.specs.declared.DeckFault.{DeckFault}
use Rattle.control_definitions.specs.Program.{SetupOptions}
use Rattle.selection_definitions.specs.declared.SelectionFault.{SelectionFault}
use Rattle.selection_definitions.specs.Choice.{Choice}
use Rattle.selection_definitions.specs.Selection.{selected}
use Rattle.listing_definitions.specs.declared.Mark.{Mark}
use Rattle.listing_definitions.specs.declared.Mark.TheVariants.{Optimal, Infeasible, Unbounded}
use Rattle.listing_definitions.specs.declared.VerbFault.{VerbFault}
use Rattle.listing_definitions.specs.Report.{Report}
use Rattle.listing_definitions.specs.Ending.{Ending, PriceStop, LimitStop, OverflowStop}
use Rattle.question_definitions.specs.Answers.{Basis, Sheet, Question, AnswerTo}
use Rattle.question_definitions.specs.Solving.{Solving, IsRight}
use Rattle.run_definitions.specs.State.{Present, State}
use Rattle.run_definitions.specs.Moves.{Gain, Prints, printed_by, StatementOutcome, Goes, Ends, gain_of, stops, Refusals, StatementMove, Does, MayStop, Asks}
use Rattle.run_definitions.specs.Moves.{Gives, or_fault}
use Rattle.run_definitions.specs.Verbs.{or_deck_fault, or_selection_fault, selects, demanded, by_verdict}
use Rattle.determinism_laws.specs.Laws.{IsOverflowStop}
use Rattle.walk_laws.specs.Proved.{attested, Says}
use Rattle.one_story_laws.specs.Story.{ReportsSame, TellSame}
use Rattle.walk_definitions.specs.Checkers.{Checker}

-- whatever basis the setup opened with, and whatever steps were gone since
pub data SameSetup : Option Present → Option Present → Type 0 where
  no_setup : SameSetup None None
  one_setup : (problem : Problem ℕ) (options : SetupOptions) (opening other : Basis) (steps others : List Basis) →
      SameSetup (Some (record { problem = problem; options = options; opening = opening; steps = steps }))
      (Some (record { problem = problem; options = options; opening = other; steps = others }))

pub data SameStanding : State → State → Type 0 where
  standing : (state : State) (left right : Option Present) → SameSetup left right →
      SameStanding (record state { setup = left }) (record state { setup = right })

abbrev pub Alike : StatementOutcome → StatementOutcome → Type 0
Alike (Goes gain after) (Goes other later) = TellSame (printed_by gain) (printed_by other) × SameStanding after later
Alike (Ends gain ending) (Ends other another) = TellSame (printed_by gain) (printed_by other) × (ending ≡ another)
Alike outcome other = ⊥

-- the limit on steps and wrong prices cut a run off only where that is open
abbrev pub CutsOff : Type 0 → Ending → Type 0
CutsOff Open (LimitStop reached) = Open
CutsOff Open (PriceStop price) = Open
CutsOff Open (OverflowStop overflow) = Unit {0}
CutsOff Open ending = ⊥

abbrev pub IsStopped : Type 0 → StatementOutcome → Type 0
IsStopped Open outcome = (ending : Ending) × CutsOff Open ending × (outcome ≡ stops ending)

abbrev pub AlikeOrStopped : Type 0 → StatementOutcome → StatementOutcome → Type 0
AlikeOrStopped Open first second = Alike first second ⊎ IsStopped Open first

-- ---- outcomes

pub goes_alike : (gain other : Gain) (state : State) (left right : Option Present) → TellSame (printed_by gain) (printed_by other) → SameSetup left right →
    Alike (Goes gain (record state { setup = left })) (Goes other (record state { setup = right }))
goes_alike gain other state left right same setups = (same, standing state left right setups)

demanded_alike : (position : Option ℕ) (code : ℕ) (report other : Report) (state : State) (left right : Option Present) → ReportsSame report other →
    SameSetup left right →
    Alike (demanded position code report (record state { setup = left })) (demanded position code other (record state { setup = right }))
demanded_alike (Some position) code report other state left right same setups =
    goes_alike (Prints report) (Prints other) (record state { position = position }) left right (same, tt) setups
demanded_alike None code report other state left right same setups = ((same, tt), refl)

pub by_verdict_alike : (mark : Mark) (report other : Report) (state : State) (left right : Option Present) → ReportsSame report other → SameSetup left right →
    Alike (by_verdict mark report (record state { setup = left })) (by_verdict mark other (record state { setup = right }))
by_verdict_alike Optimal report other state left right same setups =
    goes_alike (Prints report) (Prints other) (record state { position = state.position + 1 }) left right (same, tt) setups
by_verdict_alike Infeasible report other state left right same setups = demanded_alike state.cells.xdonfs 1 report other state left right same setups
by_verdict_alike Unbounded report other state left right same setups = demanded_alike state.cells.xdounb 2 report other state left right same setups

-- ---- moves

module _ (C : Checker) (S : Solving) (Speaks : State → Report → Type 0) (Open : Type 0) (at other : State) (card : ℕ) where
  pub record IsAlike (first second : StatementMove) : Type 0 where
    pub by : (a b : StatementOutcome) → Gives S card first a → Gives (attested C) card second b → All (Speaks at) (printed_by (gain_of a)) →
        All (Says C other) (printed_by (gain_of b)) →
        (IsOverflowStop b → ⊥) → AlikeOrStopped Open a b

  pub does : (a b : StatementOutcome) → Alike a b → IsAlike (Does a) (Does b)
  does a b alike = record {
    by =
        λ x y first second speaks says unstopped. inl
        (subst (λ (o : StatementOutcome). Alike o y) (sym first) (subst (λ (o : StatementOutcome). Alike a o) (sym second) alike));
  }

  pub may_stop : (refusals others : Refusals) (first second : StatementMove) → IsAlike first second → IsAlike (MayStop refusals first) (MayStop others second)
  may_stop refusals others first second alike = record { by = stopping }
    where
      stopping : (a b : StatementOutcome) → Gives S card (MayStop refusals first) a → Gives (attested C) card (MayStop others second) b →
          All (Speaks at) (printed_by (gain_of a)) →
          All (Says C other) (printed_by (gain_of b)) → (IsOverflowStop b → ⊥) → AlikeOrStopped Open a b
      stopping a b (inr stop) given speaks says unstopped = inr (OverflowStop _, tt, stop.3)
      stopping a b (inl gives) (inl given) speaks says unstopped = alike.by a b gives given speaks says unstopped
      stopping a b (inl gives) (inr stop) speaks says unstopped = absurd (unstopped (_, stop.3))

  pub asked : (question : Question) (sheet : Sheet) (s t : Basis) (go on : AnswerTo question → StatementOutcome) →
      ((x y : AnswerTo question) → IsRight S question sheet s x → IsRight (attested C) question sheet t y → All (Speaks at) (printed_by (gain_of (go x))) →
      All (Says C other) (printed_by (gain_of (on y))) →
      AlikeOrStopped Open (go x) (on y)) → IsAlike (Asks question sheet s go) (Asks question sheet t on)
  asked question sheet s t go on alike = record {
    by = λ a b first second speaks says unstopped.
        subst (λ (o : StatementOutcome). AlikeOrStopped Open o b) (sym first.2)
        (subst (λ (o : StatementOutcome). AlikeOrStopped Open (go first.0) o) (sym second.2)
        (alike first.0 second.0 first.1 second.1 (subst (λ (o : StatementOutcome). All (Speaks at) (printed_by (gain_of o))) first.2 speaks)
        (subst (λ (o : StatementOutcome). All (Says C other) (printed_by (gain_of o))) second.2 says)));
  }

  pub unless_fault : {X : Type 0} (fault : VerbFault) (o : Option X) (go on : X → StatementMove) → ((x : X) → o ≡ Some x → IsAlike (go x) (on x)) →
      IsAlike (or_fault card fault o go) (or_fault card fault o on)
  unless_fault fault None go on alike = does _ _ (tt, refl)
  unless_fault fault (Some x) go on alike = alike x refl

  pub unless_deck_fault : {X : Type 0} (r : Result X DeckFault) (go on : X → StatementMove) → ((x : X) → r ≡ Ok x → IsAlike (go x) (on x)) →
      IsAlike (or_deck_fault r go) (or_deck_fault r on)
  unless_deck_fault (Err fault) go on alike = does _ _ (tt, refl)
  unless_deck_fault (Ok x) go on alike = alike x refl

  pub unless_selection_fault : (r : Result LinearProgram SelectionFault) (go on : LinearProgram → StatementMove) →
      ((lp : LinearProgram) → r ≡ Ok lp → IsAlike (go lp) (on lp)) →
      IsAlike (or_selection_fault card r go) (or_selection_fault card r on)
  unless_selection_fault (Err fault) go on alike = does _ _ (tt, refl)
  unless_selection_fault (Ok lp) go on alike = alike lp refl

  pub selecting : (problem : Problem ℕ) (choice : Choice) (go on : LinearProgram → StatementMove) →
      ((lp : LinearProgram) → selected problem choice ≡ Ok lp → IsAlike (go lp) (on lp)) →
      IsAlike (selects card problem choice go) (selects card problem choice on)
  selecting problem choice go on alike = unless_selection_fault (selected problem choice) _ _ (λ lp is. may_stop _ _ (go lp) (on lp) (alike lp is))
