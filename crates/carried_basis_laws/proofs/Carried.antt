-- A basis that PUNCH has punched comes back by INSERT.
use Rattle.std.proofs.Common.{◌≡◌, ℕ, List, Option, None, Some, Result, Ok, Err, inl, inr, refl, sym, subst}
use Rattle.std.proofs.lemmas.Option.{same_Some}
use Rattle.lp_definitions.specs.LinearProgram.{LinearProgram}
use Rattle.card_definitions.specs.Cards.{Card, numbered_from}
use Rattle.problem_definitions.specs.Problem.{Problem}
use Rattle.simplex_laws.specs.Laws.{IsNonsingularBasis}
use Rattle.deck_definitions.specs.declared.DeckFault.{DeckFault}
use Rattle.deck_definitions.specs.Decks.{deck_taken}
use Rattle.basis_deck_definitions.specs.Reading.{basis_reading}
use Rattle.basis_deck_definitions.specs.Writing.{basis_deck}
use Rattle.basis_deck_laws.proofs.GivesBack.{gives_back}
use Rattle.basis_deck_laws.proofs.OneDeck.{reads_back, one_deck}
use Rattle.basis_deck_laws.proofs.Dependencies.{dependency_singular}
use Rattle.control_definitions.specs.Program.{Verb, Program, Punch, Insert}
use Rattle.selection_definitions.specs.declared.SelectionFault.{SelectionFault}
use Rattle.selection_definitions.specs.Selection.{selected}
use Rattle.control_definitions.specs.Cells.{Cells}
use Rattle.listing_definitions.specs.declared.VerbFault.{VerbFault}
use Rattle.listing_definitions.specs.Report.{Report}
use Rattle.listing_definitions.specs.Ending.{Ending, Overflow, OverflowStop}
use Rattle.question_definitions.specs.Answers.{Basis, Sheet, Question, AnswerTo, OfPunch, OfInstall, InstallEnd, Installed, DependsBy}
use Rattle.question_definitions.specs.Solving.{IsRight}
use Rattle.answer_definitions.specs.Bases.{IsInstalled}
use Rattle.answer_definitions.specs.Real.{linear_programming}
use Rattle.run_definitions.specs.State.{Present, present_basis, State, choice_of}
use Rattle.run_definitions.specs.Moves.{Nothing, Prints, Punches, Refusals, StatementOutcome, Goes, Ends, StatementMove, Does, MayStop, Asks, Gives, or_fault}
use Rattle.run_definitions.specs.Verbs.{or_deck_fault, or_selection_fault, after_install, punches_basis, inserts, verb_move}
use Rattle.run_definitions.specs.Run.{counted, Step}
use Rattle.run_definitions.specs.Answer.{IsSoFar}
use Rattle.soundness_laws.specs.Truth.{PresentProgram}
use Rattle.soundness_laws.proofs.Moves.{HasProblem, Knows}
use Rattle.soundness_laws.proofs.Runs.{has_problem, known, knows_linear_programming}
use Rattle.selection_laws.proofs.Selected.{selected_is_lawful}
use Rattle.soundness_laws.proofs.Selected.{selected_has_names}
use Rattle.carried_basis_laws.specs.Laws.{StandsForPresent, ComesBack, goes, overflows}

-- ---- a fact of every outcome of a move, where it says nothing of an end

record Leads (Fact : StatementOutcome → Type 0) (card : ℕ) (move : StatementMove) : Type 0 where
  by : (outcome : StatementOutcome) → Gives linear_programming card move outcome → Fact outcome

module _ (Fact : StatementOutcome → Type 0) (card : ℕ) where
  asked : (question : Question) (sheet : Sheet) (s : Basis) (go : AnswerTo question → StatementOutcome) →
      ((answer : AnswerTo question) → IsRight linear_programming question sheet s answer → Fact (go answer)) →
      Leads Fact card (Asks question sheet s go)
  asked question sheet s go holds = record { by = λ outcome given. subst Fact (sym given.2) (holds given.0 given.1) }

  or_overflow : (refusals : Refusals) (move : StatementMove) → ((overflow : Overflow) → Fact (Ends Nothing (OverflowStop overflow))) → Leads Fact card move →
      Leads Fact card (MayStop refusals move)
  or_overflow refusals move stops leads = record { by = gives_so }
    where
      gives_so : (outcome : StatementOutcome) → Gives linear_programming card (MayStop refusals move) outcome → Fact outcome
      gives_so outcome (inl gives) = leads.by outcome gives
      gives_so outcome (inr stop) = subst Fact (sym stop.3) (stops _)

module _ (Fact : StatementOutcome → Type 0) (card : ℕ) (at_end : (ending : Ending) → Fact (Ends Nothing ending)) where
  ends : (ending : Ending) → Leads Fact card (Does (Ends Nothing ending))
  ends ending = record { by = λ outcome e. subst Fact (sym e) (at_end ending) }

  unless_fault : {X : Type 0} (fault : VerbFault) (o : Option X) (go : X → StatementMove) → ((x : X) → o ≡ Some x → Leads Fact card (go x)) →
      Leads Fact card (or_fault card fault o go)
  unless_fault fault None go leads = ends _
  unless_fault fault (Some x) go leads = leads x refl

  unless_selection_fault : (r : Result LinearProgram SelectionFault) (go : LinearProgram → StatementMove) →
      ((lp : LinearProgram) → r ≡ Ok lp → Leads Fact card (go lp)) → Leads Fact card (or_selection_fault card r go)
  unless_selection_fault (Err fault) go leads = ends _
  unless_selection_fault (Ok lp) go leads = leads lp refl

abbrev sheet_of : Present → LinearProgram → Sheet
sheet_of present lp = record { problem = present.problem; lp = lp }

-- ---- PUNCH

abbrev StandsIn : Option Present → Cells → StatementOutcome → Type 0
StandsIn setup cells (Goes (Punches report deck) after) = StandsForPresent setup cells deck
StandsIn setup cells (Goes (Prints report) after) = Unit {0}
StandsIn setup cells (Goes Nothing after) = Unit {0}
StandsIn setup cells (Ends gain ending) = Unit {0}

module _ (state : State) (lawful : HasProblem state.setup) (knows : Knows state) where
  deck_stands : (present : Present) → state.setup ≡ Some present → (lp : LinearProgram) →
      selected present.problem (choice_of state.cells present.options) ≡ Ok lp →
      (deck : List (List ℕ)) → deck ≡ basis_deck present.problem lp (present_basis present) → StandsForPresent state.setup state.cells deck
  deck_stands present set lp is deck e =
      let problem = lawful present set in
      let names = selected_has_names present.problem (choice_of state.cells present.options) lp is in
      let at = (knows.bases present set).in_each state.cells.xobj state.cells.xrhs lp is in
      subst (StandsForPresent state.setup state.cells) (sym e) (record {
        program = record {
          present = present;
          is_setup = set;
          lp = lp;
          is_selected = is;
          is_problem = problem;
          is_linear_program = selected_is_lawful present.problem (choice_of state.cells present.options) lp problem is;
        };
        is_basis = at;
        reads = λ first. gives_back present.problem lp (present_basis present) first problem names at.is_basis;
        is_one_deck = λ first. one_deck present.problem lp (present_basis present) first problem;
        reads_back = reads_back present.problem lp (present_basis present) problem names;
      })

  punching : (card : ℕ) → Leads (StandsIn state.setup state.cells) card (punches_basis card state)
  punching card =
      let Fact = StandsIn state.setup state.cells in
      unless_fault Fact card (λ ending. tt) VerbFault.NoSetup state.setup _ (λ present set.
      unless_selection_fault Fact card (λ ending. tt) (selected present.problem (choice_of state.cells present.options)) _ (λ lp is.
      or_overflow Fact card _ _ (λ overflow. tt) (asked Fact card OfPunch (sheet_of present lp) (present_basis present) _
      (λ deck given. deck_stands present set lp is deck (knows_linear_programming.punches (sheet_of present lp) (present_basis present) deck given)))))

pub stands : (bytes : List ℕ) (program : Program) (reports : List Report) (cards : List (List ℕ)) (state after : State) (report : Report)
    (deck : List (List ℕ)) →
    IsSoFar linear_programming bytes reports cards program state → (step : Step linear_programming program state (Goes (Punches report deck) after)) →
    step.statement.verb ≡ Punch →
    StandsForPresent state.setup state.cells deck
unfolding verb_move
stands bytes program reports cards state after report deck so_far step is_punch =
    let lawful = has_problem linear_programming knows_linear_programming bytes program so_far.is_program reports cards state so_far.reaches in
    let knows = known linear_programming knows_linear_programming bytes program so_far.is_program reports cards state so_far.reaches in
    (punching (counted state) lawful (record { marked = knows.marked; bases = knows.bases }) step.statement.card).by (Goes (Punches report deck) after)
    (subst (λ (verb : Verb ℕ). Gives linear_programming step.statement.card (verb_move verb step.statement.card (counted state))
    (Goes (Punches report deck) after)) is_punch step.gives)

-- ---- INSERT

module _ (Fact : StatementOutcome → Type 0) (card : ℕ) where
  by_option : {X : Type 0} (fault : VerbFault) (o : Option X) (x : X) (go : X → StatementMove) → o ≡ Some x → Leads Fact card (go x) →
      Leads Fact card (or_fault card fault o go)
  by_option fault None x go e leads = absurd (cc e)
  by_option fault (Some y) x go e leads = subst (λ z. Leads Fact card (go z)) (sym (same_Some y x e)) leads

  by_selection : (r : Result LinearProgram SelectionFault) (lp : LinearProgram) (go : LinearProgram → StatementMove) → r ≡ Ok lp → Leads Fact card (go lp) →
      Leads Fact card (or_selection_fault card r go)
  by_selection (Err fault) lp go e leads = absurd (cc e)
  by_selection (Ok other) lp go e leads =
      let same : other ≡ lp = cc e in subst (λ p. Leads Fact card (go p)) (sym same) leads

  by_deck : (r : Result Basis DeckFault) (s : Basis) (go : Basis → StatementMove) → r ≡ Ok s → Leads Fact card (go s) → Leads Fact card (or_deck_fault r go)
  by_deck (Err fault) s go e leads = absurd (cc e)
  by_deck (Ok other) s go e leads =
      let same : other ≡ s = cc e in subst (λ t. Leads Fact card (go t)) (sym same) leads

module _ (card : ℕ) (state : State) (present : Present) (lp : LinearProgram) (s : Basis) (deck : List Card) (rest : List (List Card)) where
  installed : IsNonsingularBasis lp s → (end : InstallEnd) → IsInstalled (record { problem = present.problem; lp = lp }) s end →
      ComesBack present s (after_install card lp s (deck, rest) present state end)
  installed at Installed is = goes _ _ _ refl
  installed at (DependsBy lines) is = absurd (dependency_singular lp.matrix _ is.0 is.1 is.2 at.nonsingular)

  inserted : state.setup ≡ Some present → selected present.problem (choice_of state.cells present.options) ≡ Ok lp →
      deck_taken state.cells.xdata state.decks ≡ Some (deck, rest) →
      basis_reading present.problem lp deck ≡ Ok s → IsNonsingularBasis lp s → Leads (ComesBack present s) card (inserts card state)
  inserted set is taken read at =
      let Fact = ComesBack present s in
      by_option Fact card VerbFault.NoSetup state.setup present _ set
      (by_selection Fact card (selected present.problem (choice_of state.cells present.options)) lp _ is
      (or_overflow Fact card _ _ overflows
      (by_option Fact card {X = List Card × List (List Card)} VerbFault.DeckNotFound (deck_taken state.cells.xdata state.decks) (deck, rest) _ taken
      (by_deck Fact card (basis_reading present.problem lp deck) s _ read
      (or_overflow Fact card _ _ overflows (asked Fact card (OfInstall s) (sheet_of present lp) (present_basis present) _
      (λ end given. installed at end (knows_linear_programming.installs (sheet_of present lp) s end given))))))))

pub comes_back : (punched : State) (deck : List (List ℕ)) (program : Program) (state : State) (first : ℕ) (rest : List (List Card))
    (outcome : StatementOutcome) →
    (from : StandsForPresent punched.setup punched.cells deck) → (to : PresentProgram state.setup state.cells) →
    to.present.problem ≡ from.program.present.problem → to.lp ≡ from.program.lp →
    deck_taken state.cells.xdata state.decks ≡ Some (numbered_from first deck, rest) →
    (step : Step linear_programming program state outcome) → step.statement.verb ≡ Insert → ComesBack to.present (present_basis from.program.present) outcome
unfolding verb_move
comes_back was deck program state first rest outcome from to same_problem same_lp taken step is_insert =
    (inserted step.statement.card (counted state) to.present to.lp (present_basis from.program.present)
    (numbered_from first deck) rest to.is_setup to.is_selected taken
    (subst (λ (problem : Problem ℕ). basis_reading problem to.lp (numbered_from first deck) ≡ Ok (present_basis from.program.present)) (sym same_problem)
    (subst (λ (lp : LinearProgram). basis_reading from.program.present.problem lp (numbered_from first deck) ≡ Ok (present_basis from.program.present))
    (sym same_lp) (from.reads first)))
    (subst (λ (lp : LinearProgram). IsNonsingularBasis lp (present_basis from.program.present)) (sym same_lp) from.is_basis)).by
    outcome
    (subst (λ (verb : Verb ℕ). Gives linear_programming step.statement.card (verb_move verb step.statement.card (counted state)) outcome) is_insert step.gives)
