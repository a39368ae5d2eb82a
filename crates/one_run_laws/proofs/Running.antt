-- Each job has a run that doesn't stop with an overflow, where each question has an answer: a statement then has an outcome that is no such
-- stop, and a run is over at the end of its program, or once it has executed as many statements as it may.
use Rattle.std.proofs.Common.{◌≡◌, ◌⊎◌, inl, inr, ℕ, zero, suc, ◌+◌, ◌-◌, ◌≤◌, ◌<◌, List, [], ◌∷◌, ◌++◌, length, refl, arith}
use Rattle.std.specs.Prelude.{Option, Some, None, Result, Ok, Err, slice_get}
use Rattle.std.proofs.lemmas.Bool.{cases_lt}
use Rattle.card_definitions.specs.declared.CardFault.{CardFault}
use Rattle.card_definitions.specs.Cards.{cards_of, job_fault}
use Rattle.control_definitions.specs.declared.ControlFault.{ControlFault}
use Rattle.control_definitions.specs.Program.{Statement, Program}
use Rattle.control_definitions.specs.Compiled.{compiled}
use Rattle.listing_definitions.specs.declared.Solver.TheVariants.{Primal, Dual, Paraobj, Pararhs}
use Rattle.listing_definitions.specs.Report.{Report}
use Rattle.listing_definitions.specs.Ending.{Ending, ControlStop, CardStop}
use Rattle.question_definitions.specs.Answers.{Question, OfPath, OfSolution, OfRanges, OfParametricRun, OfPunch, OfInstall}
use Rattle.question_definitions.specs.Solving.{Solving}
use Rattle.run_definitions.specs.State.{State, start}
use Rattle.run_definitions.specs.Moves.{printed_by, punched_by, StatementOutcome, Goes, Ends, StatementMove, Does, MayStop, Asks, Gives}
use Rattle.run_definitions.specs.Verbs.{verb_move}
use Rattle.run_definitions.specs.Run.{max_executed, counted, IsOver, at_end, at_limit, Reaches, begun, stepped, IsRun, is_over, is_ended}
use Rattle.run_definitions.specs.Answer.{IsProgramOf, job_decks, IsJobRun, card_fault, control_fault, run}
use Rattle.soundness_laws.specs.Laws.{KnowsSolving}
use Rattle.soundness_laws.proofs.Moves.{Knows}
use Rattle.soundness_laws.proofs.Runs.{has_problem, known}
use Rattle.determinism_laws.specs.Laws.{IsOverflow, AnswersOnce}
use Rattle.determinism_laws.proofs.Runs.{is_function}
use Rattle.one_run_laws.specs.Answers.{IsOfVerb, HasAnswer, AnswersAlways}
use Rattle.one_run_laws.specs.Laws.{OwnRun, HasOwnRun}
use Rattle.one_run_laws.proofs.Asking.{Steady, AsksWell, verb_asks}

-- what is asked has an answer
answered : (S : Solving) → AnswersAlways S → (question : Question) → IsOfVerb question → HasAnswer S question
answered S always (OfPath Primal limit) verb = always.paths limit
answered S always (OfPath Dual limit) verb = always.dual_paths limit
answered S always (OfPath Paraobj limit) verb = absurd verb
answered S always (OfPath Pararhs limit) verb = absurd verb
answered S always (OfSolution mark) verb = always.solutions mark
answered S always OfRanges verb = always.ranges
answered S always (OfParametricRun parametric_run) verb = always.parametric_runs parametric_run
answered S always OfPunch verb = always.punches
answered S always (OfInstall t) verb = always.installs t

-- so a move has an outcome that isn't a stop for an overflow, and that leaves the number of executed statements as it was
record HasOutcome (S : Solving) (n card : ℕ) (move : StatementMove) : Type 0 where
  outcome : StatementOutcome
  gives : Gives S card move outcome
  steady : Steady n outcome

outcome_of : (S : Solving) → AnswersAlways S → (n card : ℕ) (move : StatementMove) → AsksWell n move → HasOutcome S n card move
outcome_of S always n card (Does outcome) well = record { outcome = outcome; gives = refl; steady = well }
outcome_of S always n card (MayStop refusals move) well =
    let has = outcome_of S always n card move well in record { outcome = has.outcome; gives = inl has.gives; steady = has.steady }
outcome_of S always n card (Asks question sheet s go) well =
    let answer = answered S always question well.0 sheet s well.1 in
    record { outcome = go answer.0; gives = (answer.0, answer.1, refl); steady = well.2 answer.0 }

got : {X : Type 0} (xs : List X) (i : ℕ) → i < length xs → (x : X) × (slice_get xs i ≡ Some x)
got [] i below = absurd (omega arith)
got (x ∷ xs) zero below = (x, refl)
got (x ∷ xs) (suc i) below = got xs i (omega arith)

counted_known : (state : State) → Knows state → Knows (counted state)
counted_known state knows = record { marked = knows.marked; bases = knows.bases }

module _ (S : Solving) (solving : KnowsSolving S) (always : AnswersAlways S) (bytes : List ℕ) (program : Program) (is_program : IsProgramOf bytes program) where
  record RunsOn : Type 0 where
    reports : List Report
    cards : List (List ℕ)
    ending : Ending
    runs : IsRun S program (job_decks program bytes) reports cards ending
    fits : IsOverflow ending → ⊥

  over : (reports : List Report) (cards : List (List ℕ)) (state : State) (ending : Ending) → Reaches S program (job_decks program bytes) reports cards state →
      IsOver S program state ending → RunsOn
  over reports cards state ending reaches is =
      record { reports = reports; cards = cards; ending = ending; runs = is_over reaches is; fits = no_overflow state ending is }
    where
      no_overflow : (state : State) (ending : Ending) → IsOver S program state ending → IsOverflow ending → ⊥
      no_overflow state _ (at_end past) stop = let e = stop.1 in cc e
      no_overflow state _ (at_limit within most) stop = let e = stop.1 in cc e

  module _ (some : 0 < length program.statements) where
    on : (left : ℕ) (reports : List Report) (cards : List (List ℕ)) (state : State) → Reaches S program (job_decks program bytes) reports cards state →
        max_executed ≤ state.executed + left → RunsOn
    on zero reports cards state reaches most = by (cases_lt (length program.statements) state.position)
      where
        by : ((length program.statements < state.position) ⊎ (state.position ≤ length program.statements)) → RunsOn
        by (inr within) = over reports cards state _ reaches (at_limit within (omega arith))
        by (inl past) = over reports cards state _ reaches (at_end past)
    on (suc left) reports cards state reaches most =
        by (cases_lt (length program.statements) state.position) (cases_lt state.executed max_executed) (λ reports cards state. on left reports cards state)
      where
        by_outcome : (statement : Statement ℕ) → slice_get program.statements (state.position - 1) ≡ Some statement → state.executed < max_executed →
            (outcome : StatementOutcome) →
            Gives S statement.card (verb_move statement.verb statement.card (counted state)) outcome → Steady (state.executed + 1) outcome →
            ((reports : List Report) (cards : List (List ℕ)) (state : State) → Reaches S program (job_decks program bytes) reports cards state →
            max_executed ≤ state.executed + left → RunsOn) → RunsOn
        by_outcome statement is below (Goes gain after) gives steady next =
            next (reports ++ printed_by gain) (cards ++ punched_by gain) after
            (stepped gain after reaches (record { statement = statement; is_at_position = is; is_within_limit = below; gives = gives }))
            (omega (arith, steady, most))
        by_outcome statement is below (Ends gain ending) gives steady next = record {
          reports = reports ++ printed_by gain;
          cards = cards ++ punched_by gain;
          ending = ending;
          runs = is_ended gain reaches (record { statement = statement; is_at_position = is; is_within_limit = below; gives = gives });
          fits = steady;
        }

        by : ((length program.statements < state.position) ⊎ (state.position ≤ length program.statements)) →
            ((state.executed < max_executed) ⊎ (max_executed ≤ state.executed)) →
            ((reports : List Report) (cards : List (List ℕ)) (state : State) → Reaches S program (job_decks program bytes) reports cards state →
            max_executed ≤ state.executed + left → RunsOn) → RunsOn
        by (inl past) count next = over reports cards state _ reaches (at_end past)
        by (inr within) (inr all) next = over reports cards state _ reaches (at_limit within all)
        by (inr within) (inl below) next =
            let at = got program.statements (state.position - 1) (omega (arith, some, within)) in
            let has = outcome_of S always (state.executed + 1) at.0.card (verb_move at.0.verb at.0.card (counted state))
            (verb_asks at.0.verb at.0.card (counted state) (has_problem S solving bytes program is_program reports cards state reaches)
            (counted_known state (known S solving bytes program is_program reports cards state reaches))).well in
            by_outcome at.0 at.1 below has.outcome has.gives has.steady next

  runs_on : RunsOn
  runs_on = by (length program.statements) refl
    where
      by : (n : ℕ) → length program.statements ≡ n → RunsOn
      by zero none = over [] [] (start (job_decks program bytes)) _ begun (at_end (rw none (omega arith)))
      by (suc n) some = on (rw some (omega arith)) max_executed [] [] (start (job_decks program bytes)) begun (omega arith)

module _ (S : Solving) (solving : KnowsSolving S) (once : AnswersOnce S) (always : AnswersAlways S) (bytes : List ℕ) where
  own : (reports : List Report) (cards : List (List ℕ)) (ending : Ending) → IsJobRun S bytes reports cards ending → (IsOverflow ending → ⊥) → OwnRun S bytes
  own reports cards ending runs fits = record {
    reports = reports;
    cards = cards;
    ending = ending;
    is_own = record {
      runs = runs;
      fits = fits;
      only = λ others other_cards other also apart. (is_function S solving once).job bytes reports others cards other_cards ending other runs also fits apart;
    };
  }

  by_program : (r : Result Program ControlFault) → compiled (cards_of bytes) ≡ r → job_fault bytes ≡ None → OwnRun S bytes
  by_program (Err fault) is fine = own [] [] (ControlStop fault) (control_fault fault fine is) (λ stop. let e = stop.1 in cc e)
  by_program (Ok program) is fine =
      let is_program : IsProgramOf bytes program = record { is_read = fine; is_compiled = is } in
      let on = runs_on S solving always bytes program is_program in
      own on.reports on.cards on.ending (run program is_program on.runs) on.fits

  by_fault : (o : Option CardFault) → job_fault bytes ≡ o → OwnRun S bytes
  by_fault (Some fault) is = own [] [] (CardStop fault) (card_fault fault is) (λ stop. let e = stop.1 in cc e)
  by_fault None is = by_program (compiled (cards_of bytes)) refl is

pub has_own_run : (S : Solving) → KnowsSolving S → AnswersOnce S → AnswersAlways S → HasOwnRun S
has_own_run S solving once always bytes = by_fault S solving once always bytes (job_fault bytes) refl
