-- Two runs of one job that don't stop with an overflow are the same.
use Rattle.std.proofs.Common.{◌≡◌, ◌⊎◌, inl, inr, ℕ, ◌-◌, ◌≤◌, ◌<◌, List, [], ◌++◌, refl, sym, ap, ap₂, subst, ◌∙◌, arith, Option, None}
use Rattle.std.proofs.Math.Nat.{eq-or-lt_of_le, le_of_lt}
use Rattle.std.proofs.lemmas.Bool.{cases_lt}
use Rattle.std.proofs.lemmas.List.{append-nil, append_assoc}
use Rattle.std.proofs.lemmas.Option.{slice_get_within}
use Rattle.control_definitions.specs.Program.{Program}
use Rattle.listing_definitions.specs.declared.Solver.{Solver}
use Rattle.listing_definitions.specs.declared.Solver.TheVariants.{Primal, Dual, Paraobj, Pararhs}
use Rattle.listing_definitions.specs.Report.{Report}
use Rattle.listing_definitions.specs.Ending.{Ending, Ended, WordsRefused, ControlStop, VerbStop, SingularStop, PriceStop, DeckStop, CardStop, LimitStop}
use Rattle.listing_definitions.specs.Ending.{StatementLimit, OverflowStop, ReadFault, PrintFault, PunchFault, Memory}
use Rattle.question_definitions.specs.Answers.{Basis, Sheet, Question, OfPath, OfSolution, OfRanges, PathEnd}
use Rattle.question_definitions.specs.Solving.{Solving}
use Rattle.answer_definitions.specs.Verdicts.{IsSolvedBy}
use Rattle.answer_definitions.specs.Real.{linear_programming}
use Rattle.run_definitions.specs.State.{State}
use Rattle.run_definitions.specs.Moves.{Gain, Nothing, printed_by, punched_by, StatementOutcome, Goes, Ends, Gives}
use Rattle.run_definitions.specs.Verbs.{verb_move}
use Rattle.run_definitions.specs.Run.{counted, Step, IsOver, at_end, at_limit, IsRun, is_over, is_ended}
use Rattle.run_definitions.specs.Answer.{IsProgramOf, job_decks, IsJobRun, card_fault, control_fault, run}
use Rattle.soundness_laws.specs.Laws.{KnowsSolving}
use Rattle.lp_definitions.specs.LinearProgram.{LinearProgram, IsLinearProgram}
use Rattle.selection_laws.proofs.Selected.{is_chosen, selected_is_lawful}
use Rattle.determinism_laws.specs.Laws.{IsAsked, MeetsNoEvidence, AnswersOnce, IsOverflow, IsOverflowStop, IsSameOrStop, AreSame, Continues, IsFunction}
use Rattle.determinism_laws.proofs.Stops.{statement_evidence}
use Rattle.determinism_laws.proofs.OneRange.{ranged_once}
use Rattle.determinism_laws.proofs.RanThrough.{run_through_once}
use Rattle.determinism_laws.proofs.OneAnswer.{path_once, dual_path_once, installed_once, reported_once}
use Rattle.determinism_laws.proofs.Steps.{RunReaches, two_outcomes, steps, GoesOn, same_so_far, goes_on, continues}

-- two outcomes that end a run are the same
record SameEnding (gain other : Gain) (ending another : Ending) : Type 0 where
  gains : gain ≡ other
  endings : ending ≡ another

overflows : (gain : Gain) (ending : Ending) → IsOverflowStop (Ends gain ending) → IsOverflow ending
overflows gain ending stop = let e = stop.1 in (stop.0, cc)

ending_same : (gain other : Gain) (ending another : Ending) → (IsOverflow ending → ⊥) → (IsOverflow another → ⊥) →
    IsSameOrStop (Ends gain ending) (Ends other another) → SameEnding gain other ending another
ending_same gain other ending another none nor (inl e) = record { gains = cc; endings = cc }
ending_same gain other ending another none nor (inr (inl stop)) = absurd (none (overflows gain ending stop))
ending_same gain other ending another none nor (inr (inr stop)) = absurd (nor (overflows other another stop))

goes_or_ends : (gain other : Gain) (after : State) (ending : Ending) → (IsOverflow ending → ⊥) → IsSameOrStop (Goes gain after) (Ends other ending) → ⊥
goes_or_ends gain other after ending none (inl e) = cc e
goes_or_ends gain other after ending none (inr (inl stop)) = let e = stop.1 in cc e
goes_or_ends gain other after ending none (inr (inr stop)) = none (overflows other ending stop)

stopped_going : (gain other : Gain) (after : State) (ending : Ending) → IsSameOrStop (Goes gain after) (Ends other ending) → other ≡ Nothing
stopped_going gain other after ending (inl e) = absurd (cc e)
stopped_going gain other after ending (inr (inl stop)) = let e = stop.1 in absurd (cc e)
stopped_going gain other after ending (inr (inr stop)) = let e = stop.1 in cc

stopped_ending : (gain other : Gain) (ending another : Ending) → (IsOverflow another → ⊥) → IsOverflow ending →
    IsSameOrStop (Ends gain ending) (Ends other another) → gain ≡ Nothing
stopped_ending gain other ending another nor stop (inl e) = let same : another ≡ ending = cc in absurd (nor (subst IsOverflow (sym same) stop))
stopped_ending gain other ending another nor stop (inr (inl silent)) = let e = silent.1 in cc
stopped_ending gain other ending another nor stop (inr (inr other_stop)) = absurd (nor (overflows other another other_stop))

-- an ending is a stop for an overflow, or isn't
pub overflow_or_not : (ending : Ending) → IsOverflow ending ⊎ (IsOverflow ending → ⊥)
overflow_or_not (OverflowStop overflow) = inl (overflow, refl)
overflow_or_not (Ended code) = inr (λ h. let e = h.1 in cc e)
overflow_or_not WordsRefused = inr (λ h. let e = h.1 in cc e)
overflow_or_not (ControlStop fault) = inr (λ h. let e = h.1 in cc e)
overflow_or_not (VerbStop fault) = inr (λ h. let e = h.1 in cc e)
overflow_or_not (SingularStop basis) = inr (λ h. let e = h.1 in cc e)
overflow_or_not (PriceStop price) = inr (λ h. let e = h.1 in cc e)
overflow_or_not (DeckStop fault) = inr (λ h. let e = h.1 in cc e)
overflow_or_not (CardStop fault) = inr (λ h. let e = h.1 in cc e)
overflow_or_not (LimitStop reached) = inr (λ h. let e = h.1 in cc e)
overflow_or_not StatementLimit = inr (λ h. let e = h.1 in cc e)
overflow_or_not ReadFault = inr (λ h. let e = h.1 in cc e)
overflow_or_not PrintFault = inr (λ h. let e = h.1 in cc e)
overflow_or_not PunchFault = inr (λ h. let e = h.1 in cc e)
overflow_or_not Memory = inr (λ h. let e = h.1 in cc e)

module _ (S : Solving) (program : Program) where
  -- a run that is over executes no statement
  over_or_step : (state : State) (ending : Ending) (outcome : StatementOutcome) → IsOver S program state ending → Step S program state outcome → ⊥
  over_or_step state _ outcome (at_end past) step =
      let within = slice_get_within program.statements (state.position - 1) step.statement step.is_at_position in omega (arith, past, within)
  over_or_step state _ outcome (at_limit within limit) step = let below = step.is_within_limit in omega (arith, limit, below)

  one_over : (state : State) (ending other : Ending) → IsOver S program state ending → IsOver S program state other → ending ≡ other
  one_over state _ _ (at_end past) (at_end again) = refl
  one_over state _ _ (at_end past) (at_limit within limit) = absurd (omega (arith, past, within))
  one_over state _ _ (at_limit within limit) (at_end past) = absurd (omega (arith, past, within))
  one_over state _ _ (at_limit within limit) (at_limit again other) = refl

  -- a run is over, or its last statement ends it
  data Last (state : State) : Gain → Ending → Type 0 where
    over : {ending : Ending} → IsOver S program state ending → Last state Nothing ending
    ended : {gain : Gain} {ending : Ending} → Step S program state (Ends gain ending) → Last state gain ending

module _ (S : Solving) (solving : KnowsSolving S) (answers : AnswersOnce S) (bytes : List ℕ) (program : Program) (is_program : IsProgramOf bytes program) where
  abbrev RunHasReached : List Report → List (List ℕ) → State → Type 0
  RunHasReached = RunReaches S solving answers bytes program is_program

  one_last : (reports : List Report) (cards : List (List ℕ)) (state : State) (gain other : Gain) (ending another : Ending) → RunHasReached reports cards state →
      (IsOverflow ending → ⊥) → (IsOverflow another → ⊥) →
      Last S program state gain ending → Last S program state other another → SameEnding gain other ending another
  one_last reports cards state _ _ ending another came none nor (over first) (over second) =
      record { gains = refl; endings = one_over S program state ending another first second }
  one_last reports cards state _ other ending another came none nor (over first) (ended second) =
      absurd (over_or_step S program state ending (Ends other another) first second)
  one_last reports cards state gain _ ending another came none nor (ended first) (over second) =
      absurd (over_or_step S program state another (Ends gain ending) second first)
  one_last reports cards state gain other ending another came none nor (ended first) (ended second) =
      ending_same gain other ending another none nor
      (two_outcomes S solving answers bytes program is_program reports cards state (Ends gain ending) (Ends other another) came first second)

  last_or_more : (reports : List Report) (cards : List (List ℕ)) (state : State) (gain : Gain) (ending : Ending) → RunHasReached reports cards state →
      (IsOverflow ending → ⊥) → Last S program state gain ending →
      GoesOn S solving answers bytes program is_program state → ⊥
  last_or_more reports cards state _ ending came none (over first) more = over_or_step S program state ending (Goes more.gain more.after) first more.step
  last_or_more reports cards state gain ending came none (ended first) more =
      goes_or_ends more.gain gain more.after ending none
      (two_outcomes S solving answers bytes program is_program reports cards state (Goes more.gain more.after) (Ends gain ending) came more.step first)

  -- a whole run, up to its last statement
  record Whole (reports : List Report) (cards : List (List ℕ)) (ending : Ending) : Type 0 where
    before : List Report
    before_cards : List (List ℕ)
    state : State
    came : RunHasReached before before_cards state
    gain : Gain
    last : Last S program state gain ending
    are_reports : reports ≡ before ++ printed_by gain
    are_cards : cards ≡ before_cards ++ punched_by gain

  whole_of : (reports : List Report) (cards : List (List ℕ)) (ending : Ending) → IsRun S program (job_decks program bytes) reports cards ending →
      Whole reports cards ending
  whole_of reports cards ending (is_over {reports = _} {cards = _} {state} came is) = record {
    before = reports;
    before_cards = cards;
    state = state;
    came = came;
    gain = Nothing;
    last = over is;
    are_reports = sym (append-nil reports);
    are_cards = sym (append-nil cards);
  }
  whole_of _ _ ending (is_ended {reports} {cards} {state} gain came step) = record {
    before = reports;
    before_cards = cards;
    state = state;
    came = came;
    gain = gain;
    last = ended step;
    are_reports = refl;
    are_cards = refl;
  }

  two_runs : (reports others : List Report) (cards other_cards : List (List ℕ)) (ending other : Ending) → Whole reports cards ending →
      Whole others other_cards other → (IsOverflow ending → ⊥) → (IsOverflow other → ⊥) →
      AreSame reports others cards other_cards ending other
  two_runs reports others cards other_cards ending other first second none nor = by (cases_lt m n)
    where
      m : ℕ
      m = steps S solving answers bytes program is_program first.came

      n : ℕ
      n = steps S solving answers bytes program is_program second.came

      as_many : m ≡ n → AreSame reports others cards other_cards ending other
      as_many e =
          let same =
          same_so_far S solving answers bytes program is_program first.before second.before first.before_cards second.before_cards first.state second.state
          first.came second.came e in
          let moved : Last S program first.state second.gain other = subst (λ x. Last S program x second.gain other) (sym same.states_same) second.last in
          let ends = one_last first.before first.before_cards first.state first.gain second.gain ending other first.came none nor first.last moved in
          record {
            same_reports = first.are_reports ∙ ap₂ (λ xs g. xs ++ printed_by g) same.reports_same ends.gains ∙ sym second.are_reports;
            same_cards = first.are_cards ∙ ap₂ (λ xs g. xs ++ punched_by g) same.cards_same ends.gains ∙ sym second.are_cards;
            same_ending = ends.endings;
          }

      not_fewer : (n ≡ m) ⊎ (n < m) → AreSame reports others cards other_cards ending other
      not_fewer (inl e) = as_many (sym e)
      not_fewer (inr fewer) = absurd (last_or_more second.before second.before_cards second.state second.gain other second.came nor second.last
          (goes_on S solving answers bytes program is_program second.before first.before second.before_cards first.before_cards second.state first.state
          second.came first.came fewer))

      by : (m < n) ⊎ (n ≤ m) → AreSame reports others cards other_cards ending other
      by (inl fewer) = absurd (last_or_more first.before first.before_cards first.state first.gain ending first.came none first.last
          (goes_on S solving answers bytes program is_program first.before second.before first.before_cards second.before_cards first.state second.state
          first.came second.came fewer))
      by (inr more) = not_fewer (eq-or-lt_of_le {n = n} {m = m} more)

  -- a statement that stops with an overflow, where it may go on or end otherwise, reports nothing
  stops_where_it_goes : (reports : List Report) (cards : List (List ℕ)) (state : State) (gain : Gain) (ending : Ending) → RunHasReached reports cards state →
      IsOverflow ending → Last S program state gain ending →
      GoesOn S solving answers bytes program is_program state → gain ≡ Nothing
  stops_where_it_goes reports cards state _ ending came stop (over first) more = refl
  stops_where_it_goes reports cards state gain ending came stop (ended first) more =
      stopped_going more.gain gain more.after ending
      (two_outcomes S solving answers bytes program is_program reports cards state (Goes more.gain more.after) (Ends gain ending) came more.step first)

  stops_where_it_ends : (reports : List Report) (cards : List (List ℕ)) (state : State) (gain other : Gain) (ending another : Ending) →
      RunHasReached reports cards state → (IsOverflow another → ⊥) → IsOverflow ending →
      Last S program state gain ending → Last S program state other another → gain ≡ Nothing
  stops_where_it_ends reports cards state _ other ending another came nor stop (over first) second = refl
  stops_where_it_ends reports cards state gain _ ending another came nor stop (ended first) (over second) =
      absurd (over_or_step S program state another (Ends gain ending) second first)
  stops_where_it_ends reports cards state gain other ending another came nor stop (ended first) (ended second) =
      stopped_ending gain other ending another nor stop
      (two_outcomes S solving answers bytes program is_program reports cards state (Ends gain ending) (Ends other another) came first second)

  -- a run without an overflow continues every other
  stopped_early : (reports others : List Report) (cards other_cards : List (List ℕ)) (ending other : Ending) (first : Whole reports cards ending)
      (second : Whole others other_cards other) → first.gain ≡ Nothing →
      Continues first.before second.before first.before_cards second.before_cards → Continues reports others cards other_cards
  stopped_early reports others cards other_cards ending other first second nothing rest =
      let are : reports ≡ first.before = first.are_reports ∙ ap (λ g. first.before ++ printed_by g) nothing ∙ append-nil first.before in
      let cards_are : cards ≡ first.before_cards = first.are_cards ∙ ap (λ g. first.before_cards ++ punched_by g) nothing ∙ append-nil first.before_cards in
      record {
        more_reports = rest.more_reports ++ printed_by second.gain;
        more_cards = rest.more_cards ++ punched_by second.gain;
        are_reports =
            second.are_reports ∙ ap (λ xs. xs ++ printed_by second.gain) rest.are_reports ∙ append_assoc first.before rest.more_reports (printed_by second.gain)
            ∙ ap (λ xs. xs ++ (rest.more_reports ++ printed_by second.gain)) (sym are);
        are_cards =
            second.are_cards ∙ ap (λ xs. xs ++ punched_by second.gain) rest.are_cards ∙ append_assoc first.before_cards rest.more_cards (punched_by second.gain)
            ∙ ap (λ xs. xs ++ (rest.more_cards ++ punched_by second.gain)) (sym cards_are);
      }

  broken_off : (reports others : List Report) (cards other_cards : List (List ℕ)) (ending other : Ending) → Whole reports cards ending →
      Whole others other_cards other → (IsOverflow other → ⊥) →
      IsOverflow ending ⊎ (IsOverflow ending → ⊥) → Continues reports others cards other_cards
  broken_off reports others cards other_cards ending other first second nor (inr none) =
      let same = two_runs reports others cards other_cards ending other first second none nor in
      record {
        more_reports = [];
        more_cards = [];
        are_reports = sym same.same_reports ∙ sym (append-nil reports);
        are_cards = sym same.same_cards ∙ sym (append-nil cards);
      }
  broken_off reports others cards other_cards ending other first second nor (inl stop) = by (cases_lt n m)
    where
      m : ℕ
      m = steps S solving answers bytes program is_program first.came

      n : ℕ
      n = steps S solving answers bytes program is_program second.came

      silent : (m ≡ n) ⊎ (m < n) → first.gain ≡ Nothing
      silent (inl e) =
          let same =
          same_so_far S solving answers bytes program is_program first.before second.before first.before_cards second.before_cards first.state second.state
          first.came second.came e in
          let moved : Last S program first.state second.gain other = subst (λ x. Last S program x second.gain other) (sym same.states_same) second.last in
          stops_where_it_ends first.before first.before_cards first.state first.gain second.gain ending other first.came nor stop first.last moved
      silent (inr fewer) =
          stops_where_it_goes first.before first.before_cards first.state first.gain ending first.came stop first.last
          (goes_on S solving answers bytes program is_program first.before second.before first.before_cards second.before_cards first.state second.state
          first.came second.came fewer)

      by : (n < m) ⊎ (m ≤ n) → Continues reports others cards other_cards
      by (inl more) = absurd (last_or_more second.before second.before_cards second.state second.gain other second.came nor second.last
          (goes_on S solving answers bytes program is_program second.before first.before second.before_cards first.before_cards second.state first.state
          second.came first.came more))
      by (inr fewer) = stopped_early reports others cards other_cards ending other first second (silent (eq-or-lt_of_le {n = m} {m = n} fewer))
          (continues S solving answers bytes program is_program first.before second.before first.before_cards second.before_cards first.state second.state
          first.came second.came fewer)

  two_so_far : (reports others : List Report) (cards other_cards : List (List ℕ)) (state other : State) → RunHasReached reports cards state →
      RunHasReached others other_cards other →
      Continues reports others cards other_cards ⊎ Continues others reports other_cards cards
  two_so_far reports others cards other_cards state other first second = by (cases_lt m n)
    where
      m : ℕ
      m = steps S solving answers bytes program is_program first

      n : ℕ
      n = steps S solving answers bytes program is_program second

      by : (m < n) ⊎ (n ≤ m) → Continues reports others cards other_cards ⊎ Continues others reports other_cards cards
      by (inl fewer) = inl (continues S solving answers bytes program is_program reports others cards other_cards state other first second (le_of_lt fewer))
      by (inr more) = inr (continues S solving answers bytes program is_program others reports other_cards cards other state second first more)

module _ (S : Solving) (solving : KnowsSolving S) (answers : AnswersOnce S) (bytes : List ℕ) where
  one_program : (program other : Program) → IsProgramOf bytes program → IsProgramOf bytes other → other ≡ program
  one_program program other first second = let e = sym second.is_compiled ∙ first.is_compiled in cc

  two_job_runs : (reports others : List Report) (cards other_cards : List (List ℕ)) (ending other : Ending) → IsJobRun S bytes reports cards ending →
      IsJobRun S bytes others other_cards other →
      (IsOverflow ending → ⊥) → (IsOverflow other → ⊥) → AreSame reports others cards other_cards ending other
  two_job_runs _ _ _ _ _ _ (card_fault fault is) (card_fault other also) none nor =
      let e = sym is ∙ also in record { same_reports = refl; same_cards = refl; same_ending = cc }
  two_job_runs _ _ _ _ _ _ (card_fault fault is) (control_fault other fine also) none nor = let e = sym is ∙ fine in absurd (cc e)
  two_job_runs _ _ _ _ _ _ (card_fault fault is) (run program fine runs) none nor = let e = sym is ∙ fine.is_read in absurd (cc e)
  two_job_runs _ _ _ _ _ _ (control_fault fault fine is) (card_fault other also) none nor = let e = sym also ∙ fine in absurd (cc e)
  two_job_runs _ _ _ _ _ _ (control_fault fault fine is) (control_fault other again also) none nor =
      let e = sym is ∙ also in record { same_reports = refl; same_cards = refl; same_ending = cc }
  two_job_runs _ _ _ _ _ _ (control_fault fault fine is) (run program again runs) none nor = let e = sym is ∙ again.is_compiled in absurd (cc e)
  two_job_runs _ _ _ _ _ _ (run program fine runs) (card_fault other also) none nor = let e = sym also ∙ fine.is_read in absurd (cc e)
  two_job_runs _ _ _ _ _ _ (run program fine runs) (control_fault other again also) none nor = let e = sym also ∙ fine.is_compiled in absurd (cc e)
  two_job_runs reports others cards other_cards ending other (run program fine runs) (run another again second) none nor =
      let moved = subst (λ x. IsRun S x (job_decks x bytes) others other_cards other) (one_program program another fine again) second in
      two_runs S solving answers bytes program fine reports others cards other_cards ending other
      (whole_of S solving answers bytes program fine reports cards ending runs)
      (whole_of S solving answers bytes program fine others other_cards other moved) none nor

  alone : {reports : List Report} {cards : List (List ℕ)} → Continues reports reports cards cards
  alone = record { more_reports = []; more_cards = []; are_reports = sym (append-nil _); are_cards = sym (append-nil _) }

  job_breaks_off : (reports others : List Report) (cards other_cards : List (List ℕ)) (ending other : Ending) → IsJobRun S bytes reports cards ending →
      IsJobRun S bytes others other_cards other →
      (IsOverflow other → ⊥) → Continues reports others cards other_cards
  job_breaks_off _ _ _ _ _ _ (card_fault fault is) (card_fault other also) nor = alone
  job_breaks_off _ _ _ _ _ _ (card_fault fault is) (control_fault other fine also) nor = alone
  job_breaks_off _ _ _ _ _ _ (card_fault fault is) (run program fine runs) nor = let e = sym is ∙ fine.is_read in absurd (cc e)
  job_breaks_off _ _ _ _ _ _ (control_fault fault fine is) (card_fault other also) nor = alone
  job_breaks_off _ _ _ _ _ _ (control_fault fault fine is) (control_fault other again also) nor = alone
  job_breaks_off _ _ _ _ _ _ (control_fault fault fine is) (run program again runs) nor = let e = sym is ∙ again.is_compiled in absurd (cc e)
  job_breaks_off _ _ _ _ _ _ (run program fine runs) (card_fault other also) nor = let e = sym also ∙ fine.is_read in absurd (cc e)
  job_breaks_off _ _ _ _ _ _ (run program fine runs) (control_fault other again also) nor = let e = sym also ∙ fine.is_compiled in absurd (cc e)
  job_breaks_off reports others cards other_cards ending other (run program fine runs) (run another again second) nor =
      let moved = subst (λ x. IsRun S x (job_decks x bytes) others other_cards other) (one_program program another fine again) second in
      broken_off S solving answers bytes program fine reports others cards other_cards ending other
      (whole_of S solving answers bytes program fine reports cards ending runs)
      (whole_of S solving answers bytes program fine others other_cards other moved) nor (overflow_or_not ending)

  -- where no evidence holds no run stops with an overflow
  stopped_run : (program : Program) (reports : List Report) (cards : List (List ℕ)) (ending : Ending) → MeetsNoEvidence S bytes → IsProgramOf bytes program →
      IsRun S program (job_decks program bytes) reports cards ending →
      IsOverflow ending → ⊥
  stopped_run program _ _ _ none is (is_over came (at_end past)) stop = let e = stop.1 in cc e
  stopped_run program _ _ _ none is (is_over came (at_limit within limit)) stop = let e = stop.1 in cc e
  stopped_run program _ _ ending none is (is_ended {reports} {cards} {state} gain came step) stop =
      none program reports cards state step.statement (record { is_program = is; reaches = came }) step.is_at_position step.is_within_limit
      (statement_evidence S step.statement.card gain stop.0 step.statement.verb (counted state)
      (subst (λ x. Gives S step.statement.card (verb_move step.statement.verb step.statement.card (counted state)) (Ends gain x)) stop.1 step.gives))

  unstopped : (reports : List Report) (cards : List (List ℕ)) (ending : Ending) → MeetsNoEvidence S bytes → IsJobRun S bytes reports cards ending →
      IsOverflow ending → ⊥
  unstopped _ _ _ none (card_fault fault is) stop = let e = stop.1 in cc e
  unstopped _ _ _ none (control_fault fault fine is) stop = let e = stop.1 in cc e
  unstopped reports cards ending none (run program is runs) stop = stopped_run program reports cards ending none is runs stop

-- a run is a function, where each question has one answer
pub is_function : (S : Solving) → KnowsSolving S → AnswersOnce S → IsFunction S
is_function S solving answers = record {
  step =
      λ bytes program reports cards state a b so_far first second. two_outcomes S solving answers bytes program so_far.is_program reports cards state a b
      so_far.reaches first second;
  so_far = λ bytes program reports others cards other_cards state other first second.
      two_so_far S solving answers bytes program first.is_program reports others cards other_cards state other first.reaches second.reaches;
  job = λ bytes. two_job_runs S solving answers bytes;
  breaks_off = λ bytes. job_breaks_off S solving answers bytes;
  unstopped = λ bytes. unstopped S solving answers bytes;
  one_run =
      λ bytes reports others cards other_cards ending other none first second. two_job_runs S solving answers bytes reports others cards other_cards ending
      other first second
      (unstopped S solving answers bytes reports cards ending none first) (unstopped S solving answers bytes others other_cards other none second);
}

-- what is selected of a lawful problem is lawful
lawful_of : (question : Question) (sheet : Sheet) (s : Basis) → IsAsked question sheet s → IsLinearProgram sheet.lp
lawful_of question sheet s asked = selected_is_lawful sheet.problem asked.choice sheet.lp asked.is_problem asked.is_selected

no_change : (question : Question) (sheet : Sheet) (s : Basis) → IsAsked question sheet s → sheet.lp.change ≡ None
no_change question sheet s asked = subst (λ (p : LinearProgram). p.change ≡ None) (is_chosen sheet.problem asked.choice sheet.lp asked.is_selected).1 refl

-- PRIMAL and DUAL alone ask for a path
path_once_by : (solver : Solver) (limit : Option ℕ) (sheet : Sheet) (s : Basis) (a b : PathEnd) → IsAsked (OfPath solver limit) sheet s →
    IsSolvedBy solver sheet s limit a → IsSolvedBy solver sheet s limit b → a ≡ b
path_once_by Primal limit sheet s a b asked first second =
    path_once sheet s (lawful_of (OfPath Primal limit) sheet s asked) asked.is_basis limit a b first second
path_once_by Dual limit sheet s a b asked first second =
    dual_path_once sheet s (lawful_of (OfPath Dual limit) sheet s asked) asked.is_basis limit a b first second
path_once_by Paraobj limit sheet s a b asked first second = absurd first
path_once_by Pararhs limit sheet s a b asked first second = absurd first

-- what is asked has one answer
pub answers_once : AnswersOnce linear_programming
unfolding linear_programming
answers_once = record {
  paths = path_once_by;
  solutions = λ mark sheet s a b asked first second. reported_once sheet s a b (lawful_of (OfSolution mark) sheet s asked) asked.is_basis first second;
  ranges =
      λ sheet s a b asked first second. ranged_once sheet s a b (lawful_of OfRanges sheet s asked) (no_change OfRanges sheet s asked) asked.suits first second;
  parametric_runs = run_through_once;
  punches = λ sheet s a b asked first second. first ∙ sym second;
  installs = λ t sheet s a b asked first second. installed_once sheet t a b first second;
}
