-- The listing of a job's run is never found wrong.
use Rattle.std.proofs.Common.{◌≡◌, ◌⊎◌, inl, inr, ℕ, ◌-◌, ◌<◌, Bool, true, false, List, [], ◌∷◌, ◌++◌, length, Some, None, Result, Ok, Err, refl, sym, ap}
use Rattle.std.proofs.Common.{subst, ◌∙◌, arith, append_assoc, append-nil, lt-ltb, le-ltb, ◌≤◌}
use Rattle.std.specs.Prelude.{slice_get, nat_lt}
use Rattle.std.proofs.lemmas.Grind.{flat_map-append}
use Rattle.std.proofs.lemmas.Option.{slice_get_within, same_Some}
use Rattle.card_definitions.specs.declared.CardFault.{CardFault}
use Rattle.card_definitions.specs.declared.CardFault.TheVariants.{TooLong, NotPrintable, CardTooLong}
use Rattle.card_definitions.specs.Cards.{Card}
use Rattle.control_definitions.specs.declared.ControlFault.{ControlFault}
use Rattle.control_definitions.specs.Program.{Statement, Program}
use Rattle.listing_definitions.specs.declared.Solver.TheVariants.{Primal, Dual, Paraobj, Pararhs}
use Rattle.listing_definitions.specs.Report.{Report, Titled, Converted, Revised, SetUp, BcdOut, BasisOut, Inserted, Solved, Solution, Ranges, Parametric}
use Rattle.listing_definitions.specs.Ending.{Ending, Ended, WordsRefused, ControlStop, VerbStop, SingularStop, PriceStop, DeckStop, CardStop, LimitStop}
use Rattle.listing_definitions.specs.Ending.{StatementLimit, OverflowStop, ReadFault, PrintFault, PunchFault, Memory}
use Rattle.listing_definitions.specs.Text.{report_text}
use Rattle.listing_definitions.specs.Listing.{ending_text, reports_text, listing}
use Rattle.run_definitions.specs.State.{State, start}
use Rattle.run_definitions.specs.Moves.{Gain, Nothing, Prints, Punches, printed_by, gain_text, StatementOutcome, Goes, Ends}
use Rattle.run_definitions.specs.Verbs.{verb_move}
use Rattle.run_definitions.specs.Run.{max_executed, counted, Step, IsOver, at_end, at_limit, Reaches, begun, stepped, IsRun, is_over, is_ended}
use Rattle.run_definitions.specs.Answer.{job_decks, IsProgramOf, IsJobRun, card_fault, control_fault, run}
use Rattle.soundness_laws.proofs.Moves.{HasProblem, Knows}
use Rattle.soundness_laws.proofs.Runs.{has_problem, known, knows_linear_programming}
use Rattle.walk_definitions.specs.Checkers.{Checker, checker_of_128_bits, checker_of_any_length}
use Rattle.walk_definitions.specs.Tables.{begins_table_line}
use Rattle.walk_definitions.specs.Walker.{Walker, Found, Attested, Wrong, Open, Unchecked, WalkTurn, Walks, Finds, closes, walk_move, turn}
use Rattle.walk_definitions.specs.Found.{first_walker, Reaches as Walked, begun as not_begun, walked, EndsIn, of_cards, of_control, of_walk}
use Rattle.answer_definitions.specs.Real.{linear_programming}
use Rattle.fitting_answers.specs.Real.{linear_programming_of_128_bits}
use Rattle.fitting_laws.proofs.Runs.{reaches_too, step_fits}
use Rattle.own_listing_laws.specs.Laws.{NeverWrong}
use Rattle.own_listing_laws.specs.AnyLength.{IsFoundOfOwn, NeverWrongAtAnyLength}
use Rattle.own_listing_laws.specs.WholeRuns.{EachSoFar, EachInRun}
use Rattle.own_listing_laws.proofs.Suiting.{SuitsRuns, CanRefuse, suits_128_bits, suits_any_length, never_refuses_any_length}
use Rattle.own_listing_laws.proofs.Turns.{turn_at_end, turn_at_limit, turn_at_statement}
use Rattle.own_listing_laws.proofs.Pace.{IsLike, WaitsAt, KeepsPace, IsRightly, rightly_more, rightly_not_wrong, Lands, lands_more, IsFoundRight, IsDue}
use Rattle.own_listing_laws.proofs.Pace.{closes_right, RefusesMove}
use Rattle.walk_definitions.specs.Words.{max_count}
use Rattle.own_listing_laws.proofs.Counted.{AreSmall, MovesSmall, program_small, statement_at}
use Rattle.own_listing_laws.proofs.Paced.{default_limits, verb_matched}

-- ---- no table line stands where a report or an end does

pub ending_plain : (ending : Ending) → begins_table_line (ending_text ending) ≡ false
ending_plain (Ended code) = refl
ending_plain WordsRefused = refl
ending_plain (ControlStop fault) = refl
ending_plain (VerbStop fault) = refl
ending_plain (SingularStop basis) = refl
ending_plain (PriceStop price) = refl
ending_plain (DeckStop fault) = refl
ending_plain (CardStop TooLong) = refl
ending_plain (CardStop (NotPrintable card)) = refl
ending_plain (CardStop (CardTooLong card)) = refl
ending_plain (LimitStop reached) = refl
ending_plain StatementLimit = refl
ending_plain (OverflowStop overflow) = refl
ending_plain ReadFault = refl
ending_plain PrintFault = refl
ending_plain PunchFault = refl
ending_plain Memory = refl

report_plain : (report : Report) (more : List ℕ) → begins_table_line (report_text report ++ more) ≡ false
report_plain (Titled text) more = refl
report_plain (Converted filed) more = refl
report_plain (Revised filed) more = refl
report_plain (SetUp name sense) more = refl
report_plain (BcdOut name cards) more = refl
report_plain (BasisOut name cards) more = refl
report_plain (Inserted name basic) more = refl
report_plain (Solved Primal verdict check) more = refl
report_plain (Solved Dual verdict check) more = refl
report_plain (Solved Paraobj verdict check) more = refl
report_plain (Solved Pararhs verdict check) more = refl
report_plain (Solution mark lines) more = refl
report_plain (Ranges lines) more = refl
report_plain (Parametric Primal chain) more = refl
report_plain (Parametric Dual chain) more = refl
report_plain (Parametric Paraobj chain) more = refl
report_plain (Parametric Pararhs chain) more = refl

pub listing_plain : (reports : List Report) (ending : Ending) → begins_table_line (listing reports ending) ≡ false
listing_plain [] ending = ending_plain ending
listing_plain (report ∷ reports) ending =
    ap begins_table_line (append_assoc (report_text report) (reports_text reports) (ending_text ending)) ∙ report_plain report (listing reports ending)

-- ---- a run from here on

pub record IsKnown (s : State) : Type 0 where
  pub lawful : HasProblem s.setup
  pub knows : Knows s

-- what each statement of the run keeps
module _ (program : Program) (Keeps : (s : State) (outcome : StatementOutcome) → Step linear_programming_of_128_bits program s outcome → Type 0) where
  -- what a run still reports from a state on, and how it ends
  pub data RunsOn : State → List Report → Ending → Type 0 where
    over : (s : State) (ending : Ending) → IsKnown s → IsOver linear_programming_of_128_bits program s ending → RunsOn s [] ending
    ends : (s : State) (gain : Gain) (ending : Ending) → IsKnown s → (step : Step linear_programming_of_128_bits program s (Ends gain ending)) →
        Keeps s (Ends gain ending) step → RunsOn s (printed_by gain) ending
    goes : (s : State) (gain : Gain) (after : State) (reports : List Report) (ending : Ending) → IsKnown s →
        (step : Step linear_programming_of_128_bits program s (Goes gain after)) → Keeps s (Goes gain after) step → RunsOn after reports ending →
        RunsOn s (printed_by gain ++ reports) ending

  module _ (decks : List (List Card))
      (known_at : (reports : List Report) (cards : List (List ℕ)) (s : State) → Reaches linear_programming_of_128_bits program decks reports cards s →
      IsKnown s) where
    from_start : (reports : List Report) (cards : List (List ℕ)) (s : State) (more : List Report) (ending : Ending)
        (so_far : Reaches linear_programming_of_128_bits program decks reports cards s) → EachSoFar program Keeps decks so_far →
        RunsOn s more ending → RunsOn (start decks) (reports ++ more) ending
    from_start _ _ _ more ending begun each rest = rest
    from_start _ _ s more ending (stepped {reports} {cards} {state} gain after before step) each rest =
        subst (λ (rs : List Report). RunsOn (start decks) rs ending) (sym (append_assoc reports (printed_by gain) more))
        (from_start reports cards state (printed_by gain ++ more) ending before each.0
        (goes state gain after more ending (known_at reports cards state before) step each.1 rest))

    pub whole_run : (reports : List Report) (cards : List (List ℕ)) (ending : Ending)
        (runs : IsRun linear_programming_of_128_bits program decks reports cards ending) → EachInRun program Keeps decks runs →
        RunsOn (start decks) reports ending
    whole_run _ _ ending (is_over {reports} {cards} {state} before is) each =
        subst (λ (rs : List Report). RunsOn (start decks) rs ending) (append-nil reports)
        (from_start reports cards state [] ending before each (over state ending (known_at reports cards state before) is))
    whole_run _ _ ending (is_ended {reports} {cards} {state} gain before step) each =
        from_start reports cards state (printed_by gain) ending before each.0
        (ends state gain ending (known_at reports cards state before) step each.1)

-- whatever the run, nothing is to be kept
module _ (program : Program) where
  abbrev pub KeepsAny : (s : State) (outcome : StatementOutcome) → Step linear_programming_of_128_bits program s outcome → Type 0
  KeepsAny s outcome step = Unit {0}

  module _ (decks : List (List Card)) where
    any_so_far : (reports : List Report) (cards : List (List ℕ)) (s : State) (so_far : Reaches linear_programming_of_128_bits program decks reports cards s) →
        EachSoFar program KeepsAny decks so_far
    any_so_far _ _ _ begun = tt
    any_so_far _ _ _ (stepped {reports} {cards} {state} gain after before step) = (any_so_far reports cards state before, tt)

    any_run : (reports : List Report) (cards : List (List ℕ)) (ending : Ending)
        (runs : IsRun linear_programming_of_128_bits program decks reports cards ending) → EachInRun program KeepsAny decks runs
    any_run _ _ ending (is_over {reports} {cards} {state} before is) = any_so_far reports cards state before
    any_run _ _ ending (is_ended {reports} {cards} {state} gain before step) = (any_so_far reports cards state before, tt)

pub known_at : (bytes : List ℕ) (program : Program) → IsProgramOf bytes program → (reports : List Report) (cards : List (List ℕ)) (s : State) →
    Reaches linear_programming_of_128_bits program (job_decks program bytes) reports cards s → IsKnown s
known_at bytes program is_program reports cards s reaches = record {
  lawful =
      has_problem linear_programming knows_linear_programming bytes program is_program reports cards s
      (reaches_too program (job_decks program bytes) reports cards s reaches);
  knows =
      known linear_programming knows_linear_programming bytes program is_program reports cards s
      (reaches_too program (job_decks program bytes) reports cards s reaches);
}

-- ---- turns

text_of_gain : (gain : Gain) → reports_text (printed_by gain) ≡ gain_text gain
text_of_gain Nothing = refl
text_of_gain (Prints report) = append-nil (report_text report)
text_of_gain (Punches report cards) = append-nil (report_text report)

module _ (C : Checker) (suits : SuitsRuns C) (program : Program) (small : AreSmall program) where
  pub small_at : (statement : Statement ℕ) (place : ℕ) → slice_get program.statements place ≡ Some statement →
      (statement.card ≤ max_count) × MovesSmall statement.verb
  small_at statement place is = statement_at program place statement small is

  -- the walk stands where the run does
  record Stands (w : Walker) : Type 0 where
    pub state : State
    pub reports : List Report
    pub ending : Ending
    pub runs : RunsOn program (KeepsAny program) state reports ending
    pub pace : KeepsPace w state (listing reports ending)

  -- an operation is refused at the statement where the walk stands
  pub record RefusesHere (w : Walker) (rest : List ℕ) : Type 0 where
    pub statement : Statement ℕ
    pub is_at_position : slice_get program.statements (w.state.position - 1) ≡ Some statement
    pub refused : RefusesMove C w (verb_move statement.verb statement.card (counted w.state)) rest

  abbrev StandsAfter : Walker → WalkTurn → Type 0
  StandsAfter w (Walks v) = Stands v
  StandsAfter w (Finds found) = IsRightly (RefusesHere w) found

  after_right : (w : Walker) (turn : WalkTurn) → IsFoundRight (RefusesHere w) turn → StandsAfter w turn
  after_right w (Walks v) right = absurd right
  after_right w (Finds found) right = right

  module _ (w : Walker) where
    -- a turn at a state that is the run's but for the bases
    module _ (s : State) (like : IsLike w.state s) (waits : WaitsAt w.pending s) (is_known : IsKnown s) where
      position_is : w.state.position ≡ s.position
      position_is = ap (λ (st : State). st.position) like.is

      executed_is : w.state.executed ≡ s.executed
      executed_is = ap (λ (st : State). st.executed) like.is

      over_after : (ending : Ending) → IsOver linear_programming_of_128_bits program s ending → w.rest ≡ ending_text ending →
          StandsAfter w (turn C program w)
      over_after _ (at_end past) rest =
          subst (StandsAfter w)
          (sym (turn_at_end C program w (ap (λ n. nat_lt (length program.statements) n) position_is ∙ lt-ltb (length program.statements) s.position past)))
          (after_right w (closes w (Ended 0)) (closes_right (RefusesHere w) w (Ended 0) rest))
      over_after _ (at_limit within limit) rest =
          subst (StandsAfter w)
          (sym (turn_at_limit C program w (ap (λ n. nat_lt (length program.statements) n) position_is ∙ le-ltb (length program.statements) s.position within)
          (ap (λ n. nat_lt n max_executed) executed_is ∙ le-ltb s.executed max_executed limit)))
          (after_right w (closes w StatementLimit) (closes_right (RefusesHere w) w StatementLimit rest))

      step_turn : (outcome : StatementOutcome) (step : Step linear_programming_of_128_bits program s outcome) →
          turn C program w ≡ walk_move C w (verb_move step.statement.verb step.statement.card (counted w.state))
      step_turn outcome step =
          let within : s.position - 1 < length program.statements = slice_get_within program.statements (s.position - 1) step.statement step.is_at_position in
          turn_at_statement C program w step.statement
          (ap (λ n. nat_lt (length program.statements) n) position_is ∙ le-ltb (length program.statements) s.position (omega (arith, within)))
          (ap (λ n. nat_lt n max_executed) executed_is ∙ lt-ltb s.executed max_executed step.is_within_limit)
          (ap (λ n. slice_get program.statements (n - 1)) position_is ∙ step.is_at_position)

      move_lands : (outcome : StatementOutcome) (more : List ℕ) (step : Step linear_programming_of_128_bits program s outcome) → IsDue w outcome more →
          Lands (RefusesMove C w (verb_move step.statement.verb step.statement.card (counted w.state))) outcome more
          (walk_move C w (verb_move step.statement.verb step.statement.card (counted w.state)))
      move_lands outcome more step due =
          subst (λ (st : State). Lands (RefusesMove C w (verb_move step.statement.verb step.statement.card (counted st))) outcome more
          (walk_move C w (verb_move step.statement.verb step.statement.card (counted st))))
          (sym like.is)
          ((verb_matched C suits w s like.opening like.steps like.limits waits is_known.lawful is_known.knows step.statement.verb step.statement.card
          (small_at step.statement (s.position - 1) step.is_at_position).0
          (small_at step.statement (s.position - 1) step.is_at_position).1).by outcome more step.gives due)

      pub step_lands : (outcome : StatementOutcome) (more : List ℕ) → Step linear_programming_of_128_bits program s outcome → IsDue w outcome more →
          Lands (RefusesHere w) outcome more (turn C program w)
      step_lands outcome more step due =
          subst (Lands (RefusesHere w) outcome more) (sym (step_turn outcome step))
          (lands_more (RefusesMove C w (verb_move step.statement.verb step.statement.card (counted w.state))) (RefusesHere w)
          (λ rest refused. record {
            statement = step.statement;
            is_at_position = ap (λ n. slice_get program.statements (n - 1)) position_is ∙ step.is_at_position;
            refused = refused;
          }) outcome more (walk_move C w (verb_move step.statement.verb step.statement.card (counted w.state))) (move_lands outcome more step due))

  ended_after : (w : Walker) (gain : Gain) (ending : Ending) (more : List ℕ) (t : WalkTurn) → Lands (RefusesHere w) (Ends gain ending) more t →
      StandsAfter w t
  ended_after w gain ending more (Walks v) lands = absurd lands
  ended_after w gain ending more (Finds found) lands = lands

  gone_after : (w : Walker) (gain : Gain) (after : State) (reports : List Report) (ending : Ending) → RunsOn program (KeepsAny program) after reports ending →
      (t : WalkTurn) →
      Lands (RefusesHere w) (Goes gain after) (listing reports ending) t → StandsAfter w t
  gone_after w gain after reports ending runs (Walks v) lands = record { state = after; reports = reports; ending = ending; runs = runs; pace = lands }
  gone_after w gain after reports ending runs (Finds found) lands = lands

  -- what is due, as the listing of the run has it
  pub due_last : (w : Walker) (s : State) (gain : Gain) (ending : Ending) → w.rest ≡ listing (printed_by gain) ending →
      Step linear_programming_of_128_bits program s (Ends gain ending) → IsDue w (Ends gain ending) (ending_text ending)
  due_last w s gain ending is_rest step = record {
    text = is_rest ∙ ap (λ (text : List ℕ). text ++ ending_text ending) (text_of_gain gain);
    plain = ending_plain ending;
    fits = step_fits program s (Ends gain ending) step;
    ends = refl;
  }

  pub due_next : (w : Walker) (s : State) (gain : Gain) (after : State) (reports : List Report) (ending : Ending) →
      w.rest ≡ listing (printed_by gain ++ reports) ending →
      Step linear_programming_of_128_bits program s (Goes gain after) → IsDue w (Goes gain after) (listing reports ending)
  due_next w s gain after reports ending is_rest step = record {
    text =
        is_rest ∙ ap (λ (text : List ℕ). text ++ ending_text ending) (flat_map-append report_text (printed_by gain) reports)
        ∙ append_assoc (reports_text (printed_by gain)) (reports_text reports) (ending_text ending)
        ∙ ap (λ (text : List ℕ). text ++ listing reports ending) (text_of_gain gain);
    plain = listing_plain reports ending;
    fits = step_fits program s (Goes gain after) step;
    ends = tt;
  }

  turn_stands : (w : Walker) (s : State) (reports : List Report) (ending : Ending) → RunsOn program (KeepsAny program) s reports ending →
      KeepsPace w s (listing reports ending) →
      StandsAfter w (turn C program w)
  turn_stands w _ _ _ (over s ending is_known is) pace = over_after w s pace.like pace.waits is_known ending is pace.is_rest
  turn_stands w _ _ _ (ends s gain ending is_known step any) pace =
      ended_after w gain ending (ending_text ending) (turn C program w)
      (step_lands w s pace.like pace.waits is_known (Ends gain ending) (ending_text ending) step (due_last w s gain ending pace.is_rest step))
  turn_stands w _ _ _ (goes s gain after reports ending is_known step any rest) pace =
      gone_after w gain after reports ending rest (turn C program w)
      (step_lands w s pace.like pace.waits is_known (Goes gain after) (listing reports ending) step
      (due_next w s gain after reports ending pace.is_rest step))

  stands_after : (w : Walker) → Stands w → StandsAfter w (turn C program w)
  stands_after w stands = turn_stands w stands.state stands.reports stands.ending stands.runs stands.pace

  module _ (decks : List (List Card)) (lines : List ℕ) (first : Stands (first_walker decks lines)) where
    walked_stands : (w : Walker) → Walked C program decks lines w → Stands w
    walked_stands _ not_begun = first
    walked_stands v (walked {w} before is) = subst (StandsAfter w) is (stands_after w (walked_stands w before))

    found_right : (w : Walker) (found : Found) → Walked C program decks lines w → turn C program w ≡ Finds found → IsRightly (RefusesHere w) found
    found_right w found reaches is = subst (StandsAfter w) is (stands_after w (walked_stands w reaches))

-- ---- jobs

-- an operation is refused where the walk along the listing of a job stands
pub record RefusesIn (C : Checker) (bytes lines rest : List ℕ) : Type 0 where
  pub program : Program
  pub walker : Walker
  pub statement : Statement ℕ
  pub is_program : IsProgramOf bytes program
  pub reaches : Walked C program (job_decks program bytes) lines walker
  pub is_at_position : slice_get program.statements (walker.state.position - 1) ≡ Some statement
  pub refused : RefusesMove C walker (verb_move statement.verb statement.card (counted walker.state)) rest

closed_right : (Refused : List ℕ → Type 0) (ending : Ending) (found : Found) → closes (first_walker [] (listing [] ending)) ending ≡ Finds found →
    IsRightly Refused found
closed_right Refused ending found is = subst (IsFoundRight Refused) is (closes_right Refused (first_walker [] (listing [] ending)) ending refl)

-- by each checker that reads what a run prints, and takes its word
pub never_wrong_by : (C : Checker) → SuitsRuns C → (bytes : List ℕ) (reports : List Report) (cards : List (List ℕ)) (ending : Ending) (found : Found) →
    IsJobRun linear_programming_of_128_bits bytes reports cards ending → EndsIn C bytes (listing reports ending) found →
    IsRightly (RefusesIn C bytes (listing reports ending)) found
never_wrong_by C suits bytes _ _ _ found (card_fault fault is) (of_cards other is' finds) =
    let same : fault ≡ other = same_Some fault other (sym is ∙ is') in
    closed_right (RefusesIn C bytes (listing [] (CardStop fault))) (CardStop fault) found
    (subst (λ (f : CardFault). closes (first_walker [] (listing [] (CardStop fault))) (CardStop f) ≡ Finds found) (sym same) finds)
never_wrong_by C suits bytes _ _ _ found (card_fault fault is) (of_control other none is' finds) = let e : Some fault ≡ None = sym is ∙ none in absurd (cc e)
never_wrong_by C suits bytes _ _ _ found (card_fault fault is) (of_walk program w is_program reaches finds) =
    let e : Some fault ≡ None = sym is ∙ is_program.is_read in absurd (cc e)
never_wrong_by C suits bytes _ _ _ found (control_fault fault none is) (of_cards other is' finds) = let e : Some other ≡ None = sym is' ∙ none in absurd (cc e)
never_wrong_by C suits bytes _ _ _ found (control_fault fault none is) (of_control other none' is' finds) =
    let both : ◌≡◌ {A = Result Program ControlFault} (Err fault) (Err other) = sym is ∙ is' in
    let same : fault ≡ other = cc both in
    closed_right (RefusesIn C bytes (listing [] (ControlStop fault))) (ControlStop fault) found
    (subst (λ (f : ControlFault). closes (first_walker [] (listing [] (ControlStop fault))) (ControlStop f) ≡ Finds found) (sym same) finds)
never_wrong_by C suits bytes _ _ _ found (control_fault fault none is) (of_walk program w is_program reaches finds) =
    let e : ◌≡◌ {A = Result Program ControlFault} (Err fault) (Ok program) = sym is ∙ is_program.is_compiled in absurd (cc e)
never_wrong_by C suits bytes reports cards ending found (run program is_program runs) (of_cards fault is finds) =
    let e : Some fault ≡ None = sym is ∙ is_program.is_read in absurd (cc e)
never_wrong_by C suits bytes reports cards ending found (run program is_program runs) (of_control fault none is finds) =
    let e : ◌≡◌ {A = Result Program ControlFault} (Err fault) (Ok program) = sym is ∙ is_program.is_compiled in absurd (cc e)
never_wrong_by C suits bytes reports cards ending found (run program is_program runs) (of_walk other w is_other reaches finds) =
    let both : ◌≡◌ {A = Result Program ControlFault} (Ok other) (Ok program) = sym is_other.is_compiled ∙ is_program.is_compiled in
    let same : other ≡ program = cc both in
    let lines = listing reports ending in
    let small = program_small bytes program is_program in
    let there = subst (λ (p : Program). Walked C p (job_decks p bytes) lines w) same reaches in
    rightly_more (RefusesHere C suits program small w) (RefusesIn C bytes lines)
    (λ rest here. record {
      program = program;
      walker = w;
      statement = here.statement;
      is_program = is_program;
      reaches = there;
      is_at_position = here.is_at_position;
      refused = here.refused;
    }) found
    (found_right C suits program small (job_decks program bytes) lines
    (record {
      state = start (job_decks program bytes);
      reports = reports;
      ending = ending;
      runs =
          whole_run program (KeepsAny program) (job_decks program bytes) (known_at bytes program is_program) reports cards ending runs
          (any_run program (job_decks program bytes) reports cards ending runs);
      pace = record { like = record { opening = []; steps = []; is = refl; limits = default_limits }; is_rest = refl; waits = tt };
    })
    w found there
    (subst (λ (p : Program). turn C p w ≡ Finds found) same finds))

pub never_wrong : NeverWrong
never_wrong bytes reports cards ending found runs comes =
    rightly_not_wrong (RefusesIn checker_of_128_bits bytes (listing reports ending)) found
    (never_wrong_by checker_of_128_bits suits_128_bits bytes reports cards ending found runs comes)

only_selections : (bytes lines : List ℕ) (found : Found) → IsRightly (RefusesIn checker_of_any_length bytes lines) found → IsFoundOfOwn bytes lines found
only_selections bytes lines (Attested count) right = tt
only_selections bytes lines (Wrong rest) right = right
only_selections bytes lines (Open rest) right = tt
only_selections bytes lines (Unchecked rest) right = record {
  program = right.program;
  walker = right.walker;
  statement = right.statement;
  is_program = right.is_program;
  reaches = right.reaches;
  is_rest = right.refused.is_rest;
  is_at_position = right.is_at_position;
  refuses = by right.refused.why;
}
  where
    by : {b : Bool} → (b ≡ true) ⊎ CanRefuse checker_of_any_length → b ≡ true
    by (inl e) = e
    by (inr can) = absurd (never_refuses_any_length can)

pub never_wrong_at_any_length : NeverWrongAtAnyLength
never_wrong_at_any_length bytes reports cards ending found runs comes =
    only_selections bytes (listing reports ending) found
    (never_wrong_by checker_of_any_length suits_any_length bytes reports cards ending found runs comes)
