-- The walk is a run, in which the answers are those that passed; and each report says the truth of the state in which it is made.
--     StepsTo .. v                 a statement of the run leads to where the walk goes on
--     Finishes .. count            the run is over or a statement ends it, where the walk ends attested
--     IsWalked .. w                the run has come to the walker's state
use Rattle.std.proofs.Common.{◌≡◌, ℕ, zero, suc, ◌+◌, ◌-◌, ◌<◌, ◌≤◌, Bool, true, false, List, [], ◌∷◌, ◌++◌, length, refl, sym, ap, subst, ◌∙◌, arith}
use Rattle.std.proofs.Common.{append_assoc, ltb-true, ltb-false}
use Rattle.std.specs.Prelude.{All, Option, Some, None, slice_get, nat_lt, if◌then◌else◌}
use Rattle.std.proofs.lemmas.Option.{slice_get_within}
use Rattle.std.proofs.lemmas.List.{length-append}
use Rattle.std.proofs.lemmas.List.Concat.{flat_map-append}
use Rattle.card_definitions.specs.Cards.{Card}
use Rattle.control_definitions.specs.Program.{Statement, Program}
use Rattle.listing_definitions.specs.Report.{Report}
use Rattle.listing_definitions.specs.Ending.{Ending, Ended, StatementLimit}
use Rattle.listing_definitions.specs.Text.{report_text}
use Rattle.listing_definitions.specs.Listing.{ending_text, reports_text}
use Rattle.run_definitions.specs.State.{State}
use Rattle.run_definitions.specs.Moves.{Gain, printed_by, punched_by, Goes, Ends, StatementMove}
use Rattle.run_definitions.specs.Verbs.{verb_move}
use Rattle.run_definitions.specs.Run.{max_executed, counted, Step, IsOver, at_end, at_limit, Reaches, begun, stepped, is_over, is_ended}
use Rattle.run_definitions.specs.Answer.{job_decks, IsProgramOf, run}
use Rattle.soundness_laws.specs.Headline.{HoldSoFar}
use Rattle.soundness_laws.proofs.Moves.{HasProblem}
use Rattle.soundness_laws.proofs.Filed.{job_reaching}
use Rattle.walk_definitions.specs.Checkers.{Checker}
use Rattle.walk_definitions.specs.Walker.{Walker, Attested, Walks, Finds, closes, walk_move, walk_statement, turn}
use Rattle.walk_definitions.specs.Found.{Reaches as IsCome, begun as at_start, walked as gone_on}
use Rattle.walk_laws.specs.Read.{ReadingLaw}
use Rattle.walk_laws.specs.Judged.{JudgedLaws}
use Rattle.walk_laws.specs.Proved.{attested, Says, IsTrueListing}
use Rattle.walk_laws.proofs.Owing.{Owes, holds_settled}
use Rattle.walk_laws.proofs.Turns.{On, on_map, on_closes}
use Rattle.walk_laws.proofs.Unstopped.{ends_unstopped, over_unstopped}
use Rattle.walk_laws.proofs.Followed.{GoesOn, EndsSo}
use Rattle.walk_laws.proofs.Followings.{verb_followed}

-- ---- a turn

module _ (C : Checker) (program : Program) (Holds : Type 0) (w : Walker) where
  pub record StepsTo (v : Walker) : Type 0 where
    pub gain : Gain
    pub step : Step (attested C) program w.state (Goes gain v.state)
    pub text : w.rest ≡ reports_text (printed_by gain) ++ v.rest
    pub counted : v.reports ≡ w.reports + length (printed_by gain)
    pub owes : Owes C (Holds × All (Says C w.state) (printed_by gain)) v.pending v.state.setup v.state.cells

  pub data Finishes (count : ℕ) : Type 0 where
    over : (ending : Ending) → IsOver (attested C) program w.state ending → w.rest ≡ ending_text ending → count ≡ w.reports → Holds → Finishes count
    by_statement : (gain : Gain) (ending : Ending) → Step (attested C) program w.state (Ends gain ending) →
        w.rest ≡ reports_text (printed_by gain) ++ ending_text ending →
        count ≡ w.reports + length (printed_by gain) → Holds × All (Says C w.state) (printed_by gain) → Finishes count

past_end : (statements : List (Statement ℕ)) (k : ℕ) → slice_get statements k ≡ None → length statements ≤ k
past_end [] k e = omega arith
past_end (statement ∷ statements) zero e = absurd (cc e)
past_end (statement ∷ statements) (suc k) e = let rest = past_end statements k e in omega (arith, rest)

module _ (C : Checker) (reading : ReadingLaw C) (truth : JudgedLaws C) (program : Program) (Holds : Type 0) (w : Walker)
    (owed : Owes C Holds w.pending w.state.setup w.state.cells) (lawful : HasProblem w.state.setup)
    (inside : length program.statements ≤ w.state.position - 1 → length program.statements < w.state.position) where
  closes_over : (ending : Ending) → IsOver (attested C) program w.state ending → On (StepsTo C program Holds w) (Finishes C program Holds w) (closes w ending)
  closes_over ending is = on_closes (StepsTo C program Holds w) (Finishes C program Holds w) w ending (λ settled text.
      over ending is text refl (holds_settled C Holds w.pending w.state.setup w.state.cells owed settled))

  executes : (statement : Statement ℕ) → slice_get program.statements (w.state.position - 1) ≡ Some statement → w.state.executed < max_executed →
      On (StepsTo C program Holds w) (Finishes C program Holds w) (walk_move C w (verb_move statement.verb statement.card (counted w.state)))
  executes statement at below =
      let move : StatementMove = verb_move statement.verb statement.card (counted w.state) in
      on_map (GoesOn C Holds w statement.card move) (StepsTo C program Holds w) (EndsSo C Holds w statement.card move) (Finishes C program Holds w)
      (λ v on. record {
        gain = on.gain;
        step = record { statement = statement; is_at_position = at; is_within_limit = below; gives = on.gives };
        text = on.text;
        counted = on.counted;
        owes = on.owes;
      })
      (λ count so. by_statement so.gain so.ending
      (record { statement = statement; is_at_position = at; is_within_limit = below; gives = so.gives }) so.text so.counted so.holds)
      (walk_move C w move) (verb_followed C reading truth Holds w owed lawful statement.verb statement.card).comes

  stated : w.state.executed < max_executed → (o : Option (Statement ℕ)) → slice_get program.statements (w.state.position - 1) ≡ o →
      On (StepsTo C program Holds w) (Finishes C program Holds w) (walk_statement C w o)
  stated below None at = closes_over (Ended 0) (at_end (inside (past_end program.statements (w.state.position - 1) at)))
  stated below (Some statement) at = executes statement at below

  limited : w.state.position ≤ length program.statements → (below : Bool) → nat_lt w.state.executed max_executed ≡ below →
      On (StepsTo C program Holds w) (Finishes C program Holds w)
      (if below then walk_statement C w (slice_get program.statements (w.state.position - 1)) else closes w StatementLimit)
  limited within true is = stated (ltb-true w.state.executed max_executed is) (slice_get program.statements (w.state.position - 1)) refl
  limited within false is = closes_over StatementLimit (at_limit within (ltb-false w.state.executed max_executed is))

  ended_or : (past : Bool) → nat_lt (length program.statements) w.state.position ≡ past →
      On (StepsTo C program Holds w) (Finishes C program Holds w) (if past then closes w (Ended 0)
      else if nat_lt w.state.executed max_executed then walk_statement C w (slice_get program.statements (w.state.position - 1)) else closes w StatementLimit)
  ended_or true is = closes_over (Ended 0) (at_end (ltb-true (length program.statements) w.state.position is))
  ended_or false is = limited (ltb-false (length program.statements) w.state.position is) (nat_lt w.state.executed max_executed) refl

  pub turned : On (StepsTo C program Holds w) (Finishes C program Holds w) (turn C program w)
  unfolding turn
  turned = ended_or (nat_lt (length program.statements) w.state.position) refl

-- ---- a whole walk

module _ (C : Checker) (reading : ReadingLaw C) (truth : JudgedLaws C) (bytes lines : List ℕ) (program : Program) (is_program : IsProgramOf bytes program) where
  abbrev decks : List (List Card)
  decks = job_decks program bytes

  pub record IsWalked (w : Walker) : Type 0 where
    pub reports : List Report
    pub cards : List (List ℕ)
    pub reaches : Reaches (attested C) program decks reports cards w.state
    pub text : lines ≡ reports_text reports ++ w.rest
    pub counted : w.reports ≡ length reports
    pub owes : Owes C (HoldSoFar (attested C) (Says C) program decks reaches) w.pending w.state.setup w.state.cells

  -- the position is 1 or more, or there is a statement
  stays_inside : (reports : List Report) (cards : List (List ℕ)) (state : State) → Reaches (attested C) program decks reports cards state →
      length program.statements ≤ state.position - 1 →
      length program.statements < state.position
  stays_inside _ _ _ begun past = omega (arith, past)
  stays_inside _ _ after (stepped {reports} {cards} {state} gain _ before step) past =
      let within = slice_get_within program.statements (state.position - 1) step.statement step.is_at_position in omega (arith, within, past)

  setup_lawful : (reports : List Report) (cards : List (List ℕ)) (state : State) → Reaches (attested C) program decks reports cards state →
      HasProblem state.setup
  setup_lawful reports cards state reaches =
      (job_reaching (attested C) bytes program reports cards state (record { is_program = is_program; reaches = reaches })).setup

  turned_from : (w : Walker) (is : IsWalked w) →
      On (StepsTo C program (HoldSoFar (attested C) (Says C) program decks is.reaches) w)
      (Finishes C program (HoldSoFar (attested C) (Says C) program decks is.reaches) w) (turn C program w)
  turned_from w is =
      turned C reading truth program (HoldSoFar (attested C) (Says C) program decks is.reaches) w is.owes (setup_lawful is.reports is.cards w.state is.reaches)
      (stays_inside is.reports is.cards w.state is.reaches)

  -- the text of some reports, and of more after them
  more_text : (reports more : List Report) (rest after : List ℕ) → lines ≡ reports_text reports ++ rest → rest ≡ reports_text more ++ after →
      lines ≡ reports_text (reports ++ more) ++ after
  more_text reports more rest after text next =
      text ∙ ap (λ (t : List ℕ). reports_text reports ++ t) next ∙ sym (append_assoc (reports_text reports) (reports_text more) after)
      ∙ ap (λ (t : List ℕ). t ++ after) (sym (flat_map-append report_text reports more))

  more_counted : (reports more : List Report) (n m : ℕ) → n ≡ length reports → m ≡ n + length more → m ≡ length (reports ++ more)
  more_counted reports more n m counted next = next ∙ ap (λ (k : ℕ). k + length more) counted ∙ sym (length-append reports more)

  walked_on : (w v : Walker) → IsWalked w → turn C program w ≡ Walks v → IsWalked v
  walked_on w v is e =
      let Holds : Type 0 = HoldSoFar (attested C) (Says C) program decks is.reaches in
      let steps : StepsTo C program Holds w v = subst (On (StepsTo C program Holds w) (Finishes C program Holds w)) e (turned_from w is) in
      record {
        reports = is.reports ++ printed_by steps.gain;
        cards = is.cards ++ punched_by steps.gain;
        reaches = stepped steps.gain v.state is.reaches steps.step;
        text = more_text is.reports (printed_by steps.gain) w.rest v.rest is.text steps.text;
        counted = more_counted is.reports (printed_by steps.gain) w.reports v.reports is.counted steps.counted;
        owes = steps.owes;
      }

  pub is_walked : (w : Walker) → IsCome C program decks lines w → IsWalked w
  is_walked _ at_start = record { reports = []; cards = []; reaches = begun; text = refl; counted = refl; owes = tt }
  is_walked _ (gone_on {w} {v} before e) = walked_on w v (is_walked w before) e

  finished : (w : Walker) (count : ℕ) (is : IsWalked w) → turn C program w ≡ Finds (Attested count) →
      Finishes C program (HoldSoFar (attested C) (Says C) program decks is.reaches) w count →
      (proved : IsTrueListing C bytes lines) × (length proved.reports ≡ count)
  finished w count is e (over ending ends text counted holds) = (
    record {
      reports = is.reports;
      cards = is.cards;
      ending = ending;
      runs = run program is_program (is_over is.reaches ends);
      is_listing = is.text ∙ ap (λ (t : List ℕ). reports_text is.reports ++ t) text;
      each = holds;
      unstopped = over_unstopped C program w.state ending ends;
    },
    sym (counted ∙ is.counted),
  )
  finished w count is e (by_statement gain ending step text counted holds) = (
    record {
      reports = is.reports ++ printed_by gain;
      cards = is.cards ++ punched_by gain;
      ending = ending;
      runs = run program is_program (is_ended gain is.reaches step);
      is_listing = more_text is.reports (printed_by gain) w.rest (ending_text ending) is.text text;
      each = (holds.0, holds.1, tt);
      unstopped = ends_unstopped C program w count gain ending step e;
    },
    sym (more_counted is.reports (printed_by gain) w.reports count is.counted counted),
  )

  pub walk_proved : (w : Walker) (count : ℕ) → IsCome C program decks lines w → turn C program w ≡ Finds (Attested count) →
      (proved : IsTrueListing C bytes lines) × (length proved.reports ≡ count)
  walk_proved w count come e =
      let is : IsWalked w = is_walked w come in
      let Holds : Type 0 = HoldSoFar (attested C) (Says C) program decks is.reaches in
      finished w count is e (subst (On (StepsTo C program Holds w) (Finishes C program Holds w)) e (turned_from w is))
