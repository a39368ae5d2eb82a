-- A step of an attestable run, and the turn of the walk that stands where the run does.
--     StandsAt w objective s more  the walk stands where the run does
--     GoesOn turn ..               and so it does after the turn
use Rattle.std.proofs.Common.{◌≡◌, ◌⊎◌, inl, inr, ℕ, ◌+◌, ◌-◌, ◌<◌, false, List, [], ◌++◌, length, Option, Some, None, Result, Ok, refl, sym, ap, subst, ◌∙◌}
use Rattle.std.proofs.Common.{arith, lt-ltb, le-ltb}
use Rattle.std.specs.Prelude.{is_none, slice_get, nat_lt}
use Rattle.std.proofs.lemmas.Option.{slice_get_within, same_Some}
use Rattle.exact_values.specs.Rational.{ℚ}
use Rattle.lp_definitions.specs.LinearProgram.{LinearProgram}
use Rattle.control_definitions.specs.Program.{Verb, Solution as SolutionVerb, Program}
use Rattle.selection_definitions.specs.declared.SelectionFault.{SelectionFault}
use Rattle.selection_definitions.specs.Selection.{selected}
use Rattle.listing_definitions.specs.declared.Mark.{Mark}
use Rattle.listing_definitions.specs.declared.Mark.TheVariants.{Optimal, Infeasible, Unbounded}
use Rattle.listing_definitions.specs.declared.Solver.{Solver}
use Rattle.listing_definitions.specs.declared.VerbFault.{VerbFault}
use Rattle.listing_definitions.specs.Report.{PathVerdict, OptimalAt, CrossedAt, InfeasibleBy, UnboundedBy, Checked, SolutionLines, Report, Solved, Solution}
use Rattle.listing_definitions.specs.Ending.{Ending, Ended, StatementLimit}
use Rattle.listing_definitions.specs.Text.{verdict_text, solution_text}
use Rattle.listing_definitions.specs.Listing.{ending_text}
use Rattle.question_definitions.specs.Answers.{Basis, Sheet, OfPath, OfSolution, Reached}
use Rattle.question_definitions.specs.Solving.{Solving}
use Rattle.answer_definitions.specs.Real.{linear_programming}
use Rattle.run_definitions.specs.State.{Present, present_basis, gone_through, State, choice_of}
use Rattle.run_definitions.specs.Moves.{Gain, Prints, printed_by, gain_text, gain_of, StatementOutcome, Goes, Ends, next, InSelection, MayStop, DecidesAlone}
use Rattle.run_definitions.specs.Moves.{or_fault}
use Rattle.run_definitions.specs.Verbs.{or_selection_fault, selects_present, shows_present, asks, solves, shows, mark_of, demanded, by_verdict, after_path}
use Rattle.run_definitions.specs.Verbs.{verb_move}
use Rattle.run_definitions.specs.Run.{max_executed, counted, Step, IsOver, at_end, at_limit}
use Rattle.walk_definitions.specs.Checkers.{Checker, checker_of_128_bits}
use Rattle.walk_definitions.specs.Forms.{is_open_stop}
use Rattle.walk_definitions.specs.Tables.{begins_table_line}
use Rattle.walk_definitions.specs.Walker.{Pending, Walker, Attested, WalkTurn, Walks, Finds, closes, follows, passed, pending_after, refuses_selection}
use Rattle.walk_definitions.specs.Walker.{walk_move, turn}
use Rattle.own_listing_laws.specs.Laws.{KeepsMark}
use Rattle.own_listing_laws.specs.Attestable.{sheet_of, IsSolving, by_primal, by_dual, to_show, AsksNothing, FindsChecked, ShowsChecked}
use Rattle.own_listing_laws.proofs.Pace.{rebased}
use Rattle.own_listing_laws.proofs.Turns.{turn_at_end, turn_at_limit, turn_at_statement}
use Rattle.own_listing_laws.proofs.Alike.{IsRebased, AreAlike, gains_alike, settles_too, verbs_alike}
use Rattle.own_listing_laws.proofs.Onward.{walks_on}

-- what is pending in the walk, where an optimal verdict with this objective isn't shown yet
abbrev pub IsPending : Option ℚ → Option Pending → Type 0
IsPending None pending = pending ≡ None
IsPending (Some objective) pending = (at : List ℕ) × (pending ≡ Some (record { rest = at; objective = objective; check = Checked }))

pub record StandsAt (w : Walker) (objective : Option ℚ) (s : State) (more : List ℕ) : Type 0 where
  pub like : IsRebased w.state s
  pub is_rest : w.rest ≡ more
  pub waits : IsPending objective w.pending

pub record GoesOn (t : WalkTurn) (objective : Option ℚ) (after : State) (more : List ℕ) (reports : ℕ) : Type 0 where
  pub walker : Walker
  pub is : t ≡ Walks walker
  pub stands : StandsAt walker objective after more
  pub counts : walker.reports ≡ reports

goes_on : (u : Walker) (own : StatementOutcome) (gain : Gain) (after : State) (objective : Option ℚ) (t : WalkTurn) → t ≡ follows u own →
    AreAlike own (Goes gain after) → IsPending objective u.pending → GoesOn t objective after u.rest u.reports
goes_on u (Goes own other) gain after objective t is alike waits =
    record { walker = record u { state = other }; is = is; stands = record { like = alike.1; is_rest = refl; waits = waits }; counts = refl }
goes_on u (Ends own other) gain after objective t is alike waits = absurd alike

pub ends_so : (u : Walker) (own : StatementOutcome) (gain : Gain) (ending : Ending) (t : WalkTurn) → t ≡ follows u own → AreAlike own (Ends gain ending) →
    u.pending ≡ None → u.rest ≡ ending_text ending → is_open_stop (ending_text ending) ≡ false →
    t ≡ Finds (Attested u.reports)
ends_so u (Ends own other) gain ending t is alike none rest closed =
    is ∙ ap (closes u) alike.1 ∙ walks_on.end u ending none rest (ap is_open_stop rest ∙ closed)
ends_so u (Goes own other) gain ending t is alike none rest closed = absurd alike

-- ---- outcomes

keeps_alike : (own run : StatementOutcome) → AreAlike own run → KeepsMark run → KeepsMark own
keeps_alike (Goes gain after) (Goes own other) alike kept = ap (λ (s : State). is_none s.mark) alike.1.is ∙ kept
keeps_alike (Ends gain ending) (Ends own other) alike kept = absurd kept
keeps_alike (Goes gain after) (Ends own other) alike kept = absurd alike
keeps_alike (Ends gain ending) (Goes own other) alike kept = absurd alike

module _ (report : Report) (s : State) (opening : Basis) (steps : List Basis) where
  abbrev walked : State
  walked = record s { setup = rebased opening steps s.setup }

  demanded_alike : (position : Option ℕ) (code : ℕ) → AreAlike (demanded position code report walked) (demanded position code report s)
  demanded_alike (Some position) code = (refl, record { opening = opening; steps = steps; is = refl })
  demanded_alike None code = (refl, refl)

  pub verdict_alike : (mark : Mark) → AreAlike (by_verdict mark report walked) (by_verdict mark report s)
  verdict_alike Optimal = (refl, record { opening = opening; steps = steps; is = refl })
  verdict_alike Infeasible = demanded_alike s.cells.xdonfs 1
  verdict_alike Unbounded = demanded_alike s.cells.xdounb 2

verdict_pending : (rest : List ℕ) (verdict : PathVerdict) → IsPending (to_show verdict) (pending_after rest verdict Checked)
verdict_pending rest (OptimalAt steps objective) = (rest, refl)
verdict_pending rest (CrossedAt k) = refl
verdict_pending rest (InfeasibleBy steps lines) = refl
verdict_pending rest (UnboundedBy steps objective lines) = refl

-- an optimal verdict doesn't end a run
nothing_pending : (rest : List ℕ) (verdict : PathVerdict) (report : Report) (s : State) (gain : Gain) (ending : Ending) →
    Ends gain ending ≡ by_verdict (mark_of verdict) report s → pending_after rest verdict Checked ≡ None
nothing_pending rest (OptimalAt steps objective) report s gain ending e = absurd (cc e)
nothing_pending rest (CrossedAt k) report s gain ending e = refl
nothing_pending rest (InfeasibleBy steps lines) report s gain ending e = refl
nothing_pending rest (UnboundedBy steps objective lines) report s gain ending e = refl

record Settled (pending : Option Pending) (objective : ℚ) : Type 0 where
  pub at : List ℕ
  pub is : (pending ≡ None) ⊎ (pending ≡ Some (record { rest = at; objective = objective; check = Checked }))

settled : (waiting : Option ℚ) (pending : Option Pending) (objective : ℚ) → IsPending waiting pending → (waiting ≡ None) ⊎ (waiting ≡ Some objective) →
    Settled pending objective
settled None pending objective is either = record { at = []; is = inl is }
settled (Some other) pending objective is (inl e) = absurd (cc e)
settled (Some other) pending objective is (inr e) = subst (λ (x : ℚ). Settled pending x) (same_Some other objective e) (record { at = is.0; is = inr is.1 })

-- ---- turns

module _ (program : Program) (w : Walker) (s : State) (like : IsRebased w.state s) where
  abbrev there : State
  there = record s { setup = rebased like.opening like.steps s.setup }

  position_is : w.state.position ≡ s.position
  position_is = ap (λ (st : State). st.position) like.is

  executed_is : w.state.executed ≡ s.executed
  executed_is = ap (λ (st : State). st.executed) like.is

  pub over_found : (C : Checker) (S : Solving) (ending : Ending) → IsOver S program s ending → w.pending ≡ None → w.rest ≡ ending_text ending →
      is_open_stop (ending_text ending) ≡ false →
      turn C program w ≡ Finds (Attested w.reports)
  over_found C S _ (at_end past) none rest closed =
      turn_at_end C program w (ap (λ n. nat_lt (length program.statements) n) position_is ∙ lt-ltb
      (length program.statements) s.position past)
      ∙ walks_on.end w (Ended 0) none rest (ap is_open_stop rest ∙ closed)
  over_found C S _ (at_limit within limit) none rest closed =
      turn_at_limit C program w (ap (λ n. nat_lt (length program.statements) n) position_is ∙ le-ltb
      (length program.statements) s.position within)
      (ap (λ n. nat_lt n max_executed) executed_is ∙ le-ltb s.executed max_executed limit)
      ∙ walks_on.end w StatementLimit none rest (ap is_open_stop rest ∙ closed)

  pub step_turn : (C : Checker) (S : Solving) (outcome : StatementOutcome) (step : Step S program s outcome) →
      turn C program w ≡ walk_move C w (verb_move step.statement.verb step.statement.card (counted there))
  step_turn C S outcome step =
      let within : s.position - 1 < length program.statements = slice_get_within program.statements (s.position - 1) step.statement step.is_at_position in
      turn_at_statement C program w step.statement
      (ap (λ n. nat_lt (length program.statements) n) position_is ∙ le-ltb (length program.statements) s.position (omega (arith, within)))
      (ap (λ n. nat_lt n max_executed) executed_is ∙ lt-ltb s.executed max_executed step.is_within_limit)
      (ap (λ n. slice_get program.statements (n - 1)) position_is ∙ step.is_at_position)
      ∙ ap (λ (st : State). walk_move C w (verb_move step.statement.verb step.statement.card (counted st))) like.is

  -- ---- nothing is asked

  pub record Turned (C : Checker) (outcome : StatementOutcome) (u : Walker) : Type 0 where
    pub own : StatementOutcome
    pub alike : AreAlike own outcome
    pub is : turn C program w ≡ follows u own

  pub statement_turn : (C : Checker) (S : Solving) (outcome : StatementOutcome) (more : List ℕ) (step : Step S program s outcome) →
      DecidesAlone step.statement.card (verb_move step.statement.verb step.statement.card (counted s)) outcome →
      refuses_selection (verb_move step.statement.verb step.statement.card (counted s)) ≡ false → (w.pending ≡ None) ⊎ KeepsMark outcome →
      w.rest ≡ gain_text (gain_of outcome) ++ more → is_open_stop w.rest ≡ false → Turned C outcome (passed more (length (printed_by (gain_of outcome))) w)
  statement_turn C S outcome more step settles made kept text closed =
      let too =
      settles_too step.statement.card (verb_move step.statement.verb step.statement.card (counted there))
      (verb_move step.statement.verb step.statement.card (counted s)) outcome
      (verbs_alike s like.opening like.steps step.statement.verb step.statement.card) settles in
      let same : gain_of too.own ≡ gain_of outcome = gains_alike too.own outcome too.alike in
      record {
        own = too.own;
        alike = too.alike;
        is =
            step_turn C S outcome step
            ∙ walks_on.statement C w step.statement.card
            (verb_move step.statement.verb step.statement.card (counted there)) too.own more too.settles (too.made ∙ made)
            (kept_too too.own too.alike kept)
            (text ∙ ap (λ (gain : Gain). gain_text gain ++ more) (sym same)) closed
            ∙ ap (λ (gain : Gain). follows (passed more (length (printed_by gain)) w) too.own) same;
      }
    where
      kept_too : (own : StatementOutcome) → AreAlike own outcome → (w.pending ≡ None) ⊎ KeepsMark outcome → (w.pending ≡ None) ⊎ KeepsMark own
      kept_too own alike (inl none) = inl none
      kept_too own alike (inr stands) = inr (keeps_alike own outcome alike stands)

  pub statement_goes : (objective : Option ℚ) (gain : Gain) (after : State) (more : List ℕ) (step : Step linear_programming program s (Goes gain after)) →
      AsksNothing program s (Goes gain after) step →
      (objective ≡ None) ⊎ (is_none after.mark ≡ false) → IsPending objective w.pending → w.rest ≡ gain_text gain ++ more → is_open_stop w.rest ≡ false →
      GoesOn (turn checker_of_128_bits program w) objective after more (w.reports + length (printed_by gain))
  statement_goes objective gain after more step nothing kept waits text closed =
      let turned =
      statement_turn checker_of_128_bits linear_programming (Goes gain after) more step nothing.settles nothing.is_made (kept_so objective waits kept)
      text closed in
      goes_on (passed more (length (printed_by gain)) w) turned.own gain after objective (turn checker_of_128_bits program w) turned.is turned.alike waits
    where
      kept_so : (o : Option ℚ) → IsPending o w.pending → (o ≡ None) ⊎ (is_none after.mark ≡ false) → (w.pending ≡ None) ⊎ KeepsMark (Goes gain after)
      kept_so None none either = inl none
      kept_so (Some x) is (inl e) = absurd (cc e)
      kept_so (Some x) is (inr stands) = inr stands

  pub statement_ends : (gain : Gain) (ending : Ending) (step : Step linear_programming program s (Ends gain ending)) →
      AsksNothing program s (Ends gain ending) step → w.pending ≡ None →
      w.rest ≡ gain_text gain ++ ending_text ending → is_open_stop w.rest ≡ false → is_open_stop (ending_text ending) ≡ false →
      turn checker_of_128_bits program w ≡ Finds (Attested (w.reports + length (printed_by gain)))
  statement_ends gain ending step nothing none text closed closed_end =
      let turned =
      statement_turn checker_of_128_bits linear_programming (Ends gain ending) (ending_text ending) step nothing.settles nothing.is_made (inl none)
      text closed in
      ends_so (passed (ending_text ending) (length (printed_by gain)) w) turned.own gain ending
      (turn checker_of_128_bits program w) turned.is turned.alike none refl closed_end

  -- ---- a verdict

  module _ (present : Present) (is_setup : s.setup ≡ Some present) (lp : LinearProgram)
      (is_selected : selected present.problem (choice_of s.cells present.options) ≡ Ok lp) where
    abbrev pub set_up : Present
    set_up = record present { opening = like.opening; steps = like.steps }

    abbrev sheet : Sheet
    sheet = record { problem = present.problem; lp = lp }

    pub solves_selected : (solver : Solver) (limit : Option ℕ) (card : ℕ) → solves solver limit card (counted there) ≡
        MayStop (InSelection present.problem (choice_of s.cells present.options))
        (asks (OfPath solver limit) sheet set_up (after_path solver card set_up (counted there)))
    solves_selected solver limit card =
        ap (λ (setup : Option Present). or_fault card VerbFault.NoSetup (rebased like.opening like.steps setup)
        (λ given. selects_present card (counted there) given (λ program.
        asks (OfPath solver limit) (record { problem = given.problem; lp = program }) given (after_path solver card given (counted there))))) is_setup
        ∙ ap (λ (r : Result LinearProgram SelectionFault). or_selection_fault card r
        (λ program. MayStop (InSelection present.problem (choice_of s.cells present.options))
        (asks (OfPath solver limit) (record { problem = present.problem; lp = program }) set_up
        (after_path solver card set_up (counted there))))) is_selected

    pub shows_selected : (mark : Mark) (card : ℕ) → s.mark ≡ Some mark →
        shows card (counted there) ≡ asks (OfSolution mark) sheet set_up (λ lines. next (Prints (Solution mark lines)) (counted there))
    shows_selected mark card marked =
        ap (λ (setup : Option Present). or_fault card VerbFault.NoSetup (rebased like.opening like.steps setup)
        (λ given. or_fault card VerbFault.NotSolved s.mark (λ m.
        shows_present card (counted there) given (OfSolution m) (Solution m)))) is_setup
        ∙ ap (λ (o : Option Mark). or_fault card VerbFault.NotSolved o
        (λ m. shows_present card (counted there) set_up (OfSolution m) (Solution m))) marked
        ∙ ap (λ (r : Result LinearProgram SelectionFault). or_selection_fault card r
        (λ program. asks (OfSolution mark) (record { problem = present.problem; lp = program }) set_up
        (λ lines. next (Prints (Solution mark lines)) (counted there)))) is_selected

  pub solving_is : (verb : Verb ℕ) (solver : Solver) (limit : Option ℕ) (card : ℕ) → IsSolving s.cells verb solver limit →
      verb_move verb card (counted there) ≡ solves solver limit card (counted there)
  unfolding verb_move
  solving_is _ _ _ card by_primal = refl
  solving_is _ _ _ card by_dual = refl

  pub showing_is : (verb : Verb ℕ) (card : ℕ) → verb ≡ SolutionVerb → verb_move verb card (counted there) ≡ shows card (counted there)
  unfolding verb_move
  showing_is verb card is = ap (λ (v : Verb ℕ). verb_move v card (counted there)) is

  abbrev after_verdict : List ℕ → PathVerdict → Walker
  after_verdict more verdict = record (passed more 1 w) { pending = pending_after w.rest verdict Checked }

  verdict_turn : (solver : Solver) (verdict : PathVerdict) (outcome : StatementOutcome) (more : List ℕ) → FindsChecked program s solver verdict outcome →
      w.pending ≡ None →
      w.rest ≡ verdict_text solver verdict Checked ++ more → begins_table_line more ≡ false → Turned checker_of_128_bits outcome (after_verdict more verdict)
  verdict_turn solver verdict outcome more found none text plain =
      let card = found.step.statement.card in
      let present = found.selects.present in
      let walked_present = set_up present found.selects.is_setup found.selects.lp found.selects.is_selected in
      record {
        own = after_path solver card walked_present (counted there) (Reached [] verdict Checked);
        alike =
            subst (λ (o : StatementOutcome). AreAlike (after_path solver card walked_present (counted there) (Reached [] verdict Checked)) o)
            (sym found.is_outcome)
            (verdict_alike (Solved solver verdict Checked)
            (record (counted s) { setup = Some (gone_through found.bases present); mark = Some (mark_of verdict) }) like.opening (like.steps ++ [])
            (mark_of verdict));
        is =
            step_turn checker_of_128_bits linear_programming outcome found.step
            ∙ ap (walk_move checker_of_128_bits w)
            (solving_is found.step.statement.verb solver found.limit card found.is_solving
            ∙ solves_selected present found.selects.is_setup found.selects.lp found.selects.is_selected solver found.limit card)
            ∙ walks_on.selects checker_of_128_bits w present.problem (choice_of s.cells present.options)
            (asks (OfPath solver found.limit) (sheet_of found.selects) walked_present
            (after_path solver card walked_present (counted there))) found.selects.is_made
            ∙ walks_on.verdict w walked_present (after_path solver card walked_present (counted there)) solver (sheet_of found.selects)
            (present_basis present) found.limit found.bases verdict more none text found.is_solved found.fits plain;
      }

  pub verdict_goes : (solver : Solver) (verdict : PathVerdict) (after : State) (more : List ℕ) →
      FindsChecked program s solver verdict (Goes (Prints (Solved solver verdict Checked)) after) → w.pending ≡ None →
      w.rest ≡ verdict_text solver verdict Checked ++ more → begins_table_line more ≡ false →
      GoesOn (turn checker_of_128_bits program w) (to_show verdict) after more (w.reports + 1)
  verdict_goes solver verdict after more found none text plain =
      let turned = verdict_turn solver verdict (Goes (Prints (Solved solver verdict Checked)) after) more found none text plain in
      goes_on (after_verdict more verdict) turned.own (Prints (Solved solver verdict Checked)) after (to_show verdict)
      (turn checker_of_128_bits program w) turned.is turned.alike (verdict_pending w.rest verdict)

  pub verdict_ends : (solver : Solver) (verdict : PathVerdict) (ending : Ending) →
      FindsChecked program s solver verdict (Ends (Prints (Solved solver verdict Checked)) ending) → w.pending ≡ None →
      w.rest ≡ verdict_text solver verdict Checked ++ ending_text ending → begins_table_line (ending_text ending) ≡ false →
      is_open_stop (ending_text ending) ≡ false →
      turn checker_of_128_bits program w ≡ Finds (Attested (w.reports + 1))
  verdict_ends solver verdict ending found none text plain closed =
      let turned = verdict_turn solver verdict (Ends (Prints (Solved solver verdict Checked)) ending) (ending_text ending) found none text plain in
      ends_so (after_verdict (ending_text ending) verdict) turned.own (Prints (Solved solver verdict Checked)) ending
      (turn checker_of_128_bits program w) turned.is turned.alike
      (nothing_pending w.rest verdict (Solved solver verdict Checked) _ (Prints (Solved solver verdict Checked)) ending found.is_outcome) refl closed

  -- ---- SOLUTION

  pub solution_goes : (waiting : Option ℚ) (objective : ℚ) (lines : SolutionLines) (more : List ℕ) → ShowsChecked program s objective lines →
      (waiting ≡ None) ⊎ (waiting ≡ Some objective) → IsPending waiting w.pending →
      w.rest ≡ solution_text Optimal lines ++ more →
      GoesOn (turn checker_of_128_bits program w) None (record (counted s) { position = s.position + 1 }) more (w.reports + 1)
  solution_goes waiting objective lines more shown either waits text =
      let settling = settled waiting w.pending objective waits either in
      let card = shown.step.statement.card in
      let walked_present = set_up shown.selects.present shown.selects.is_setup shown.selects.lp shown.selects.is_selected in
      goes_on (record (passed more 1 w) { pending = None }) (next (Prints (Solution Optimal lines)) (counted there)) (Prints (Solution Optimal lines))
      (record (counted s) { position = s.position + 1 }) None (turn checker_of_128_bits program w)
      (step_turn checker_of_128_bits linear_programming (next (Prints (Solution Optimal lines)) (counted s)) shown.step
      ∙ ap (walk_move checker_of_128_bits w)
      (showing_is shown.step.statement.verb card shown.is_verb
      ∙ shows_selected shown.selects.present shown.selects.is_setup shown.selects.lp shown.selects.is_selected Optimal card shown.is_mark)
      ∙ walks_on.solution w walked_present (λ shown_lines. next (Prints (Solution Optimal shown_lines)) (counted there)) shown.solver
      (sheet_of shown.selects) shown.from shown.limit shown.bases shown.steps objective lines settling.at more settling.is text shown.is_shown)
      (refl, record { opening = like.opening; steps = like.steps; is = refl }) refl
