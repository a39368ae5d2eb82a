-- A whole run in which nothing is open is attested by the checker of any length.
--     TurnsTo w ..                 what a turn of the walk comes to, where the run comes to this
--     IsLasting program s          what is known of a state to which a run comes that makes each selection
use Rattle.std.proofs.Common.{◌≡◌, ◌≤◌, ◌⊎◌, inl, inr, ℕ, ◌+◌, Bool, true, false, List, [], ◌∷◌, ◌++◌, length, Option, Some, None, Result, Ok, if◌then◌else◌}
use Rattle.std.proofs.Common.{refl, sym, ap, subst, ◌∙◌}
use Rattle.std.specs.Prelude.{is_none, option_and_then}
use Rattle.exact_values.specs.Rational.{ℚ}
use Rattle.lp_definitions.specs.LinearProgram.{LinearProgram, IsLinearProgram}
use Rattle.problem_definitions.specs.Names.{Name}
use Rattle.problem_definitions.specs.Problem.{Problem}
use Rattle.control_definitions.specs.Program.{Verb, Program}
use Rattle.control_definitions.specs.Cells.{steps_allowed}
use Rattle.selection_definitions.specs.declared.SelectionFault.{SelectionFault}
use Rattle.selection_definitions.specs.Selection.{selected}
use Rattle.selection_laws.proofs.Selected.{selected_is_lawful, selected_without_change}
use Rattle.simplex_laws.specs.Laws.{IsNonsingularBasis}
use Rattle.listing_definitions.specs.declared.Mark.{Mark}
use Rattle.listing_definitions.specs.declared.Mark.TheVariants.{Optimal, Infeasible, Unbounded}
use Rattle.listing_definitions.specs.declared.Solver.{Solver}
use Rattle.listing_definitions.specs.declared.VerbFault.{VerbFault}
use Rattle.listing_definitions.specs.Report.{PathVerdict, OptimalAt, CrossedAt, InfeasibleBy, UnboundedBy, Check, SolutionLines, Report, Solved, Solution}
use Rattle.listing_definitions.specs.Report.{Parametric}
use Rattle.listing_definitions.specs.Listing.{ending_text}
use Rattle.question_definitions.specs.Answers.{Sheet, Changing, parametric_solver, ParametricRun, OfPath, OfSolution, OfParametricRun, PathEnd, Reached}
use Rattle.question_definitions.specs.Answers.{ParametricRunEnd, Opening, Chained}
use Rattle.run_definitions.specs.State.{Present, present_basis, gone_through, State, choice_of}
use Rattle.run_definitions.specs.Moves.{Gain, Prints, printed_by, gain_text, gain_of, StatementOutcome, Goes, Ends, next, InSelection, StatementMove, MayStop}
use Rattle.run_definitions.specs.Moves.{DecidesAlone, or_fault}
use Rattle.run_definitions.specs.Verbs.{or_selection_fault, selects_present, not_less, mark_of, asks, after_path, after_parametric_run, parametric_runs}
use Rattle.run_definitions.specs.Verbs.{verb_move}
use Rattle.run_definitions.specs.Run.{counted, Step}
use Rattle.soundness_laws.specs.Truth.{IsOfProblem}
use Rattle.soundness_laws.specs.ParametricRuns.{ChangesFreely}
use Rattle.soundness_laws.proofs.ChangeRow.{changes_freely, row_named, set_named}
use Rattle.walk_definitions.specs.Checkers.{checker_of_any_length}
use Rattle.walk_definitions.specs.Forms.{is_open_stop}
use Rattle.walk_definitions.specs.Words.{max_count}
use Rattle.walk_definitions.specs.Tests.{point_of}
use Rattle.walk_definitions.specs.Reading.{Right, judged}
use Rattle.walk_definitions.specs.Walker.{Pending, Walker, Wrong, WalkTurn, Finds, open_if, follows, passed, pending_after, noted, settles, settled, settling}
use Rattle.walk_definitions.specs.Walker.{refuses_selection, walk_move, turn}
use Rattle.fitting_answers.specs.Real.{linear_programming_of_128_bits}
use Rattle.own_listing_laws.specs.Laws.{KeepsMark, chain_of}
use Rattle.own_listing_laws.specs.Attestable.{sheet_of}
use Rattle.own_listing_laws.specs.WholeRuns.{waits_after, ShowsAll}
use Rattle.own_listing_laws.proofs.Pace.{rebased, EndsSo, IsDue}
use Rattle.own_listing_laws.proofs.Paths.{verdict_gain}
use Rattle.own_listing_laws.proofs.Paced.{ends_here}
use Rattle.own_listing_laws.proofs.Own.{IsKnown}
use Rattle.own_listing_laws.proofs.Rightly.{judged_right_at_any_length}
use Rattle.own_listing_laws.proofs.Alike.{IsRebased, AreAlike}
use Rattle.own_listing_laws.proofs.Onward.{asked, path_unopened, walks_on}
use Rattle.own_listing_laws.proofs.Stepping.{step_turn, statement_turn, verdict_alike, solves_selected, shows_selected, solving_is, showing_is}
use Rattle.own_listing_laws.proofs.Came.{IsStuck, IsQuiet, IsQuietGain, quiet_shows, IsChanging, of_objective, of_rhs, ComesOfPath, ComesOfSolution, BeginsRun}
use Rattle.own_listing_laws.proofs.Came.{run_of, ComesOfOpening, ComesOfRun, ComesOpen, Came, alone, of_path, of_solution, of_opening, of_run, opens, stops_so}

-- ---- what waits

-- what a verdict leaves pending waits
verdict_pends : (rest : List ℕ) (waiting : Bool) (solver : Solver) (verdict : PathVerdict) (check : Check) →
    (pending_after rest verdict check ≡ None) ⊎ (waits_after waiting (Solved solver verdict check) ≡ true)
verdict_pends rest waiting solver (OptimalAt steps objective) check = inr refl
verdict_pends rest waiting solver (CrossedAt k) check = inl refl
verdict_pends rest waiting solver (InfeasibleBy steps lines) check = inl refl
verdict_pends rest waiting solver (UnboundedBy steps objective lines) check = inl refl

-- where nothing waits, nothing is pending
pub none_waits : (pending : Option Pending) (waiting : Bool) → (pending ≡ None) ⊎ (waiting ≡ true) → waiting ≡ false → pending ≡ None
none_waits pending waiting (inl none) done = none
none_waits pending waiting (inr waits) done = let e : true ≡ false = sym waits ∙ done in absurd (cc e)

-- once the mark is cleared, no SOLUTION shows what waits
abbrev pub IsHeld : StatementOutcome → List Report → Type 0
IsHeld (Goes gain after) reports = after.mark ≡ None → ShowsAll true reports → ⊥
IsHeld (Ends gain ending) reports = ShowsAll true reports → ⊥

kept_by : (outcome : StatementOutcome) (reports : List Report) → IsHeld outcome reports → ShowsAll true reports → KeepsMark outcome
kept_by (Goes gain after) reports held shown = by after.mark refl
  where
    by : (mark : Option Mark) → after.mark ≡ mark → is_none after.mark ≡ false
    by None is = absurd (held is shown)
    by (Some mark) is = ap is_none is
kept_by (Ends gain ending) reports held shown = absurd (held shown)

-- ---- a turn of the walk

module _ (program : Program) (w : Walker) (s : State) (like : IsRebased w.state s) where
  -- where the run comes to this outcome, so does the walk, with what is left of the listing; and what is pending then waits to be shown
  pub record TurnsTo (outcome : StatementOutcome) (more : List ℕ) (reports : List Report) : Type 0 where
    pub u : Walker
    pub own : StatementOutcome
    pub alike : AreAlike own outcome
    pub is : turn checker_of_any_length program w ≡ follows u own
    pub is_rest : u.rest ≡ more
    pub counts : u.reports ≡ w.reports + length (printed_by (gain_of outcome))
    pub waiting : Bool
    pub shows : ShowsAll waiting reports
    pub pends : (u.pending ≡ None) ⊎ (waiting ≡ true)

  abbrev there : State
  there = record s { setup = rebased like.opening like.steps s.setup }

  -- ---- the move of a parametric run

  changing_is : (verb : Verb ℕ) (fault : VerbFault) (change : Problem ℕ → Name → Option Changing) (moved : Option Name) (card : ℕ) →
      IsChanging s.cells verb fault change moved → verb_move verb card (counted there) ≡ parametric_runs card fault change moved (counted there)
  unfolding verb_move
  changing_is _ _ _ _ card of_objective = refl
  changing_is _ _ _ _ card of_rhs = refl

  part_named : (verb : Verb ℕ) (fault : VerbFault) (change : Problem ℕ → Name → Option Changing) (moved : Option Name) →
      IsChanging s.cells verb fault change moved → (problem : Problem ℕ) (changing : Changing) → option_and_then (change problem) moved ≡ Some changing →
      IsOfProblem changing problem
  part_named _ _ _ _ of_objective problem changing is = (row_named s.cells problem changing is).0
  part_named _ _ _ _ of_rhs problem changing is = (set_named s.cells problem changing is).0

  module _ (verb : Verb ℕ) (card : ℕ) (outcome : StatementOutcome) (begins : BeginsRun s verb card outcome) where
    abbrev own_present : Present
    own_present = begins.selects.present

    abbrev walked_present : Present
    walked_present = record own_present { opening = like.opening; steps = like.steps }

    abbrev asked_run : ParametricRun
    asked_run = run_of s verb card outcome begins

    abbrev run_goes : ParametricRunEnd → StatementOutcome
    run_goes = after_parametric_run card asked_run walked_present (counted there)

    abbrev asks_at : LinearProgram → Changing → ℚ → StatementMove
    asks_at lp changing to =
        asks (OfParametricRun (record { changing = changing; from = s.cells.xparam; to = to; limit = steps_allowed s.cells }))
        (record { problem = own_present.problem; lp = lp }) walked_present
        (after_parametric_run card (record { changing = changing; from = s.cells.xparam; to = to; limit = steps_allowed s.cells }) walked_present
        (counted there))

    runs_selected : parametric_runs card begins.fault begins.change begins.moved (counted there) ≡
        MayStop (InSelection own_present.problem (choice_of s.cells own_present.options))
        (asks (OfParametricRun asked_run) (sheet_of begins.selects) walked_present run_goes)
    runs_selected =
        ap (λ (setup : Option Present). or_fault card VerbFault.NoSetup (rebased like.opening like.steps setup)
        (λ given. selects_present card (counted there) given (λ lp.
        or_fault card begins.fault (option_and_then (begins.change given.problem) begins.moved) (λ changing.
        or_fault card VerbFault.NoParmax s.cells.xparmax (λ last.
        or_fault card VerbFault.ParmaxBelow (not_less s.cells.xparam last) (λ to.
        asks (OfParametricRun (record { changing = changing; from = s.cells.xparam; to = to; limit = steps_allowed s.cells }))
        (record { problem = given.problem; lp = lp }) given
        (after_parametric_run card (record { changing = changing; from = s.cells.xparam; to = to; limit = steps_allowed s.cells }) given
        (counted there)))))))) begins.selects.is_setup
        ∙ ap (λ (r : Result LinearProgram SelectionFault). or_selection_fault card r (λ lp.
        MayStop (InSelection own_present.problem (choice_of s.cells own_present.options))
        (or_fault card begins.fault (option_and_then (begins.change own_present.problem) begins.moved) (λ changing.
        or_fault card VerbFault.NoParmax s.cells.xparmax (λ last.
        or_fault card VerbFault.ParmaxBelow (not_less s.cells.xparam last) (λ to. asks_at lp changing to)))))) begins.selects.is_selected
        ∙ ap (λ (o : Option Changing). MayStop (InSelection own_present.problem (choice_of s.cells own_present.options))
        (or_fault card begins.fault o (λ changing.
        or_fault card VerbFault.NoParmax s.cells.xparmax (λ last.
        or_fault card VerbFault.ParmaxBelow (not_less s.cells.xparam last) (λ to. asks_at begins.selects.lp changing to))))) begins.is_changing
        ∙ ap (λ (o : Option ℚ). MayStop (InSelection own_present.problem (choice_of s.cells own_present.options))
        (or_fault card VerbFault.NoParmax o (λ last.
        or_fault card VerbFault.ParmaxBelow (not_less s.cells.xparam last) (λ to. asks_at begins.selects.lp begins.changing to)))) begins.is_last
        ∙ ap (λ (o : Option ℚ). MayStop (InSelection own_present.problem (choice_of s.cells own_present.options))
        (or_fault card VerbFault.ParmaxBelow o (λ to. asks_at begins.selects.lp begins.changing to))) begins.is_to

  -- ---- what the run comes to, and what is due

  module _ (is_known : IsKnown s) (limits : steps_allowed s.cells ≤ max_count) (outcome : StatementOutcome) (more : List ℕ) (reports : List Report)
      (step : Step linear_programming_of_128_bits program s outcome) (small : step.statement.card ≤ max_count)
      (due : IsDue w outcome more) (closed : is_open_stop w.rest ≡ false) (closed_end : is_open_stop more ≡ false)
      (waiting : Bool) (shown : ShowsAll waiting (printed_by (gain_of outcome) ++ reports)) (pends : (w.pending ≡ None) ⊎ (waiting ≡ true)) where
    abbrev verb : Verb ℕ
    verb = step.statement.verb

    abbrev card : ℕ
    card = step.statement.card

    -- what is known of a linear program that is selected
    module _ (present : Present) (set : s.setup ≡ Some present) (lp : LinearProgram)
        (is : selected present.problem (choice_of s.cells present.options) ≡ Ok lp) where
      lawful : IsLinearProgram lp
      lawful = selected_is_lawful present.problem (choice_of s.cells present.options) lp (is_known.lawful present set) is

      nonsingular : IsNonsingularBasis lp (present_basis present)
      nonsingular = (is_known.knows.bases present set).in_each s.cells.xobj s.cells.xrhs lp is

    -- the report that comes
    module _ (report : Report) (gain : gain_of outcome ≡ Prints report) where
      shown_so : ShowsAll waiting (report ∷ reports)
      shown_so = subst (λ (g : Gain). ShowsAll waiting (printed_by g ++ reports)) gain shown

      text_so : w.rest ≡ gain_text (Prints report) ++ more
      text_so = due.text ∙ ap (λ (g : Gain). gain_text g ++ more) gain

      count_so : w.reports + 1 ≡ w.reports + length (printed_by (gain_of outcome))
      count_so = ap (λ (g : Gain). w.reports + length (printed_by g)) (sym gain)

    -- ---- nothing is asked

    quietly : IsQuietGain (gain_of outcome) → ShowsAll waiting reports
    quietly quiet = quiet_shows waiting (gain_of outcome) reports quiet shown

    gain_quiet : (own : StatementOutcome) → IsQuiet s.mark own → IsQuietGain (gain_of own)
    gain_quiet (Goes gain after) quiet = quiet.0
    gain_quiet (Ends gain ending) quiet = quiet

    turns_alone : refuses_selection (verb_move verb card (counted s)) ≡ false → IsHeld outcome reports →
        DecidesAlone card (verb_move verb card (counted s)) outcome → IsQuiet s.mark outcome → TurnsTo outcome more reports
    turns_alone made held given quiet =
        let left = quietly (gain_quiet outcome quiet) in
        let turned =
        statement_turn program w s like checker_of_any_length linear_programming_of_128_bits outcome more step given made (kept left pends) due.text closed in
        record {
          u = passed more (length (printed_by (gain_of outcome))) w;
          own = turned.own;
          alike = turned.alike;
          is = turned.is;
          is_rest = refl;
          counts = refl;
          waiting = waiting;
          shows = left;
          pends = pends;
        }
      where
        kept : ShowsAll waiting reports → (w.pending ≡ None) ⊎ (waiting ≡ true) → (w.pending ≡ None) ⊎ KeepsMark outcome
        kept left (inl none) = inl none
        kept left (inr waits) = inr (kept_by outcome reports held (subst (λ b. ShowsAll b reports) waits left))

    -- ---- PRIMAL and DUAL

    turns_path : ComesOfPath s verb card outcome → TurnsTo outcome more reports
    turns_path path =
        let present = path.selects.present in
        let after : State = record (counted s) { setup = Some (gone_through path.bases present); mark = Some (mark_of path.verdict) } in
        let report = Solved path.solver path.verdict path.check in
        let gain : gain_of outcome ≡ Prints report = ap gain_of path.is ∙ verdict_gain (mark_of path.verdict) report after in
        let walked_so : Present = record present { opening = like.opening; steps = like.steps } in
        let go : PathEnd → StatementOutcome = after_path path.solver card walked_so (counted there) in
        let done = shown_so report gain in
        record {
          u = record (passed more 1 w) { pending = pending_after w.rest path.verdict path.check };
          own = go (Reached [] path.verdict path.check);
          alike =
              subst (λ (o : StatementOutcome). AreAlike (go (Reached [] path.verdict path.check)) o) (sym path.is)
              (verdict_alike report after like.opening (like.steps ++ []) (mark_of path.verdict));
          is =
              step_turn program w s like checker_of_any_length linear_programming_of_128_bits outcome step
              ∙ ap (walk_move checker_of_any_length w)
              (solving_is program w s like verb path.solver path.limit card path.is_solving
              ∙ solves_selected program w s like present path.selects.is_setup path.selects.lp path.selects.is_selected path.solver path.limit card)
              ∙ walks_on.selects checker_of_any_length w present.problem (choice_of s.cells present.options)
              (asks (OfPath path.solver path.limit) (sheet_of path.selects) walked_so go) path.selects.is_made
              ∙ asked checker_of_any_length w (OfPath path.solver path.limit) (sheet_of path.selects) walked_so go _
              (path_unopened w closed (none_waits w.pending waiting pends done.0))
              (ap (judged checker_of_any_length (OfPath path.solver path.limit) (sheet_of path.selects)) (text_so report gain)
              ∙ judged_right_at_any_length.verdict path.solver (sheet_of path.selects) (present_basis present) path.limit path.bases path.verdict path.check
              more (lawful present path.selects.is_setup path.selects.lp path.selects.is_selected)
              (selected_without_change present.problem (choice_of s.cells present.options) path.selects.lp path.selects.is_selected)
              (nonsingular present path.selects.is_setup path.selects.lp path.selects.is_selected) path.is_solved path.fits path.check_fits due.plain);
          is_rest = refl;
          counts = count_so report gain;
          waiting = waits_after waiting report;
          shows = done.1;
          pends = verdict_pends w.rest waiting path.solver path.verdict path.check;
        }

    -- ---- SOLUTION

    -- it settles what is pending, unless the walk finds that wrong
    settled_so : (shown_objective : ℚ) (turned went : WalkTurn) (pending : Option Pending) → ((rest : List ℕ) → turned ≡ Finds (Wrong rest) → ⊥) →
        turned ≡ settled checker_of_any_length w pending shown_objective went → turned ≡ went
    settled_so shown_objective turned went None never is = is
    settled_so shown_objective turned went (Some pending) never is = by (settles checker_of_any_length pending shown_objective) refl
      where
        by : (b : Bool) → settles checker_of_any_length pending shown_objective ≡ b → turned ≡ went
        by true e = is ∙ ap (λ c. if c then went else Finds (Wrong pending.rest)) e
        by false e = absurd (never pending.rest (is ∙ ap (λ c. if c then went else Finds (Wrong pending.rest)) e))

    record Shows (mark : Mark) (lines : SolutionLines) (own : StatementOutcome) (turned : WalkTurn) : Type 0 where
      pending : Option Pending
      is : turned ≡ follows (record (passed more 1 w) { pending = pending }) own
      leaves : (pending ≡ None) ⊎ (waits_after waiting (Solution mark lines) ≡ true)

    shows_so : (mark : Mark) (sheet : Sheet) (lines : SolutionLines) (own : StatementOutcome) (turned : WalkTurn) →
        ((rest : List ℕ) → turned ≡ Finds (Wrong rest) → ⊥) →
        turned ≡ settling checker_of_any_length w (OfSolution mark) sheet lines
        (follows (record (passed more 1 w) { pending = noted w (OfSolution mark) sheet lines }) own) →
        Shows mark lines own turned
    shows_so Optimal sheet lines own turned never is = record {
      pending = None;
      is = settled_so (point_of sheet lines sheet.lp.objective) turned (follows (record (passed more 1 w) { pending = None }) own) w.pending never is;
      leaves = inl refl;
    }
    shows_so Infeasible sheet lines own turned never is = record { pending = w.pending; is = is; leaves = pends }
    shows_so Unbounded sheet lines own turned never is = record { pending = w.pending; is = is; leaves = pends }

    turns_solution : ((rest : List ℕ) → turn checker_of_any_length program w ≡ Finds (Wrong rest) → ⊥) → ComesOfSolution s verb card outcome →
        TurnsTo outcome more reports
    turns_solution never view =
        let report = Solution view.mark view.lines in
        let gain : gain_of outcome ≡ Prints report = ap gain_of view.is in
        let walked_so : Present = record (view.present) { opening = like.opening; steps = like.steps } in
        let sheet : Sheet = record { problem = view.present.problem; lp = view.lp } in
        let go : SolutionLines → StatementOutcome = λ lines. next (Prints (Solution view.mark lines)) (counted there) in
        let done = shown_so report gain in
        let settled =
        shows_so view.mark sheet view.lines (go view.lines) (turn checker_of_any_length program w) never
        (step_turn program w s like checker_of_any_length linear_programming_of_128_bits outcome step
        ∙ ap (walk_move checker_of_any_length w)
        (showing_is program w s like verb card view.is_verb
        ∙ shows_selected program w s like view.present view.is_setup view.lp view.is_selected view.mark card view.is_mark)
        ∙ asked checker_of_any_length w (OfSolution view.mark) sheet walked_so go _ (ap (λ b. open_if b w) closed)
        (ap (judged checker_of_any_length (OfSolution view.mark) sheet) (text_so report gain)
        ∙ judged_right_at_any_length.solution view.mark sheet (present_basis view.present) view.lines more
        (lawful view.present view.is_setup view.lp view.is_selected) (nonsingular view.present view.is_setup view.lp view.is_selected)
        (ends_here s view.present view.lp view.is_setup view.is_selected is_known.knows view.mark view.is_mark) view.is_shown view.rows view.columns)) in
        record {
          u = record (passed more 1 w) { pending = settled.pending };
          own = go view.lines;
          alike =
              subst (λ (o : StatementOutcome). AreAlike (go view.lines) o) (sym view.is)
              (refl, record { opening = like.opening; steps = like.steps; is = refl });
          is = settled.is;
          is_rest = refl;
          counts = count_so report gain;
          waiting = waits_after waiting report;
          shows = done.1;
          pends = settled.leaves;
        }

    -- ---- PARAOBJ and PARARHS

    module _ (begins : BeginsRun s verb card outcome) where
      abbrev own_run : ParametricRun
      own_run = run_of s verb card outcome begins

      free : ChangesFreely (sheet_of begins.selects) begins.changing
      free =
          changes_freely (sheet_of begins.selects) (choice_of s.cells begins.selects.present.options) begins.changing
          (is_known.lawful begins.selects.present begins.selects.is_setup) begins.selects.is_selected
          (part_named verb begins.fault begins.change begins.moved begins.is_verb begins.selects.present.problem begins.changing begins.is_changing)

      run_lawful : IsLinearProgram begins.selects.lp
      run_lawful = lawful begins.selects.present begins.selects.is_setup begins.selects.lp begins.selects.is_selected

      run_nonsingular : IsNonsingularBasis begins.selects.lp (present_basis begins.selects.present)
      run_nonsingular = nonsingular begins.selects.present begins.selects.is_setup begins.selects.lp begins.selects.is_selected

      -- the turn, where so much is judged right
      run_turned : (answer : ParametricRunEnd) → waiting ≡ false →
          judged checker_of_any_length (OfParametricRun own_run) (sheet_of begins.selects) w.rest ≡ Right answer more →
          turn checker_of_any_length program w ≡ follows (record (passed more 1 w) { pending = None }) (run_goes verb card outcome begins answer)
      run_turned answer done right =
          step_turn program w s like checker_of_any_length linear_programming_of_128_bits outcome step
          ∙ ap (walk_move checker_of_any_length w)
          (changing_is verb begins.fault begins.change begins.moved card begins.is_verb ∙ runs_selected verb card outcome begins)
          ∙ walks_on.selects checker_of_any_length w begins.selects.present.problem (choice_of s.cells begins.selects.present.options)
          (asks (OfParametricRun own_run) (sheet_of begins.selects) (walked_present verb card outcome begins) (run_goes verb card outcome begins))
          begins.selects.is_made
          ∙ asked checker_of_any_length w (OfParametricRun own_run) (sheet_of begins.selects) (walked_present verb card outcome begins)
          (run_goes verb card outcome begins) _ (path_unopened w closed (none_waits w.pending waiting pends done)) right

    turns_opening : ComesOfOpening s verb card outcome → TurnsTo outcome more reports
    turns_opening opened =
        let begins = opened.begins in
        let after : State = record (counted s) { setup = Some (gone_through opened.bases begins.selects.present); mark = None } in
        let report = Solved (parametric_solver begins.changing) opened.verdict opened.check in
        let gain : gain_of outcome ≡ Prints report = ap gain_of opened.is ∙ verdict_gain (mark_of opened.verdict) report after in
        let done = shown_so report gain in
        record {
          u = record (passed more 1 w) { pending = None };
          own = run_goes verb card outcome begins (Opening [] opened.verdict opened.check);
          alike =
              subst (λ (o : StatementOutcome). AreAlike (run_goes verb card outcome begins (Opening [] opened.verdict opened.check)) o) (sym opened.is)
              (verdict_alike report after like.opening (like.steps ++ []) (mark_of opened.verdict));
          is =
              run_turned begins (Opening [] opened.verdict opened.check) done.0
              (ap (judged checker_of_any_length (OfParametricRun (own_run begins)) (sheet_of begins.selects)) (text_so report gain)
              ∙ judged_right_at_any_length.opening (sheet_of begins.selects) (present_basis begins.selects.present) (own_run begins) opened.bases opened.verdict
              opened.check more (run_lawful begins) (free begins) (run_nonsingular begins) opened.fails opened.fits opened.check_fits due.plain);
          is_rest = refl;
          counts = count_so report gain;
          waiting = waits_after waiting report;
          shows = done.1;
          pends = inl refl;
        }

    turns_run : ComesOfRun s verb card outcome → TurnsTo outcome more reports
    turns_run ran =
        let begins = ran.begins in
        let report = Parametric (parametric_solver begins.changing) (chain_of (own_run begins) ran.intervals ran.end) in
        let gain : gain_of outcome ≡ Prints report = ap gain_of ran.is in
        let done = shown_so report gain in
        record {
          u = record (passed more 1 w) { pending = None };
          own = run_goes verb card outcome begins (Chained [] ran.intervals ran.end);
          alike =
              subst (λ (o : StatementOutcome). AreAlike (run_goes verb card outcome begins (Chained [] ran.intervals ran.end)) o) (sym ran.is)
              (refl, record { opening = like.opening; steps = like.steps ++ []; is = refl });
          is =
              run_turned begins (Chained [] ran.intervals ran.end) done.0
              (ap (judged checker_of_any_length (OfParametricRun (own_run begins)) (sheet_of begins.selects)) (text_so report gain)
              ∙ judged_right_at_any_length.run (sheet_of begins.selects) (present_basis begins.selects.present) (own_run begins) ran.bases ran.intervals ran.end
              more (run_lawful begins) (free begins) (run_nonsingular begins) ran.is_chained ran.fits ran.end_fits due.plain);
          is_rest = refl;
          counts = count_so report gain;
          waiting = waits_after waiting report;
          shows = done.1;
          pends = inl refl;
        }

    -- ---- whatever it comes to

    never_opens : ComesOpen s verb card outcome → ⊥
    never_opens open_so =
        open_so.never waiting reports (subst (λ (o : StatementOutcome). ShowsAll waiting (printed_by (gain_of o) ++ reports)) open_so.is shown)

    -- a stop whose text is open is no end of such a run
    never_stuck : IsStuck card (steps_allowed s.cells) outcome → ⊥
    never_stuck stuck =
        let ends_so_far : more ≡ ending_text stuck.ending = subst (λ (o : StatementOutcome). EndsSo o more) stuck.is due.ends in
        let e : true ≡ false = sym (ap is_open_stop ends_so_far ∙ stuck.opens small limits) ∙ closed_end in
        cc e

    pub turns_to : refuses_selection (verb_move verb card (counted s)) ≡ false → IsHeld outcome reports →
        ((rest : List ℕ) → turn checker_of_any_length program w ≡ Finds (Wrong rest) → ⊥) → Came s verb card outcome → TurnsTo outcome more reports
    turns_to made held never (alone given quiet) = turns_alone made held given quiet
    turns_to made held never (of_path path) = turns_path path
    turns_to made held never (of_solution view) = turns_solution never view
    turns_to made held never (of_opening opened) = turns_opening opened
    turns_to made held never (of_run ran) = turns_run ran
    turns_to made held never (opens open_so) = absurd (never_opens open_so)
    turns_to made held never (stops_so stuck) = absurd (never_stuck stuck)
