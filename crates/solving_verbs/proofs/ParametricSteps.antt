-- What PARAOBJ and PARARHS find.
use Rattle.std.proofs.Common.{◌≡◌, ◌≢◌, ℕ, ◌≤◌, ◌⊎◌, inl, inr, List, [], ◌∷◌, ◌++◌, Option, None, Some, Result, Ok, Err, length, map, refl, sym, ap, subst, ◌∙◌}
use Rattle.std.specs.Prelude.{MatchResult}
use native.Mathlib.Decide.{ℕ_discrete}
use Rattle.std.specs.List.{enumerate_from}
use Rattle.std.proofs.lemmas.List.{length-map}
use Rattle.std.proofs.lemmas.List.FromFn.{length-enumerate_from}
use Rattle.exact_values.specs.Rational.{ℚ}
use Rattle.frac128.specs.declared.Refused.{Refused as RefusedOperation}
use Rattle.job_devices.specs.States.{SinkState}
use Rattle.job_devices.specs.declared.device.WriteStop.{WriteStop}
use Rattle.job_devices.specs.Text.{Writes}
use Rattle.lp_definitions.specs.LinearProgram.{LinearProgram}
use Rattle.lp_definitions.specs.Basis.{Basics, basics_of}
use Rattle.lp_definitions.specs.Waypoints.{waypoint}
use Rattle.lp_definitions.specs.declared.Evidence.{Evidence}
use Rattle.lp_model.specs.declared.reports.Outcome.{Outcome}
use Rattle.lp_model.specs.declared.reports.ParaReport.TheVariants as para_reports
use Rattle.lp_model.specs.declared.reports.ParaRun.{ParaRun}
use Rattle.problem_definitions.specs.Names.{Name}
use Rattle.problem_definitions.specs.Problem.{Problem}
use Rattle.problem_file.specs.Filed.{Filed, filed_under}
use Rattle.control_definitions.specs.Cells.{Cells, steps_allowed}
use Rattle.selection_definitions.specs.Choice.{Choice}
use Rattle.selection_definitions.specs.Selection.{selected}
use Rattle.listing_definitions.specs.declared.Mark.{Mark}
use Rattle.listing_definitions.specs.declared.Solver.{Solver}
use Rattle.listing_definitions.specs.Report.{Solved, Parametric, Chain}
use Rattle.listing_definitions.specs.Text.{report_text}
use Rattle.listing_definitions.specs.Ending as endings
use Rattle.question_definitions.specs.Answers.{Basis, parametric_solver, changing_name, ParametricRun, OfParametricRun}
use Rattle.answer_definitions.specs.ParametricRuns.{shifts_of, sheet_at, interval_of, end_of}
use Rattle.answer_definitions.specs.Evidence.{OverflowsAt}
use Rattle.listing_tables.specs.declared.sheet.Sheet.{Sheet as OwnSheet}
use Rattle.fitting_answers.specs.Fitting.{VerdictFits, CheckFits, IntervalsFit, EndFits, EvidenceFits}
use Rattle.report_text.specs.Parametric.{interval_view, end_view, chain_view}
use Rattle.report_text.specs.Verdicts.{verdict_view, check_view}
use Rattle.parametric_run.specs.Calls as calls
use Rattle.verb_answers.specs.Reports.{sheet_view}
use Rattle.verb_answers.specs.RunReports.{IsAnswered, RunOverflowsThere, LimitOverflows}
use Rattle.run_definitions.specs.State.{choice_of}
use Rattle.run_definitions.specs.Moves.{Gain, Nothing, Prints}
use Rattle.run_definitions.specs.Verbs.{mark_of, last_value}
use Rattle.run_machine.specs.declared.act.Halt.{Halt}
use Rattle.run_machine.specs.declared.act.Halt.TheVariants as halt
use Rattle.run_machine.specs.declared.end.Place.{Place as OwnPlace}
use Rattle.run_machine.specs.declared.finding.Finding.{Finding}
use Rattle.run_machine.specs.declared.finding.Finding.TheVariants.{Ended, Overflow, RanThrough}
use Rattle.lp_model.specs.RatesState.{RatesState}
use Rattle.setup_verbs.specs.Kept.{Setup}
use Rattle.solving_verbs.proofs.SelectedAgain.{name_kept, options_kept, basis_kept, engine_kept, now_is}
use Rattle.run_machine.specs.declared.selecting.Refusal.{Refusal}
use Rattle.run_machine.specs.declared.selecting.Refusal.TheVariants.{Fault, NoMemory}
use Rattle.run_machine.specs.declared.selecting.Refusal.TheVariants as refusal
use Rattle.solving_verbs.specs.declared.requested_run.ParametricRun.{ParametricRun as OwnParametricRun}
use Rattle.parametric_request.specs.declared.request.ParametricVerb.{ParametricVerb}
use Rattle.run_machine.specs.Choosing.{IsUnselected}
use Rattle.run_machine.specs.Ends.{place_view}
use Rattle.run_machine.specs.Findings.{ReportsFinding, refused_finding}
use Rattle.parametric_request.specs.declared.request.Change.{Change}
use Rattle.parametric_request.specs.declared.request.Change.TheVariants as changes
use Rattle.parametric_request.specs.declared.request.ParametricRequest.{ParametricRequest}
use Rattle.parametric_request.specs.declared.request.RequestStop.{RequestStop}
use Rattle.parametric_request.specs.declared.request.RequestStop.TheVariants as stops
use Rattle.parametric_request.specs.Asking.{IsNotAsked, IsAsked, IsChangeOf, IsOf, ServesChange, Serves, parametric_run_of}
use Rattle.solving_verbs.specs.ParametricVerbs.{refusal_of, parametric_run_view, value_left, IsRunOverflow, ParametricRunFinds, opened, chained, overflows}
use Rattle.solving_verbs.specs.ParametricVerbs.{ParametricRuns, unselected, too_large, not_asked, run_through}
use Rattle.setup_verbs.proofs.Reporting.{tells_more, tells_quietly, overflow_tells}
use Rattle.solving_verbs.proofs.LimitFormula.{placed_apart, unplaced_limit}
use Rattle.solving_verbs.proofs.ParametricLines.{last_same, chain_same}
use Rattle.setup_verbs.proofs.Present.{as_many_rows, one_problem}

-- ---- what is printed of a run

module _ (sheet : OwnSheet) (parametric_run : ParametricRun) (s now : Basis) (before after : List Basics) (refused : Option RefusedOperation) (by : Solver)
    (named : by ≡ parametric_solver parametric_run.changing) where
  abbrev Finds : Gain → Finding → Type 0
  Finds = ParametricRunFinds (sheet_view sheet) s now parametric_run before after

  -- a verdict on the opening
  module _ (outcome : Outcome) (a : IsAnswered sheet parametric_run s now before after (record { report = para_reports.Opening outcome; refused = refused }))
      (fit : VerdictFits (verdict_view sheet outcome) × CheckFits (check_view refused)) where
    abbrev verdict : Gain
    verdict = Prints (Solved by (verdict_view sheet outcome) (check_view refused))

    opening_found : Finds verdict (Ended (mark_of (verdict_view sheet outcome)))
    opening_found =
        subst (λ (b : Solver). Finds (Prints (Solved b (verdict_view sheet outcome) (check_view refused))) (Ended (mark_of (verdict_view sheet outcome))))
        (sym named)
        (opened {bases = a.bases} (record { reaches = a.run_through; leads = a.leads; lie = a.lie }) fit)

    module _ (print_old print_new : SinkState) where
      pub opening_reported : (mark : Mark) → mark ≡ mark_of (verdict_view sheet outcome) →
          Writes {T = Unit {0}} print_old print_new (Ok tt) (report_text (Solved by (verdict_view sheet outcome) (check_view refused))) →
          ReportsFinding Finds print_old print_new (Ok (Ended mark))
      opening_reported mark e writes = record { gain = verdict; holds = subst (λ (m : Mark). Finds verdict (Ended m)) (sym e) opening_found; writes = writes }

      pub opening_cut : (stop : WriteStop) →
          Writes {T = Unit {0}} print_old print_new (Err stop) (report_text (Solved by (verdict_view sheet outcome) (check_view refused))) →
          ReportsFinding Finds print_old print_new (Err (halt.Print stop))
      opening_cut stop writes = record { gain = verdict; finding = Ended (mark_of (verdict_view sheet outcome)); holds = opening_found; writes = writes }

  -- the intervals and their end
  module _ (run : ParaRun) (a : IsAnswered sheet parametric_run s now before after (record { report = para_reports.Run run; refused = refused }))
      (change : Name) (from to : ℚ)
      (changes : change ≡ changing_name parametric_run.changing) (begins : from ≡ parametric_run.from) (goes : to ≡ parametric_run.to)
      (fit : IntervalsFit (map (interval_view sheet) run.parts) × EndFits (end_view sheet to run.end)) where
    abbrev intervals : Gain
    intervals = Prints (Parametric by (chain_view sheet change from to run))

    abbrev whole : Chain
    whole = record {
      from = parametric_run.from;
      change = changing_name parametric_run.changing;
      intervals = map (interval_of (sheet_at (sheet_view sheet) parametric_run.changing parametric_run.from)) (map calls.part_of run.parts);
      end = end_of (sheet_view sheet) parametric_run.to (calls.end_of run.end);
    }

    same_chain : whole ≡ chain_view sheet change from to run
    same_chain =
        sym (chain_same sheet parametric_run.changing (changing_name parametric_run.changing) parametric_run.from parametric_run.to run)
        ∙ (λ i. chain_view sheet (sym changes i) (sym begins i) (sym goes i) run)

    same_last : last_value (end_of (sheet_view sheet) parametric_run.to (calls.end_of run.end)) ≡ value_left to run.end
    same_last = last_same sheet parametric_run.to run.end ∙ ap (λ (x : ℚ). value_left x run.end) (sym goes)

    chain_found : (value : ℚ) → value ≡ value_left to run.end → Finds intervals (RanThrough value)
    chain_found value e =
        subst (λ (v : ℚ). Finds intervals (RanThrough v)) (same_last ∙ sym e)
        (subst (λ (c : Chain). Finds (Prints (Parametric by c))
        (RanThrough (last_value (end_of (sheet_view sheet) parametric_run.to (calls.end_of run.end))))) same_chain
        (subst (λ (b : Solver). Finds (Prints (Parametric b whole))
        (RanThrough (last_value (end_of (sheet_view sheet) parametric_run.to (calls.end_of run.end))))) (sym named)
        (chained {bases = a.bases} (record { reaches = a.run_through; leads = a.leads; lie = a.lie })
        (subst (λ (c : Chain). IntervalsFit c.intervals × EndFits c.end) (sym same_chain) fit))))

    module _ (print_old print_new : SinkState) where
      pub chain_reported : (value : ℚ) → value ≡ value_left to run.end →
          Writes {T = Unit {0}} print_old print_new (Ok tt) (report_text (Parametric by (chain_view sheet change from to run))) →
          ReportsFinding Finds print_old print_new (Ok (RanThrough value))
      chain_reported value e writes = record { gain = intervals; holds = chain_found value e; writes = writes }

      pub chain_cut : (stop : WriteStop) →
          Writes {T = Unit {0}} print_old print_new (Err stop) (report_text (Parametric by (chain_view sheet change from to run))) →
          ReportsFinding Finds print_old print_new (Err (halt.Print stop))
      chain_cut stop writes =
          record { gain = intervals; finding = RanThrough (value_left to run.end); holds = chain_found (value_left to run.end) refl; writes = writes }

-- ---- where a run stops

module _ (sheet : OwnSheet) (parametric_run : ParametricRun) (s now : Basis) (before after : List Basics) (e : Evidence)
    (o : RunOverflowsThere sheet parametric_run s now before after e ⊎ LimitOverflows sheet parametric_run s now before after e) where
  abbrev Stops : Gain → Finding → Type 0
  Stops = ParametricRunFinds (sheet_view sheet) s now parametric_run before after

  -- where it isn't formula 13, it is at a basis
  pub is_way : e.formula ≢ 13 → e.way ≤ length after
  is_way other = by o
    where
      by : RunOverflowsThere sheet parametric_run s now before after e ⊎ LimitOverflows sheet parametric_run s now before after e → e.way ≤ length after
      by (inl there) = there.is_way
      by (inr limit) = absurd (other (unplaced_limit (sheet_view sheet) (s ∷ []) parametric_run e (limit.overflows [])))

  at_limit_formula : e.formula ≡ 13 → EvidenceFits e → Stops Nothing (Overflow e None)
  at_limit_formula is fit =
      overflows {place = None}
      (λ earlier lie. by o earlier (λ there. placed_apart (sheet_view sheet) (earlier ++ s ∷ []) parametric_run e _ (there.overflows earlier lie) is)) fit
    where
      by : RunOverflowsThere sheet parametric_run s now before after e ⊎ LimitOverflows sheet parametric_run s now before after e → (earlier : List Basis) →
          (RunOverflowsThere sheet parametric_run s now before after e → ⊥) →
          OverflowsAt (OfParametricRun parametric_run) (sheet_view sheet) (earlier ++ s ∷ []) e None
      by (inl there) earlier apart = absurd (apart there)
      by (inr limit) earlier apart = limit.overflows earlier

  at_place : e.formula ≢ 13 → (place : OwnPlace) → place_view place ≡ record { basis = now; way = waypoint (basics_of now) after e.way } → EvidenceFits e →
      Stops Nothing (Overflow e (Some place))
  at_place other place is fit = by o
    where
      by : RunOverflowsThere sheet parametric_run s now before after e ⊎ LimitOverflows sheet parametric_run s now before after e →
          Stops Nothing (Overflow e (Some place))
      by (inl there) =
          overflows (λ earlier lie. subst
          (λ (p : endings.Place). OverflowsAt (OfParametricRun parametric_run) (sheet_view sheet) (earlier ++ s ∷ []) e (Some p)) (sym is)
          (there.overflows earlier lie)) fit
      by (inr limit) = absurd (other (unplaced_limit (sheet_view sheet) (s ∷ []) parametric_run e (limit.overflows [])))

  pub run_overflow_tells : (print : SinkState) (result : Result Finding Halt) → IsRunOverflow now after e result → EvidenceFits e →
      ReportsFinding Stops print print result
  run_overflow_tells print result reported fit = by (ℕ_discrete e.formula 13)
    where
      by : Dec (e.formula ≡ 13) → ReportsFinding Stops print print result
      by (yes is) =
          subst (λ (r : Result Finding Halt). ReportsFinding Stops print print r) (sym (reported.0 is))
          (tells_quietly Stops print (Ok (Overflow e None)) (at_limit_formula is fit))
      by (no other) = overflow_tells Stops print now after e result (reported.1 other) (at_place other)

-- ---- what is asked for can be run

module _ (problem : Problem ℕ) (choice : Choice) (lp : LinearProgram) (ok : selected problem choice ≡ Ok lp) where
  values_counted : (name : Name) → length (shifts_of problem name) ≡ length problem.rows
  values_counted name = length-map (enumerate_from 1 problem.rows) _ ∙ length-enumerate_from 1 problem.rows

  serves_change : (name : Name) (change : Change) → IsChangeOf problem name change → ServesChange problem lp name change
  serves_change name (changes.Row row) is = let free = is.1 choice lp ok in (is.0, free.0, free.1)
  serves_change name (changes.Set shift) is = (is, ap length (sym is) ∙ values_counted name ∙ as_many_rows problem choice lp ok)

  pub serves : (request : ParametricRequest) → IsOf problem request → Serves problem lp request
  serves request is = (serves_change request.name request.change is.0, is.1)

-- the run of a request is the one that is asked for
pub asked_of : (verb : ParametricVerb) (problem : Problem ℕ) (cells : Cells) (request : ParametricRequest) (run : OwnParametricRun) (limit : ℕ) →
    limit ≡ steps_allowed cells → parametric_run_view run ≡ parametric_run_of limit request →
    IsAsked verb problem cells (parametric_run_of (steps_allowed cells) request) → IsAsked verb problem cells (parametric_run_view run)
asked_of verb problem cells request run limit is viewed asked =
    subst (IsAsked verb problem cells) (sym (viewed ∙ ap (λ n. parametric_run_of n request) is)) asked

-- ---- what is found with a setup

-- The setup that code has opened, which is the one that is spoken of, and what is left of it.
module _ (verb : ParametricVerb) (cells : Cells) (file : Filed) {setup old : Setup} (is_old : setup ≡ old) (new : Setup) (there : Problem ℕ)
    (is_there : filed_under setup.name file ≡ Some there) where
  at_problem : (print_old print_new : SinkState) (result : Result Finding Halt) →
      ReportsFinding (ParametricRuns there cells verb setup new) print_old print_new result →
      (problem : Problem ℕ) → filed_under old.name file ≡ Some problem → ReportsFinding (ParametricRuns problem cells verb old new) print_old print_new result
  at_problem print_old print_new result t problem on_file =
      subst (λ (s : Setup). ReportsFinding (ParametricRuns problem cells verb s new) print_old print_new result) is_old
      (subst (λ (q : Problem ℕ). ReportsFinding (ParametricRuns q cells verb setup new) print_old print_new result)
      (one_problem file setup there problem is_there (ap (λ (s : Setup). filed_under s.name file) is_old ∙ on_file)) t)

  refusal_found : (why : Refusal) → IsUnselected there (choice_of cells setup.options) why →
      MatchResult (refused_finding why) (ParametricRuns there cells verb setup new Nothing) (λ h. h ≡ halt.NoMemory)
  refusal_found (Fault fault) u = unselected u
  refusal_found (refusal.Overflow e) u = too_large u
  refusal_found NoMemory u = refl

  pub unselected_reported : (print : SinkState) (why : Refusal) → IsUnselected there (choice_of cells setup.options) why →
      (problem : Problem ℕ) → filed_under old.name file ≡ Some problem →
      ReportsFinding (ParametricRuns problem cells verb old new) print print (refused_finding why)
  unselected_reported print why u =
      at_problem print print (refused_finding why) (tells_quietly (ParametricRuns there cells verb setup new) print (refused_finding why) (refusal_found why u))

  module _ (lp : LinearProgram) (ok : selected there (choice_of cells setup.options) ≡ Ok lp) where
    unasked_found : (why : RequestStop) → IsNotAsked verb there cells why →
        MatchResult (refused_finding (refusal_of why)) (ParametricRuns there cells verb setup new Nothing) (λ h. h ≡ halt.NoMemory)
    unasked_found (stops.Fault fault) u = not_asked ok u
    unasked_found stops.NoMemory u = refl

    pub unasked_reported : (print : SinkState) (why : RequestStop) → IsNotAsked verb there cells why →
        (problem : Problem ℕ) → filed_under old.name file ≡ Some problem →
        ReportsFinding (ParametricRuns problem cells verb old new) print print (refused_finding (refusal_of why))
    unasked_reported print why u =
        at_problem print print (refused_finding (refusal_of why))
        (tells_quietly (ParametricRuns there cells verb setup new) print (refused_finding (refusal_of why)) (unasked_found why u))

    pub run_reported : (parametric_run : ParametricRun) → IsAsked verb there cells parametric_run →
        (print_old print_new : SinkState) (result : Result Finding Halt) → new.name ≡ setup.name → new.options ≡ setup.options →
        ReportsFinding
        (ParametricRunFinds
        (record { problem = there; lp = lp }) setup.basis new.basis parametric_run setup.engine.waypoints new.engine.waypoints) print_old print_new result →
        (problem : Problem ℕ) → filed_under old.name file ≡ Some problem → ReportsFinding (ParametricRuns problem cells verb old new) print_old print_new result
    run_reported parametric_run a print_old print_new result same_name same_options t =
        at_problem print_old print_new result
        (tells_more (ParametricRunFinds (record { problem = there; lp = lp }) setup.basis new.basis parametric_run setup.engine.waypoints new.engine.waypoints)
        (ParametricRuns there cells verb setup new) print_old print_new
        (λ gain finding f. run_through ok a same_name same_options f) result t)

-- The run of a setup of whose problem was selected again.
module _ (verb : ParametricVerb) (cells : Cells) (file : Filed) (setup : Setup) {given mid : Setup} (seen : mid ≡ given)
    (others : given ≡ record setup { objective = given.objective; rhs = given.rhs; lp = given.lp }) (problem : Problem ℕ)
    (on_file : filed_under setup.name file ≡ Some problem)
    (ok : selected problem (choice_of cells setup.options) ≡ Ok given.lp) where
  pub again_reported : (new : Setup) → new.name ≡ mid.name → new.options ≡ mid.options → (parametric_run : ParametricRun) →
      IsAsked verb problem cells parametric_run → (print_old print_new : SinkState) (result : Result Finding Halt) →
      ReportsFinding
      (ParametricRunFinds
      (record { problem = problem; lp = mid.lp }) mid.basis new.basis parametric_run mid.engine.waypoints new.engine.waypoints) print_old print_new result →
      (filed : Problem ℕ) → filed_under setup.name file ≡ Some filed → ReportsFinding (ParametricRuns filed cells verb setup new) print_old print_new result
  again_reported new name options parametric_run asked print_old print_new result t =
      run_reported verb cells file refl new problem on_file mid.lp
      (now_is setup seen others file problem cells ok) parametric_run asked print_old print_new result
      (name ∙ name_kept setup seen others) (options ∙ options_kept setup seen others)
      (subst (λ (b : Basis). ReportsFinding
      (ParametricRunFinds
      (record { problem = problem; lp = mid.lp }) b new.basis parametric_run setup.engine.waypoints new.engine.waypoints) print_old print_new result)
      (basis_kept setup seen others)
      (subst (λ (e : RatesState). ReportsFinding
      (ParametricRunFinds
      (record { problem = problem; lp = mid.lp }) mid.basis new.basis parametric_run e.waypoints new.engine.waypoints) print_old print_new result)
      (engine_kept setup seen others) t))
