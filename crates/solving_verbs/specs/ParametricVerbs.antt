-- What PARAOBJ and PARARHS find, and what is left.
--     refusal_of stop              why a statement does nothing, where nothing is asked for
--     parametric_run_view parametric_run    the run as code holds it, in the words of runs
--     Serves problem p parametric_run    the run can be made in the linear program p
--     BeginsRun sheet state basis parametric_run    where a run begins
--     IsRunOverflow result         what a refused operation of a run comes to
--     ParametricRunFinds gain finding    the run from a basis ends so, or is stopped so
--     ReportsAnswer result         what is printed of an answer is what the run finds
--     ParametricRuns gain finding  the verb finds this with a setup, and has this to print
--     cells_left finding cells     the cells after it
use Rattle.std.specs.Prelude.{◌≡◌, ◌≢◌, ◌⊎◌, ℕ, List, [], ◌∷◌, ◌++◌, Option, None, Result, Ok, option_map}
use Rattle.exact_values.specs.Rational.{ℚ, ◌≤ℚ◌}
use Rattle.lp_definitions.specs.LinearProgram.{LinearProgram}
use Rattle.lp_definitions.specs.Basis.{Basics}
use Rattle.lp_definitions.specs.declared.Evidence.{Evidence}
use Rattle.job_devices.specs.States.{SinkState}
use Rattle.lp_model.specs.RatesState.{RatesState}
use Rattle.lp_model.specs.declared.reports.ParaEnd.{ParaEnd}
use Rattle.lp_model.specs.declared.reports.ParaEnd.TheVariants.{AtMax, Unbounded, Infeasible}
use Rattle.problem_definitions.specs.Problem.{Problem}
use Rattle.selection_definitions.specs.Selection.{selected}
use Rattle.listing_definitions.specs.declared.VerbFault.{VerbFault}
use Rattle.listing_definitions.specs.Report.{PathVerdict, Check, ParametricInterval, ChainEnd, Solved, Parametric}
use Rattle.listing_definitions.specs.Ending.{Place}
use Rattle.control_definitions.specs.Cells.{Cells}
use Rattle.fitting_answers.specs.Fitting.{VerdictFits, CheckFits, IntervalsFit, EndFits, EvidenceFits}
use Rattle.basis_values.specs.Calls.{IsAtBasis, LieIn}
use Rattle.bounded_primal.specs.declared.moves.PrimalStop.{PrimalStop}
use Rattle.question_definitions.specs.Answers.{Basis, Sheet, changing_name, parametric_solver, ParametricRun, OfParametricRun, ParametricRunEnd, Opening}
use Rattle.question_definitions.specs.Answers.{Chained, ParametricRunLimit}
use Rattle.answer_definitions.specs.ParametricRuns.{IsParametricRun}
use Rattle.answer_definitions.specs.Evidence.{OverflowsAt}
use Rattle.listing_tables.specs.Sheets.{IsSheet}
use Rattle.listing_tables.specs.declared.sheet.Sheet.{Sheet as OwnSheet}
use Rattle.verb_answers.specs.Objective as objective
use Rattle.verb_answers.specs.Reports.{sheet_view}
use Rattle.verb_answers.specs.RunReports.{IsAnswered, RunOverflowsThere, LimitOverflows, ParametricRunStops}
use Rattle.verb_answers.specs.RightHandSide as right_hand_side
use Rattle.run_definitions.specs.State.{choice_of}
use Rattle.run_definitions.specs.Moves.{Gain, Nothing, Prints}
use Rattle.run_definitions.specs.Verbs.{mark_of, last_value}
use Rattle.run_machine.specs.declared.act.Halt.{Halt}
use Rattle.run_machine.specs.declared.end.Place.{Place as OwnPlace}
use Rattle.verb_answers.specs.declared.report.RunReport.{RunReport}
use Rattle.run_machine.specs.declared.finding.Finding.{Finding}
use Rattle.run_machine.specs.declared.finding.Finding.TheVariants.{Refused, Overflow, Limit, Ended, RanThrough}
use Rattle.setup_verbs.specs.Kept.{Setup}
use Rattle.run_machine.specs.declared.selecting.Refusal.{Refusal}
use Rattle.run_machine.specs.declared.selecting.Refusal.TheVariants.{Fault, NoMemory}
use Rattle.parametric_request.specs.declared.request.ParametricVerb.{ParametricVerb}
use Rattle.parametric_request.specs.declared.request.Change.TheVariants as changes
use Rattle.parametric_request.specs.declared.request.RequestStop.{RequestStop}
use Rattle.parametric_request.specs.declared.request.RequestStop.TheVariants as stops
use Rattle.parametric_request.specs.Asking.{IsAsked, IsAskFault, ServesChange}
use Rattle.solving_verbs.specs.declared.requested_run.ParametricRun.{ParametricRun as OwnParametricRun}
use Rattle.solving_verbs.specs.declared.requested_run.ParametricRun.TheVariants as own
use Rattle.run_machine.specs.Choosing.{HasSelectionFault, HasSelectionOverflow}
use Rattle.run_machine.specs.Ends.{place_view}
use Rattle.run_machine.specs.Findings.{ReportsFinding}
use Rattle.setup_verbs.specs.Overflows.{IsOverflowAt}
use Rattle.solving_verbs.specs.Reaching.{ReachesBy}

-- ---- what a verb asks for

-- why a statement does nothing, where nothing is asked for
abbrev pub refusal_of : RequestStop → Refusal
refusal_of (stops.Fault fault) = Fault fault
refusal_of stops.NoMemory = NoMemory

-- ---- the run

abbrev pub parametric_run_view : OwnParametricRun → ParametricRun
parametric_run_view (own.Row name run) = objective.parametric_run_of name run
parametric_run_view (own.Set name run) = right_hand_side.parametric_run_of name run

-- the run can be made in this linear program
abbrev pub Serves : Problem ℕ → LinearProgram → OwnParametricRun → Type 0
Serves problem p (own.Row name run) = ServesChange problem p name (changes.Row run.row) × (run.from ≤ℚ run.to)
Serves problem p (own.Set name run) = ServesChange problem p name (changes.Set run.shift) × (run.from ≤ℚ run.to)

-- at a basis of the sheet's linear program, to whose objective no row is added, with the rates of this basis; the run can be made there
pub record BeginsRun (at : OwnSheet) (state : RatesState) (basis : Basis) (parametric_run : OwnParametricRun) : Type 0 where
  pub sheet : IsSheet at
  pub no_change : at.lp.now.change ≡ None
  pub rates : IsAtBasis state at.lp.now basis
  pub serves : Serves at.problem.now at.lp.now parametric_run

-- where a run stops; a limit of a row may be too large at the first value
abbrev pub StopsParametricRun : OwnSheet → ParametricRun → Basis → Basis → List Basics → List Basics → PrimalStop → Type 0
StopsParametricRun sheet parametric_run s now before after stop =
    ParametricRunStops sheet parametric_run s now before after
    (λ e. RunOverflowsThere sheet parametric_run s now before after e ⊎ LimitOverflows sheet parametric_run s now before after e) stop

-- the value at which a run has ended, where it is asked to go up to this one
abbrev pub value_left : ℚ → ParaEnd → ℚ
value_left to AtMax = to
value_left to (Unbounded past point direction) = past
value_left to (Infeasible past ray) = past

-- an operation of a run is refused: formula 13 is that of a limit at the first value, which has no place
abbrev pub IsRunOverflow : Basis → List Basics → Evidence → Result Finding Halt → Type 0
IsRunOverflow s after e result =
    (e.formula ≡ 13 → result ≡ Ok (Overflow e None)) × (e.formula ≢ 13 → IsOverflowAt s after e result)

-- ---- what is found

module _ (sheet : Sheet) (s now : Basis) (parametric_run : ParametricRun) (before after : List Basics) where
  -- the run from s goes over these bases to now, and ends there so
  abbrev pub ParametricRunReaches : List Basis → ParametricRunEnd → Type 0
  ParametricRunReaches bases end = ReachesBy (IsParametricRun sheet s parametric_run end) sheet s now before after bases

  -- for every list of bases that ends with s, in which the waypoints lay before, the run from there may stop with this evidence
  abbrev pub ParametricRunOverflows : Evidence → Option Place → Type 0
  ParametricRunOverflows e place = (earlier : List Basis) →
      LieIn sheet.lp.matrix before (earlier ++ s ∷ []) →
      OverflowsAt (OfParametricRun parametric_run) sheet (earlier ++ s ∷ []) e place

  -- the verdict on its opening is printed; or its intervals are, and it has come to this value; or it goes on past the limit; or an
  -- operation is refused; the numbers that are printed fit
  pub data ParametricRunFinds : Gain → Finding → Type 0 where
    opened : {bases : List Basis} {verdict : PathVerdict} {check : Check} →
        ParametricRunReaches bases (Opening bases verdict check) → VerdictFits verdict × CheckFits check →
        ParametricRunFinds (Prints (Solved (parametric_solver parametric_run.changing) verdict check)) (Ended (mark_of verdict))
    chained : {bases : List Basis} {intervals : List ParametricInterval} {end : ChainEnd} →
        ParametricRunReaches bases (Chained bases intervals end) → IntervalsFit intervals × EndFits end →
        ParametricRunFinds
        (Prints (Parametric (parametric_solver parametric_run.changing)
        (record { from = parametric_run.from; change = changing_name parametric_run.changing; intervals = intervals; end = end })))
        (RanThrough (last_value end))
    at_limit : IsParametricRun sheet s parametric_run ParametricRunLimit → ParametricRunFinds Nothing Limit
    overflows : {e : Evidence} {place : Option OwnPlace} →
        ParametricRunOverflows e (option_map place_view place) → EvidenceFits e → ParametricRunFinds Nothing (Overflow e place)

-- from whichever basis the run was made that has this answer
abbrev pub ReportsAnswer : OwnSheet → OwnParametricRun → RunReport → SinkState → SinkState → Result Finding Halt → Type 0
ReportsAnswer sheet parametric_run answer print_old print_new result =
    (s reached : Basis) (before after : List Basics) →
    IsAnswered sheet (parametric_run_view parametric_run) s reached before after answer →
    ReportsFinding (ParametricRunFinds (sheet_view sheet) s reached (parametric_run_view parametric_run) before after) print_old print_new result

-- With these cells the selection of a setup's problem is refused, or what the verb asks for is; or the run is made from the present
-- basis, and the setup keeps where it has come to.
pub data ParametricRuns (problem : Problem ℕ) (cells : Cells) (verb : ParametricVerb) (setup new : Setup) : Gain → Finding → Type 0 where
  unselected : {fault : VerbFault} →
      HasSelectionFault problem (choice_of cells setup.options) fault →
      ParametricRuns problem cells verb setup new Nothing (Refused fault)
  too_large : {e : Evidence} → HasSelectionOverflow problem (choice_of cells setup.options) e →
      ParametricRuns problem cells verb setup new Nothing (Overflow e None)
  not_asked : {lp : LinearProgram} {fault : VerbFault} →
      selected problem (choice_of cells setup.options) ≡ Ok lp →
      IsAskFault verb problem cells fault →
      ParametricRuns problem cells verb setup new Nothing (Refused fault)
  run_through : {lp : LinearProgram} {parametric_run : ParametricRun} {gain : Gain} {finding : Finding} →
      selected problem (choice_of cells setup.options) ≡ Ok lp →
      IsAsked verb problem cells parametric_run →
      new.name ≡ setup.name → new.options ≡ setup.options →
      ParametricRunFinds (record { problem = problem; lp = lp }) setup.basis new.basis parametric_run
      setup.engine.waypoints new.engine.waypoints gain finding →
      ParametricRuns problem cells verb setup new gain finding

-- ---- what is left

-- a run that has gone on leaves XPARAM at its last value
abbrev pub cells_left : Finding → Cells → Cells
cells_left (RanThrough value) cells = record cells { xparam = value }
cells_left _ cells = cells
