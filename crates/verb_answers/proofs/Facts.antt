-- What a call makes of a parametric run is what PARAOBJ and PARARHS answer.
use Rattle.std.proofs.Common.{◌≡◌, ℕ, ◌-◌, ◌⊎◌, inl, inr, List, [], ◌∷◌, ◌++◌, Option, length, refl, sym, ◌∙◌, ap, subst, arith}
use Rattle.std.proofs.lemmas.List.{append_assoc}
use Rattle.exact_values.specs.Rational.{ℚ}
use Rattle.frac128.specs.declared.Refused.{Refused}
use Rattle.lp_definitions.specs.LinearProgram.{LinearProgram}
use Rattle.lp_definitions.specs.Basis.{Basics, basics_of}
use Rattle.lp_definitions.specs.Waypoints.{waypoint}
use Rattle.lp_definitions.specs.declared.Evidence.{Evidence}
use Rattle.lp_definitions.specs.declared.Status.{Status}
use Rattle.lp_model.specs.RatesCalls.{IfOverflow}
use Rattle.lp_model.specs.declared.Stop.{Stop}
use Rattle.lp_model.specs.declared.Stop.TheVariants as call_stop
use Rattle.lp_model.specs.declared.reports.Outcome.{Outcome}
use Rattle.lp_model.specs.declared.reports.ParaReport.{ParaReport}
use Rattle.lp_model.specs.declared.reports.ParaReport.TheVariants as reports
use Rattle.simplex_definitions.specs.Path.{PathEnding, EndsOptimal, EndsCrossed, EndsInfeasible, EndsUnbounded, last_of}
use Rattle.simplex_definitions.specs.Counts.{counted_steps}
use Rattle.simplex_definitions.specs.Chain.{FaceTurn, InOpening, Reaches, begins, breakpoint_of}
use Rattle.simplex_definitions.specs.ObjectiveRun.{objective_family, IsObjectiveFace}
use Rattle.simplex_definitions.specs.RhsRun.{rhs_family, IsRhsFace}
use Rattle.simplex_definitions.specs.Statements.{SolvingStatement, Paraobj, Pararhs}
use Rattle.simplex_definitions.specs.Evidence.{EvidenceHolds, ShiftHolds}
use Rattle.listing_definitions.specs.Report.{Check}
use Rattle.problem_definitions.specs.Names.{Name}
use Rattle.question_definitions.specs.Answers.{Basis, Changing, Row, Set, ParametricRun}
use Rattle.answer_definitions.specs.Verdicts.{found, verdict_of, check_of, IsVerdict}
use Rattle.answer_definitions.specs.ParametricRuns.{row_of, shifts_of, family_of, IsFace, sheet_at}
use Rattle.answer_definitions.specs.Evidence.{last_basis, parametric_run_statement, at_basis, of_limit}
use Rattle.listing_tables.specs.declared.sheet.Sheet.{Sheet}
use Rattle.bounded_dual.specs.Stops.{DualEnds}
use Rattle.report_text.specs.Verdicts.{verdict_view, check_view}
use Rattle.bounded_primal.specs.Calls.{outcome_of}
use Rattle.bounded_primal.specs.declared.moves.PrimalStop.{PrimalStop}
use Rattle.bounded_primal.specs.declared.moves.PrimalStop.TheVariants.{Limit, Overflow, NoMemory}
use Rattle.bounded_primal.specs.Stops.{primal_stop_of}
use Rattle.parametric_run.specs.Calls.{RunEnds, StandsThere, RunOverflows, RunStops}
use Rattle.parametric_run.proofs.Walks.{opening_reaches}
use Rattle.para_objective.specs.Faces as objective
use Rattle.para_objective.specs.Runs.{ObjectiveEnds, ObjectiveStops}
use Rattle.para_objective.specs.declared.parts.ParaObj.{ParaObj}
use Rattle.verb_answers.specs.Answers.{sheet_view}
use Rattle.verb_answers.specs.Reports.{IsCheckedSo, IsDualReached}
use Rattle.para_rhs.specs.Faces as rhs
use Rattle.para_rhs.specs.Runs.{RhsEnds, RhsStops}
use Rattle.para_rhs.specs.declared.parts.ParaRhs.{ParaRhs}
use Rattle.verb_answers.specs.RunReports.{IsOpening, IsOpeningChecked, IsAnswered, RunOverflowsThere, LimitOverflows, ParametricRunStops}
use Rattle.verb_answers.specs.Objective.{IsObjectiveAnswered, ObjectiveRunStops}
use Rattle.verb_answers.specs.Objective.{parametric_run_of as row_parametric_run}
use Rattle.verb_answers.specs.RightHandSide.{IsRhsAnswered, RhsRunStops}
use Rattle.verb_answers.specs.RightHandSide.{parametric_run_of as set_parametric_run}
use Rattle.parametric_laws.proofs.Runs.{last_of-append}

-- the last of a list that ends with s
pub last_is : (earlier : List Basis) (s : Basis) → last_basis (earlier ++ s ∷ []) ≡ s
last_is [] s = refl
last_is (first ∷ earlier) s = last_of-append first earlier (s ∷ [])

-- the check of an outcome is that of its ending
ending_checked : (p : LinearProgram) (steps : ℕ) (ending : PathEnding) (check : Check) → IsCheckedSo p (outcome_of steps ending) (found check) →
    check_of p ending ≡ found check
ending_checked p steps (EndsOptimal z y) check h = sym h
ending_checked p steps (EndsCrossed k) check h = sym h
ending_checked p steps (EndsInfeasible w) check h = sym h
ending_checked p steps (EndsUnbounded z d) check h = sym h

-- the verdict of an outcome is that of its ending, in the linear program at the first value
verdict_is : (sheet : Sheet) (changing : Changing) (from : ℚ) (steps : ℕ) (ending : PathEnding) →
    verdict_view sheet (outcome_of (counted_steps steps) ending) ≡ verdict_of (sheet_at (sheet_view sheet) changing from) steps ending
verdict_is sheet (Row name) from steps (EndsOptimal z y) = refl
verdict_is sheet (Row name) from steps (EndsCrossed k) = refl
verdict_is sheet (Row name) from steps (EndsInfeasible w) = refl
verdict_is sheet (Row name) from steps (EndsUnbounded z d) = refl
verdict_is sheet (Set name) from steps (EndsOptimal z y) = refl
verdict_is sheet (Set name) from steps (EndsCrossed k) = refl
verdict_is sheet (Set name) from steps (EndsInfeasible w) = refl
verdict_is sheet (Set name) from steps (EndsUnbounded z d) = refl

-- ---- the dual path

verdict_of_path : (sheet : Sheet) (steps : ℕ) (ending : PathEnding) →
    verdict_view sheet (outcome_of (counted_steps steps) ending) ≡ verdict_of (sheet_view sheet) steps ending
verdict_of_path sheet steps (EndsOptimal z y) = refl
verdict_of_path sheet steps (EndsCrossed k) = refl
verdict_of_path sheet steps (EndsInfeasible w) = refl
verdict_of_path sheet steps (EndsUnbounded z d) = refl

pub dual_reached : (sheet : Sheet) (s now : Basis) (limit : ℕ) (outcome : Outcome) (refused : Option Refused) → DualEnds sheet.lp.now s now limit outcome →
    IsCheckedSo sheet.lp.now outcome (found (check_view refused)) →
    IsDualReached sheet s now limit (record { outcome = outcome; refused = refused })
dual_reached sheet s now limit outcome refused ends checked = (
  ends.right,
  record {
    bases = ends.call.bases;
    leads = ends.call.reaches;
    reaches = record {
      ending = ends.call.ending;
      ends = ends.call.ends;
      within_limit = ends.call.within;
      is_verdict = record {
        is_verdict = ap (verdict_view sheet) ends.call.is_outcome ∙ verdict_of_path sheet (length ends.call.bases) ends.call.ending;
        is_check =
            ending_checked sheet.lp.now (counted_steps (length ends.call.bases)) ends.call.ending (check_view refused)
            (subst (λ o. IsCheckedSo sheet.lp.now o (found (check_view refused))) ends.call.is_outcome checked);
      };
    };
  },
)

-- ---- parametric runs

module _ (sheet : Sheet) (parametric_run : ParametricRun) (s now : Basis) (before after : List Basics) where
  abbrev programs : ℚ → LinearProgram
  programs = family_of (sheet_view sheet) parametric_run.changing

  abbrev Turns : ℚ → List Status → FaceTurn → Type 0
  Turns = IsFace (sheet_view sheet) parametric_run.changing

  abbrev statement : SolvingStatement
  statement = parametric_run_statement (sheet_view sheet) parametric_run.changing parametric_run.from

  is_verdict : (steps : ℕ) (ending : PathEnding) (outcome : Outcome) (check : Check) → outcome ≡ outcome_of (counted_steps steps) ending →
      IsCheckedSo (programs parametric_run.from) outcome (found check) →
      IsVerdict (sheet_at (sheet_view sheet) parametric_run.changing parametric_run.from) steps ending (verdict_view sheet outcome) check
  is_verdict steps ending outcome check e h = record {
    is_verdict = ap (verdict_view sheet) e ∙ verdict_is sheet parametric_run.changing parametric_run.from steps ending;
    is_check =
        ending_checked (programs parametric_run.from) (counted_steps steps) ending check
        (subst (λ o. IsCheckedSo (programs parametric_run.from) o (found check)) e h);
  }

  answered : (report : ParaReport) (refused : Option Refused) →
      RunEnds programs Turns parametric_run.from parametric_run.to s now parametric_run.limit sheet.lp.now.matrix before after report →
      IsOpeningChecked (programs parametric_run.from) report refused →
      IsAnswered sheet parametric_run s now before after (record { report = report; refused = refused })
  answered (reports.Opening outcome) refused ends checked = record {
    bases = ends.bases;
    run_through = record {
      ending = ends.is_report.ending;
      opens = ends.is_report.opens;
      within_limit = ends.within;
      is_verdict = is_verdict (length ends.bases) ends.is_report.ending outcome (check_view refused) ends.is_report.is_outcome checked;
    };
    leads = ends.reaches;
    lie = ends.lie;
  }
  answered (reports.Run run) refused ends checked = record {
    bases = ends.bases;
    run_through = record {
      parts = _;
      past = _;
      is_run = ends.is_report;
      within_limit = ends.within;
      are_intervals = refl;
      is_end = refl;
    };
    leads = ends.reaches;
    lie = ends.lie;
  }

  -- a run whose opening isn't optimal stands at the last basis of that
  opening_stands : (report : ParaReport) → IsOpening report →
      RunEnds programs Turns parametric_run.from parametric_run.to s now parametric_run.limit sheet.lp.now.matrix before after report →
      StandsThere programs Turns parametric_run.from parametric_run.to s now parametric_run.limit
  opening_stands (reports.Opening outcome) is ends = record {
    place = InOpening (last_of s ends.bases);
    path = ends.bases;
    ends = [];
    reaches = opening_reaches programs Turns parametric_run.from parametric_run.to sheet.lp.now.matrix s before ends.bases ends.is_report.opens.opens.is_path;
    is_now = ends.reaches;
    within = ends.within;
  }
  opening_stands (reports.Run run) is ends = absurd is

  overflows : (e : Evidence) →
      RunOverflows programs Turns parametric_run.from parametric_run.to s now parametric_run.limit statement sheet.lp.now.matrix before after e →
      RunOverflowsThere sheet parametric_run s now before after e
  overflows e stop = record {
    stands = stop.stands;
    is_way = stop.is_way;
    overflows = λ earlier lie. at_basis
        (record {
          standing = stop.stands.place;
          steps = stop.stands.path;
          ends = stop.stands.ends;
          reaches =
              subst (λ (b : Basis). Reaches programs Turns parametric_run.from parametric_run.to b stop.stands.place stop.stands.path stop.stands.ends)
              (sym (last_is earlier s)) stop.stands.reaches;
          left = parametric_run.limit - length stop.stands.path;
          is_left = let within = stop.stands.within in omega (arith, within);
        })
        (record {
          basis = now;
          way = waypoint (basics_of now) after e.way;
          holds =
              subst (λ (bs : List Basis). EvidenceHolds statement (breakpoint_of stop.stands.place)
              (parametric_run.limit - length stop.stands.path) bs stop.stands.ends now (waypoint (basics_of now) after e.way) e)
              (sym (append_assoc earlier (s ∷ []) stop.stands.path)) (stop.shows earlier lie);
          is_place = refl;
        });
  }

  -- evidence of a limit at the first value is evidence as the run begins
  limit_overflows : (e : Evidence) → StandsThere programs Turns parametric_run.from parametric_run.to s now parametric_run.limit → ShiftHolds statement [] e →
      LimitOverflows sheet parametric_run s now before after e
  limit_overflows e stands shift = record {
    stands = stands;
    overflows = λ earlier. of_limit
        (record {
          standing = InOpening
              (last_basis (earlier ++ s ∷ []));
          steps = [];
          ends = [];
          reaches = begins;
          left = parametric_run.limit;
          is_left = omega arith;
        })
        shift refl;
  }

  stops : (Given Reported : Evidence → Type 0) → ((e : Evidence) → Given e → Reported e) → (why : PrimalStop) →
      RunStops programs Turns parametric_run.from parametric_run.to s now parametric_run.limit Given why →
      ParametricRunStops sheet parametric_run s now before after Reported why
  stops Given Reported reported Limit h = record { goes_on = h.goes_on; is_now = h.is_now }
  stops Given Reported reported (Overflow e) h = reported e h
  stops Given Reported reported NoMemory h = h

-- ---- a run of the objective: the row by its number

module _ (sheet : Sheet) (run : ParaObj) (s now : Basis) (before after : List Basics) where
  abbrev RowEnds : ParaReport → ℕ → Type 0
  RowEnds report h =
      RunEnds (objective_family sheet.lp.now h) (IsObjectiveFace sheet.lp.now h) run.from run.to s now run.limit sheet.lp.now.matrix before after report

  abbrev RowOverflows : ℕ → Evidence → Type 0
  RowOverflows h =
      RunOverflows (objective_family sheet.lp.now h) (IsObjectiveFace sheet.lp.now h) run.from run.to s now run.limit
      (Paraobj sheet.lp.now h run.from) sheet.lp.now.matrix before after

  pub objective_answered : (report : ParaReport) (refused : Option Refused) → ObjectiveEnds sheet.lp.now run s now before after report →
      IsOpeningChecked (objective.family sheet.lp.now run run.from) report refused →
      IsObjectiveAnswered sheet run s now before after (record { report = report; refused = refused })
  objective_answered report refused ends checked name is =
      answered sheet (row_parametric_run name run) s now before after report refused (subst (RowEnds report) (sym is) ends)
      (subst (λ (h : ℕ). IsOpeningChecked (objective_family sheet.lp.now h run.from) report refused) (sym is) checked)

  pub objective_stops : (why : PrimalStop) → ObjectiveStops sheet.lp.now run s now before after why → ObjectiveRunStops sheet run s now before after why
  objective_stops why h name is =
      stops sheet (row_parametric_run name run) s now before after (RowOverflows (row_of sheet.problem.now name))
      (RunOverflowsThere sheet (row_parametric_run name run) s now before after)
      (λ e o. overflows sheet (row_parametric_run name run) s now before after e o) why
      (subst (λ (h : ℕ). RunStops (objective_family sheet.lp.now h) (IsObjectiveFace sheet.lp.now h) run.from run.to s now run.limit (RowOverflows h) why)
      (sym is) h)

  -- memory ran out in the check of an opening
  pub objective_unchecked : (report : ParaReport) → IsOpening report → ObjectiveEnds sheet.lp.now run s now before after report →
      ObjectiveRunStops sheet run s now before after NoMemory
  objective_unchecked report opening ends name is =
      opening_stands sheet (row_parametric_run name run) s now before after report opening (subst (RowEnds report) (sym is) ends)

-- ---- a run of the right-hand side: the set by its shifts

module _ (sheet : Sheet) (run : ParaRhs) (s now : Basis) (before after : List Basics) where
  abbrev SetEnds : ParaReport → List ℚ → Type 0
  SetEnds report xs = RunEnds (rhs_family sheet.lp.now xs) (IsRhsFace sheet.lp.now xs) run.from run.to s now run.limit sheet.lp.now.matrix before after report

  abbrev SetOverflows : List ℚ → Evidence → Type 0
  SetOverflows xs e =
      RunOverflows (rhs_family sheet.lp.now xs) (IsRhsFace sheet.lp.now xs) run.from run.to s now run.limit
      (Pararhs sheet.lp.now xs run.from) sheet.lp.now.matrix before after e ⊎
      (StandsThere (rhs_family sheet.lp.now xs) (IsRhsFace sheet.lp.now xs) run.from run.to s now run.limit × ShiftHolds
      (Pararhs sheet.lp.now xs run.from) [] e)

  abbrev Reported : Name → Evidence → Type 0
  Reported name e =
      RunOverflowsThere sheet (set_parametric_run name run) s now before after e ⊎ LimitOverflows sheet (set_parametric_run name run) s now before after e

  reported : (name : Name) (e : Evidence) → SetOverflows (shifts_of sheet.problem.now name) e → Reported name e
  reported name e (inl o) = inl (overflows sheet (set_parametric_run name run) s now before after e o)
  reported name e (inr o) = inr (limit_overflows sheet (set_parametric_run name run) s now before after e o.0 o.1)

  pub rhs_answered : (report : ParaReport) (refused : Option Refused) → RhsEnds sheet.lp.now run s now before after report →
      IsOpeningChecked (rhs.family sheet.lp.now run run.from) report refused →
      IsRhsAnswered sheet run s now before after (record { report = report; refused = refused })
  rhs_answered report refused ends checked name is =
      answered sheet (set_parametric_run name run) s now before after report refused (subst (SetEnds report) (sym is) ends)
      (subst (λ (xs : List ℚ). IsOpeningChecked (rhs_family sheet.lp.now xs run.from) report refused) (sym is) checked)

  pub rhs_stops : (why : PrimalStop) → RhsStops sheet.lp.now run s now before after why → RhsRunStops sheet run s now before after why
  rhs_stops why h name is =
      stops sheet (set_parametric_run name run) s now before after (SetOverflows (shifts_of sheet.problem.now name)) (Reported name) (reported name) why
      (subst (λ (xs : List ℚ). RunStops (rhs_family sheet.lp.now xs) (IsRhsFace sheet.lp.now xs) run.from run.to s now run.limit (SetOverflows xs) why)
      (sym is) h)

  -- a limit that is too large, or memory that ran out, in the check of an opening
  pub rhs_unchecked : (stop : Stop) (report : ParaReport) → IsOpening report → RhsEnds sheet.lp.now run s now before after report →
      IfOverflow stop (ShiftHolds (Pararhs sheet.lp.now run.shift.items run.from) []) → RhsRunStops sheet run s now before after (primal_stop_of stop)
  rhs_unchecked (call_stop.Overflow e) report opening ends shift name is =
      inr (limit_overflows sheet (set_parametric_run name run) s now before after e
      (opening_stands sheet (set_parametric_run name run) s now before after report opening (subst (SetEnds report) (sym is) ends))
      (subst (λ (xs : List ℚ). ShiftHolds (Pararhs sheet.lp.now xs run.from) [] e) (sym is) shift))
  rhs_unchecked call_stop.NoMemory report opening ends shift name is =
      opening_stands sheet (set_parametric_run name run) s now before after report opening (subst (SetEnds report) (sym is) ends)
