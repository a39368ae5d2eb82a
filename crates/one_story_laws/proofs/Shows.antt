-- What two listings show in states that are the same but for the bases is worth the same.
use Rattle.std.proofs.Common.{◌≡◌, List, refl, sym, subst, ◌∙◌}
use Rattle.std.specs.Prelude.{Option, Some, Ok}
use Rattle.std.proofs.lemmas.Option.{same_Some}
use Rattle.exact_values.specs.Rational.{ℚ}
use Rattle.lp_definitions.specs.LinearProgram.{LinearProgram, objective_value}
use Rattle.control_definitions.specs.Cells.{Cells}
use Rattle.simplex_definitions.specs.Chain.{along}
use Rattle.selection_definitions.specs.Selection.{selected}
use Rattle.listing_definitions.specs.declared.Mark.{Mark}
use Rattle.listing_definitions.specs.declared.Mark.TheVariants.{Optimal, Infeasible, Unbounded}
use Rattle.listing_definitions.specs.declared.Solver.{Solver}
use Rattle.listing_definitions.specs.Report.{SolutionLines, ParametricInterval, Chain, Report, Titled, Converted, Revised, SetUp, BcdOut, BasisOut, Inserted}
use Rattle.listing_definitions.specs.Report.{Solved, Solution, Ranges, Parametric}
use Rattle.question_definitions.specs.Answers.{Sheet, Changing, ParametricRun}
use Rattle.answer_definitions.specs.ParametricRuns.{family_of}
use Rattle.run_definitions.specs.State.{Present, State, choice_of}
use Rattle.soundness_laws.specs.Truth.{PresentProgram, sheet_of, ReportsOfRun}
use Rattle.walk_definitions.specs.Tests.{point_of}
use Rattle.walk_laws.specs.Views.{part_of}
use Rattle.walk_definitions.specs.Checkers.{Checker}
use Rattle.walk_laws.specs.Proved.{Says}
use Rattle.one_story_laws.specs.Story.{ReportsSame}
use Rattle.one_story_laws.specs.Views.{SameActivity, objective_at, SameAlong, ShowsSame}
use Rattle.one_story_laws.proofs.Marks.{best_objective}
use Rattle.one_story_laws.proofs.Worth.{IsBestWorth, ShowsWorth, RunsWorth, SpeaksWorth, attested_worth}
use Rattle.one_story_laws.proofs.Alike.{SameSetup, no_setup, one_setup, SameStanding, standing}
use Rattle.one_story_laws.proofs.Questions.{same_sheet, same_changing}

-- ---- the linear programs of the two states

-- what is selected of two setups that are the same but for the bases
same_programs : (cells : Cells) (left right : Option Present) → SameSetup left right →
    (first : PresentProgram left cells) (second : PresentProgram right cells) → sheet_of first ≡ sheet_of second
same_programs cells _ _ no_setup first second = let e = first.is_setup in absurd (cc e)
same_programs cells _ _ (one_setup problem options opening other steps others) first second =
    let one : Present = record { problem = problem; options = options; opening = opening; steps = steps } in
    let two : Present = record { problem = problem; options = options; opening = other; steps = others } in
    let same : second.present ≡ two = same_Some second.present two (sym second.is_setup) in
    let moved : selected problem (choice_of cells options) ≡ Ok second.lp =
    subst (λ (x : Present). selected x.problem (choice_of cells x.options) ≡ Ok second.lp) same second.is_selected in
    same_sheet (Some one) cells one second.lp first refl moved ∙ sym (same_sheet (Some two) cells two second.lp second refl moved)

-- ---- SOLUTION

same_worth : (p : LinearProgram) (x y : ℚ) → IsBestWorth p x → IsBestWorth p y → x ≡ y
same_worth p x y first second = first.worth ∙ best_objective p first.point second.point first.best second.best ∙ sym second.worth

same_activity : (cells : Cells) (left right : Option Present) → SameSetup left right → (lines others : SolutionLines) → ShowsWorth left cells lines →
    ShowsWorth right cells others → SameActivity left cells lines others
same_activity cells left right setups lines others first second =
    let moved =
    subst (λ (x : Sheet). IsBestWorth x.lp (point_of x others x.lp.objective))
    (sym (same_programs cells left right setups first.program second.program)) second.is_worth in
    record {
      program = first.program;
      same =
          same_worth first.program.lp (point_of (sheet_of first.program) lines first.program.lp.objective)
          (point_of (sheet_of first.program) others first.program.lp.objective) first.is_worth moved;
    }

-- ---- parametric runs

same_along : (sheet : Sheet) (parametric_run other : ParametricRun) (intervals others : List ParametricInterval) → parametric_run.changing ≡ other.changing →
    RunsWorth intervals sheet parametric_run → RunsWorth others sheet other →
    SameAlong intervals others sheet parametric_run
same_along sheet parametric_run other intervals others changes first second = λ theta one two among also from_one to_one from_two to_two.
    same_worth (family_of sheet parametric_run.changing theta) (objective_at sheet parametric_run theta one) (objective_at sheet parametric_run theta two)
    (first one among theta from_one to_one)
    (subst (λ (x : Changing). IsBestWorth (family_of sheet x theta)
    (objective_value (family_of sheet x theta) (along theta (part_of two).value (part_of two).value_rate))) (sym changes)
    (second two also theta from_two to_two))

same_runs : (cells : Cells) (left right : Option Present) → SameSetup left right → (solver : Solver) (chain another : Chain) →
    ReportsOfRun left cells solver (RunsWorth chain.intervals) →
    ReportsOfRun right cells solver (RunsWorth another.intervals) → ReportsOfRun left cells solver (SameAlong chain.intervals another.intervals)
same_runs cells left right setups solver chain another first second =
    let sheets = same_programs cells left right setups first.program second.program in
    let changes =
    same_changing cells first.parametric_run.changing second.parametric_run.changing (sym first.is_solver ∙ second.is_solver) first.is_named second.is_named in
    record {
      program = first.program;
      parametric_run = first.parametric_run;
      is_solver = first.is_solver;
      is_part = first.is_part;
      is_named = first.is_named;
      from_first = first.from_first;
      to_last = first.to_last;
      tells = same_along (sheet_of first.program) first.parametric_run second.parametric_run chain.intervals another.intervals changes first.tells
          (subst (λ (x : Sheet). RunsWorth another.intervals x second.parametric_run) (sym sheets) second.tells);
    }

-- ---- two reports

module _ (C : Checker) (Speaks : State → Report → Type 0) (worth : SpeaksWorth Speaks) where
  solutions_same : (state : State) (left right : Option Present) → SameSetup left right → (other : Mark) (lines others : SolutionLines) → Optimal ≡ other →
      Speaks (record state { setup = left }) (Solution Optimal lines) →
      Says C (record state { setup = right }) (Solution other others) → SameActivity left state.cells lines others
  solutions_same state left right setups Optimal lines others same first second =
      same_activity state.cells left right setups lines others (worth.solutions (record state { setup = left }) lines first)
      ((attested_worth C).solutions (record state { setup = right }) others second)
  solutions_same state left right setups Infeasible lines others same first second = absurd (cc same)
  solutions_same state left right setups Unbounded lines others same first second = absurd (cc same)

  beside_optimal : (state : State) (left right : Option Present) → SameSetup left right → (lines : SolutionLines) (other : Report) →
      ReportsSame (Solution Optimal lines) other →
      Speaks (record state { setup = left }) (Solution Optimal lines) → Says C (record state { setup = right }) other →
      ShowsSame (record state { setup = left }) (Solution Optimal lines) other
  beside_optimal state left right setups lines (Titled text) same first second = tt
  beside_optimal state left right setups lines (Converted filed) same first second = tt
  beside_optimal state left right setups lines (Revised filed) same first second = tt
  beside_optimal state left right setups lines (SetUp name sense) same first second = tt
  beside_optimal state left right setups lines (BcdOut name count) same first second = tt
  beside_optimal state left right setups lines (BasisOut name count) same first second = tt
  beside_optimal state left right setups lines (Inserted name count) same first second = tt
  beside_optimal state left right setups lines (Solved other verdict check) same first second = tt
  beside_optimal state left right setups lines (Solution other others) same first second =
      solutions_same state left right setups other lines others same first second
  beside_optimal state left right setups lines (Ranges others) same first second = tt
  beside_optimal state left right setups lines (Parametric other another) same first second = tt

  beside_run : (state : State) (left right : Option Present) → SameSetup left right → (solver : Solver) (chain : Chain) (other : Report) →
      ReportsSame (Parametric solver chain) other →
      Speaks (record state { setup = left }) (Parametric solver chain) → Says C (record state { setup = right }) other →
      ShowsSame (record state { setup = left }) (Parametric solver chain) other
  beside_run state left right setups solver chain (Titled text) same first second = tt
  beside_run state left right setups solver chain (Converted filed) same first second = tt
  beside_run state left right setups solver chain (Revised filed) same first second = tt
  beside_run state left right setups solver chain (SetUp name sense) same first second = tt
  beside_run state left right setups solver chain (BcdOut name count) same first second = tt
  beside_run state left right setups solver chain (BasisOut name count) same first second = tt
  beside_run state left right setups solver chain (Inserted name count) same first second = tt
  beside_run state left right setups solver chain (Solved other verdict check) same first second = tt
  beside_run state left right setups solver chain (Solution other others) same first second = tt
  beside_run state left right setups solver chain (Ranges others) same first second = tt
  beside_run state left right setups solver chain (Parametric other another) same first second =
      same_runs state.cells left right setups solver chain another (worth.chains (record state { setup = left }) solver chain first)
      (subst (λ (s : Solver). ReportsOfRun right state.cells s (RunsWorth another.intervals)) (sym same.0)
      ((attested_worth C).chains (record state { setup = right }) other another second))

  pub shows_same : (a b : State) → SameStanding a b → (report other : Report) → ReportsSame report other → Speaks a report → Says C b other →
      ShowsSame a report other
  shows_same a b stand (Titled text) other same first second = tt
  shows_same a b stand (Converted filed) other same first second = tt
  shows_same a b stand (Revised filed) other same first second = tt
  shows_same a b stand (SetUp name sense) other same first second = tt
  shows_same a b stand (BcdOut name count) other same first second = tt
  shows_same a b stand (BasisOut name count) other same first second = tt
  shows_same a b stand (Inserted name count) other same first second = tt
  shows_same a b stand (Solved solver verdict check) other same first second = tt
  shows_same _ _ (standing state left right setups) (Solution Optimal lines) other same first second =
      beside_optimal state left right setups lines other same first second
  shows_same a b stand (Solution Infeasible lines) other same first second = tt
  shows_same a b stand (Solution Unbounded lines) other same first second = tt
  shows_same a b stand (Ranges lines) other same first second = tt
  shows_same _ _ (standing state left right setups) (Parametric solver chain) other same first second =
      beside_run state left right setups solver chain other same first second
