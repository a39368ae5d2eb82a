-- What two listings of one job show of linear programs is worth the same.
--     made_so_far, made_in_job     the reports of a run, each with the state in which it was made
--     AreBeside Same made others   two lists of reports are as many, and what stands in one place is so
--     SameActivity ..              under OPTIMAL the objective row has one activity in both
--     SameAlong ..                 at each value of the parameter the points of both have one objective
--     ShowsSame, ShowSame          that is so of two reports, and of two lists of them
use Rattle.std.specs.Prelude.{◌≡◌, ℕ, List, [], ◌∷◌, ◌++◌, map, Option, Contains}
use Rattle.exact_values.specs.Rational.{ℚ, ◌≤ℚ◌}
use Rattle.lp_definitions.specs.LinearProgram.{objective_value}
use Rattle.card_definitions.specs.Cards.{Card}
use Rattle.control_definitions.specs.Cells.{Cells}
use Rattle.control_definitions.specs.Program.{Program}
use Rattle.simplex_definitions.specs.Chain.{along}
use Rattle.listing_definitions.specs.declared.Mark.TheVariants.{Optimal}
use Rattle.listing_definitions.specs.Report.{SolutionLines, ParametricInterval, Report, Solution, Parametric}
use Rattle.listing_definitions.specs.Ending.{Ending}
use Rattle.question_definitions.specs.Answers.{Sheet, ParametricRun}
use Rattle.question_definitions.specs.Solving.{Solving}
use Rattle.answer_definitions.specs.ParametricRuns.{family_of}
use Rattle.run_definitions.specs.State.{Present, State}
use Rattle.run_definitions.specs.Moves.{Gain, printed_by}
use Rattle.run_definitions.specs.Run.{Reaches, begun, stepped, IsRun, is_over, is_ended}
use Rattle.run_definitions.specs.Answer.{IsJobRun, run}
use Rattle.soundness_laws.specs.Truth.{PresentProgram, sheet_of, ReportsOfRun}
use Rattle.walk_definitions.specs.Tests.{point_of}
use Rattle.walk_laws.specs.Views.{part_of}

-- ---- the reports of a run

abbrev pub made_by : State → Gain → List (State × Report)
made_by state gain = map (λ report. (state, report)) (printed_by gain)

module _ (S : Solving) where
  abbrev pub made_so_far : (program : Program) (decks : List (List Card)) {reports : List Report} {cards : List (List ℕ)} {state : State} →
      Reaches S program decks reports cards state → List (State × Report)
  made_so_far program decks begun = []
  made_so_far program decks (stepped {state = state} gain after before step) = made_so_far program decks before ++ made_by state gain

  abbrev pub made_in_run : (program : Program) (decks : List (List Card)) {reports : List Report} {cards : List (List ℕ)} {ending : Ending} →
      IsRun S program decks reports cards ending → List (State × Report)
  made_in_run program decks (is_over before over) = made_so_far program decks before
  made_in_run program decks (is_ended {state = state} gain before step) = made_so_far program decks before ++ made_by state gain

  -- a fault of the cards, or a control fault, comes without a report
  abbrev pub made_in_job : {bytes : List ℕ} {reports : List Report} {cards : List (List ℕ)} {ending : Ending} → IsJobRun S bytes reports cards ending →
      List (State × Report)
  made_in_job (run program is_program runs) = made_in_run program _ runs
  made_in_job _ = []

abbrev pub AreBeside : (State → Report → Report → Type 0) → List (State × Report) → List Report → Type 0
AreBeside Same [] [] = Unit {0}
AreBeside Same (made ∷ mades) (other ∷ others) = Same made.0 made.1 other × AreBeside Same mades others
AreBeside Same mades others = ⊥

-- ---- what is shown

pub record SameActivity (setup : Option Present) (cells : Cells) (lines others : SolutionLines) : Type 0 where
  pub program : PresentProgram setup cells
  pub same : point_of (sheet_of program) lines program.lp.objective ≡ point_of (sheet_of program) others program.lp.objective

-- the objective of an interval's point at a value of the parameter
abbrev pub objective_at : Sheet → ParametricRun → ℚ → ParametricInterval → ℚ
objective_at sheet parametric_run theta interval =
    objective_value (family_of sheet parametric_run.changing theta) (along theta (part_of interval).value (part_of interval).value_rate)

-- in whatever intervals of the two the value lies
abbrev pub SameAlong : List ParametricInterval → List ParametricInterval → Sheet → ParametricRun → Type 0
SameAlong intervals others sheet parametric_run =
    (theta : ℚ) (one two : ParametricInterval) → Contains intervals one → Contains others two → one.from ≤ℚ theta → theta ≤ℚ one.to → two.from ≤ℚ theta →
    theta ≤ℚ two.to →
    objective_at sheet parametric_run theta one ≡ objective_at sheet parametric_run theta two

abbrev pub ShowsSame : State → Report → Report → Type 0
ShowsSame state (Solution Optimal lines) (Solution other others) = SameActivity state.setup state.cells lines others
ShowsSame state (Parametric solver chain) (Parametric other another) = ReportsOfRun state.setup state.cells solver (SameAlong chain.intervals another.intervals)
ShowsSame state report other = Unit {0}

abbrev pub ShowSame : List (State × Report) → List Report → Type 0
ShowSame = AreBeside ShowsSame
