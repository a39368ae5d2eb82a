-- What SOLUTION and a parametric run show is worth what is best.
--     IsBestWorth p value          it is the objective of a best point
--     ShowsWorth, RunsWorth        the activity of the objective row, and the objective of each interval at each of its values
--     SpeaksWorth Speaks           what reports say tells that
--     attested_worth, real_worth   so it is with an attested listing, and with the run itself
use Rattle.std.proofs.Common.{◌≡◌, ℕ, zero, suc, ◌+◌, ◌-◌, ◌<◌, List, [], ◌∷◌, ◌++◌, map, refl, sym, ap, ap₂, subst, ◌∙◌, arith}
use Rattle.std.specs.Prelude.{All, Contains, Option, Some, None, slice_get, slice_index_or}
use Rattle.std.proofs.lemmas.List.Elements.{All-nil, All-cons, All-head, All-tail, All-contains}
use Rattle.exact_values.specs.Rational.{ℚ, zero_ℚ, ◌+ℚ◌, ◌*ℚ◌, ◌≤ℚ◌}
use Rattle.lp_definitions.specs.declared.Change.{Change}
use Rattle.lp_definitions.specs.LinearProgram.{LinearProgram, Vector, Matrix, IsRow, IsVariable, numbers_from, variables, value_at, with_change_row}
use Rattle.lp_definitions.specs.LinearProgram.{ChangeIsFree, objective_value, IsLinearProgram}
use Rattle.lp_definitions.specs.Solutions.{IsBest}
use Rattle.lp_definitions.specs.Basis.{Tableau}
use Rattle.simplex_laws.proofs.Ends.{value_at-listed}
use Rattle.control_definitions.specs.Cells.{Cells}
use Rattle.simplex_definitions.specs.Chain.{Part, along}
use Rattle.parametric_laws.specs.Truth.{IsTruePart}
use Rattle.listing_definitions.specs.declared.Mark.TheVariants.{Optimal}
use Rattle.listing_definitions.specs.declared.Solver.{Solver}
use Rattle.listing_definitions.specs.Report.{Value, Line, SolutionLines, ParametricInterval, Chain, Report, Solution, Parametric}
use Rattle.question_definitions.specs.Answers.{Basis, Sheet, Changing, Row, Set, ParametricRun}
use Rattle.answer_definitions.specs.Lines.{lines_of, column_numbers}
use Rattle.answer_definitions.specs.Sections.{solution_row, solution_column, solution_lines}
use Rattle.answer_definitions.specs.ParametricRuns.{family_of, sheet_at, part_values, interval_of}
use Rattle.run_definitions.specs.State.{Present, present_basis, State, choice_of}
use Rattle.soundness_laws.specs.ParametricRuns.{ChangesFreely}
use Rattle.soundness_laws.specs.Truth.{PresentProgram, sheet_of, ReportsOfRun, ShowsChain, Holds}
use Rattle.soundness_laws.proofs.ChangeRow.{changes_freely}
use Rattle.soundness_laws.proofs.Selected.{selected_has_no_change}
use Rattle.walk_definitions.specs.Tables.{number_of, column_of}
use Rattle.walk_definitions.specs.Tests.{point_of}
use Rattle.walk_laws.specs.Views.{part_of}
use Rattle.walk_definitions.specs.Checkers.{Checker}
use Rattle.walk_laws.specs.Proved.{ShowsProvedChain, Says}
use Rattle.one_story_laws.specs.Views.{objective_at}

pub record IsBestWorth (p : LinearProgram) (value : ℚ) : Type 0 where
  pub point : Vector
  pub best : IsBest p point
  pub worth : value ≡ objective_value p point

pub record ShowsWorth (setup : Option Present) (cells : Cells) (lines : SolutionLines) : Type 0 where
  pub program : PresentProgram setup cells
  pub is_worth : IsBestWorth program.lp (point_of (sheet_of program) lines program.lp.objective)

abbrev pub IntervalWorth : Sheet → ParametricRun → ParametricInterval → Type 0
IntervalWorth sheet parametric_run interval =
    (theta : ℚ) → interval.from ≤ℚ theta → theta ≤ℚ interval.to →
    IsBestWorth (family_of sheet parametric_run.changing theta) (objective_at sheet parametric_run theta interval)

abbrev pub RunsWorth : List ParametricInterval → Sheet → ParametricRun → Type 0
RunsWorth intervals sheet parametric_run = (interval : ParametricInterval) → Contains intervals interval → IntervalWorth sheet parametric_run interval

pub record SpeaksWorth (Speaks : State → Report → Type 0) : Type 0 where
  pub solutions : (state : State) (lines : SolutionLines) → Speaks state (Solution Optimal lines) → ShowsWorth state.setup state.cells lines
  pub chains : (state : State) (solver : Solver) (chain : Chain) → Speaks state (Parametric solver chain) →
      ReportsOfRun state.setup state.cells solver (RunsWorth chain.intervals)

activity_is : (setup : Option Present) (cells : Cells) (program : PresentProgram setup cells) (z : Vector) →
    z program.lp.objective ≡ objective_value program.lp z
activity_is setup cells program z = selected_has_no_change program.present.problem (choice_of cells program.present.options) program.lp program.is_selected z

-- what each of a list is, by what it is made of
all_map : {X Y : Type 0} (P : Y → Type 0) (f : X → Y) (xs : List X) → All (λ (x : X). P (f x)) xs → All P (map f xs)
all_map P f [] all = All-nil P
all_map {X = X} P f (x ∷ xs) all =
    All-cons P (f x) (map f xs) (All-head (λ (x : X). P (f x)) x xs all) (all_map P f xs (All-tail (λ (x : X). P (f x)) x xs all))

all_before : {X Y : Type 0} (P : Y → Type 0) (f : X → Y) (xs : List X) → All P (map f xs) → All (λ (x : X). P (f x)) xs
all_before {X = X} P f [] all = All-nil (λ (x : X). P (f x))
all_before {X = X} P f (x ∷ xs) all = All-cons (λ (x : X). P (f x)) x xs (All-head P (f x) (map f xs) all) (all_before P f xs (All-tail P (f x) (map f xs) all))

all_weaker : {X : Type 0} (P Q : X → Type 0) → ((x : X) → P x → Q x) → (xs : List X) → All P xs → All Q xs
all_weaker P Q weaker [] all = All-nil Q
all_weaker P Q weaker (x ∷ xs) all = All-cons Q x xs (weaker x (All-head P x xs all)) (all_weaker P Q weaker xs (All-tail P x xs all))

-- ---- an attested listing

reported_solution : (C : Checker) (state : State) (lines : SolutionLines) → Says C state (Solution Optimal lines) → ShowsWorth state.setup state.cells lines
reported_solution C state lines says = record {
  program = says.program;
  is_worth = record {
    point = point_of (sheet_of says.program) lines;
    best = says.best;
    worth = activity_is state.setup state.cells says.program (point_of (sheet_of says.program) lines);
  };
}

reported_interval : (sheet : Sheet) (parametric_run : ParametricRun) (interval : ParametricInterval) →
    IsTruePart (family_of sheet parametric_run.changing) parametric_run.to (part_of interval) → IntervalWorth sheet parametric_run interval
reported_interval sheet parametric_run interval is_true = λ theta after before. record {
  point = along theta (part_of interval).value (part_of interval).value_rate;
  best = (is_true.solved theta after before).best;
  worth = refl;
}

reported_run : (chain : Chain) (sheet : Sheet) (parametric_run : ParametricRun) → ShowsProvedChain chain sheet parametric_run →
    RunsWorth chain.intervals sheet parametric_run
reported_run chain sheet parametric_run shows = λ interval among.
    All-contains (IntervalWorth sheet parametric_run) chain.intervals interval
    (all_weaker (λ (i : ParametricInterval). IsTruePart (family_of sheet parametric_run.changing) parametric_run.to (part_of i))
    (IntervalWorth sheet parametric_run) (reported_interval sheet parametric_run) chain.intervals
    (all_before (IsTruePart (family_of sheet parametric_run.changing) parametric_run.to) part_of chain.intervals shows.is_true.intervals)) among

reported_chain : (C : Checker) (state : State) (solver : Solver) (chain : Chain) → Says C state (Parametric solver chain) →
    ReportsOfRun state.setup state.cells solver (RunsWorth chain.intervals)
reported_chain C state solver chain says = record {
  program = says.program;
  parametric_run = says.parametric_run;
  is_solver = says.is_solver;
  is_part = says.is_part;
  is_named = says.is_named;
  from_first = says.from_first;
  to_last = says.to_last;
  tells = reported_run chain (sheet_of says.program) says.parametric_run says.tells;
}

pub attested_worth : (C : Checker) → SpeaksWorth (Says C)
attested_worth C = record { solutions = reported_solution C; chains = reported_chain C }

-- ---- the lines of the run itself

-- the second value of a line that stands among the first ones
second_of : (sheet : Sheet) (values : ℕ → List Value) (f : ℕ → ℚ) → ((k : ℕ) → number_of (slice_get (values k) 1) ≡ f k) → (n first i : ℕ) (more : List Line) →
    i < n →
    slice_index_or (column_of 1 (lines_of sheet values (numbers_from first n) ++ more)) i zero_ℚ ≡ f (first + i)
second_of sheet values f each zero first i more below = absurd (omega (arith, below))
second_of sheet values f each (suc n) first zero more below = each first ∙ ap f (omega arith)
second_of sheet values f each (suc n) first (suc i) more below = second_of sheet values f each n (suc first) i more (omega (arith, below)) ∙ ap f (omega arith)

reported_activity : (sheet : Sheet) (s : Basis) (t : Tableau) (k : ℕ) → IsRow sheet.lp.matrix k → point_of sheet (solution_lines sheet s t) k ≡ t.point k
reported_activity sheet s t k is =
    second_of sheet (solution_row sheet s t) t.point (λ k. refl) sheet.lp.matrix.rows 1 (k - 1)
    (lines_of sheet (solution_column sheet s t) (column_numbers sheet.lp)) (omega (arith, is.0, is.1))
    ∙ ap t.point (omega (arith, is.0))

held_solution : (state : State) (lines : SolutionLines) → Holds state (Solution Optimal lines) → ShowsWorth state.setup state.cells lines
held_solution state lines holds =
    let sheet : Sheet = sheet_of holds.program in
    let t : Tableau = holds.tableau in
    record {
      program = holds.program;
      is_worth = record {
        point = t.point;
        best = holds.best;
        worth =
            ap (λ (l : SolutionLines). point_of sheet l holds.program.lp.objective) holds.are_lines
            ∙ reported_activity sheet (present_basis holds.program.present) t holds.program.lp.objective holds.program.is_linear_program.objective_row
            ∙ activity_is state.setup state.cells holds.program t.point;
      };
    }

-- ---- its intervals

module _ (sheet : Sheet) (part : Part) where
  values_are : (numbers : List ℕ) → column_of 1 (lines_of sheet (part_values sheet.lp part) numbers) ≡ map (value_at part.value) numbers
  values_are [] = refl
  values_are (k ∷ numbers) = ap (λ (xs : List ℚ). value_at part.value k ∷ xs) (values_are numbers)

  rates_are : (numbers : List ℕ) → column_of 2 (lines_of sheet (part_values sheet.lp part) numbers) ≡ map (value_at part.value_rate) numbers
  rates_are [] = refl
  rates_are (k ∷ numbers) = ap (λ (xs : List ℚ). value_at part.value_rate k ∷ xs) (rates_are numbers)

  along_is : (theta : ℚ) (k : ℕ) → IsVariable sheet.lp.matrix k →
      along theta (part_of (interval_of sheet part)).value (part_of (interval_of sheet part)).value_rate k ≡ along theta part.value part.value_rate k
  along_is theta k is = ap₂ (λ (x y : ℚ). x +ℚ theta *ℚ y)
      (ap (λ (xs : List ℚ). value_at xs k) (values_are (variables sheet.lp.matrix)) ∙ value_at-listed sheet.lp.matrix (value_at part.value) k is)
      (ap (λ (xs : List ℚ). value_at xs k) (rates_are (variables sheet.lp.matrix)) ∙ value_at-listed sheet.lp.matrix (value_at part.value_rate) k is)

row_variable : (a : Matrix) (i : ℕ) → IsRow a i → IsVariable a i
row_variable a i is = (is.0, omega (arith, is.1))

same_combined : (p : LinearProgram) (change : Option Change) (z w : Vector) → IsLinearProgram p → ChangeIsFree p change →
    ((k : ℕ) → IsVariable p.matrix k → z k ≡ w k) →
    with_change_row change z (z p.objective) ≡ with_change_row change w (w p.objective)
same_combined p None z w lawful free agree = agree p.objective (row_variable p.matrix p.objective lawful.objective_row)
same_combined p (Some c) z w lawful free agree =
    ap₂ (λ (x y : ℚ). x +ℚ c.theta *ℚ y) (agree p.objective (row_variable p.matrix p.objective lawful.objective_row))
    (agree c.row (row_variable p.matrix c.row free.0))

-- vectors that agree at the variables have one objective
same_objective : (sheet : Sheet) (changing : Changing) (from theta : ℚ) (z w : Vector) → IsLinearProgram sheet.lp → ChangesFreely sheet changing →
    ((k : ℕ) → IsVariable (family_of sheet changing from).matrix k → z k ≡ w k) →
    objective_value (family_of sheet changing theta) z ≡ objective_value (family_of sheet changing theta) w
same_objective sheet (Row name) from theta z w lawful free agree = same_combined sheet.lp (Some (record { row = _; theta = theta })) z w lawful free agree
same_objective sheet (Set name) from theta z w lawful free agree = same_combined sheet.lp sheet.lp.change z w lawful lawful.change_free agree

held_interval : (sheet : Sheet) (parametric_run : ParametricRun) → IsLinearProgram sheet.lp → ChangesFreely sheet parametric_run.changing → (part : Part) →
    IsTruePart (family_of sheet parametric_run.changing) parametric_run.to part →
    IntervalWorth sheet parametric_run (interval_of (sheet_at sheet parametric_run.changing parametric_run.from) part)
held_interval sheet parametric_run lawful free part is_true = λ theta after before. record {
  point = along theta part.value part.value_rate;
  best = (is_true.solved theta after before).best;
  worth =
      same_objective sheet parametric_run.changing parametric_run.from theta _ (along theta part.value part.value_rate) lawful free
      (along_is (sheet_at sheet parametric_run.changing parametric_run.from) part theta);
}

held_run : (chain : Chain) (sheet : Sheet) (parametric_run : ParametricRun) → IsLinearProgram sheet.lp → ChangesFreely sheet parametric_run.changing →
    ShowsChain chain sheet parametric_run → RunsWorth chain.intervals sheet parametric_run
held_run chain sheet parametric_run lawful free shows = λ interval among.
    let truth = shows.is_true in
    let made : Part → ParametricInterval = interval_of (sheet_at sheet parametric_run.changing parametric_run.from) in
    All-contains (IntervalWorth sheet parametric_run) chain.intervals interval
    (subst (All (IntervalWorth sheet parametric_run)) (sym truth.are_intervals)
    (all_map (IntervalWorth sheet parametric_run) made truth.parts
    (all_weaker (IsTruePart (family_of sheet parametric_run.changing) parametric_run.to) (λ (part : Part). IntervalWorth sheet parametric_run (made part))
    (held_interval sheet parametric_run lawful free) truth.parts truth.is_true.intervals))) among

held_chain : (state : State) (solver : Solver) (chain : Chain) → Holds state (Parametric solver chain) →
    ReportsOfRun state.setup state.cells solver (RunsWorth chain.intervals)
held_chain state solver chain holds =
    let sheet : Sheet = sheet_of holds.program in
    let free =
    changes_freely sheet
    (choice_of state.cells holds.program.present.options) holds.parametric_run.changing holds.program.is_problem holds.program.is_selected holds.is_part in
    record {
      program = holds.program;
      parametric_run = holds.parametric_run;
      is_solver = holds.is_solver;
      is_part = holds.is_part;
      is_named = holds.is_named;
      from_first = holds.from_first;
      to_last = holds.to_last;
      tells = held_run chain sheet holds.parametric_run holds.program.is_linear_program free holds.tells;
    }

pub real_worth : SpeaksWorth Holds
real_worth = record { solutions = held_solution; chains = held_chain }
