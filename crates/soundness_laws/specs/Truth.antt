-- What the reports of a run say of linear programs.
--     PresentProgram setup cells   the linear program that is selected of the setup
--     ShowsBest ..                 the lines of SOLUTION show what is best
--     ShowsRanges ..               the lines of RANGE show where the basis stays optimal
--     IsTrueOf sheet verdict       what a verdict says of a linear program
--     ShowsDeck, ShowsBasis ..     what PUNCH and INSERT print is of the deck of the present basis, and of a deck
--                                  that gives a basis
--     ReportsOfRun ..              what PARAOBJ or PARARHS prints is of the run that the cells ask for
--     ShowsOpening, ShowsChain     a verdict of its opening path; its intervals and its end
--     Holds state report           a report that is made in a state holds of it
--     ShowsDependency ..           the lines of a singular basis show the first dependency of its columns
--     HoldsAtEnd state ending      an end to which a statement brings the run in a state holds of it
use Rattle.std.specs.Prelude.{◌≡◌, ℕ, true, min, List, Option, Some, Ok, length}
use Rattle.exact_values.specs.Rational.{ℚ}
use Rattle.lp_definitions.specs.LinearProgram.{LinearProgram, Vector, value_at, objective_value, IsLinearProgram}
use Rattle.lp_definitions.specs.Solutions.{IsBest, IsDualCertificate, IsCrossed, IsRay, ProvesUnbounded, IsInfeasible, IsUnbounded}
use Rattle.lp_definitions.specs.Basis.{basics_of, Tableau, IsTableau, IsOptimalBasis, price_at}
use Rattle.simplex_definitions.specs.Path.{listed}
use Rattle.simplex_definitions.specs.DualPath.{IsWrongAt}
use Rattle.simplex_definitions.specs.Ranges.{RangeReport, IsRangeReport}
use Rattle.simplex_laws.specs.Laws.{IsNonsingularBasis}
use Rattle.card_definitions.specs.Cards.{Card, live}
use Rattle.problem_definitions.specs.Names.{Name}
use Rattle.problem_definitions.specs.Problem.{Problem, has_free_row, has_group}
use Rattle.problem_definitions.specs.Valid.{IsProblem}
use Rattle.deck_definitions.specs.Conversion.{deck_name}
use Rattle.deck_definitions.specs.Decks.{deck_taken}
use Rattle.basis_deck_definitions.specs.Reading.{basis_reading}
use Rattle.basis_deck_definitions.specs.Writing.{basic_columns, basis_deck}
use Rattle.basis_deck_definitions.specs.Dependencies.{IsDependency}
use Rattle.control_definitions.specs.Cells.{Cells}
use Rattle.selection_definitions.specs.Selection.{selected}
use Rattle.listing_definitions.specs.declared.Mark.TheVariants.{Optimal}
use Rattle.listing_definitions.specs.declared.Solver.{Solver}
use Rattle.listing_definitions.specs.declared.Solver.TheVariants.{Primal as ByPrimal, Dual as ByDual}
use Rattle.listing_definitions.specs.Report.{Line, SolutionLines, RangeLines, PathVerdict, OptimalAt, CrossedAt, InfeasibleBy, UnboundedBy, Check, Chain}
use Rattle.listing_definitions.specs.Report.{Report, BasisOut, Inserted, Solved, Solution, Ranges, Parametric}
use Rattle.listing_definitions.specs.Ending.{Ending, SingularStop, PriceStop}
use Rattle.question_definitions.specs.Answers.{Basis, Sheet, Changing, Row, Set, changing_name, parametric_solver, ParametricRun}
use Rattle.answer_definitions.specs.Lines.{pair_lines, ray_lines}
use Rattle.answer_definitions.specs.Sections.{solution_lines, range_lines}
use Rattle.soundness_laws.specs.ParametricRuns.{IsTrueOpening, IsTrueChain}
use Rattle.run_definitions.specs.State.{Present, present_basis, State, choice_of}
use Rattle.run_definitions.specs.Verbs.{max_counted}

-- There is a setup; and the linear program is selected of its problem with its options and with these
-- cells. Both are lawful.
pub record PresentProgram (setup : Option Present) (cells : Cells) : Type 0 where
  pub present : Present
  pub is_setup : setup ≡ Some present
  pub lp : LinearProgram
  pub is_selected : selected present.problem (choice_of cells present.options) ≡ Ok lp
  pub is_problem : IsProblem present.problem
  pub is_linear_program : IsLinearProgram lp

-- the problem, whose names are printed, and the linear program
abbrev pub sheet_of : {setup : Option Present} {cells : Cells} → PresentProgram setup cells → Sheet
sheet_of program = record { problem = program.present.problem; lp = program.lp }

-- The lines are those of the present basis: its point is feasible, no feasible point is better, and its
-- prices, which are printed, prove that.
pub record ShowsBest (setup : Option Present) (cells : Cells) (lines : SolutionLines) : Type 0 where
  pub program : PresentProgram setup cells
  pub is_basis : IsNonsingularBasis program.lp (present_basis program.present)
  pub tableau : Tableau
  pub is_tableau : IsTableau program.lp (present_basis program.present) tableau
  pub are_lines : lines ≡ solution_lines (sheet_of program) (present_basis program.present) tableau
  pub best : IsBest program.lp tableau.point
  pub certificate : IsDualCertificate program.lp tableau.point
      (price_at program.lp (basics_of (present_basis program.present)) tableau.rate)

-- The lines are those of the present basis, which is optimal. They print the ends of the intervals of a
-- report: for each limit at which a nonbasic stands, for each cost of a column, and for each basic row but
-- the objective, a value lies between the ends exactly where the basis is optimal in the linear program
-- that is changed by this value.
pub record ShowsRanges (setup : Option Present) (cells : Cells) (lines : RangeLines) : Type 0 where
  pub program : PresentProgram setup cells
  pub optimal : IsOptimalBasis program.lp (present_basis program.present)
  pub tableau : Tableau
  pub is_tableau : IsTableau program.lp (present_basis program.present) tableau
  pub report : RangeReport
  pub is_report : IsRangeReport program.lp (present_basis program.present) report
  pub are_lines : lines ≡ range_lines (sheet_of program) (present_basis program.present) tableau report

-- the objective is that of a best point, and there are prices that prove this point best
pub record IsBestObjective (p : LinearProgram) (objective : ℚ) : Type 0 where
  pub point : List ℚ
  pub prices : List ℚ
  pub best : IsBest p (value_at point)
  pub certificate : IsDualCertificate p (value_at point) (value_at prices)
  pub is_objective : objective ≡ objective_value p (value_at point)

-- the lines are the multipliers of a ray that aren't 0
pub record AreLinesOfRay (sheet : Sheet) (lines : List Line) : Type 0 where
  pub ray : List ℚ
  pub is_ray : IsRay sheet.lp (value_at ray)
  pub are_lines : lines ≡ ray_lines sheet ray

-- the lines are those of a feasible point, which has this objective, and of a direction that proves that
-- there is no best one
pub record AreLinesOfDirection (sheet : Sheet) (objective : ℚ) (lines : List Line) : Type 0 where
  pub point : List ℚ
  pub direction : List ℚ
  pub proves : ProvesUnbounded sheet.lp (value_at point) (value_at direction)
  pub is_objective : objective ≡ objective_value sheet.lp (value_at point)
  pub are_lines : lines ≡ pair_lines sheet point direction

-- An objective that is printed is that of a best point, which prices prove best. A variable that is printed is crossed, or the
-- lines are those of a ray, and so no point is feasible. Or the lines are those of a feasible point and a
-- direction, and so there is no best point.
abbrev pub IsTrueOf : Sheet → PathVerdict → Type 0
IsTrueOf sheet (OptimalAt steps objective) = IsBestObjective sheet.lp objective
IsTrueOf sheet (CrossedAt k) = IsCrossed sheet.lp k × IsInfeasible sheet.lp
IsTrueOf sheet (InfeasibleBy steps lines) = AreLinesOfRay sheet lines × IsInfeasible sheet.lp
IsTrueOf sheet (UnboundedBy steps objective lines) = AreLinesOfDirection sheet objective lines × IsUnbounded sheet.lp

-- DUAL never finds that there is no best point
abbrev pub IsNotUnbounded : PathVerdict → Type 0
IsNotUnbounded (UnboundedBy steps objective lines) = ⊥
IsNotUnbounded verdict = Unit {0}

-- The deck of the present basis, which is nonsingular, has so many cards, and the name is the problem's.
pub record ShowsDeck (setup : Option Present) (cells : Cells) (name : Name) (count : ℕ) : Type 0 where
  pub program : PresentProgram setup cells
  pub is_basis : IsNonsingularBasis program.lp (present_basis program.present)
  pub is_name : name ≡ program.present.problem.name
  pub is_count : count ≡ min (length (basis_deck program.present.problem program.lp (present_basis program.present))) max_counted

-- The deck that is taken of those left stands for this basis of the present program.
pub record GivesBasis (setup : Option Present) (cells : Cells) (decks : List (List Card)) : Type 0 where
  pub program : PresentProgram setup cells
  pub taken : List Card × List (List Card)
  pub is_taken : deck_taken cells.xdata decks ≡ Some taken
  pub basis : Basis
  pub is_read : basis_reading program.present.problem program.lp taken.0 ≡ Ok basis

-- That basis is nonsingular; the name is its deck's, and so many of its columns are basic.
pub record ShowsBasis (setup : Option Present) (cells : Cells) (decks : List (List Card)) (name : Name) (count : ℕ) : Type 0 where
  pub gives : GivesBasis setup cells decks
  pub is_basis : IsNonsingularBasis gives.program.lp gives.basis
  pub is_name : name ≡ deck_name (live gives.taken.0)
  pub is_count : count ≡ length (basic_columns gives.program.lp gives.basis)

-- That basis is singular: the lines are the coefficients, other than 0, of the first dependency of its
-- columns.
pub record ShowsDependency (setup : Option Present) (cells : Cells) (decks : List (List Card)) (lines : List Line) : Type 0 where
  pub gives : GivesBasis setup cells decks
  pub column : ℕ
  pub coefficients : Vector
  pub is_dependency : IsDependency gives.program.lp.matrix (basics_of gives.basis) column coefficients
  pub are_lines : lines ≡ ray_lines (sheet_of gives.program) (listed gives.program.lp.matrix coefficients)

-- Of the present basis this variable is the least-numbered whose price is wrong.
pub record ShowsWrongPrice (setup : Option Present) (cells : Cells) (variable : ℕ) : Type 0 where
  pub program : PresentProgram setup cells
  pub is_wrong : IsWrongAt program.lp (present_basis program.present) variable

-- a parametric run changes a row without limits of the problem, or a right-hand side set of it
abbrev pub IsOfProblem : Changing → Problem ℕ → Type 0
IsOfProblem (Row name) problem = has_free_row problem.rows name ≡ true
IsOfProblem (Set name) problem = has_group problem.rhs name ≡ true

-- the name that was moved to XCHROW, where a row changes, or to XCHCOL, where a set does
abbrev pub named_by : Cells → Changing → Option Name
named_by cells (Row name) = cells.xchrow
named_by cells (Set name) = cells.xchcol

-- The parametric run of a verb in the linear program that is selected of the setup with these cells: from
-- XPARAM to XPARMAX, with what changes as the cells name it. Tells is what is said of it.
pub record ReportsOfRun (setup : Option Present) (cells : Cells) (solver : Solver) (Tells : Sheet → ParametricRun → Type 0) : Type 0 where
  pub program : PresentProgram setup cells
  pub parametric_run : ParametricRun
  pub is_solver : solver ≡ parametric_solver parametric_run.changing
  pub is_part : IsOfProblem parametric_run.changing program.present.problem
  pub is_named : named_by cells parametric_run.changing ≡ Some (changing_name parametric_run.changing)
  pub from_first : parametric_run.from ≡ cells.xparam
  pub to_last : cells.xparmax ≡ Some parametric_run.to
  pub tells : Tells (sheet_of program) parametric_run

-- the opening path isn't optimal, and its verdict is proved at the first value
pub record ShowsOpening (verdict : PathVerdict) (check : Check) (sheet : Sheet) (parametric_run : ParametricRun) : Type 0 where
  pub bases : List Basis
  pub is_true : IsTrueOpening sheet parametric_run bases verdict check

-- At every value of the parameter in an interval that is printed the printed point is best and the printed
-- prices prove it; the intervals leave no gap; and the last one ends at the last value, or what is printed
-- proves for every greater value that there is no best point.
pub record ShowsChain (chain : Chain) (sheet : Sheet) (parametric_run : ParametricRun) : Type 0 where
  pub is_from : chain.from ≡ parametric_run.from
  pub is_change : chain.change ≡ changing_name parametric_run.changing
  pub is_true : IsTrueChain sheet parametric_run chain.intervals chain.end

-- What a report says of the linear program that is selected in the state in which it is made: SOLUTION
-- OPTIMAL shows what is best in it, RANGE shows where its basis stays optimal, a verdict of PRIMAL or DUAL
-- is true of it, PUNCH and INSERT count the cards and columns of its bases, and what PARAOBJ and PARARHS
-- print is true at every value of the parameter of which it speaks. The other reports say nothing of a
-- linear program.
abbrev pub Holds : State → Report → Type 0
Holds state (Solution Optimal lines) = ShowsBest state.setup state.cells lines
Holds state (Ranges lines) = ShowsRanges state.setup state.cells lines
Holds state (Solved ByPrimal verdict check) =
    (program : PresentProgram state.setup state.cells) × IsTrueOf (sheet_of program) verdict
Holds state (Solved ByDual verdict check) =
    (program : PresentProgram state.setup state.cells) × IsTrueOf (sheet_of program) verdict × IsNotUnbounded verdict
Holds state (Solved solver verdict check) = ReportsOfRun state.setup state.cells solver (ShowsOpening verdict check)
Holds state (Parametric solver chain) = ReportsOfRun state.setup state.cells solver (ShowsChain chain)
Holds state (BasisOut name count) = ShowsDeck state.setup state.cells name count
Holds state (Inserted name count) = ShowsBasis state.setup state.cells state.decks name count
Holds state report = Unit {0}

-- What an end says of the linear program that is selected in the state in which a statement brings it about:
-- a singular basis and a wrong price are as they are printed. The other ends say nothing of it but in their
-- evidence, which is the run's own.
abbrev pub HoldsAtEnd : State → Ending → Type 0
HoldsAtEnd state (SingularStop basis) = ShowsDependency state.setup state.cells state.decks basis.lines
HoldsAtEnd state (PriceStop price) = ShowsWrongPrice state.setup state.cells price.variable
HoldsAtEnd state ending = Unit {0}
