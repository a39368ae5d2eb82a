-- What PRIMAL and DUAL print: the end of a path as a verdict with its check.
--     verdict_of sheet steps ending        the verdict of an end after so many steps
--     IsVerdict sheet steps ending ..      the verdict, and how its check went
--     RuleReachesVerdict rule ..           the path by this rule ends with this verdict
--     IsSolved sheet s limit end           the simplex path from the basis s ends so
--     IsDualSolved sheet s limit end       the dual path from the basis s ends so
--     IsSolvedBy solver ..                 the path of a solving verb ends so
use Rattle.std.specs.Prelude.{◌≡◌, ℕ, ◌≤◌, List, length, Option, None, Some, IfSome}
use Rattle.lp_definitions.specs.LinearProgram.{LinearProgram, value_at}
use Rattle.check_definitions.specs.declared.Verdict.{Verdict}
use Rattle.check_definitions.specs.Checks.{optimal_check, crossed_check, infeasible_check, unbounded_check}
use Rattle.simplex_definitions.specs.Path.{PathEnding, EndsOptimal, EndsCrossed, EndsInfeasible, EndsUnbounded, Rule, turn, RulePathEnds, GoesOnFor}
use Rattle.simplex_definitions.specs.DualPath.{dual_turn, HasRightPrices, IsWrongAt, DualGoesOnFor}
use Rattle.simplex_definitions.specs.Counts.{counted_steps}
use Rattle.listing_definitions.specs.declared.Solver.{Solver}
use Rattle.listing_definitions.specs.declared.Solver.TheVariants.{Primal, Dual, Paraobj, Pararhs}
use Rattle.listing_definitions.specs.Report.{PathVerdict, OptimalAt, CrossedAt, InfeasibleBy, UnboundedBy, Check, Checked, Unchecked}
use Rattle.question_definitions.specs.Answers.{Basis, Sheet, PathEnd, Reached, PathLimit, PricesWrong}
use Rattle.answer_definitions.specs.Lines.{pair_lines, ray_lines}

-- the objective is the activity of the objective row; the count of steps stands still at its last value
abbrev pub verdict_of : Sheet → ℕ → PathEnding → PathVerdict
verdict_of sheet steps (EndsOptimal point prices) = OptimalAt (counted_steps steps) (value_at point sheet.lp.objective)
verdict_of sheet steps (EndsCrossed k) = CrossedAt k
verdict_of sheet steps (EndsInfeasible ray) = InfeasibleBy (counted_steps steps) (ray_lines sheet ray)
verdict_of sheet steps (EndsUnbounded point direction) =
    UnboundedBy (counted_steps steps) (value_at point sheet.lp.objective) (pair_lines sheet point direction)

-- the check of an end
abbrev pub check_of : LinearProgram → PathEnding → Verdict
check_of p (EndsOptimal point prices) = optimal_check p (value_at point) (value_at prices)
check_of p (EndsCrossed k) = crossed_check p k
check_of p (EndsInfeasible ray) = infeasible_check p (value_at ray)
check_of p (EndsUnbounded point direction) = unbounded_check p (value_at point) (value_at direction)

-- what is printed of a check: that it was made, or the first operation that was refused; none may fail
abbrev pub found : Check → Verdict
found Checked = Verdict.Checked
found (Unchecked refused) = Verdict.Unchecked refused

pub record IsVerdict (sheet : Sheet) (steps : ℕ) (ending : PathEnding) (verdict : PathVerdict) (check : Check) : Type 0 where
  pub is_verdict : verdict ≡ verdict_of sheet steps ending
  pub is_check : check_of sheet.lp ending ≡ found check

-- the path by this rule goes over these bases, within its limit if it has one, and ends with this verdict
pub record RuleReachesVerdict (rule : Rule) (sheet : Sheet) (s : Basis) (limit : Option ℕ) (bases : List Basis) (verdict : PathVerdict)
    (check : Check) : Type 0 where
  pub ending : PathEnding
  pub ends : RulePathEnds rule sheet.lp s bases ending
  pub within_limit : IfSome limit (λ most. length bases ≤ most)
  pub is_verdict : IsVerdict sheet (length bases) ending verdict check

abbrev pub ReachesVerdict : Sheet → Basis → Option ℕ → List Basis → PathVerdict → Check → Type 0
ReachesVerdict = RuleReachesVerdict turn

-- only a limit stops a path that goes on
abbrev pub IsSolved : Sheet → Basis → Option ℕ → PathEnd → Type 0
IsSolved sheet s limit (Reached bases verdict check) = ReachesVerdict sheet s limit bases verdict check
IsSolved sheet s (Some limit) PathLimit = GoesOnFor sheet.lp s limit
IsSolved sheet s None PathLimit = ⊥
IsSolved sheet s limit (PricesWrong j) = ⊥

-- there is a dual path from right prices alone; else the least-numbered variable whose price is wrong is what comes of it
abbrev pub IsDualSolved : Sheet → Basis → Option ℕ → PathEnd → Type 0
IsDualSolved sheet s limit (Reached bases verdict check) = HasRightPrices sheet.lp s × RuleReachesVerdict dual_turn sheet s limit bases verdict check
IsDualSolved sheet s (Some limit) PathLimit = HasRightPrices sheet.lp s × DualGoesOnFor sheet.lp s limit
IsDualSolved sheet s None PathLimit = ⊥
IsDualSolved sheet s limit (PricesWrong j) = IsWrongAt sheet.lp s j

-- PRIMAL follows the path of the simplex method, and DUAL that of the dual simplex method; no other verb asks for a path alone
abbrev pub IsSolvedBy : Solver → Sheet → Basis → Option ℕ → PathEnd → Type 0
IsSolvedBy Primal = IsSolved
IsSolvedBy Dual = IsDualSolved
IsSolvedBy Paraobj = λ sheet s limit end. ⊥
IsSolvedBy Pararhs = λ sheet s limit end. ⊥
