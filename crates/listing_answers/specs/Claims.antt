-- What is read of verdicts.
--     IsPair, pair_in              a point and a direction, from the lines of a table; the lines
--     Says                         a claim says what a verdict says
--     IsStated                     a claim, and whether the listing says that it was checked
--     optimum_in, shown_in         the claims that a verb may make before and after that of crossed limits
--     word_holds, word_test        whether a claim may be printed with the word of its check
--     conclusion_by, mark_by       what it comes to
use Rattle.std.specs.Prelude.{◌≡◌, ℕ, Bool, true, List, Option, None}
use Rattle.std.specs.Option.{option_or}
use Rattle.exact_values.specs.Rational.{ℚ}
use Rattle.lp_definitions.specs.LinearProgram.{variables}
use Rattle.check_definitions.specs.declared.Verdict.{Verdict}
use Rattle.listing_definitions.specs.declared.Mark.{Mark}
use Rattle.listing_definitions.specs.declared.Mark.TheVariants as marks
use Rattle.listing_definitions.specs.declared.Solver.{Solver}
use Rattle.listing_definitions.specs.declared.Solver.TheVariants.{Primal, Dual}
use Rattle.listing_definitions.specs.Report.{Line, PathVerdict, OptimalAt, CrossedAt, InfeasibleBy, UnboundedBy, Check}
use Rattle.question_definitions.specs.Answers.{Sheet}
use Rattle.walk_definitions.specs.Words.{Parsed}
use Rattle.walk_definitions.specs.Tables.{pair_slots, table_in, column_of, multipliers}
use Rattle.walk_definitions.specs.Checkers.{Checker, says_checked}
use Rattle.walk_definitions.specs.Tests.{asked}
use Rattle.walk_definitions.specs.Reading.{Claim, optimal_in, infeasible_in, unbounded_in}
use Rattle.listing_claims.specs.declared.claims.Pair.{Pair}
use Rattle.listing_claims.specs.declared.claims.Claim as declared
use Rattle.listing_claims.specs.declared.claims.Claim.TheVariants as claims
use Rattle.listing_claims.specs.Claims.{IsPairOf, Fits}
use Rattle.listing_answers.specs.declared.claims.Stated.{Stated}
use Rattle.listing_answers.specs.declared.answer.Conclusion.{Conclusion}
use Rattle.listing_answers.specs.declared.answer.Conclusion.TheVariants.{Optimal, Infeasible, Unbounded}

-- ---- claims

-- a point and a direction, from the lines of a table
pub record IsPair (sheet : Sheet) (pair : Pair) (lines : List Line) : Type 0 where
  pub is_point : pair.point.items ≡ column_of 0 lines
  pub is_direction : pair.direction.items ≡ column_of 1 lines
  pub fits : IsPairOf sheet.lp pair

abbrev pub pair_in : (List ℕ → Option ℚ) → Sheet → List ℕ → Parsed (List Line)
pair_in of sheet = table_in of sheet pair_slots (variables sheet.lp.matrix)

abbrev pub Says : Sheet → declared.Claim → PathVerdict → Type 0
Says sheet (claims.Optimal objective) (OptimalAt steps printed) = objective ≡ printed
Says sheet (claims.Crossed k) (CrossedAt number) = k ≡ number
Says sheet (claims.Infeasible ray) (InfeasibleBy steps lines) = ray.items ≡ multipliers sheet lines
Says sheet (claims.Unbounded objective pair) (UnboundedBy steps printed lines) = (objective ≡ printed) × IsPair sheet pair lines
Says sheet claim verdict = ⊥

pub record IsStated (sheet : Sheet) (stated : Stated) (claim : Claim) : Type 0 where
  pub says : Says sheet stated.claim claim.0
  pub says_check : stated.is_checked ≡ says_checked claim.1
  pub fits : Fits sheet.lp stated.claim

module _ (of : List ℕ → Option ℚ) (sheet : Sheet) where
  -- that there is a best point, where the verb may find one
  abbrev pub optimum_in : Solver → List ℕ → Parsed Claim
  optimum_in Primal rest = optimal_in of sheet rest
  optimum_in Dual rest = optimal_in of sheet rest
  optimum_in solver rest = None

  -- that no point is feasible by a ray, or that there is no best point, where the verb may find that
  abbrev pub shown_in : Solver → List ℕ → Parsed Claim
  shown_in Dual rest = infeasible_in of sheet rest
  shown_in solver rest = option_or (infeasible_in of sheet rest) (unbounded_in of sheet rest)

-- ---- the word of the check of a claim: an optimal one is tested where SOLUTION shows it, and may stand with either

abbrev pub word_holds : Checker → declared.Claim → Check → Bool
word_holds C (claims.Optimal objective) check = true
word_holds C claim check = C.takes check

abbrev pub word_test : Checker → declared.Claim → Check → Verdict
word_test C claim check = asked (word_holds C claim check)

-- ---- what a claim comes to

abbrev pub conclusion_by : declared.Claim → Bool → Conclusion
conclusion_by (claims.Optimal objective) is_checked = Optimal objective is_checked
conclusion_by (claims.Crossed k) is_checked = Infeasible
conclusion_by (claims.Infeasible ray) is_checked = Infeasible
conclusion_by (claims.Unbounded objective pair) is_checked = Unbounded

abbrev pub mark_by : declared.Claim → Mark
mark_by (claims.Optimal objective) = marks.Optimal
mark_by (claims.Crossed k) = marks.Infeasible
mark_by (claims.Infeasible ray) = marks.Infeasible
mark_by (claims.Unbounded objective pair) = marks.Unbounded
