-- The numbers of table lines fit, where those of each line do.
use Rattle.std.proofs.Common.{rules, ℕ, suc, ◌-◌, List, [], ◌∷◌, map, All, Option, None, Some}
use Rattle.exact_values.specs.Rational.{ℚ}
use Rattle.lp_definitions.specs.LinearProgram.{LinearProgram, value_at, variables, numbers_from, lower_of, upper_of, cost}
use Rattle.lp_definitions.specs.declared.Status.{Status}
use Rattle.lp_model.specs.declared.reports.ParaPart.{ParaPart}
use Rattle.problem_definitions.specs.Problem.{Problem}
use Rattle.listing_definitions.specs.Report.{Value, limit_value}
use Rattle.fitting_answers.specs.Fitting.{ValueFits, ValuesFit, LinesFit, SolutionFits, IntervalsFit}
use Rattle.listing_tables.specs.declared.sheet.Sheet.{Sheet}
use Rattle.listing_tables.specs.Lines.{lines_of, pair_values, pair_lines, multiplier_values, ray_lines, row_values, column_values, solution_lines, part_values}
use Rattle.report_text.specs.Parametric.{interval_view}
use Rattle.report_sizes.specs.Sizes.{LimitFits, VectorFits, PartFits}

lines_fit : (problem : Problem ℕ) (values : ℕ → List Value) → ((k : ℕ) → ValuesFit (values k)) → (numbers : List ℕ) → LinesFit (lines_of problem values numbers)
lines_fit problem values fit [] = tt
lines_fit problem values fit (k ∷ numbers) = (fit k, lines_fit problem values fit numbers)

limit_fits : (limit : Option ℚ) → LimitFits limit → ValueFits (limit_value limit)
limit_fits None fit = tt
limit_fits (Some value) fit = fit

-- ---- verdicts

module _ (problem : Problem ℕ) (p : LinearProgram) where
  pub pairs_fit : (first second : List ℚ) → VectorFits (value_at first) → VectorFits (value_at second) → LinesFit (pair_lines problem p first second)
  pairs_fit first second f s = lines_fit problem (pair_values first second) (λ k. (f k, (s k, tt))) (variables p.matrix)

  pub multipliers_fit : (ray : List ℚ) → VectorFits (value_at ray) → LinesFit (ray_lines problem p ray)
  multipliers_fit ray fit = lines_fit problem (multiplier_values ray) (λ k. (fit k, tt)) _

  -- ---- SOLUTION

  pub lines_of_solution_fit : (s : List Status) (point prices slack : List ℚ) → ((k : ℕ) → LimitFits (lower_of p k)) → ((k : ℕ) → LimitFits (upper_of p k)) →
      VectorFits (cost p) →
      VectorFits (value_at point) → VectorFits (value_at prices) → VectorFits (value_at slack) → SolutionFits (solution_lines problem p s point prices slack)
  lines_of_solution_fit s point prices slack low high costs z y d = (
    lines_fit problem (row_values p s point slack prices)
        (λ k. (tt, (z k, (d k, (limit_fits (lower_of p k) (low k), (limit_fits (upper_of p k) (high k), (y k, tt))))))) (numbers_from 1 p.rows),
    lines_fit problem (column_values p s point prices)
        (λ k. (tt, (z k, (costs (k - p.rows), (limit_fits (lower_of p k) (low k), (limit_fits (upper_of p k) (high k), (y k, tt))))))) _,
  )

-- ---- intervals

pub intervals_fit : (sheet : Sheet) (parts : List ParaPart) → All PartFits parts → IntervalsFit (map (interval_view sheet) parts)
intervals_fit sheet [] fit = tt
intervals_fit sheet (part ∷ parts) fit =
    let here : PartFits part = fit 0 part (search rules) in (
      (
        here.to,
        lines_fit sheet.problem.now (part_values sheet.lp.now part)
            (λ k. (tt, (here.value k, (here.value_rate k, (here.price k, (here.price_rate k, tt)))))) (variables sheet.lp.now.matrix),
      ),
      intervals_fit sheet parts (λ k d below. fit (suc k) d (search rules)),
    )
