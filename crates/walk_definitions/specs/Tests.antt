-- The tests of what is read of a listing. Each is the verdict of steps in their order, so that it is settled which comes first: an
-- operation that the checker's arithmetic refuses, or a comparison that fails.
use Rattle.std.specs.Prelude.{ℕ, Bool, ◌&&◌, ◌||◌, List, [], ◌∷◌, ◌++◌, map, Option, Some, None}
use Rattle.std.specs.List.{flat_map}
use Rattle.exact_values.specs.Rational.{ℚ, zero_ℚ, ◌+ℚ◌, ◌-ℚ◌, ◌*ℚ◌, compare_ℚ}
use Rattle.exact_values.specs.Tests.{lt_ℚ, le_ℚ, eq_ℚ}
use Rattle.frac128.specs.declared.Op.TheVariants.{Sub}
use Rattle.lp_definitions.specs.LinearProgram.{LinearProgram, Vector, value_at, variables, lower_of, upper_of, for_min}
use Rattle.check_definitions.specs.declared.Verdict.{Verdict}
use Rattle.check_definitions.specs.declared.Verdict.TheVariants.{Checked, Failed}
use Rattle.check_definitions.specs.Steps.{Step, operation, comparison, verdict_by, verdict_of, in_turn, Product, sum_steps, sum_of}
use Rattle.check_definitions.specs.Checks.{is_at, by_sign, equations, feasible_point, reduced_costs, ray_columns, multiplied, limit_product, ray_limits}
use Rattle.check_definitions.specs.Checks.{free_direction, optimal_steps, crossed_steps, infeasible_steps, unbounded_steps}
use Rattle.simplex_definitions.specs.Chain.{along}
use Rattle.listing_definitions.specs.declared.Mark.{Mark}
use Rattle.listing_definitions.specs.declared.Mark.TheVariants.{Optimal}
use Rattle.listing_definitions.specs.Report.{PathVerdict, OptimalAt, CrossedAt, InfeasibleBy, UnboundedBy, Check, SolutionLines, ParametricInterval, ChainEnd}
use Rattle.listing_definitions.specs.Report.{EndsAt, UnboundedPast, InfeasiblePast}
use Rattle.question_definitions.specs.Answers.{Sheet, Changing, Row, Set}
use Rattle.answer_definitions.specs.Lines.{row_numbers}
use Rattle.answer_definitions.specs.ParametricRuns.{row_of, shifts_of, family_of}
use Rattle.walk_definitions.specs.Checkers.{Checker}
use Rattle.walk_definitions.specs.Tables.{column_of, multipliers}

-- a comparison of the walk's own
abbrev pub asked : Bool → Verdict
asked holds = verdict_of (comparison 6 0 holds ∷ [])

-- ---- what is tested of SOLUTION

module _ (sheet : Sheet) where
  abbrev p : LinearProgram
  p = sheet.lp

  -- the activities, the prices and the slacks that SOLUTION prints
  abbrev pub point_of : SolutionLines → Vector
  point_of lines = value_at (column_of 1 (lines.rows ++ lines.columns))

  abbrev pub prices_of : SolutionLines → Vector
  prices_of lines = value_at (column_of 5 (lines.rows ++ lines.columns))

  abbrev pub slacks_of : SolutionLines → Vector
  slacks_of lines = value_at (column_of 2 lines.rows)

  -- right-hand side minus activity is the slack
  abbrev pub slack_steps : Vector → Vector → ℕ → List Step
  slack_steps z slack i =
      operation Sub (value_at p.rhs i) (z i) ∷ comparison 6 i (eq_ℚ (value_at p.rhs i -ℚ z i) (slack i)) ∷ []

  -- ---- and of parametric runs

  -- theta times its shift is added to a limit
  abbrev pub moving_steps : ℚ → ℚ → Option ℚ → List Step
  moving_steps theta by None = []
  moving_steps theta by (Some limit) = sum_steps limit (record { left = theta; right = by } ∷ [])

  -- what is made of the limits of the rows at theta; of the objective nothing is made before a check needs it
  abbrev pub making_steps : Changing → ℚ → List Step
  making_steps (Row name) theta = []
  making_steps (Set name) theta =
      flat_map (λ i. moving_steps theta (value_at (shifts_of sheet.problem name) i) (lower_of p i)
      ++ moving_steps theta (value_at (shifts_of sheet.problem name) i) (upper_of p i)) (row_numbers p)

  -- value + theta * rate at each variable
  abbrev pub along_steps : ℚ → List ℚ → List ℚ → List Step
  along_steps theta value rate =
      flat_map (λ k. sum_steps (value_at value k) (record { left = theta; right = value_at rate k } ∷ [])) (variables p.matrix)

-- A price, counted for MIN, that is positive asks for the lower limit in both linear programs at once, of each point in its own; a
-- negative one asks for the upper limits.
abbrev pub keeps_limit : (p q : LinearProgram) → Vector → Vector → ℚ → ℕ → List Step
keeps_limit p q z w price k =
    comparison 6 k (by_sign (compare_ℚ (for_min p.sense price) zero_ℚ)
    (is_at (upper_of p k) (z k) && is_at (upper_of q k) (w k)) (is_at (lower_of p k) (z k) && is_at (lower_of q k) (w k))) ∷ []

-- of an interval with these values and prices, and their rates
module _ (sheet : Sheet) (changing : Changing) (from to : ℚ) (value value_rate price price_rate : List ℚ) where
  abbrev both_ends : ℚ → ℕ → List Step
  both_ends theta k = keeps_limit (family_of sheet changing from) (family_of sheet changing to) (along from value value_rate) (along to value value_rate)
      (along theta price price_rate k) k

  abbrev pub keeping_steps : List Step
  keeping_steps = flat_map (λ k. both_ends from k ++ both_ends to k) (variables sheet.lp.matrix)

abbrev pub shift_products : Sheet → Changing → List ℚ → Vector → List Product
shift_products sheet changing shift w = map (λ i. record { left = w i; right = value_at shift i }) (row_numbers sheet.lp)

-- ---- the tests, each by the checker's arithmetic

abbrev pub says : Checker → List Step → Verdict
says C steps = verdict_by C.arithmetic steps

module _ (C : Checker) (sheet : Sheet) where
  -- an optimal verdict is tested at SOLUTION
  abbrev pub claim_test : PathVerdict → Verdict
  claim_test (OptimalAt steps objective) = Checked
  claim_test (CrossedAt k) = says C (crossed_steps sheet.lp k)
  claim_test (InfeasibleBy steps lines) = says C (infeasible_steps sheet.lp (value_at (multipliers sheet lines)))
  claim_test (UnboundedBy steps objective lines) =
      in_turn (says C (unbounded_steps sheet.lp (value_at (column_of 0 lines)) (value_at (column_of 1 lines))) ∷
      asked (eq_ℚ objective (value_at (column_of 0 lines) sheet.lp.objective)) ∷ [])

  abbrev pub verdict_test : PathVerdict → Check → Verdict
  verdict_test (OptimalAt steps objective) check = Checked
  verdict_test verdict check = in_turn (claim_test verdict ∷ asked (C.takes check) ∷ [])

  -- more is asked under OPTIMAL
  abbrev pub best_test : Mark → Vector → Vector → Verdict
  best_test Optimal z y = says C (optimal_steps sheet.lp z y)
  best_test mark z y = Checked

  abbrev pub solution_test : Mark → SolutionLines → Verdict
  solution_test mark lines =
      in_turn (says C (equations sheet.lp 1 (point_of sheet lines)) ∷ says C (reduced_costs sheet.lp (prices_of sheet lines)) ∷
      says C (flat_map (slack_steps sheet (point_of sheet lines) (slacks_of sheet lines)) (row_numbers sheet.lp)) ∷
      best_test mark (point_of sheet lines) (prices_of sheet lines) ∷ [])

  -- at an end of an interval the linear program is made there, the point and the prices are, and these are best
  abbrev pub end_test : Changing → ℚ → List ℚ → List ℚ → List ℚ → List ℚ → Verdict
  end_test changing theta value value_rate price price_rate =
      in_turn (says C (making_steps sheet changing theta) ∷ says C (along_steps sheet theta value value_rate) ∷ says C
      (along_steps sheet theta price price_rate) ∷
      says C (optimal_steps (family_of sheet changing theta) (along theta value value_rate) (along theta price price_rate)) ∷ [])

module _ (C : Checker) (sheet : Sheet) (changing : Changing) where
  -- the first interval may be a point, and none ends past the last value
  abbrev pub part_test : (from to : ℚ) (value value_rate price price_rate : List ℚ) → Bool → ℚ → Verdict
  part_test from to value value_rate price price_rate is_first max = in_turn (
      asked (lt_ℚ from to || (is_first && eq_ℚ from to)) ∷ asked (le_ℚ to max) ∷
      end_test C sheet changing from value value_rate price price_rate ∷ end_test C sheet changing to value value_rate price price_rate ∷
      says C (keeping_steps sheet changing from to value value_rate price price_rate) ∷ [])

  abbrev pub interval_test : Bool → ℚ → ParametricInterval → Verdict
  interval_test is_first max interval =
      part_test interval.from interval.to (column_of 1 interval.lines) (column_of 2 interval.lines) (column_of 3 interval.lines)
      (column_of 4 interval.lines) is_first max

  -- ---- how a run closes, where its last interval ends at last

  -- a direction that keeps all limits; its objective doesn't get worse at t, and its change row improves
  abbrev pub unbounded_past : ℕ → ℚ → Vector → Vector → Verdict
  unbounded_past h t z d = let lp = sheet.lp in in_turn (
      says C (feasible_point lp z) ∷ says C (equations lp 3 d) ∷ says C (free_direction lp d) ∷
      says C (sum_steps (d lp.objective) (record { left = t; right = d h } ∷ [])) ∷
      asked (le_ℚ (for_min lp.sense (d lp.objective +ℚ t *ℚ d h)) zero_ℚ) ∷ asked (lt_ℚ (for_min lp.sense (d h)) zero_ℚ) ∷ [])

  -- a ray at t; its limits add up to no more than 0, and fall as theta grows
  abbrev pub infeasible_past : List ℚ → ℚ → Vector → Verdict
  infeasible_past shift t w = let lp = family_of sheet changing t in in_turn (
      says C (making_steps sheet changing t) ∷ says C (ray_columns lp w) ∷ says C (ray_limits lp w zero_ℚ (multiplied lp w)) ∷
      asked (le_ℚ (sum_of zero_ℚ (map (limit_product lp w) (multiplied lp w))) zero_ℚ) ∷
      says C (sum_steps zero_ℚ (shift_products sheet changing shift w)) ∷ asked (lt_ℚ (sum_of zero_ℚ (shift_products sheet changing shift w)) zero_ℚ) ∷ [])

-- past the last end, which is before the last value, something is proved
abbrev pub past_test : ℚ → ℚ → ℚ → Verdict → Verdict
past_test max last t proof = in_turn (asked (eq_ℚ t last) ∷ asked (lt_ℚ t max) ∷ proof ∷ [])

abbrev pub close_test : Checker → Sheet → Changing → ℚ → ℚ → ChainEnd → Verdict
close_test C sheet (Row name) max last (UnboundedPast t lines) =
    past_test max last t (unbounded_past C sheet (Row name) (row_of sheet.problem name) t (value_at (column_of 0 lines)) (value_at (column_of 1 lines)))
close_test C sheet (Set name) max last (InfeasiblePast t lines) =
    past_test max last t (infeasible_past C sheet (Set name) (shifts_of sheet.problem name) t (value_at (multipliers sheet lines)))
close_test C sheet changing max last (EndsAt t) = in_turn (asked (eq_ℚ t last) ∷ asked (eq_ℚ t max) ∷ [])
close_test C sheet changing max last end = Failed 6 0
