-- What is made on the way to a test: linear programs and points at a value of the parameter.
--     Makes Shows verdict result   something is made, of which so much is shown; or the verdict stops so
--     row_steps, shift_steps       the operations on the limits of a row, and of all rows
--     AreLimits ks                 the limits of these variables at a value
--     IsAlong                      the values at a value, of values and rates
use Rattle.std.specs.Prelude.{◌≡◌, ℕ, List, ◌++◌, map, Option, Result, Ok, Err, option_map}
use Rattle.std.specs.List.{flat_map}
use Rattle.exact_values.specs.Rational.{ℚ, ◌+ℚ◌, ◌*ℚ◌}
use Rattle.lp_definitions.specs.LinearProgram.{LinearProgram, value_at, variables, lower_of, upper_of}
use Rattle.check_definitions.specs.declared.Verdict.{Verdict}
use Rattle.check_definitions.specs.declared.Verdict.TheVariants.{Checked}
use Rattle.check_definitions.specs.Steps.{Step}
use Rattle.simplex_definitions.specs.Chain.{along}
use Rattle.simplex_definitions.specs.RhsRun.{shift_of}
use Rattle.question_definitions.specs.Answers.{Sheet}
use Rattle.answer_definitions.specs.Lines.{row_numbers}
use Rattle.walk_definitions.specs.Tests.{moving_steps}
use Rattle.listing_claims.specs.declared.claims.Stop.{Stop}
use Rattle.checks_of_128_bits.specs.declared.families.Limits.{Limits}
use Rattle.listing_claims.specs.Passing.{Stops}

abbrev pub Makes : {X : Type 0} → (X → Type 0) → Verdict → Result X Stop → Type 0
Makes Shows verdict (Ok x) = (verdict ≡ Checked) × Shows x
Makes Shows verdict (Err stop) = Stops stop verdict

abbrev pub moved : ℚ → ℚ → Option ℚ → Option ℚ
moved theta by limit = option_map (λ l. l +ℚ theta *ℚ by) limit

module _ (sheet : Sheet) (shift : List ℚ) (theta : ℚ) where
  abbrev pub row_steps : ℕ → List Step
  row_steps i = moving_steps sheet theta (value_at shift i) (lower_of sheet.lp i) ++ moving_steps sheet theta (value_at shift i) (upper_of sheet.lp i)

  abbrev pub shift_steps : List Step
  shift_steps = flat_map row_steps (row_numbers sheet.lp)

module _ (p : LinearProgram) (shift : List ℚ) (theta : ℚ) where
  abbrev pub low_at : ℕ → Option ℚ
  low_at k = moved theta (shift_of p.matrix shift k) (lower_of p k)

  abbrev pub high_at : ℕ → Option ℚ
  high_at k = moved theta (shift_of p.matrix shift k) (upper_of p k)

  pub record AreLimits (ks : List ℕ) (limits : Limits) : Type 0 where
    pub lower : limits.lower.items ≡ map low_at ks
    pub upper : limits.upper.items ≡ map high_at ks

abbrev pub IsAlong : LinearProgram → ℚ → List ℚ → List ℚ → List ℚ → Type 0
IsAlong p theta value rate made = made ≡ map (along theta value rate) (variables p.matrix)
