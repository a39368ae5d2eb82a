-- How a parametric run closes, as it is read and tested.
use Rattle.std.proofs.Common.{◌≡◌, ℕ, List, [], ◌∷◌, length, Option, Some, refl, ap, ◌∙◌}
use Rattle.std.specs.Prelude.{option_and_then}
use Rattle.exact_values.specs.Rational.{ℚ}
use Rattle.exact_values.specs.Tests.{eq_ℚ}
use Rattle.lp_definitions.specs.LinearProgram.{value_at}
use Rattle.check_definitions.specs.Steps.{in_turn}
use Rattle.listing_definitions.specs.Report.{ChainEnd, EndsAt, UnboundedPast, InfeasiblePast}
use Rattle.listing_definitions.specs.Text.{solver_text}
use Rattle.listing_definitions.specs.declared.Solver.{Solver}
use Rattle.listing_definitions.specs.declared.Solver.TheVariants.{Primal, Dual, Paraobj, Pararhs}
use Rattle.question_definitions.specs.Answers.{Sheet, Changing, Row, Set}
use Rattle.answer_definitions.specs.ParametricRuns.{row_of, shifts_of}
use Rattle.run_definitions.specs.Verbs.{last_value}
use Rattle.walk_definitions.specs.Checkers.{Checker}
use Rattle.walk_definitions.specs.Words.{left_after}
use Rattle.walk_definitions.specs.Tests.{asked, past_test, unbounded_past, infeasible_past, close_test}
use Rattle.walk_definitions.specs.Reading.{close_in}
use Rattle.listing_claims.specs.declared.claims.Closing as declared
use Rattle.listing_claims.specs.declared.claims.Closing.TheVariants as closings
use Rattle.listing_claims.specs.Closings.{ClosingFits, closing_test}
use Rattle.listing_answers.specs.Closings.{close_after_in, Closes, value_of}
use Rattle.listing_answers.proofs.Tables.{multipliers_counted}

-- ---- what is read

pub close_taken : (of : List ℕ → Option ℚ) (sheet : Sheet) (solver : Solver) (old left : List ℕ) → left_after (solver_text solver) old ≡ Some left →
    close_in of sheet solver old ≡ close_after_in of sheet solver left
close_taken of sheet Primal old left e = ap (option_and_then (close_after_in of sheet Primal)) e
close_taken of sheet Dual old left e = ap (option_and_then (close_after_in of sheet Dual)) e
close_taken of sheet Paraobj old left e = ap (option_and_then (close_after_in of sheet Paraobj)) e
close_taken of sheet Pararhs old left e = ap (option_and_then (close_after_in of sheet Pararhs)) e

-- ---- what is tested

pub closing_fits : (sheet : Sheet) (closing : declared.Closing) (end : ChainEnd) → Closes sheet closing end → ClosingFits sheet.lp closing
closing_fits sheet (closings.At t) (EndsAt printed) closes = tt
closing_fits sheet (closings.Unbounded t pair) (UnboundedPast printed lines) closes = closes.1.fits
closing_fits sheet (closings.Infeasible t ray) (InfeasiblePast printed lines) closes = ap length closes.1 ∙ multipliers_counted sheet lines
closing_fits sheet closing end closes = absurd closes

pub closing_value : (sheet : Sheet) (closing : declared.Closing) (end : ChainEnd) → Closes sheet closing end → value_of closing ≡ last_value end
closing_value sheet (closings.At t) (EndsAt printed) closes = closes
closing_value sheet (closings.Unbounded t pair) (UnboundedPast printed lines) closes = closes.0
closing_value sheet (closings.Infeasible t ray) (InfeasiblePast printed lines) closes = closes.0
closing_value sheet closing end closes = absurd closes

pub closing_tested : (C : Checker) (sheet : Sheet) (changing : Changing) (max last : ℚ) (closing : declared.Closing) (end : ChainEnd) →
    Closes sheet closing end → closing_test C sheet changing max last closing ≡ close_test C sheet changing max last end
closing_tested C sheet (Row name) max last (closings.At t) (EndsAt printed) closes = ap (λ t. in_turn (asked (eq_ℚ t last) ∷ asked (eq_ℚ t max) ∷ [])) closes
closing_tested C sheet (Set name) max last (closings.At t) (EndsAt printed) closes = ap (λ t. in_turn (asked (eq_ℚ t last) ∷ asked (eq_ℚ t max) ∷ [])) closes
closing_tested C sheet (Row name) max last (closings.Unbounded t pair) (UnboundedPast printed lines) closes =
    λ i. past_test max last (closes.0 i)
    (unbounded_past C sheet (Row name) (row_of sheet.problem name) (closes.0 i) (value_at (closes.1.is_point i)) (value_at (closes.1.is_direction i)))
closing_tested C sheet (Set name) max last (closings.Unbounded t pair) (UnboundedPast printed lines) closes = refl
closing_tested C sheet (Row name) max last (closings.Infeasible t ray) (InfeasiblePast printed lines) closes = refl
closing_tested C sheet (Set name) max last (closings.Infeasible t ray) (InfeasiblePast printed lines) closes =
    λ i. past_test max last (closes.0 i) (infeasible_past C sheet (Set name) (shifts_of sheet.problem name) (closes.0 i) (value_at (closes.1 i)))
closing_tested C sheet changing max last closing end closes = absurd closes
