-- What is read of how a parametric run closes.
--     IsValueRead                  a value after a text was read
--     past_in, close_after_in      what ends a run of this verb before its last value; how it closes
--     Closes                       what closes the run says what the report says
--     value_of                     the value at which the run ends
use Rattle.std.specs.Prelude.{◌≡◌, ℕ, List, Option, Some, None, codes, option_map}
use Rattle.std.specs.Option.{option_or}
use Rattle.exact_values.specs.Rational.{ℚ}
use Rattle.lp_definitions.specs.LinearProgram.{variables}
use Rattle.listing_definitions.specs.declared.Solver.{Solver}
use Rattle.listing_definitions.specs.declared.Solver.TheVariants.{Paraobj, Pararhs}
use Rattle.listing_definitions.specs.Report.{ChainEnd, EndsAt, UnboundedPast, InfeasiblePast}
use Rattle.question_definitions.specs.Answers.{Sheet}
use Rattle.walk_definitions.specs.Words.{Parsed, with_text, with_word}
use Rattle.walk_definitions.specs.Tables.{pair_slots, table_in, ray_in, multipliers}
use Rattle.listing_claims.specs.declared.claims.Closing as declared
use Rattle.listing_claims.specs.declared.claims.Closing.TheVariants as closings
use Rattle.listing_answers.specs.Claims.{IsPair}

-- ---- by how the word of a number is read

module _ (of : List ℕ → Option ℚ) where
  -- whatever is read after it
  abbrev pub value_line_in : List ℕ → (ℚ → List ℕ → Parsed ChainEnd) → List ℕ → Parsed ChainEnd
  value_line_in text next = with_text text (with_word of (λ t. with_text (codes "\n") (λ after. next t after)))

  abbrev pub IsValueRead : List ℕ → List ℕ → List ℕ → Option ℚ → Type 0
  IsValueRead text old new None = (next : ℚ → List ℕ → Parsed ChainEnd) → value_line_in text next old ≡ None
  IsValueRead text old new (Some t) = (next : ℚ → List ℕ → Parsed ChainEnd) → value_line_in text next old ≡ next t new

  abbrev pub end_in : List ℕ → Parsed ChainEnd
  end_in = value_line_in (codes " ENDS AT ") (λ t after. Some (EndsAt t, after))

  module _ (sheet : Sheet) where
    abbrev pub unbounded_in : List ℕ → Parsed ChainEnd
    unbounded_in =
        value_line_in (codes " UNBOUNDED PAST ")
        (λ t after. option_map (λ got. (UnboundedPast t got.0, got.1)) (table_in of sheet pair_slots (variables sheet.lp.matrix) after))

    abbrev pub infeasible_in : List ℕ → Parsed ChainEnd
    infeasible_in =
        value_line_in (codes " INFEASIBLE PAST ")
        (λ t after. option_map (λ got. (InfeasiblePast t got.0, got.1)) (ray_in of sheet (variables sheet.lp.matrix) after))

    -- a run of the objective may go past its end unbounded, and one of the right-hand side infeasible; PRIMAL and DUAL have no run
    abbrev pub past_in : Solver → List ℕ → Parsed ChainEnd
    past_in Paraobj left = unbounded_in left
    past_in Pararhs left = infeasible_in left
    past_in solver left = None

    abbrev pub close_after_in : Solver → List ℕ → Parsed ChainEnd
    close_after_in solver left = option_or (end_in left) (past_in solver left)

-- ---- what it says

abbrev pub Closes : Sheet → declared.Closing → ChainEnd → Type 0
Closes sheet (closings.At t) (EndsAt printed) = t ≡ printed
Closes sheet (closings.Unbounded t pair) (UnboundedPast printed lines) = (t ≡ printed) × IsPair sheet pair lines
Closes sheet (closings.Infeasible t ray) (InfeasiblePast printed lines) = (t ≡ printed) × (ray.items ≡ multipliers sheet lines)
Closes sheet closing end = ⊥

abbrev pub value_of : declared.Closing → ℚ
value_of (closings.At t) = t
value_of (closings.Unbounded t pair) = t
value_of (closings.Infeasible t ray) = t
