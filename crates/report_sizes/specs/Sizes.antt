-- Limits, vectors and intervals whose numbers fit.
--     LimitFits limit      a limit fits, where it is there
--     VectorFits z         each number of a vector fits
--     PartFits part        the numbers of an interval that are printed fit
use Rattle.std.specs.Prelude.{ℕ, Option, None, Some}
use Rattle.exact_values.specs.Rational.{ℚ}
use Rattle.frac128.specs.Operations.{TermsFit}
use Rattle.lp_definitions.specs.LinearProgram.{Vector, value_at}
use Rattle.lp_model.specs.declared.reports.ParaPart.{ParaPart}

abbrev pub LimitFits : Option ℚ → Type 0
LimitFits None = Unit {0}
LimitFits (Some value) = TermsFit value

abbrev pub VectorFits : Vector → Type 0
VectorFits z = (k : ℕ) → TermsFit (z k)

pub record PartFits (part : ParaPart) : Type 0 where
  pub to : TermsFit part.to
  pub value : VectorFits (value_at part.value)
  pub value_rate : VectorFits (value_at part.value_rate)
  pub price : VectorFits (value_at part.price)
  pub price_rate : VectorFits (value_at part.price_rate)
