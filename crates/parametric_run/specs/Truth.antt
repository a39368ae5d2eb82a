-- What a report of a parametric run says is true.
use Rattle.std.specs.Prelude.{map}
use Rattle.exact_values.specs.Rational.{ℚ}
use Rattle.lp_definitions.specs.LinearProgram.{LinearProgram}
use Rattle.lp_model.specs.declared.reports.ParaReport.{ParaReport}
use Rattle.lp_model.specs.declared.reports.ParaReport.TheVariants.{Opening, Run}
use Rattle.bounded_primal.specs.Outcomes.{IsTrueOutcome}
use Rattle.parametric_laws.specs.Truth.{IsTrueRun}
use Rattle.parametric_run.specs.Calls.{part_of, end_of}

-- a failed opening is proved in the linear program at the first value, and a run at each value
abbrev pub IsTrueReported : (ℚ → LinearProgram) → ℚ → ℚ → ParaReport → Type 0
IsTrueReported family from max (Opening outcome) = IsTrueOutcome (family from) outcome
IsTrueReported family from max (Run run) = IsTrueRun family from max (map part_of run.parts) (end_of run.end)
