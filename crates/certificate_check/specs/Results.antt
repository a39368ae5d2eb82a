-- What the parts of the code answer.
--     Gives result steps value     the value of these operations, or the first of them that is refused
--     SumsTo result start ts       so for a sum of products
--     verdict_from result          the verdict of a part that may stop
--     IsNotFailed v                the check found no comparison that fails
--     Leads result steps value     the value of a part that may stop
use Rattle.std.specs.Prelude.{◌≡◌, ◌≢◌, ℕ, List, Result, Ok, Err}
use Rattle.exact_values.specs.Rational.{ℚ}
use Rattle.frac128.specs.declared.Refused.{Refused}
use Rattle.check_definitions.specs.declared.Verdict.{Verdict}
use Rattle.check_definitions.specs.declared.Verdict.TheVariants.{Checked, Failed, Unchecked}
use Rattle.check_definitions.specs.Steps.{Step, Product, verdict_of, sum_steps, sum_of}
use Rattle.certificate_check.specs.declared.stops.Stopped.{Stopped}
use Rattle.certificate_check.specs.declared.stops.Stopped.TheVariants.{Comparison, Operation}

-- no operation is refused, and this is the value; or this operation is the first to be refused
abbrev pub Gives : Result ℚ Refused → List Step → ℚ → Type 0
Gives (Ok x) steps value = (verdict_of steps ≡ Checked) × (x ≡ value)
Gives (Err refused) steps value = verdict_of steps ≡ Unchecked refused

abbrev pub SumsTo : Result ℚ Refused → ℚ → List Product → Type 0
SumsTo result start ts = Gives result (sum_steps start ts) (sum_of start ts)

-- a part that does not stop is checked
abbrev pub verdict_from : Result (Unit {0}) Stopped → Verdict
verdict_from (Ok done) = Checked
verdict_from (Err (Comparison part number)) = Failed part number
verdict_from (Err (Operation refused)) = Unchecked refused

-- the part is checked, and this is its value; or its verdict is that of the steps
abbrev pub Leads : Result ℚ Stopped → List Step → ℚ → Type 0
Leads (Ok x) steps value = (verdict_of steps ≡ Checked) × (x ≡ value)
Leads (Err stopped) steps value = verdict_from (Err stopped) ≡ verdict_of steps

-- no comparison fails before an operation is refused: the verdict is Checked or Unchecked
abbrev pub IsNotFailed : Verdict → Type 0
IsNotFailed v = (part number : ℕ) → v ≢ Failed part number
