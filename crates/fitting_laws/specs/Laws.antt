-- The laws of runs whose answers fit 128 bits.
--     AreRuns              such a run is a run of its job
--     PrintsFitting        its reports fit
use Rattle.std.specs.Prelude.{ℕ, List}
use Rattle.listing_definitions.specs.Report.{Report}
use Rattle.listing_definitions.specs.Ending.{Ending}
use Rattle.answer_definitions.specs.Real.{linear_programming}
use Rattle.run_definitions.specs.Answer.{IsJobRun}
use Rattle.fitting_answers.specs.Fitting.{ReportsFit}
use Rattle.fitting_answers.specs.Real.{linear_programming_of_128_bits}

abbrev pub AreRuns : Type 0
AreRuns =
    (bytes : List ℕ) (reports : List Report) (cards : List (List ℕ)) (ending : Ending) → IsJobRun linear_programming_of_128_bits bytes reports cards ending →
    IsJobRun linear_programming bytes reports cards ending

abbrev pub PrintsFitting : Type 0
PrintsFitting =
    (bytes : List ℕ) (reports : List Report) (cards : List (List ℕ)) (ending : Ending) → IsJobRun linear_programming_of_128_bits bytes reports cards ending →
    ReportsFit reports
