-- When `range` has to answer.
--     HasNoEvidence p s before        no evidence of an overflow holds at the basis s, for rates that had the waypoints before
--     IsReportOrMemory p s result     the answer is a report of the intervals at s, or there is no memory
use Rattle.std.specs.Prelude.{◌≡◌, ◌⊎◌, List, Result, Ok, Err}
use Rattle.basis_values.specs.Calls.{RangeRefused}
use Rattle.lp_definitions.specs.Basis.{Basics}
use Rattle.lp_definitions.specs.LinearProgram.{LinearProgram}
use Rattle.lp_definitions.specs.declared.Evidence.{Evidence}
use Rattle.lp_definitions.specs.declared.Status.{Status}
use Rattle.lp_model.specs.declared.Stop.{Stop}
use Rattle.lp_model.specs.declared.Stop.TheVariants.{NoMemory}
use Rattle.lp_model.specs.declared.reports.RangeReport.{RangeReport}
use Rattle.simplex_definitions.specs.Ranges.{IsRangeReport}
use Rattle.ranging.specs.Lists.{report_of}

-- whatever waypoints the rates have after the call
abbrev pub HasNoEvidence : LinearProgram → List Status → List Basics → Type 0
HasNoEvidence p s before = (after : List Basics) (e : Evidence) → RangeRefused p before s after e → ⊥

abbrev pub IsReportOrMemory : LinearProgram → List Status → Result RangeReport Stop → Type 0
IsReportOrMemory p s result =
    ((r : RangeReport) × (result ≡ Ok r) × IsRangeReport p s (report_of r)) ⊎ (result ≡ Err NoMemory)
