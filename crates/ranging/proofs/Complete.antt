-- Where no evidence holds, the call answers.
use Rattle.std.proofs.Common.{List, Result, Ok, Err, inl, inr, refl}
use Rattle.std.specs.Prelude.{IfOk, IfErr}
use Rattle.basis_values.specs.Calls.{RangeRefused}
use Rattle.lp_definitions.specs.Basis.{Basics}
use Rattle.lp_definitions.specs.LinearProgram.{LinearProgram}
use Rattle.lp_definitions.specs.declared.Status.{Status}
use Rattle.lp_model.specs.RatesCalls.{IfOverflow}
use Rattle.lp_model.specs.declared.Stop.{Stop}
use Rattle.lp_model.specs.declared.Stop.TheVariants.{Overflow, NoMemory}
use Rattle.lp_model.specs.declared.reports.RangeReport.{RangeReport}
use Rattle.simplex_definitions.specs.Ranges.{IsRangeReport}
use Rattle.ranging.specs.Lists.{report_of}
use Rattle.ranging.specs.Complete.{HasNoEvidence, IsReportOrMemory}

pub range_answers : (p : LinearProgram) (s : List Status) (before after : List Basics) (result : Result RangeReport Stop) →
    IfOk result (λ r. IsRangeReport p s (report_of r)) → IfErr result (λ stop. IfOverflow stop (RangeRefused p before s after)) → HasNoEvidence p s before →
    IsReportOrMemory p s result
range_answers p s before after (Ok r) report overflow none = inl (r, refl, report)
range_answers p s before after (Err (Overflow e)) report overflow none = absurd (none after e overflow)
range_answers p s before after (Err NoMemory) report overflow none = inr refl
