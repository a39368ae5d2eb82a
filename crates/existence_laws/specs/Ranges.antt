-- RANGE has an answer at each optimal basis.
--     RangesExist                  each optimal basis of a linear program without a change row has the three lists of intervals
use Rattle.std.specs.Prelude.{◌≡◌, List, None}
use Rattle.lp_definitions.specs.LinearProgram.{LinearProgram, IsLinearProgram}
use Rattle.lp_definitions.specs.Basis.{IsOptimalBasis}
use Rattle.lp_definitions.specs.declared.Status.{Status}
use Rattle.simplex_definitions.specs.Ranges.{RangeReport, IsRangeReport}

abbrev pub RangesExist : Type 0
RangesExist = (p : LinearProgram) (s : List Status) → IsLinearProgram p → p.change ≡ None → IsOptimalBasis p s →
    (report : RangeReport) × IsRangeReport p s report
