use Rattle.lp_definitions.specs.LinearProgram.{Vector, size}
use Rattle.lp_model.specs.RatesCalls.{IsRowOf}
use Rattle.lp_model.specs.Wanted.{NoneMeets}
use Rattle.eta_file.specs.Workspaces.{IsWorkspaceFor}
use Rattle.price_row.specs.NumbersOver.{AreNumbersOver}
use Rattle.price_row.proofs.first_by_multipliers.Given as goal

-- none of the first rates is wanted
abbrev pub invariant-loop-place : goal.invariant-loop-place
invariant-loop-place l = record {
  none : (rates : Vector) → IsRowOf l.file.matrix l.file.basics l.sought.row rates → NoneMeets l.sought.wanted.now l.sought.up rates l.place;
  over : AreNumbersOver l.denominator l.multipliers l.numbers;
  workspace : IsWorkspaceFor (size l.file.matrix) l.workspace;
}
