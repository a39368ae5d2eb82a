use Rattle.std.proofs.Common.{◌≡◌, ◌-◌, length}
use Rattle.lp_definitions.specs.LinearProgram.{size}
use Rattle.eta_file.specs.Workspaces.{IsWorkspaceFor}
use Rattle.price_row.specs.NumbersOver.{AreNumbersOver}
use Rattle.price_row.proofs.ColumnNumbers.{IsFilledDownTo}
use Rattle.price_row.proofs.fill_by_multipliers.Given as goal

-- the last places are filled
abbrev pub invariant-loop-back : goal.invariant-loop-back
invariant-loop-back l = record {
  counted : length l.out ≡ size l.file.matrix;
  filled : IsFilledDownTo l.file (size l.file.matrix - l.back) l.row l.out;
  over : AreNumbersOver l.denominator l.multipliers l.numbers;
  workspace : IsWorkspaceFor (size l.file.matrix) l.workspace;
}
