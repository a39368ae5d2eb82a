use Rattle.std.proofs.Common.{ℕ, ◌<◌, ◌+◌, get_or}
use Rattle.exact_values.specs.Rational.{zero_ℚ}
use Rattle.lp_definitions.specs.LinearProgram.{size}
use Rattle.eta_file.specs.Inverse.{IsRateAt}
use Rattle.eta_file.specs.Workspaces.{IsWorkspaceFor}
use Rattle.eta_file.proofs.by_columns.row_by_columns.Given as goal

-- the places so far have the rates, and the workspace is as large as before
abbrev pub invariant-loop-k : goal.invariant-loop-k
invariant-loop-k l = record {
  rates : (k : ℕ) → k < l.k → IsRateAt l.file l.i (k + 1) (get_or l.out k zero_ℚ);
  workspace : IsWorkspaceFor (size l.file.matrix) l.workspace;
}
