use Rattle.std.proofs.Common.{ℕ, ◌<◌, ◌+◌, get_or}
use Rattle.exact_values.specs.Rational.{zero_ℚ}
use Rattle.lp_definitions.specs.LinearProgram.{size}
use Rattle.eta_file.specs.Workspaces.{IsWorkspaceFor}
use Rattle.price_row.specs.Known.{IsMultiplierOf}
use Rattle.price_row.proofs.multipliers_by_rows.Given as goal

-- the rows so far have their multipliers
abbrev pub invariant-loop-k : goal.invariant-loop-k
invariant-loop-k l = record {
  known : (k : ℕ) → k < l.k → IsMultiplierOf l.file l.i (k + 1) (get_or l.out k zero_ℚ);
  workspace : IsWorkspaceFor (size l.file.matrix) l.workspace;
}
