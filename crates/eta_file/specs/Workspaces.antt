-- Workspace for a direction.
--     IsWorkspaceFor n w           both have a place for each of n variables
use Rattle.std.specs.Prelude.{◌≡◌, ℕ, length}
use Rattle.eta_file.specs.declared.workspace.ColumnWorkspace.{ColumnWorkspace}

pub record IsWorkspaceFor (n : ℕ) (w : ColumnWorkspace) : Type 0 where
  pub wholes : length w.wholes ≡ n
  pub direction : length w.direction.items ≡ n
