-- The workspace of a price row: so many places for the multipliers of the rows, in words, in whole numbers and in fractions, and for a
-- direction.
use Rattle.std.specs.Prelude.{◌≡◌, ℕ, length}
use Rattle.eta_file.specs.Workspaces.{IsWorkspaceFor}
use Rattle.price_row.specs.declared.PriceRow.TheInside.{Inside}

abbrev pub workspace_of : Inside → ℕ
workspace_of a = length a.multipliers.items

pub record HasWorkspace (a : Inside) : Type 0 where
  pub words : length a.words ≡ workspace_of a
  pub wholes : length a.wholes ≡ workspace_of a
  pub directions : IsWorkspaceFor (workspace_of a) a.workspace
