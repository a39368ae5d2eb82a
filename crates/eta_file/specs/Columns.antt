-- What rates by columns keep: a file, and workspace for a direction.
use Rattle.lp_definitions.specs.LinearProgram.{size}
use Rattle.eta_file.specs.Inverse.{Inverse}
use Rattle.eta_file.specs.Workspaces.{IsWorkspaceFor}
use Rattle.eta_file.specs.declared.by_columns.ByColumns.TheInside.{Inside}

abbrev pub file_of : Inside → Inverse
file_of a = a.file

abbrev pub HasWorkspace : Inside → Type 0
HasWorkspace a = IsWorkspaceFor (size a.file.matrix) a.workspace
