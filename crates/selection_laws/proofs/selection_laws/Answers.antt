-- What is selected of a lawful problem.
use Rattle.selection_laws.proofs.Selected.{selected_is_lawful}
use Rattle.selection_laws.proofs.FreeRows.{row_is_free_in}
use Rattle.selection_laws.proofs.selection_laws.Goals as goal

pub returns-clause-programs : goal.returns-clause-programs
returns-clause-programs c = λ problem choice lp is e. selected_is_lawful problem choice lp is e

pub returns-clause-free_rows : goal.returns-clause-free_rows
returns-clause-free_rows c = λ problem name row is e. row_is_free_in problem name row is e
