-- What is selected of a problem has the problem's rows and columns as its variables, and no change.
use Rattle.std.proofs.Common.{◌≡◌, ℕ, refl, subst}
use Rattle.std.specs.Prelude.{Ok}
use Rattle.lp_definitions.specs.LinearProgram.{LinearProgram}
use Rattle.selection_laws.proofs.Selected.{is_chosen}
use Rattle.problem_definitions.specs.Problem.{Problem}
use Rattle.selection_definitions.specs.Choice.{Choice}
use Rattle.selection_definitions.specs.Selection.{selected}
use Rattle.basis_deck_definitions.specs.Placings.{HasNames}
use Rattle.soundness_laws.proofs.Ends.{HasNoChange}

-- its variables are the problem's rows and columns
pub selected_has_names : (problem : Problem ℕ) (choice : Choice) (lp : LinearProgram) → selected problem choice ≡ Ok lp → HasNames problem lp
selected_has_names problem choice lp e = subst (HasNames problem) (is_chosen problem choice lp e).1 (record { rows = refl; columns = refl })

pub selected_has_no_change : (problem : Problem ℕ) (choice : Choice) (lp : LinearProgram) → selected problem choice ≡ Ok lp → HasNoChange lp
selected_has_no_change problem choice lp e = subst HasNoChange (is_chosen problem choice lp e).1 (λ z. refl)
