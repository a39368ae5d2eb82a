-- What is selected of a lawful problem is a linear program, without a change.
use Rattle.std.proofs.Common.{◌≡◌, ℕ, refl, subst}
use Rattle.std.specs.Prelude.{Option, Some, None, Ok}
use Rattle.card_definitions.specs.Words.{unless}
use Rattle.lp_definitions.specs.LinearProgram.{LinearProgram, IsLinearProgram}
use Rattle.problem_definitions.specs.Problem.{Problem}
use Rattle.problem_definitions.specs.Valid.{IsProblem}
use Rattle.selection_definitions.specs.Choice.{Choice, selection_fault}
use Rattle.selection_definitions.specs.Selection.{program_of_choice, selected}
use Rattle.selection_laws.proofs.Lawful.{program_is_lawful}

-- what is selected has no fault, and is the linear program of the choice
faultless : {A F : Type 0} (fault : Option F) (value lp : A) → unless fault value ≡ Ok lp → (fault ≡ None) × (value ≡ lp)
faultless None value lp e = (refl, cc e)
faultless (Some fault) value lp e = absurd (cc e)

pub is_chosen : (problem : Problem ℕ) (choice : Choice) (lp : LinearProgram) → selected problem choice ≡ Ok lp →
    (selection_fault problem choice ≡ None) × (program_of_choice problem choice ≡ lp)
unfolding selected
is_chosen problem choice lp e = faultless (selection_fault problem choice) (program_of_choice problem choice) lp e

pub selected_is_lawful : (problem : Problem ℕ) (choice : Choice) (lp : LinearProgram) → IsProblem problem → selected problem choice ≡ Ok lp → IsLinearProgram lp
selected_is_lawful problem choice lp is e = let h = is_chosen problem choice lp e in subst IsLinearProgram h.1 (program_is_lawful problem choice is h.0)

pub selected_without_change : (problem : Problem ℕ) (choice : Choice) (lp : LinearProgram) → selected problem choice ≡ Ok lp → lp.change ≡ None
selected_without_change problem choice lp e = subst (λ (p : LinearProgram). p.change ≡ None) (is_chosen problem choice lp e).1 refl
