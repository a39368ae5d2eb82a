-- Why nothing is selected of a problem.
use Rattle.std.proofs.Common.{◌≡◌, ℕ, Some, None, refl, sym, ap, subst}
use Rattle.std.specs.Prelude.{Ok, Err}
use Rattle.card_definitions.specs.Words.{unless}
use Rattle.problem_definitions.specs.Problem.{Problem}
use Rattle.selection_definitions.specs.declared.SelectionFault.{SelectionFault}
use Rattle.selection_definitions.specs.Choice.{Choice, selection_fault}
use Rattle.selection_definitions.specs.Selection.{program_of_choice, selected}
use Rattle.lp_setup.specs.declared.stop.SelectStop.{SelectStop}
use Rattle.lp_setup.specs.declared.stop.SelectStop.TheVariants as stops
use Rattle.lp_setup.specs.Stops.{fault_of, IsOverflowOf}
use Rattle.run_machine.specs.declared.selecting.Refusal.{Refusal}
use Rattle.run_machine.specs.Choosing.{refusal_of, IsUnselected}

is_refused : (problem : Problem ℕ) (choice : Choice) (why : SelectionFault) → Some why ≡ selection_fault problem choice → selected problem choice ≡ Err why
unfolding selected
is_refused problem choice why e = ap (λ fault. unless fault (program_of_choice problem choice)) (sym e)

has_no_fault : (problem : Problem ℕ) (choice : Choice) → None ≡ selection_fault problem choice → selected problem choice ≡ Ok (program_of_choice problem choice)
unfolding selected
has_no_fault problem choice e = ap (λ fault. unless fault (program_of_choice problem choice)) (sym e)

unselected : (problem : Problem ℕ) (choice : Choice) (stop : SelectStop) → fault_of stop ≡ selection_fault problem choice → IsOverflowOf problem choice stop →
    IsUnselected problem choice (refusal_of stop)
unselected problem choice (stops.Fault fault) e h = record { why = fault; is_refused = is_refused problem choice fault e; is_fault = refl }
unselected problem choice (stops.Overflow evidence) e h =
    record { lp = program_of_choice problem choice; is_selected = has_no_fault problem choice e; is_refusal = h }
unselected problem choice stops.NoMemory e h = tt

pub unselected_by : (problem : Problem ℕ) (choice chosen : Choice) (stop : SelectStop) (refusal : Refusal) → choice ≡ chosen → refusal ≡ refusal_of stop →
    fault_of stop ≡ selection_fault problem choice →
    IsOverflowOf problem choice stop → IsUnselected problem chosen refusal
unselected_by problem choice chosen stop refusal same is e h =
    subst (λ (c : Choice). IsUnselected problem c refusal) same (subst (IsUnselected problem choice) (sym is) (unselected problem choice stop e h))
