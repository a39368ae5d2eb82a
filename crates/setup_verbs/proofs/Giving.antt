-- How a statement comes to something, by what is right of linear programming.
use Rattle.std.proofs.Common.{◌≡◌, ℕ, Option, None, Some, Result, Ok, Err, refl, sym, subst}
use Rattle.lp_definitions.specs.LinearProgram.{LinearProgram}
use Rattle.selection_definitions.specs.declared.SelectionFault.{SelectionFault}
use Rattle.listing_definitions.specs.declared.VerbFault.{VerbFault}
use Rattle.listing_definitions.specs.Ending.{VerbStop}
use Rattle.fitting_answers.specs.Real.{linear_programming_of_128_bits}
use Rattle.run_definitions.specs.Moves.{StatementOutcome, stops, StatementMove, Gives, or_fault}
use Rattle.run_definitions.specs.Verbs.{or_selection_fault, selection_verb_fault}

-- a verb fault
pub gives_fault : {X : Type 0} (card : ℕ) (fault : VerbFault) (found : Option X) (go : X → StatementMove) → found ≡ None →
    Gives linear_programming_of_128_bits card (or_fault card fault found go) (stops (VerbStop (record { fault = fault; card = card })))
gives_fault card fault found go none =
    subst (λ o. Gives linear_programming_of_128_bits card (or_fault card fault o go) (stops (VerbStop (record { fault = fault; card = card })))) (sym none) refl

-- no verb fault
pub gives_found : {X : Type 0} (card : ℕ) (fault : VerbFault) (found : Option X) (go : X → StatementMove) (x : X) (outcome : StatementOutcome) →
    found ≡ Some x → Gives linear_programming_of_128_bits card (go x) outcome →
    Gives linear_programming_of_128_bits card (or_fault card fault found go) outcome
gives_found card fault found go x outcome some given =
    subst (λ o. Gives linear_programming_of_128_bits card (or_fault card fault o go) outcome) (sym some) given

-- a selection's fault
pub gives_unselected : (card : ℕ) (found : Result LinearProgram SelectionFault) (go : LinearProgram → StatementMove) (why : SelectionFault)
    (fault : VerbFault) → found ≡ Err why → selection_verb_fault why ≡ fault →
    Gives linear_programming_of_128_bits card (or_selection_fault card found go) (stops (VerbStop (record { fault = fault; card = card })))
gives_unselected card found go why fault err is =
    subst (λ r. Gives linear_programming_of_128_bits card (or_selection_fault card r go) (stops (VerbStop (record { fault = fault; card = card })))) (sym err)
    (subst (λ f. stops (VerbStop (record { fault = fault; card = card })) ≡ stops (VerbStop (record { fault = f; card = card }))) (sym is) refl)

pub gives_selected : (card : ℕ) (found : Result LinearProgram SelectionFault) (go : LinearProgram → StatementMove) (lp : LinearProgram)
    (outcome : StatementOutcome) → found ≡ Ok lp → Gives linear_programming_of_128_bits card (go lp) outcome →
    Gives linear_programming_of_128_bits card (or_selection_fault card found go) outcome
gives_selected card found go lp outcome ok given = subst (λ r. Gives linear_programming_of_128_bits card (or_selection_fault card r go) outcome) (sym ok) given
