-- What a stop of a selection reports.
--     fault_of stop                            the fault of the choice, if that is what it reports
--     IsOverflowOf problem choice stop         its evidence, if it has some, is that of an operation of the selection
use Rattle.std.specs.Prelude.{ℕ, Option, Some, None}
use Rattle.problem_definitions.specs.Problem.{Problem}
use Rattle.selection_definitions.specs.declared.SelectionFault.{SelectionFault}
use Rattle.selection_definitions.specs.Choice.{Choice}
use Rattle.selection_definitions.specs.Refusals.{IsSelectionRefusal}
use Rattle.lp_setup.specs.declared.stop.SelectStop.{SelectStop}
use Rattle.lp_setup.specs.declared.stop.SelectStop.TheVariants.{Fault, Overflow, NoMemory}

-- the fault of the choice; the other stops come where there is none
abbrev pub fault_of : SelectStop → Option SelectionFault
fault_of (Fault fault) = Some fault
fault_of (Overflow e) = None
fault_of NoMemory = None

-- an operation of the selection is all that overflows
abbrev pub IsOverflowOf : Problem ℕ → Choice → SelectStop → Type 0
IsOverflowOf problem choice (Overflow e) = IsSelectionRefusal problem choice e
IsOverflowOf problem choice _ = Unit {0}
