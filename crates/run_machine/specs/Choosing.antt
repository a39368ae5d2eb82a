-- What is selected of a problem, and why nothing is.
--     refused_end, refused_act card refusal     how a run ends at a statement that does nothing, and what that comes to
--     IsUnselected problem choice  why nothing is selected
--     IsSelected file name ..      a choice selects this linear program of a problem on file
use Rattle.std.specs.Prelude.{◌≡◌, ℕ, Some, None, Result, Ok, Err}
use Rattle.std.specs.Result.{result_map_both}
use Rattle.problem_definitions.specs.Names.{Name}
use Rattle.problem_definitions.specs.Problem.{Problem}
use Rattle.lp_definitions.specs.LinearProgram.{LinearProgram}
use Rattle.lp_definitions.specs.declared.Evidence.{Evidence}
use Rattle.selection_definitions.specs.declared.SelectionFault.{SelectionFault}
use Rattle.selection_definitions.specs.Choice.{Choice}
use Rattle.selection_definitions.specs.Refusals.{IsSelectionRefusal}
use Rattle.selection_definitions.specs.Selection.{selected}
use Rattle.lp_setup.specs.declared.stop.SelectStop.{SelectStop}
use Rattle.lp_setup.specs.declared.stop.SelectStop.TheVariants as stops
use Rattle.problem_file.specs.Filed.{Filed, filed_under}
use Rattle.listing_definitions.specs.declared.VerbFault.{VerbFault}
use Rattle.run_definitions.specs.Verbs.{selection_verb_fault}
use Rattle.run_machine.specs.declared.act.Act.{Act}
use Rattle.run_machine.specs.declared.act.Act.TheVariants as act
use Rattle.run_machine.specs.declared.act.Halt.{Halt}
use Rattle.run_machine.specs.declared.act.Halt.TheVariants as halt
use Rattle.run_machine.specs.declared.end.End.{End}
use Rattle.run_machine.specs.declared.end.End.TheVariants as ends
use Rattle.run_machine.specs.declared.selecting.Refusal.{Refusal}
use Rattle.run_machine.specs.declared.selecting.Refusal.TheVariants.{Fault, Overflow, NoMemory}

-- a refused statement ends the run
abbrev pub refused_end : ℕ → Refusal → Result End Halt
refused_end card (Fault fault) = Ok (ends.Verb fault card)
refused_end card (Overflow e) = Ok (ends.Overflow e None card)
refused_end card NoMemory = Err halt.NoMemory

-- and so does the statement's act
abbrev pub refused_act : ℕ → Refusal → Result Act Halt
refused_act card refusal = result_map_both act.Ends (λ h. h) (refused_end card refusal)

-- ---- selections

-- each fault of a selection is a verb fault
abbrev pub refusal_of : SelectStop → Refusal
refusal_of (stops.Fault fault) = Fault (selection_verb_fault fault)
refusal_of (stops.Overflow e) = Overflow e
refusal_of stops.NoMemory = NoMemory

-- the fault is that of the selection
pub record HasSelectionFault (problem : Problem ℕ) (choice : Choice) (fault : VerbFault) : Type 0 where
  pub why : SelectionFault
  pub is_refused : selected problem choice ≡ Err why
  pub is_fault : selection_verb_fault why ≡ fault

-- there is no fault, and an operation of the selection is refused, as the evidence shows
pub record HasSelectionOverflow (problem : Problem ℕ) (choice : Choice) (e : Evidence) : Type 0 where
  pub lp : LinearProgram
  pub is_selected : selected problem choice ≡ Ok lp
  pub is_refusal : IsSelectionRefusal problem choice e

-- memory may run out at any time
abbrev pub IsUnselected : Problem ℕ → Choice → Refusal → Type 0
IsUnselected problem choice (Fault fault) = HasSelectionFault problem choice fault
IsUnselected problem choice (Overflow e) = HasSelectionOverflow problem choice e
IsUnselected problem choice NoMemory = Unit {0}

-- of the problem on file under this name the choice selects this linear program
abbrev pub IsSelected : Filed → Name → Choice → LinearProgram → Type 0
IsSelected file name choice lp = (problem : Problem ℕ) → filed_under name file ≡ Some problem → selected problem choice ≡ Ok lp
