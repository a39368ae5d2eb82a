-- What is selected of a problem, and what SETUP chooses.
--     IsMade problem choice lp     this linear program is selected, and no operation of the selection is refused
--     IsNotMade problem choice     why none is
--     IsOpened, IsNotOpened        what SETUP chooses by the cells, and why it doesn't
use Rattle.std.specs.Prelude.{◌≡◌, ℕ, true, false, Some, None, Ok}
use Rattle.problem_definitions.specs.Problem.{Problem}
use Rattle.lp_definitions.specs.LinearProgram.{LinearProgram}
use Rattle.selection_definitions.specs.Choice.{Choice}
use Rattle.selection_definitions.specs.Selection.{selected}
use Rattle.selection_definitions.specs.Making.{is_made}
use Rattle.problem_file.specs.Filed.{Filed, filed_under}
use Rattle.listing_definitions.specs.declared.VerbFault.TheVariants as faults
use Rattle.control_definitions.specs.Cells.{Cells}
use Rattle.control_definitions.specs.Program.{SetupOptions}
use Rattle.run_definitions.specs.State.{choice_of}
use Rattle.run_machine.specs.declared.selecting.Refusal.{Refusal}
use Rattle.run_machine.specs.declared.selecting.Refusal.TheVariants as refusals
use Rattle.run_machine.specs.Choosing.{HasSelectionFault}
use Rattle.run_machine.specs.Standing.{named, filed}
use Rattle.listing_walk.specs.declared.chosen.Named.{Named}
use Rattle.listing_walk.specs.declared.selecting.Unselected.{Unselected}
use Rattle.listing_walk.specs.declared.selecting.Unselected.TheVariants.{Fault, Unchecked, NoMemory}

-- why nothing is selected, without the evidence
abbrev pub unselected_by : Refusal → Unselected
unselected_by (refusals.Fault fault) = Fault fault
unselected_by (refusals.Overflow e) = Unchecked
unselected_by refusals.NoMemory = NoMemory

pub record IsMade (problem : Problem ℕ) (choice : Choice) (lp : LinearProgram) : Type 0 where
  pub is_selected : selected problem choice ≡ Ok lp
  pub is_made : is_made problem choice ≡ true

-- there is no fault, and an operation of the selection is refused
pub record IsRefused (problem : Problem ℕ) (choice : Choice) : Type 0 where
  pub lp : LinearProgram
  pub is_selected : selected problem choice ≡ Ok lp
  pub is_refused : is_made problem choice ≡ false

-- memory may run out at any time
abbrev pub IsNotMade : Problem ℕ → Choice → Unselected → Type 0
IsNotMade problem choice (Fault fault) = HasSelectionFault problem choice fault
IsNotMade problem choice Unchecked = IsRefused problem choice
IsNotMade problem choice NoMemory = Unit {0}

-- ---- SETUP

module _ (cells : Cells) (file : Filed) (options : SetupOptions) where
  -- the problem is on file under the name that is wanted, or was put last, and the linear program is selected of it
  pub record IsOpened (opened : Named) : Type 0 where
    pub problem : Problem ℕ
    pub is_named : named cells.xpbname file ≡ Some opened.chosen.name
    pub is_filed : filed_under opened.chosen.name file ≡ Some problem
    pub is_own : opened.name ≡ problem.name
    pub are_options : opened.chosen.options ≡ options
    pub made : IsMade problem (choice_of cells options) opened.chosen.lp

  -- there is no such problem, or its selection is refused
  pub data IsNotOpened : Unselected → Type 0 where
    no_problem : filed cells.xpbname file ≡ None → IsNotOpened (Fault faults.NoProblem)
    not_selected : {refusal : Unselected} (problem : Problem ℕ) → filed cells.xpbname file ≡ Some problem →
        IsNotMade problem (choice_of cells options) refusal → IsNotOpened refusal
