-- What SETUP comes to.
--     IsOpened opened              what it opens with
--     IsNotOpened refusal          why it doesn't
use Rattle.std.specs.Prelude.{◌≡◌, ℕ, [], ◌∷◌, Some, None, Ok}
use Rattle.problem_definitions.specs.Problem.{Problem}
use Rattle.lp_definitions.specs.Basis.{opening_statuses}
use Rattle.basis_values.specs.Calls.{HasRates, LieIn}
use Rattle.control_definitions.specs.Program.{SetupOptions}
use Rattle.selection_definitions.specs.Selection.{selected}
use Rattle.problem_file.specs.Filed.{Filed, filed_under}
use Rattle.listing_definitions.specs.declared.VerbFault.TheVariants as faults
use Rattle.control_definitions.specs.Cells.{Cells}
use Rattle.run_definitions.specs.State.{choice_of}
use Rattle.run_machine.specs.declared.selecting.Refusal.{Refusal}
use Rattle.run_machine.specs.declared.selecting.Refusal.TheVariants.{Fault, Overflow, NoMemory}
use Rattle.run_machine.specs.Choosing.{IsUnselected}
use Rattle.run_machine.specs.Standing.{named, filed}
use Rattle.setup_verbs.specs.Kept.{chosen}
use Rattle.setup_verbs.specs.Machines.{Opened}

module _ (cells : Cells) (file : Filed) (options : SetupOptions) where
  -- The problem is on file under the name that is wanted, or was put last; the linear program is selected of it; and the basis is the
  -- opening one, with rates of its own.
  pub record IsOpened (opened : Opened) : Type 0 where
    pub problem : Problem ℕ
    pub is_named : named cells.xpbname file ≡ Some opened.setup.name
    pub is_filed : filed_under opened.setup.name file ≡ Some problem
    pub is_own : opened.name ≡ problem.name
    pub are_options : opened.setup.options ≡ options
    pub is_chosen : chosen opened.setup ≡ choice_of cells options
    pub is_selected : selected problem (choice_of cells options) ≡ Ok opened.setup.lp
    pub is_opening : opened.setup.basis ≡ opening_statuses opened.setup.lp
    pub rates : HasRates opened.setup.engine.matrix opened.setup.engine.basics opened.setup.lp
        opened.setup.basis
    pub lie : LieIn opened.setup.lp.matrix opened.setup.engine.waypoints (opened.setup.basis ∷ [])

  -- there is no such problem, or its selection is refused
  pub data IsSetupFault (refusal : Refusal) : Type 0 where
    no_problem : refusal ≡ Fault faults.NoProblem → filed cells.xpbname file ≡ None →
        IsSetupFault refusal
    not_selected : (problem : Problem ℕ) → filed cells.xpbname file ≡ Some problem →
        IsUnselected problem (choice_of cells options) refusal → IsSetupFault refusal

  abbrev pub IsNotOpened : Refusal → Type 0
  IsNotOpened (Fault fault) = IsSetupFault (Fault fault)
  IsNotOpened (Overflow e) = IsSetupFault (Overflow e)
  IsNotOpened NoMemory = Unit {0}
