-- Where the machine of a run stands.
--     IsReady file setup           the setup's basis and rates are those of a selection of its problem
--     IsSolved mark .. setup       these names select the setup's linear program, and with the mark OPTIMAL its basis is optimal in it
--     IsPresent file setup present the setup is at the last of these bases
--     IsSound, StaysSound          what holds of a machine with such a setup
--     ShowsSetup, Represents       which state it shows
use Rattle.std.specs.Prelude.{◌≡◌, ℕ, List, ◌∷◌, Option, Some, Ok}
use Rattle.lp_definitions.specs.Basis.{IsOptimalBasis}
use Rattle.problem_definitions.specs.Names.{Name}
use Rattle.problem_definitions.specs.Problem.{Problem}
use Rattle.problem_file.specs.Filed.{Filed, filed_under}
use Rattle.simplex_definitions.specs.Path.{last_of}
use Rattle.basis_values.specs.Calls.{HasRates, LieIn}
use Rattle.listing_definitions.specs.declared.Mark.{Mark}
use Rattle.listing_definitions.specs.declared.Mark.TheVariants.{Optimal}
use Rattle.selection_definitions.specs.Selection.{matrix_of, selected}
use Rattle.run_definitions.specs.State.{Present, State}
use Rattle.run_machine.specs.Choosing.{IsSelected}
use Rattle.run_machine.specs.Standing as machines
use Rattle.setup_verbs.specs.Machines.{Machine}
use Rattle.setup_verbs.specs.Kept.{Setup, chosen}

-- The linear program is what the setup's choice selects of the problem on file; the basis is one of it, and the rates are those of this basis.
pub record IsReady (file : Filed) (setup : Setup) : Type 0 where
  pub problem : Problem ℕ
  pub on_file : filed_under setup.name file ≡ Some problem
  pub is_selected : selected problem (chosen setup) ≡ Ok setup.lp
  pub rates : HasRates setup.engine.matrix setup.engine.basics setup.lp setup.basis

-- these names select the linear program that the setup keeps, and where the verdict was optimal, the basis is
pub record IsSolved (mark : Mark) (objective rhs : Option Name) (file : Filed) (setup : Setup) : Type 0 where
  pub is_selected : IsSelected file setup.name (record { objective = objective; rhs = rhs; options = setup.options }) setup.lp
  pub optimal : mark ≡ Optimal → IsOptimalBasis setup.lp setup.basis

-- The setup's problem and options are these, and its basis is the last of these bases; the sets that the inverse has passed through lie
-- in the bases.
pub record IsPresent (file : Filed) (setup : Setup) (present : Present) : Type 0 where
  pub on_file : filed_under setup.name file ≡ Some present.problem
  pub has_options : present.options ≡ setup.options
  pub reached : last_of present.opening present.steps ≡ setup.basis
  pub lie : LieIn (matrix_of present.problem) setup.engine.waypoints (present.opening ∷ present.steps)

-- ---- the machine with such a setup

abbrev pub IsSound : List (List ℕ) → Machine → Type 0
IsSound = machines.IsSound IsReady IsSolved

abbrev pub StaysSound : Machine → Machine → Type 0
StaysSound = machines.StaysSound IsReady IsSolved

abbrev pub ShowsSetup : Filed → Option Setup → Option Present → Type 0
ShowsSetup = machines.ShowsSetup IsPresent

abbrev pub Represents : List (List ℕ) → Machine → ℕ → ℕ → State → Type 0
Represents = machines.Represents IsPresent
