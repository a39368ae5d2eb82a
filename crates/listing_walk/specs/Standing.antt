-- Where the walk stands.
--     IsReady, IsSolved, IsView    what SETUP keeps, without a basis
--     Faces place walker           this is left of the listing, this verdict is pending, and so many reports were read
--     holding last machine         the machine, with this value in XPARAM where there is one
--     Represents cards machine ..  the machine and the place show this walker
use Rattle.std.specs.Prelude.{◌≡◌, ℕ, List, Option, None, Some, Ok}
use Rattle.exact_values.specs.Rational.{ℚ}
use Rattle.problem_definitions.specs.Names.{Name}
use Rattle.problem_definitions.specs.Problem.{Problem}
use Rattle.problem_file.specs.Filed.{Filed, filed_under}
use Rattle.selection_definitions.specs.Choice.{Choice}
use Rattle.selection_definitions.specs.Selection.{selected}
use Rattle.listing_definitions.specs.declared.Mark.{Mark}
use Rattle.listing_definitions.specs.Report.{Check}
use Rattle.run_definitions.specs.State.{Present}
use Rattle.run_machine.specs.declared.machine.Machine.{Machine}
use Rattle.run_machine.specs.Choosing.{IsSelected}
use Rattle.run_machine.specs.Standing as machines
use Rattle.walk_definitions.specs.Checkers.{says_checked}
use Rattle.walk_definitions.specs.Walker as walks
use Rattle.listing_walk.specs.declared.chosen.Chosen.{Chosen}
use Rattle.listing_walk.specs.declared.place.Pending.{Pending}
use Rattle.listing_walk.specs.declared.place.ListingPlace.{ListingPlace}

-- ---- what SETUP keeps

-- the linear program was selected of the problem on file, with the options that are kept
pub record IsReady (file : Filed) (chosen : Chosen) : Type 0 where
  pub problem : Problem ℕ
  pub on_file : filed_under chosen.name file ≡ Some problem
  pub choice : Choice
  pub has_options : choice.options ≡ chosen.options
  pub is_selected : selected problem choice ≡ Ok chosen.lp

-- while a mark stands, these names select the linear program that is kept
abbrev pub IsSolved : Mark → Option Name → Option Name → Filed → Chosen → Type 0
IsSolved mark objective rhs file chosen = IsSelected file chosen.name (record { objective = objective; rhs = rhs; options = chosen.options }) chosen.lp

-- the problem on file, and the options, with any bases
pub record IsView (file : Filed) (chosen : Chosen) (present : Present) : Type 0 where
  pub on_file : filed_under chosen.name file ≡ Some present.problem
  pub has_options : present.options ≡ chosen.options

abbrev pub IsSound : List (List ℕ) → Machine Chosen → Type 0
IsSound = machines.IsSound IsReady IsSolved

-- ---- where the walk stands in the listing

-- the verdict is pending, with a check that was made or refused as the listing says
abbrev pub ShowsPending : Option Pending → Option walks.Pending → Type 0
ShowsPending None viewed = viewed ≡ None
ShowsPending (Some pending) viewed =
    (check : Check) × (viewed ≡ Some (record { rest = pending.rest.now; objective = pending.objective; check = check })) ×
    (says_checked check ≡ pending.is_checked)

pub record Faces (place : ListingPlace) (w : walks.Walker) : Type 0 where
  pub rest : w.rest ≡ place.cursor
  pub pending : ShowsPending place.pending w.pending
  pub reports : w.reports ≡ place.reports

-- ---- both

-- the machine's cells, but for XPARAM where a run left a value there that no cell holds
abbrev pub holding : Option ℚ → Machine Chosen → Machine Chosen
holding None machine = machine
holding (Some last) machine = record machine { cells = record (machine.cells) { xparam = last } }

pub record Represents (cards : List (List ℕ)) (machine : Machine Chosen) (position executed : ℕ) (place : ListingPlace) (w : walks.Walker) : Type 0 where
  pub state : machines.Represents IsView cards machine position executed w.state
  pub faces : Faces place w
