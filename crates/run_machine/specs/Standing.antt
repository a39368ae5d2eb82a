-- Where a machine stands in a run. What SETUP keeps is of any type here, and is known by relations of that type: Shows says which
-- problem, options and bases it shows with these problems on file, Ready what holds of it, and Solved what holds of it while a mark
-- stands, with these names in XOBJ and XRHS.
--     AreDemands cells             the demands that are set are numbers of statements
--     IsSound cards machine        its numbers are those of cards and of statements, and its setup is ready
--     StaysSound old new           it stays sound, whatever the cards are
--     named, filed wanted file     the name that is wanted and its problem on file, or those put last
--     ShowsSetup file kept viewed  the state's setup is the one that the machine's shows
--     Represents cards machine ..  the machine shows this state of a run over these cards
--     FromEach cards machine ..    this holds of each such state
use Rattle.std.specs.Prelude.{◌≡◌, ℕ, ◌+◌, ◌-◌, ◌≤◌, List, Option, Some, None, IfSome, length, drop, option_and_then}
use Rattle.card_definitions.specs.Cards.{numbered_cards}
use Rattle.deck_definitions.specs.Decks.{decks_of}
use Rattle.problem_definitions.specs.Names.{Name}
use Rattle.problem_definitions.specs.Problem.{Problem}
use Rattle.problem_file.specs.Filed.{Filed, filed_under}
use Rattle.listing_definitions.specs.declared.Mark.{Mark}
use Rattle.control_definitions.specs.Cells.{Cells}
use Rattle.run_definitions.specs.State.{Present, State, problem_of}
use Rattle.run_machine.specs.declared.machine.Machine.{Machine}

-- ---- what holds of each machine

-- a demand that is set is the number of a statement
pub record AreDemands (cells : Cells) : Type 0 where
  pub infeasible : IfSome cells.xdonfs (λ position. 1 ≤ position)
  pub unbounded : IfSome cells.xdounb (λ position. 1 ≤ position)

-- The next deck begins with a card of the job, or after the last; the setup is ready; and while the mark stands, it is what was solved.
pub record IsSound {K : Type 0} (Ready : Filed → K → Type 0) (Solved : Mark → Option Name → Option Name → Filed → K → Type 0) (cards : List (List ℕ))
    (machine : Machine K) : Type 0 where
  pub first : 1 ≤ machine.decks_from
  pub last : machine.decks_from ≤ length cards + 1
  pub demands : AreDemands machine.cells
  pub ready : IfSome machine.setup (Ready machine.file)
  pub solved : IfSome machine.mark
      (λ mark. IfSome machine.setup (Solved mark machine.cells.xobj machine.cells.xrhs machine.file))

-- a machine that was sound over some cards is so again
abbrev pub StaysSound : {K : Type 0} → (Filed → K → Type 0) → (Mark → Option Name → Option Name → Filed → K → Type 0) → Machine K → Machine K → Type 0
StaysSound Ready Solved old new = (cards : List (List ℕ)) → IsSound Ready Solved cards old → IsSound Ready Solved cards new

-- ---- the state that a machine shows

-- the name that is wanted, or else the one put last
abbrev pub named : Option Name → Filed → Option Name
named (Some name) file = Some name
named None file = file.last

-- the problem under a name, or the one put last where no name is wanted
abbrev pub filed : Option Name → Filed → Option (Problem ℕ)
filed wanted file = option_and_then (λ name. filed_under name file) (named wanted file)

module _ {K : Type 0} (Shows : Filed → K → Present → Type 0) where
  -- the state has a setup where the machine has one, and it is one that the machine's shows
  abbrev pub ShowsSetup : Filed → Option K → Option Present → Type 0
  ShowsSetup file None viewed = viewed ≡ None
  ShowsSetup file (Some setup) viewed = (present : Present) × (viewed ≡ Some present) × Shows file setup present

  -- The state of the run has the machine's cells, decks and mark, the problems that it has on file, and its setup.
  pub record Represents (cards : List (List ℕ)) (machine : Machine K) (position executed : ℕ) (state : State) : Type 0 where
    pub is_position : state.position ≡ position
    pub is_executed : state.executed ≡ executed
    pub cells : state.cells ≡ machine.cells
    pub file : (wanted : Option Name) → problem_of wanted state.file ≡ filed wanted machine.file
    pub decks : state.decks ≡ decks_of (drop (machine.decks_from - 1) (numbered_cards cards))
    pub setup : ShowsSetup machine.file machine.setup state.setup
    pub mark : state.mark ≡ machine.mark

  -- of each state that the machine shows, at its position and with its count of statements
  abbrev pub FromEach : List (List ℕ) → Machine K → (ℕ → ℕ → State → Type 0) → Type 0
  FromEach cards machine Fact = (position executed : ℕ) (state : State) → Represents cards machine position executed state → Fact position executed state
