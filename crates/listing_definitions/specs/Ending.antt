-- How a run ends, as plain data, and its status.
use Rattle.std.specs.Prelude.{ℕ, Bool, List, Option}
use Rattle.lp_definitions.specs.declared.Evidence.{Evidence}
use Rattle.lp_definitions.specs.declared.Status.{Status}
use Rattle.card_definitions.specs.declared.CardFault.{CardFault}
use Rattle.control_definitions.specs.declared.ControlFault.{ControlFault}
use Rattle.listing_definitions.specs.declared.VerbFault.{VerbFault}
use Rattle.listing_definitions.specs.Report.{Line}
use Rattle.listing_definitions.specs.declared.VerbFault.TheVariants.{DeckNotFound, NoProblem, NoSetup, NotSolved, NotOptimal, NoChangeRow, NoChangeSet}
use Rattle.listing_definitions.specs.declared.VerbFault.TheVariants.{NoParmax, ParmaxBelow, NoObjective, ObjectiveNotFree, NoRhsSet, NoRangeSet, NoBoundSet}
use Rattle.listing_definitions.specs.declared.VerbFault.TheVariants.{Singular, WrongPrices}

-- a statement that was refused, by its card
pub record StatementFault : Type 0 where
  pub fault : VerbFault
  pub card : ℕ

-- a card of a deck that was refused, with the fault of its number and the column of a bad character, where it is such a fault
pub record DeckCardFault : Type 0 where
  pub fault : ℕ
  pub card : ℕ
  pub number : Option ℕ
  pub column : Option ℕ

-- INSERT on a card met a basis that is singular: these lines have the coefficients of a dependency of its columns
pub record SingularBasis : Type 0 where
  pub card : ℕ
  pub lines : List Line

-- DUAL on a card met prices that aren't those of an optimal basis: the first of them is that of this variable
pub record WrongPrice : Type 0 where
  pub card : ℕ
  pub variable : ℕ

-- the limit on steps that the statement of a card has reached
pub record LimitReached : Type 0 where
  pub limit : ℕ
  pub card : ℕ

-- a basis, and the set of basics that an evidence speaks of, as a mark for each variable
pub record Place : Type 0 where
  pub basis : List Status
  pub way : List Bool

-- an operation that was refused in the statement of a card; where it was made before there was a basis, it has no place
pub record Overflow : Type 0 where
  pub evidence : Evidence
  pub place : Option Place
  pub card : ℕ

-- A run ends by itself, with 0, 1 or 2; or the words, the cards, the control program, a statement or a deck are refused; or a
-- deck gives a singular basis, or prices are wrong; or a limit is reached; or a number doesn't fit; or a device or memory fails.
pub data Ending : Type 0 where
  Ended : ℕ → Ending
  WordsRefused : Ending
  ControlStop : ControlFault → Ending
  VerbStop : StatementFault → Ending
  SingularStop : SingularBasis → Ending
  PriceStop : WrongPrice → Ending
  DeckStop : DeckCardFault → Ending
  CardStop : CardFault → Ending
  LimitStop : LimitReached → Ending
  StatementLimit : Ending
  OverflowStop : Overflow → Ending
  ReadFault PrintFault PunchFault Memory : Ending

-- the number of a verb fault
abbrev pub verb_fault_number : VerbFault → ℕ
verb_fault_number DeckNotFound = 1
verb_fault_number NoProblem = 2
verb_fault_number NoSetup = 3
verb_fault_number NotSolved = 4
verb_fault_number NotOptimal = 5
verb_fault_number NoChangeRow = 6
verb_fault_number NoChangeSet = 7
verb_fault_number NoParmax = 8
verb_fault_number ParmaxBelow = 9
verb_fault_number NoObjective = 10
verb_fault_number ObjectiveNotFree = 11
verb_fault_number NoRhsSet = 12
verb_fault_number NoRangeSet = 13
verb_fault_number NoBoundSet = 14
verb_fault_number Singular = 15
verb_fault_number WrongPrices = 16

-- the status of a run that ends so
abbrev pub status_of : Ending → ℕ
status_of (Ended code) = code
status_of WordsRefused = 4
status_of (ControlStop fault) = 8
status_of (VerbStop fault) = 10
status_of (SingularStop basis) = 10
status_of (PriceStop price) = 10
status_of (DeckStop fault) = 12
status_of (CardStop fault) = 13
status_of (LimitStop reached) = 16
status_of StatementLimit = 17
status_of (OverflowStop overflow) = 20
status_of ReadFault = 24
status_of PrintFault = 25
status_of PunchFault = 26
status_of Memory = 28
