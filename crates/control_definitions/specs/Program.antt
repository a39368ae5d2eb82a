-- Control programs: their statements, and the verbs of these with their arguments.
--     Verb L                a verb with its arguments; L is what stands for a label
--     Statement L           a verb with the number of its card
--     Program               what a job's control cards compile to
use Rattle.std.specs.Prelude.{ℕ, List, Option, Some, None}
use Rattle.exact_values.specs.Rational.{ℚ}
use Rattle.lp_definitions.specs.declared.Sense.{Sense}
use Rattle.control_definitions.specs.declared.NameCell.{NameCell}
use Rattle.control_definitions.specs.declared.NumberCell.{NumberCell}
use Rattle.control_definitions.specs.declared.Demand.{Demand}

-- the sets that SETUP names, if it does, and whether it wants the least or the greatest objective
pub record SetupOptions : Type 0 where
  pub bound : Option (List ℕ)
  pub range : Option (List ℕ)
  pub sense : Sense

-- A verb with its arguments. A label is its text on a card, and a position in a program.
pub data Verb (L : Type 0) : Type 0 where
  Initialz : Verb L
  Title : List ℕ → Verb L
  MoveName : NameCell → List ℕ → Verb L
  MoveNumber : NumberCell → ℚ → Verb L
  MoveLimit : Option ℕ → Verb L
  Mvadr : Demand → L → Verb L
  Goto : L → Verb L
  Convert : Verb L
  Setup : SetupOptions → Verb L
  Primal Dual Revise Ranging Paraobj Pararhs Solution Bcdout Punch Insert Exit : Verb L

pub record Statement (L : Type 0) : Type 0 where
  pub card : ℕ
  pub verb : Verb L

-- The statements of a program, and the number of the first card after it. A position is the number of a statement, from 1,
-- or one more than their count for the program's end.
pub record Program : Type 0 where
  pub statements : List (Statement ℕ)
  pub decks_from : ℕ

-- the label that a verb names
abbrev pub label_argument : {L : Type 0} → Verb L → Option L
label_argument (Mvadr demand label) = Some label
label_argument (Goto label) = Some label
label_argument _ = None

-- the verb with each label replaced
abbrev pub verb_by : {L K : Type 0} → (L → K) → Verb L → Verb K
verb_by f Initialz = Initialz
verb_by f (Title text) = Title text
verb_by f (MoveName cell name) = MoveName cell name
verb_by f (MoveNumber cell value) = MoveNumber cell value
verb_by f (MoveLimit limit) = MoveLimit limit
verb_by f (Mvadr demand label) = Mvadr demand (f label)
verb_by f (Goto label) = Goto (f label)
verb_by f Convert = Convert
verb_by f (Setup options) = Setup options
verb_by f Primal = Primal
verb_by f Dual = Dual
verb_by f Revise = Revise
verb_by f Ranging = Ranging
verb_by f Paraobj = Paraobj
verb_by f Pararhs = Pararhs
verb_by f Solution = Solution
verb_by f Bcdout = Bcdout
verb_by f Punch = Punch
verb_by f Insert = Insert
verb_by f Exit = Exit
