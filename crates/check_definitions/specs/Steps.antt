-- A check as the list of what it does, in order, and its verdict.
--     Step                         an operation on two values, or a comparison
--     Arithmetic                   what numbers are read, and what operations are refused
--     verdict_by A steps           what the first step that stops says in that arithmetic, or Checked
--     verdict_of steps             the same in numbers of 128 bits
--     AllHold steps                each comparison holds
--     in_turn verdicts             what the first verdict that stops says, or Checked
--     sum_steps start ts           adds up products from the left, each made before it is added
--     sum_of start ts              what that sum comes to
use Rattle.std.specs.Prelude.{◌≡◌, ℕ, Bool, true, false, List, [], ◌∷◌, map, if◌then◌else◌}
use Rattle.exact_values.specs.Rational.{ℚ, ◌+ℚ◌, ◌*ℚ◌}
use Rattle.frac128.specs.declared.Op.{Op}
use Rattle.frac128.specs.declared.Op.TheVariants.{Add, Mul}
use Rattle.frac128.specs.Operations.{refuses, terms_fit}
use Rattle.lp_definitions.specs.RatesEvidence.{sum_from}
use Rattle.check_definitions.specs.declared.Verdict.{Verdict}
use Rattle.check_definitions.specs.declared.Verdict.TheVariants.{Checked, Failed, Unchecked}

-- an operation is exact or is refused; a comparison, of this part and number, holds or fails
pub data Step : Type 0 where
  operation : Op → ℚ → ℚ → Step
  comparison : ℕ → ℕ → Bool → Step

-- what numbers are read, and what operations on two numbers are refused
pub record Arithmetic : Type 0 where
  pub reads : ℚ → Bool
  pub refused : Op → ℚ → ℚ → Bool

-- the arithmetic of the run: the terms of a number have 128 bits
abbrev pub of_128_bits : Arithmetic
of_128_bits = record { reads = terms_fit; refused = refuses }

-- a number is of any length, and no operation is refused
abbrev pub of_any_length : Arithmetic
of_any_length = record { reads = λ x. true; refused = λ op x y. false }

-- the steps are made in order, until an operation is refused or a comparison fails
abbrev pub verdict_by : Arithmetic → List Step → Verdict
verdict_by A [] = Checked
verdict_by A (operation op x y ∷ steps) = if A.refused op x y then Unchecked (record { op = op; left = x; right = y }) else verdict_by A steps
verdict_by A (comparison part number holds ∷ steps) = if holds then verdict_by A steps else Failed part number

abbrev pub verdict_of : List Step → Verdict
verdict_of steps = verdict_by of_128_bits steps

-- each comparison holds, whatever operations are refused
abbrev pub AllHold : List Step → Type 0
AllHold [] = Unit {0}
AllHold (operation op x y ∷ steps) = AllHold steps
AllHold (comparison part number holds ∷ steps) = (holds ≡ true) × AllHold steps

-- the first verdict where it stops, and else the second
abbrev pub followed_by : Verdict → Verdict → Verdict
followed_by Checked w = w
followed_by (Failed part number) w = Failed part number
followed_by (Unchecked r) w = Unchecked r

-- the first verdict that stops, or Checked
abbrev pub in_turn : List Verdict → Verdict
in_turn [] = Checked
in_turn (v ∷ vs) = followed_by v (in_turn vs)

-- two values that are to be multiplied
pub record Product : Type 0 where
  pub left : ℚ
  pub right : ℚ

abbrev pub product_of : Product → ℚ
product_of t = t.left *ℚ t.right

-- each product is made, and then added to the sum so far
abbrev pub sum_steps : ℚ → List Product → List Step
sum_steps sum [] = []
sum_steps sum (t ∷ ts) = operation Mul t.left t.right ∷ operation Add sum (product_of t) ∷ sum_steps (sum +ℚ product_of t) ts

-- what the sum was begun with, and all the products
abbrev pub sum_of : ℚ → List Product → ℚ
sum_of start ts = sum_from start (map product_of ts)
