-- What the parts of a check show, each by itself.
--     AreReducedCosts p y          the price of each column is its cost, less the prices of the rows times its numbers
--     VanishesOnColumns p w        the multiplier of each column, and those of the rows times its numbers, add up to 0
--     MeetsLimits p w              a positive multiplier meets an upper limit, and a negative one a lower limit
--     IsFreeDirection p d          no limit is ahead of the direction
use Rattle.std.specs.Prelude.{◌≡◌, ℕ, ◌+◌, None, IsSome}
use Rattle.exact_values.specs.Rational.{zero_ℚ, ◌+ℚ◌, ◌-ℚ◌, ◌*ℚ◌, ◌<ℚ◌}
use Rattle.exact_values.specs.Sums.{sum_up_to}
use Rattle.lp_definitions.specs.LinearProgram.{LinearProgram, Vector, IsColumn, IsVariable, entry, cost, lower_of, upper_of}

abbrev pub AreReducedCosts : LinearProgram → Vector → Type 0
AreReducedCosts p y = (j : ℕ) → IsColumn p.matrix j → y (p.rows + j) ≡ cost p j -ℚ sum_up_to p.rows (λ i. y i *ℚ entry p.matrix i j)

abbrev pub VanishesOnColumns : LinearProgram → Vector → Type 0
VanishesOnColumns p w = (j : ℕ) → IsColumn p.matrix j → w (p.rows + j) +ℚ sum_up_to p.rows (λ i. w i *ℚ entry p.matrix i j) ≡ zero_ℚ

pub record MeetsLimits (p : LinearProgram) (w : Vector) : Type 0 where
  pub meets_upper : (k : ℕ) → IsVariable p.matrix k → zero_ℚ <ℚ w k → IsSome (upper_of p k)
  pub meets_lower : (k : ℕ) → IsVariable p.matrix k → w k <ℚ zero_ℚ → IsSome (lower_of p k)

-- it falls only where there is no lower limit, and rises only where there is no upper one
pub record IsFreeDirection (p : LinearProgram) (d : Vector) : Type 0 where
  pub falls : (k : ℕ) → IsVariable p.matrix k → d k <ℚ zero_ℚ → lower_of p k ≡ None
  pub rises : (k : ℕ) → IsVariable p.matrix k → zero_ℚ <ℚ d k → upper_of p k ≡ None
