-- Functionals on vectors, and the vectors that the columns have.
--     functional a y x             the value of the functional y at the vector x
--     column_value a y j           what y counts column j at, with the rows that it feeds
--     unit a j                     the vector that keeps the equations and has 1 at column j alone
--     along z t d                  the vector at the length t from z in the direction d
use Rattle.std.specs.Prelude.{ℕ, ◌+◌, nat_le, nat_eq, if◌then◌else◌}
use Rattle.exact_values.specs.Rational.{ℚ, zero_ℚ, one_ℚ, ◌+ℚ◌, ◌*ℚ◌}
use Rattle.exact_values.specs.Sums.{sum_up_to}
use Rattle.lp_definitions.specs.LinearProgram.{Matrix, Vector, size, entry}

-- the sum of the multiples of all variables
abbrev pub functional : Matrix → Vector → Vector → ℚ
functional a y x = sum_up_to (size a) (λ k. y k *ℚ x k)

-- the multiplier of the column, and those of the rows times its numbers
abbrev pub column_value : Matrix → Vector → ℕ → ℚ
column_value a y j = y (a.rows + j) +ℚ sum_up_to a.rows (λ i. y i *ℚ entry a i j)

abbrev pub unit : Matrix → ℕ → Vector
unit a j k = if nat_le k a.rows then entry a k j else (if nat_eq k (a.rows + j) then one_ℚ else zero_ℚ)

abbrev pub along : Vector → ℚ → Vector → Vector
along z t d k = z k +ℚ t *ℚ d k
