-- Rates and the vectors that they make.
--     exchanged_rate rate p q      the rates after an exchange of p for q
--     opening_rate a               the rates where the rows are basic
--     combination a b rate v       the sum of the directions, each times the value of its nonbasic
use Rattle.std.specs.Prelude.{ℕ, ◌-◌, nat_eq, if◌then◌else◌}
use Rattle.exact_values.specs.Rational.{ℚ, zero_ℚ, one_ℚ, ◌-ℚ◌, ◌*ℚ◌, ◌/ℚ◌}
use Rattle.exact_values.specs.Sums.{sum_up_to}
use Rattle.lp_definitions.specs.LinearProgram.{Matrix, Vector, size}
use Rattle.lp_definitions.specs.Basis.{Basics, is_in}
use Rattle.lp_laws.specs.Vectors.{unit}

-- the direction of the variable that left is the one of q, made 1 at p; another direction loses its part along the one of q
abbrev pub exchanged_rate : (ℕ → ℕ → ℚ) → ℕ → ℕ → ℕ → ℕ → ℚ
exchanged_rate rate p q i j = if nat_eq j p then (one_ℚ /ℚ rate p q) *ℚ rate i q else rate i j -ℚ (rate p j /ℚ rate p q) *ℚ rate i q

-- the direction of column j has the column's numbers on the rows
abbrev pub opening_rate : Matrix → ℕ → ℕ → ℚ
opening_rate a i j = unit a (j - a.rows) i

-- the value of a nonbasic, and 0 at a basic
abbrev pub weight : Basics → Vector → Vector
weight b v j = if is_in b j then zero_ℚ else v j

abbrev pub combination : Matrix → Basics → (ℕ → ℕ → ℚ) → Vector → Vector
combination a b rate v i = sum_up_to (size a) (λ j. weight b v j *ℚ rate i j)
