-- A linear program: its matrix, the limits of its variables, and what it wants to be best.
--     Matrix, entry a i j          m rows and n columns; the number on row i in column j, or 0
--     LinearProgram                a matrix with limits, right-hand sides, an objective row and perhaps a change row
--     variables a                  the numbers 1 to m + n: the rows, and then the columns
--     value_at xs k                the k-th of a list of values, which stands for a vector
--     KeepsEquations a z           row i of z is the sum of the numbers on row i, times the columns of z
--     lower_of p k, upper_of p k   the limits of a variable, if it has them
--     combined p f                 f at the objective row, plus theta times f at the change row
--     cost p j                     what a column costs
--     objective_value p z          what a vector is worth
--     IsLinearProgram p            what holds of every linear program
--     with_change p c              the program with another change row
--     with_limits p low high       the program with other limits
use Rattle.std.specs.Prelude.{◌≡◌, ℕ, zero, suc, ◌+◌, ◌-◌, ◌<◌, ◌≤◌, List, [], ◌∷◌, length, map, slice_index_or, nat_eq, if◌then◌else◌, Option, Some, None, ◌^◌}
use Rattle.std.specs.Prelude.{All}
use Rattle.std.specs.List.{IsDistinct}
use Rattle.exact_values.specs.Rational.{ℚ, zero_ℚ, ◌+ℚ◌, ◌*ℚ◌, neg_ℚ}
use Rattle.exact_values.specs.Sums.{sum_up_to}
use Rattle.lp_definitions.specs.declared.Entry.{Entry}
use Rattle.lp_definitions.specs.declared.Change.{Change}
use Rattle.lp_definitions.specs.declared.Sense.{Sense}
use Rattle.lp_definitions.specs.declared.Sense.TheVariants.{Min, Max}

-- ---- matrices

-- so many rows and columns; a column is the list of the numbers that it has, each with its row
pub record Matrix : Type 0 where
  pub rows : ℕ
  pub cols : ℕ
  pub columns : List (List Entry)

-- the number of variables: one for each row, and one for each column
abbrev pub size : Matrix → ℕ
size a = a.rows + a.cols

-- the rows are numbered from 1
abbrev pub IsRow : Matrix → ℕ → Type 0
IsRow a i = (1 ≤ i) × (i ≤ a.rows)

-- and so are the columns
abbrev pub IsColumn : Matrix → ℕ → Type 0
IsColumn a j = (1 ≤ j) × (j ≤ a.cols)

-- variable i belongs to row i, and variable m + j to column j
abbrev pub IsVariable : Matrix → ℕ → Type 0
IsVariable a k = (1 ≤ k) × (k ≤ size a)

-- the numbers from first on, so many
abbrev pub numbers_from : ℕ → ℕ → List ℕ
numbers_from first zero = []
numbers_from first (suc n) = first ∷ numbers_from (suc first) n

abbrev pub variables : Matrix → List ℕ
variables a = numbers_from 1 (size a)

-- the number that a column has on row i, and 0 where it has none
abbrev pub on_row : List Entry → ℕ → ℚ
on_row [] i = zero_ℚ
on_row (e ∷ es) i = if nat_eq e.row i then e.value else on_row es i

-- the j-th column
abbrev pub column : Matrix → ℕ → List Entry
column a j = slice_index_or a.columns (j - 1) []

-- the number on row i in column j
abbrev pub entry : Matrix → ℕ → ℕ → ℚ
entry a i j = on_row (column a j) i

-- each column has numbers on rows of the matrix, and no two on one row
pub record IsMatrix (a : Matrix) : Type 0 where
  pub columns_counted : length a.columns ≡ a.cols
  pub on_rows : All (All (λ e. IsRow a e.row)) a.columns
  pub distinct : All (λ c. IsDistinct nat_eq (map (λ e. e.row) c)) a.columns
  pub small : size a < 2 ^ 32

-- ---- vectors

-- a vector has a value for each variable
abbrev pub Vector : Type 0
Vector = ℕ → ℚ

-- a list holds the values of a vector in order, that of variable 1 first
abbrev pub value_at : List ℚ → Vector
value_at xs k = slice_index_or xs (k - 1) zero_ℚ

-- each row's value is the sum of the row's numbers, each times the value of its column
abbrev pub KeepsEquations : Matrix → Vector → Type 0
KeepsEquations a z = (i : ℕ) → IsRow a i → z i ≡ sum_up_to a.cols (λ j. entry a i j *ℚ z (a.rows + j))

-- ---- linear programs

-- a matrix, a lower and an upper limit or none for each variable, a right-hand side for each row, the row that is to be best, and
-- perhaps a row that is added to it theta times
pub record LinearProgram : Type 0 where
  pub matrix : Matrix
  pub open matrix use *
  pub lower : List (Option ℚ)
  pub upper : List (Option ℚ)
  pub rhs : List ℚ
  pub objective : ℕ
  pub change : Option Change
  pub sense : Sense

-- the lower limit of variable k, if it has one
abbrev pub lower_of : LinearProgram → ℕ → Option ℚ
lower_of p k = slice_index_or p.lower (k - 1) None

-- and its upper limit
abbrev pub upper_of : LinearProgram → ℕ → Option ℚ
upper_of p k = slice_index_or p.upper (k - 1) None

abbrev pub HasNoLimits : LinearProgram → ℕ → Type 0
HasNoLimits p k = (lower_of p k ≡ None) × (upper_of p k ≡ None)

-- v, plus theta times f at the change row if there is one
abbrev pub with_change_row : Option Change → Vector → ℚ → ℚ
with_change_row None f v = v
with_change_row (Some c) f v = v +ℚ c.theta *ℚ f c.row

-- f at the objective row, plus theta times f at the change row
abbrev pub combined : LinearProgram → Vector → ℚ
combined p f = with_change_row p.change f (f p.objective)

-- the cost of column j, from its numbers on these rows
abbrev pub cost : LinearProgram → ℕ → ℚ
cost p j = combined p (λ i. entry p.matrix i j)

-- the objective of a vector, from its values at these rows
abbrev pub objective_value : LinearProgram → Vector → ℚ
objective_value p z = combined p z

-- v as it counts where less is better
abbrev pub for_min : Sense → ℚ → ℚ
for_min Min v = v
for_min Max v = neg_ℚ v

-- the change row, if there is one, is a row without limits
abbrev pub ChangeIsFree : LinearProgram → Option Change → Type 0
ChangeIsFree p None = Unit {0}
ChangeIsFree p (Some c) = IsRow p.matrix c.row × HasNoLimits p c.row

-- the lists have their lengths, and the objective row and the change row are rows without limits
pub record IsLinearProgram (p : LinearProgram) : Type 0 where
  pub is_matrix : IsMatrix p.matrix
  pub lower_counted : length p.lower ≡ size p.matrix
  pub upper_counted : length p.upper ≡ size p.matrix
  pub rhs_counted : length p.rhs ≡ p.rows
  pub objective_row : IsRow p.matrix p.objective
  pub objective_free : HasNoLimits p p.objective
  pub change_free : ChangeIsFree p p.change

-- ---- other programs of the same matrix

-- with this change row, and all else as it is
abbrev pub with_change : LinearProgram → Change → LinearProgram
with_change p c = record p { change = Some c }

-- with these limits, and all else as it is
abbrev pub with_limits : LinearProgram → List (Option ℚ) → List (Option ℚ) → LinearProgram
with_limits p low high = record p { lower = low; upper = high }
