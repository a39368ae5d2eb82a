-- Limits and costs at a value of the parameter.
use Rattle.std.proofs.Common.{◌≡◌, ℕ, refl, ap, ◌∙◌, pos, Option, Some, None}
use Rattle.exact_values.specs.Rational.{ℚ, zero_ℚ, ◌+ℚ◌, ◌*ℚ◌}
use Rattle.exact_values.proofs.Ring.{by_ring2, ◌⊕◌, ◌⊗◌, ◌≐◌, number}
use Rattle.lp_definitions.specs.LinearProgram.{LinearProgram, IsVariable, lower_of, upper_of, cost, entry, with_change_row}
use Rattle.sensitivity_laws.proofs.MovedLimits.{moved, lower_is, upper_is}
use Rattle.long_programs.specs.declared.programs.ChangeAt.{ChangeAt}
use Rattle.long_programs.specs.declared.programs.ChangeAt.TheVariants.{Unchanged, Row, Set}
use Rattle.long_programs.specs.Programs.{program_of, IsPlain, shift_at, rate_at}

still : (theta : ℚ) (o : Option ℚ) → o ≡ moved theta zero_ℚ o
still theta None = refl
still theta (Some l) = ap (λ x. Some x) (by_ring2 l theta (λ l t. l ≐ l ⊕ t ⊗ number (pos 0)) refl)

-- the limits at theta
pub lower_at : (p : LinearProgram) (change : ChangeAt) (theta : ℚ) (k : ℕ) → IsVariable p.matrix k →
    lower_of (program_of p change theta) k ≡ moved theta (shift_at p change k) (lower_of p k)
lower_at p Unchanged theta k is = still theta (lower_of p k)
lower_at p (Row h) theta k is = still theta (lower_of p k)
lower_at p (Set shift) theta k is = lower_is p shift.now theta k is

pub upper_at : (p : LinearProgram) (change : ChangeAt) (theta : ℚ) (k : ℕ) → IsVariable p.matrix k →
    upper_of (program_of p change theta) k ≡ moved theta (shift_at p change k) (upper_of p k)
upper_at p Unchanged theta k is = still theta (upper_of p k)
upper_at p (Row h) theta k is = still theta (upper_of p k)
upper_at p (Set shift) theta k is = upper_is p shift.now theta k is

-- the matrix stays
pub matrix_at : (p : LinearProgram) (change : ChangeAt) (theta : ℚ) → (program_of p change theta).matrix ≡ p.matrix
matrix_at p Unchanged theta = refl
matrix_at p (Row h) theta = refl
matrix_at p (Set shift) theta = refl

-- and so does what is to be best
pub sense_at : (p : LinearProgram) (change : ChangeAt) (theta : ℚ) → (program_of p change theta).sense ≡ p.sense
sense_at p Unchanged theta = refl
sense_at p (Row h) theta = refl
sense_at p (Set shift) theta = refl

-- the cost at theta
pub cost_at : (p : LinearProgram) (change : ChangeAt) (theta : ℚ) (j : ℕ) → IsPlain p change →
    cost (program_of p change theta) j ≡ entry p.matrix p.objective j +ℚ theta *ℚ rate_at p change j
cost_at p Unchanged theta j none =
    ap (λ c. with_change_row c (λ i. entry p.matrix i j) (entry p.matrix p.objective j)) none
    ∙ by_ring2 (entry p.matrix p.objective j) theta (λ l t. l ≐ l ⊕ t ⊗ number (pos 0)) refl
cost_at p (Row h) theta j none = refl
cost_at p (Set shift) theta j none =
    ap (λ c. with_change_row c (λ i. entry p.matrix i j) (entry p.matrix p.objective j)) none
    ∙ by_ring2 (entry p.matrix p.objective j) theta (λ l t. l ≐ l ⊕ t ⊗ number (pos 0)) refl
