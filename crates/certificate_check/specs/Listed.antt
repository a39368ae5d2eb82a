-- Lists of columns that leave out only columns of value 0.
--     AreZero f first last          the columns after `first`, up to `last`, have the value 0
--     AreListed f first js last     the list has columns after `first`, up to `last`, in order, and those that it leaves out have the value 0
use Rattle.std.specs.Prelude.{◌≡◌, ◌<◌, ◌≤◌, ◌-◌, ℕ, List, [], ◌∷◌}
use Rattle.exact_values.specs.Rational.{ℚ, zero_ℚ}

abbrev pub AreZero : (ℕ → ℚ) → ℕ → ℕ → Type 0
AreZero f first last = (j : ℕ) → first < j → j ≤ last → f j ≡ zero_ℚ

abbrev pub AreListed : (ℕ → ℚ) → ℕ → List ℕ → ℕ → Type 0
AreListed f first [] last = (first ≤ last) × AreZero f first last
AreListed f first (j ∷ js) last = (first < j) × (AreZero f first (j - 1) × AreListed f j js last)
