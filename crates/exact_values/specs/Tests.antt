-- Tests on rational numbers, which compute, and magnitudes.
use Rattle.std.specs.Prelude.{Bool, not, if◌then◌else◌}
use Rattle.std.specs.Ordering.{is_lt, is_eq}
use Rattle.std.specs.declared.cmp.Ordering.{Ordering}
use Rattle.exact_values.specs.Rational.{ℚ, zero_ℚ, neg_ℚ, compare_ℚ}

-- whether the first of two compared values is below the second
abbrev pub is_less : Ordering → Bool
is_less = is_lt

-- whether two compared values are equal
abbrev pub is_equal : Ordering → Bool
is_equal = is_eq

-- whether x is below y
abbrev pub lt_ℚ : ℚ → ℚ → Bool
lt_ℚ x y = is_less (compare_ℚ x y)

-- whether x is y
abbrev pub eq_ℚ : ℚ → ℚ → Bool
eq_ℚ x y = is_equal (compare_ℚ x y)

-- whether x is at most y
abbrev pub le_ℚ : ℚ → ℚ → Bool
le_ℚ x y = not (lt_ℚ y x)

-- x without its sign
abbrev pub magnitude : ℚ → ℚ
magnitude x = if lt_ℚ x zero_ℚ then neg_ℚ x else x
