-- What is known of a row that is carried back.
--     set_of f n                   the set of basics after the first n etas
--     IsKnown f n r xs             xs has the multipliers of the row of r at the basics of that set
--     IsRateOf f r k v             v is the rate of r at k, and 0 where k is basic
--     HasMultipliers f n r xs      xs has, before place n, the multipliers of r at the rows
--     IsFilledFrom f n r xs        xs has these from place n on, and before it the multipliers of r at the rows
--     IsFilledTo f n r xs          xs has the rates before place n
--     IsUnit i xs                  xs is 1 at i, and 0 at every other variable
--     IsMultiplierOf f r k v       v is the multiplier of r at k
--     IsMultiplierAt f n r v       v is the multiplier of r at the variable that leaves at the eta after the first n
use Rattle.std.specs.Prelude.{◌≡◌, ◌≢◌, ◌≤◌, ◌<◌, ◌+◌, ℕ, true, List, take, slice_index_or, if◌then◌else◌}
use Rattle.exact_values.specs.Rational.{ℚ, zero_ℚ, one_ℚ}
use Rattle.lp_definitions.specs.LinearProgram.{IsVariable, size, value_at}
use Rattle.lp_definitions.specs.Basis.{Basics, is_in, AreRates, row_basics}
use Rattle.lp_definitions.specs.RatesEvidence.{multiplier}
use Rattle.eta_file.specs.Prefixes.{after}
use Rattle.eta_file.specs.Inverse.{Inverse}
use Rattle.eta_file.specs.declared.eta.StoredEta.{StoredEta}

abbrev pub set_of : Inverse → ℕ → Basics
set_of f n = after (row_basics f.matrix) (take n f.etas)

pub record IsKnown (f : Inverse) (n r : ℕ) (xs : List ℚ) : Type 0 where
  pub each : (rate : ℕ → ℕ → ℚ) → AreRates f.matrix f.basics rate → (k : ℕ) → IsVariable f.matrix k → is_in (set_of f n) k ≡ true →
      value_at xs k ≡ multiplier f.basics rate r k

pub record IsRateOf (f : Inverse) (r k : ℕ) (v : ℚ) : Type 0 where
  pub is_rate : (rate : ℕ → ℕ → ℚ) → AreRates f.matrix f.basics rate → v ≡ (if is_in f.basics k then zero_ℚ else rate r k)

pub record IsMultiplierOf (f : Inverse) (r k : ℕ) (v : ℚ) : Type 0 where
  pub is_multiplier : (rate : ℕ → ℕ → ℚ) → AreRates f.matrix f.basics rate → v ≡ multiplier f.basics rate r k

-- 1 at i, and 0 at every other variable
pub record IsUnit (i : ℕ) (xs : List ℚ) : Type 0 where
  pub own : value_at xs i ≡ one_ℚ
  pub others : (k : ℕ) → 1 ≤ k → k ≢ i → value_at xs k ≡ zero_ℚ

-- v is the multiplier of the variable that leaves at this eta
pub record IsMultiplierAt (f : Inverse) (place r : ℕ) (v : ℚ) : Type 0 where
  pub is_multiplier : (d : StoredEta) (rate : ℕ → ℕ → ℚ) → AreRates f.matrix f.basics rate → v ≡ multiplier f.basics rate r (slice_index_or f.etas place d).p

-- as far as there are rows before place n, xs has their multipliers
abbrev pub HasMultipliers : Inverse → ℕ → ℕ → List ℚ → Type 0
HasMultipliers f n r xs =
    (rate : ℕ → ℕ → ℚ) → AreRates f.matrix f.basics rate → (k : ℕ) → k < n → k < f.matrix.rows → slice_index_or xs k zero_ℚ ≡ multiplier f.basics rate r (k + 1)

-- from place n on the rates, and before it, as far as there are rows, the multipliers of these
pub record IsFilledFrom (f : Inverse) (n r : ℕ) (xs : List ℚ) : Type 0 where
  pub known : HasMultipliers f n r xs
  pub filled : (k : ℕ) → n ≤ k → k < size f.matrix → IsRateOf f r (k + 1) (slice_index_or xs k zero_ℚ)

-- the places before n have the rates
abbrev pub IsFilledTo : Inverse → ℕ → ℕ → List ℚ → Type 0
IsFilledTo f n r xs = (k : ℕ) → k < n → IsRateOf f r (k + 1) (slice_index_or xs k zero_ℚ)
