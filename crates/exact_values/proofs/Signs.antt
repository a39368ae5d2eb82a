-- The signs of opposites.
use Rattle.std.proofs.Common.{refl, pos}
use Rattle.exact_values.specs.Rational.{ℚ, ◌≤ℚ◌, ◌<ℚ◌, zero_ℚ, neg_ℚ}
use Rattle.exact_values.proofs.Order.{lt_by_one, le_by_one}
use Rattle.exact_values.proofs.Ring.{by_ring1, ◌⊕◌, ◌⊖◌, ◌≐◌, number, opposite}

pub neg_below : (v : ℚ) → zero_ℚ <ℚ v → neg_ℚ v <ℚ zero_ℚ
neg_below v h = lt_by_one h (by_ring1 v (λ v. number (pos 0) ≐ opposite v ⊕ (v ⊖ number (pos 0))) refl)

pub neg_above : (v : ℚ) → v <ℚ zero_ℚ → zero_ℚ <ℚ neg_ℚ v
neg_above v h = lt_by_one h (by_ring1 v (λ v. opposite v ≐ number (pos 0) ⊕ (number (pos 0) ⊖ v)) refl)

pub neg_not_below : (v : ℚ) → v ≤ℚ zero_ℚ → zero_ℚ ≤ℚ neg_ℚ v
neg_not_below v h = le_by_one h (by_ring1 v (λ v. opposite v ≐ number (pos 0) ⊕ (number (pos 0) ⊖ v)) refl)
