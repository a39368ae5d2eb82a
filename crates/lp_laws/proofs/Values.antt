-- Laws of the values that the lemmas on vectors use.
use Rattle.std.proofs.Common.{◌≡◌, ◌≢◌, pos, refl, ap, ◌∙◌, ◌⊎◌, inl, inr, true, false}
use Rattle.exact_values.specs.Rational.{ℚ, zero_ℚ, ◌+ℚ◌, ◌-ℚ◌, ◌*ℚ◌}
use Rattle.exact_values.proofs.Ring.{by_ring1, by_ring2, ◌⊕◌, ◌⊖◌, ◌≐◌, number}
use Rattle.exact_values.proofs.RingLaws.{zero-add}
use Rattle.exact_values.proofs.Inverse.{zero_product}

pub sub-self : (v : ℚ) → v -ℚ v ≡ zero_ℚ
sub-self v = by_ring1 v (λ v. v ⊖ v ≐ number (pos 0)) refl

pub sub-zero : (v : ℚ) → v -ℚ zero_ℚ ≡ v
sub-zero v = by_ring1 v (λ v. v ⊖ number (pos 0) ≐ v) refl

pub same_from_difference : (u v : ℚ) → u -ℚ v ≡ zero_ℚ → u ≡ v
same_from_difference u v e = by_ring2 u v (λ u v. u ≐ (u ⊖ v) ⊕ v) refl ∙ ap (λ x. x +ℚ v) e ∙ zero-add v

pub no_divisors : (u v : ℚ) → u *ℚ v ≡ zero_ℚ → v ≢ zero_ℚ → u ≡ zero_ℚ
no_divisors u v e apart = pick (zero_product u v e)
  where
    pick : ((u ≡ zero_ℚ) ⊎ (v ≡ zero_ℚ)) → u ≡ zero_ℚ
    pick (inl h) = h
    pick (inr h) = absurd (apart h)

pub clash : true ≡ false → ⊥
clash e = cc
