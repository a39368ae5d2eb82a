-- An interval is determined by its values, if it has one; and so are lists of intervals.
use Rattle.std.proofs.Common.{◌≡◌, ℕ, List, [], ◌∷◌, map, refl, sym, ap, ap₂, subst, ◌∙◌, pos}
use Rattle.std.specs.Prelude.{◌↔◌, Option, Some, None, IfSome, All}
use Rattle.std.specs.List.{AllByRecursion}
use Rattle.std.proofs.lemmas.List.Elements.{All-head, All-tail}
use Rattle.exact_values.specs.Rational.{ℚ, one_ℚ, ◌+ℚ◌, ◌-ℚ◌, ◌≤ℚ◌, ◌<ℚ◌}
use Rattle.exact_values.proofs.Ring.{by_ring1, number, ◌⊕◌, ◌⊖◌, ◌≐◌}
use Rattle.exact_values.proofs.Order.{le_refl, le_trans, le_antisymm, le_of_lt, lt_not_le, lt_by_one, zero_below_one}
use Rattle.simplex_definitions.specs.Ranges.{Interval, IsBetween}

abbrev Between : Option ℚ → Option ℚ → ℚ → Type 0
Between low high t = IfSome low (λ l. l ≤ℚ t) × IfSome high (λ h. t ≤ℚ h)

-- a value below one that isn't past the high end isn't past it, and so with the low end
before_high : (high : Option ℚ) (x t : ℚ) → x ≤ℚ t → IfSome high (λ h. t ≤ℚ h) → IfSome high (λ h. x ≤ℚ h)
before_high None x t le h = tt
before_high (Some u) x t le h = le_trans le h

after_low : (low : Option ℚ) (x t : ℚ) → t ≤ℚ x → IfSome low (λ l. l ≤ℚ t) → IfSome low (λ l. l ≤ℚ x)
after_low None x t le h = tt
after_low (Some l) x t le h = le_trans h le

less : (x : ℚ) → x -ℚ one_ℚ <ℚ x
less x = lt_by_one zero_below_one (by_ring1 x (λ x. x ≐ x ⊖ number (pos 1) ⊕ (number (pos 1) ⊖ number (pos 0))) refl)

more : (x : ℚ) → x <ℚ x +ℚ one_ℚ
more x = lt_by_one zero_below_one (by_ring1 x (λ x. x ⊕ number (pos 1) ≐ x ⊕ (number (pos 1) ⊖ number (pos 0))) refl)

-- an end that is there where the other isn't leaves out a value
no_low : (l : ℚ) (high other : Option ℚ) (t : ℚ) → Between (Some l) high t → Between None other t → ((x : ℚ) → Between None other x → Between (Some l) high x) →
    ⊥
no_low l high other t at there to = lt_not_le (less l) (to (l -ℚ one_ℚ) (tt, before_high other (l -ℚ one_ℚ) t (le_trans (le_of_lt (less l)) at.0) there.1)).0

no_high : (u : ℚ) (low other : Option ℚ) (t : ℚ) → Between low (Some u) t → Between other None t → ((x : ℚ) → Between other None x → Between low (Some u) x) → ⊥
no_high u low other t at there to = lt_not_le (more u) (to (u +ℚ one_ℚ) (after_low other (u +ℚ one_ℚ) t (le_trans at.1 (le_of_lt (more u))) there.0, tt)).1

-- the ends of two intervals with the same values
low_same : (low low' high high' : Option ℚ) (t : ℚ) → Between low high t → Between low' high' t → ((x : ℚ) → Between low high x → Between low' high' x) →
    ((x : ℚ) → Between low' high' x → Between low high x) →
    low ≡ low'
low_same None None high high' t at there to back = refl
low_same None (Some l) high high' t at there to back = absurd (no_low l high' high t there at to)
low_same (Some l) None high high' t at there to back = absurd (no_low l high high' t at there back)
low_same (Some l) (Some l') high high' t at there to back =
    ap (λ x. Some x) (le_antisymm (back l' (le_refl l', before_high high' l' t there.0 there.1)).0 (to l (le_refl l, before_high high l t at.0 at.1)).0)

high_same : (low low' high high' : Option ℚ) (t : ℚ) → Between low high t → Between low' high' t → ((x : ℚ) → Between low high x → Between low' high' x) →
    ((x : ℚ) → Between low' high' x → Between low high x) →
    high ≡ high'
high_same low low' None None t at there to back = refl
high_same low low' None (Some u) t at there to back = absurd (no_high u low' low t there at to)
high_same low low' (Some u) None t at there to back = absurd (no_high u low low' t at there back)
high_same low low' (Some u) (Some u') t at there to back =
    ap (λ x. Some x) (le_antisymm (to u (after_low low u t at.1 at.0, le_refl u)).1 (back u' (after_low low' u' t there.1 there.0, le_refl u')).1)

interval_same : (e f : Interval) (t : ℚ) → e.variable ≡ f.variable → IsBetween e t → IsBetween f t → ((x : ℚ) → IsBetween e x → IsBetween f x) →
    ((x : ℚ) → IsBetween f x → IsBetween e x) → e ≡ f
interval_same e f t variables at there to back =
    let lows : e.low ≡ f.low = low_same e.low f.low e.high f.high t at there to back in
    let highs : e.high ≡ f.high = high_same e.low f.low e.high f.high t at there to back in
    λ i. record { variable = variables i; low = lows i; high = highs i }

module _ (Claim : ℕ → ℚ → Type 0) where
  abbrev IsExact : Interval → Type 0
  IsExact e = (t : ℚ) → IsBetween e t ↔ Claim e.variable t

  -- two intervals of one variable, where the claim holds somewhere
  exact_same : (k : ℕ) (e f : Interval) → e.variable ≡ k → f.variable ≡ k → (t : ℚ) × Claim k t → IsExact e → IsExact f → e ≡ f
  exact_same k e f first second claim is also =
      interval_same e f claim.0 (λ i. (first ∙ sym second) i) ((is claim.0).1 (subst (λ j. Claim j claim.0) (sym first) claim.1))
      ((also claim.0).1 (subst (λ j. Claim j claim.0) (sym second) claim.1))
      (λ x h. (also x).1 (subst (λ j. Claim j x) (first ∙ sym second) ((is x).0 h)))
      (λ x h. (is x).1 (subst (λ j. Claim j x) (second ∙ sym first) ((also x).0 h)))

  pub lists_same : (numbers : List ℕ) (xs ys : List Interval) → map (λ (e : Interval). e.variable) xs ≡ numbers →
      map (λ (e : Interval). e.variable) ys ≡ numbers → AllByRecursion (λ k. (t : ℚ) × Claim k t) numbers →
      All IsExact xs → All IsExact ys → xs ≡ ys
  lists_same [] [] [] first second claims is also = refl
  lists_same [] [] (y ∷ ys) first second claims is also = absurd (cc second)
  lists_same [] (x ∷ xs) ys first second claims is also = absurd (cc first)
  lists_same (k ∷ numbers) [] ys first second claims is also = absurd (cc first)
  lists_same (k ∷ numbers) (x ∷ xs) [] first second claims is also = absurd (cc second)
  lists_same (k ∷ numbers) (x ∷ xs) (y ∷ ys) first second claims is also =
      let head : x.variable ≡ k = cc in
      let other : y.variable ≡ k = cc in
      let tail : map (λ (e : Interval). e.variable) xs ≡ numbers = cc in
      let rest : map (λ (e : Interval). e.variable) ys ≡ numbers = cc in
      ap₂ (λ e es. e ∷ es) (exact_same k x y head other claims.0 (All-head IsExact x xs is) (All-head IsExact y ys also))
      (lists_same numbers xs ys tail rest claims.1 (All-tail IsExact x xs is) (All-tail IsExact y ys also))
