-- A nonsingular set of basics has rates: the rows have some, and columns go in one by one.
use Rattle.std.proofs.Common.{◌≡◌, ◌≢◌, ℕ, zero, suc, ◌-◌, ◌<◌, ◌≤◌, ◌⊎◌, inl, inr, List, [], ◌∷◌, Bool, true, false, cond, length, get_or, set, refl, sym, ◌∙◌}
use Rattle.std.proofs.Common.{ap, subst, arith}
use Rattle.std.specs.Prelude.{not, ◌&&◌}
use Rattle.std.proofs.lemmas.Bool.Decides.{eqb_tells}
use Rattle.std.specs.Prelude.{eqb}
use Rattle.exact_values.specs.Rational.{ℚ, zero_ℚ}
use Rattle.exact_values.proofs.Inverse.{zero_or_not, one_apart}
use Rattle.lp_definitions.specs.LinearProgram.{Matrix, Vector, size, IsVariable}
use Rattle.lp_definitions.specs.Basis.{Basics, is_in, IsBasic, IsNonbasic, IsNonsingular, IsDirectionOf, AreRates, exchanged, row_basics}
use Rattle.lp_laws.specs.Rates.{exchanged_rate, opening_rate}
use Rattle.lp_laws.proofs.Values.{clash}
use Rattle.lp_laws.proofs.Exchange.{marked, marked_is, IsNonsingular-exchanged, AreRates-exchanged}
use Rattle.lp_laws.proofs.Opening.{IsNonsingular-row_basics, AreRates-opening}

-- how many of the first marks the second list lacks
abbrev missing : List Bool → List Bool → ℕ
missing [] ws = 0
missing (b ∷ bs) [] = 0
missing (b ∷ bs) (w ∷ ws) = cond (b && not w) (suc (missing bs ws)) (missing bs ws)

-- where none is lacking, there are at least as many
not_fewer : (bs ws : List Bool) → length bs ≡ length ws → missing bs ws ≡ 0 → marked bs ≤ marked ws
not_fewer [] ws same none = omega arith
not_fewer (b ∷ bs) [] same none = absurd (omega (arith, same))
not_fewer (true ∷ bs) (true ∷ ws) same none = let rest = not_fewer bs ws (omega (arith, same)) none in omega (arith, rest)
not_fewer (true ∷ bs) (false ∷ ws) same none = absurd (omega (arith, none))
not_fewer (false ∷ bs) (true ∷ ws) same none = let rest = not_fewer bs ws (omega (arith, same)) none in omega (arith, rest)
not_fewer (false ∷ bs) (false ∷ ws) same none = not_fewer bs ws (omega (arith, same)) none

-- where none is lacking and there are as many, the lists are the same
same_marks : (bs ws : List Bool) → length bs ≡ length ws → missing bs ws ≡ 0 → marked ws ≡ marked bs → ws ≡ bs
same_marks [] [] same none count = refl
same_marks [] (w ∷ ws) same none count = absurd (omega (arith, same))
same_marks (b ∷ bs) [] same none count = absurd (omega (arith, same))
same_marks (true ∷ bs) (true ∷ ws) same none count = ap (λ xs. true ∷ xs) (same_marks bs ws (omega (arith, same)) none (omega (arith, count)))
same_marks (true ∷ bs) (false ∷ ws) same none count = absurd (omega (arith, none))
same_marks (false ∷ bs) (true ∷ ws) same none count = let rest = not_fewer bs ws (omega (arith, same)) none in absurd (omega (arith, rest, count))
same_marks (false ∷ bs) (false ∷ ws) same none count = ap (λ xs. false ∷ xs) (same_marks bs ws (omega (arith, same)) none count)

-- a mark of the first list that the second lacks
record IsMissing (bs ws : List Bool) (i : ℕ) : Type 0 where
  below : i < length bs
  first : get_or bs i false ≡ true
  second : get_or ws i false ≡ false

shifted : (b w : Bool) (bs ws : List Bool) → ((i : ℕ) × IsMissing bs ws i) → (i : ℕ) × IsMissing (b ∷ bs) (w ∷ ws) i
shifted b w bs ws (i, h) = (suc i, record { below = omega (arith, h.below); first = h.first; second = h.second })

a_missing : (bs ws : List Bool) → length bs ≡ length ws → 0 < missing bs ws → (i : ℕ) × IsMissing bs ws i
a_missing [] ws same some = absurd (omega arith)
a_missing (b ∷ bs) [] same some = absurd (omega (arith, same))
a_missing (true ∷ bs) (true ∷ ws) same some = shifted true true bs ws (a_missing bs ws (omega (arith, same)) some)
a_missing (true ∷ bs) (false ∷ ws) same some = (0, record { below = omega arith; first = refl; second = refl })
a_missing (false ∷ bs) (true ∷ ws) same some = shifted false true bs ws (a_missing bs ws (omega (arith, same)) some)
a_missing (false ∷ bs) (false ∷ ws) same some = shifted false false bs ws (a_missing bs ws (omega (arith, same)) some)

missing-set_true : (bs ws : List Bool) (i : ℕ) → i < length ws → get_or bs i false ≡ true → get_or ws i false ≡ false →
    suc (missing bs (set ws i true)) ≡ missing bs ws
missing-set_true [] ws i below first second = absurd (clash (sym first))
missing-set_true (b ∷ bs) [] i below first second = absurd (omega arith)
missing-set_true (b ∷ bs) (w ∷ ws) zero below first second = rw (first, second) refl
missing-set_true (true ∷ bs) (true ∷ ws) (suc i) below first second = missing-set_true bs ws i (omega arith) first second
missing-set_true (true ∷ bs) (false ∷ ws) (suc i) below first second = ap suc (missing-set_true bs ws i (omega arith) first second)
missing-set_true (false ∷ bs) (true ∷ ws) (suc i) below first second = missing-set_true bs ws i (omega arith) first second
missing-set_true (false ∷ bs) (false ∷ ws) (suc i) below first second = missing-set_true bs ws i (omega arith) first second

missing-set_false : (bs ws : List Bool) (i : ℕ) → get_or bs i false ≡ false → missing bs (set ws i false) ≡ missing bs ws
missing-set_false [] ws i first = refl
missing-set_false (b ∷ bs) [] i first = refl
missing-set_false (true ∷ bs) (w ∷ ws) zero first = absurd (clash first)
missing-set_false (false ∷ bs) (w ∷ ws) zero first = refl
missing-set_false (true ∷ bs) (true ∷ ws) (suc i) first = missing-set_false bs ws i first
missing-set_false (true ∷ bs) (false ∷ ws) (suc i) first = ap suc (missing-set_false bs ws i first)
missing-set_false (false ∷ bs) (true ∷ ws) (suc i) first = missing-set_false bs ws i first
missing-set_false (false ∷ bs) (false ∷ ws) (suc i) first = missing-set_false bs ws i first

module _ (a : Matrix) (b : Basics) (one : IsNonsingular a b) where
  -- a set on the way
  record Stands (w : Basics) : Type 0 where
    nonsingular : IsNonsingular a w
    rate : ℕ → ℕ → ℚ
    are_rates : AreRates a w rate

  -- a basic of the set that is none of b, and has a rate at q
  record IsPivot (w : Basics) (d : Vector) (n p : ℕ) : Type 0 where
    low : 1 ≤ p
    high : p ≤ n
    leaves : is_in w p ≡ true
    unwanted : is_in b p ≡ false
    pivot : d p ≢ zero_ℚ

  abbrev NoPivot : Basics → Vector → ℕ → Type 0
  NoPivot w d n = (p : ℕ) → 1 ≤ p → p ≤ n → is_in w p ≡ true → is_in b p ≡ false → d p ≡ zero_ℚ

  find_pivot : (w : Basics) (d : Vector) (n : ℕ) → ((p : ℕ) × IsPivot w d n p) ⊎ NoPivot w d n
  find_pivot w d zero = inr (λ p low high leaves unwanted. absurd (omega arith))
  find_pivot w d (suc n) = next (find_pivot w d n)
    where
      longer : (p : ℕ) → IsPivot w d n p → IsPivot w d (suc n) p
      longer p h = record { low = h.low; high = omega (arith, h.high); leaves = h.leaves; unwanted = h.unwanted; pivot = h.pivot }

      none : NoPivot w d n → (is_in w (suc n) ≡ true → is_in b (suc n) ≡ false → d (suc n) ≡ zero_ℚ) → NoPivot w d (suc n)
      none before here p low high leaves unwanted = at (eqb_tells p (suc n))
        where
          at : (((eqb p (suc n) ≡ true) × (p ≡ suc n)) ⊎ ((eqb p (suc n) ≡ false) × (p ≢ suc n))) → d p ≡ zero_ℚ
          at (inl same) = ap d same.1 ∙ here (ap (is_in w) (sym same.1) ∙ leaves) (ap (is_in b) (sym same.1) ∙ unwanted)
          at (inr other) = let apart = other.1 in before p low (omega (arith, high, apart)) leaves unwanted

      by_value : NoPivot w d n → is_in w (suc n) ≡ true → is_in b (suc n) ≡ false → ((d (suc n) ≡ zero_ℚ) ⊎ (d (suc n) ≢ zero_ℚ)) →
          ((p : ℕ) × IsPivot w d (suc n) p) ⊎ NoPivot w d (suc n)
      by_value before leaves unwanted (inl vanishes) = inr (none before (λ e f. vanishes))
      by_value before leaves unwanted (inr rate) =
          inl (suc n, record { low = omega arith; high = omega arith; leaves = leaves; unwanted = unwanted; pivot = rate })

      by_marks : NoPivot w d n → (x y : Bool) → is_in w (suc n) ≡ x → is_in b (suc n) ≡ y → ((p : ℕ) × IsPivot w d (suc n) p) ⊎ NoPivot w d (suc n)
      by_marks before true false is_w is_b = by_value before is_w is_b (zero_or_not (d (suc n)))
      by_marks before true true is_w is_b = inr (none before (λ e f. absurd (clash (sym is_b ∙ f))))
      by_marks before false y is_w is_b = inr (none before (λ e f. absurd (clash (sym e ∙ is_w))))

      next : (((p : ℕ) × IsPivot w d n p) ⊎ NoPivot w d n) → ((p : ℕ) × IsPivot w d (suc n) p) ⊎ NoPivot w d (suc n)
      next (inl found) = inl (found.0, longer found.0 found.1)
      next (inr before) = by_marks before (is_in w (suc n)) (is_in b (suc n)) refl refl

  -- without one, the direction of q would vanish
  no_pivot : (w : Basics) (q : ℕ) (d : Vector) → IsDirectionOf a w q d → IsVariable a q → is_in b q ≡ true → NoPivot w d (size a) → ⊥
  no_pivot w q d direction is wanted none = one_apart (sym direction.own ∙ one.only_zero d direction.keeps (λ k out. at k out (is_in w k) refl) q is)
    where
      at : (k : ℕ) → IsNonbasic a b k → (x : Bool) → is_in w k ≡ x → d k ≡ zero_ℚ
      at k out true is_w = none k out.0.0 out.0.1 is_w out.1
      at k out false is_w = direction.others k (out.0, is_w) (λ e. clash (sym wanted ∙ ap (is_in b) (sym e) ∙ out.1))

  abbrev Found : Type 0
  Found = (rate : ℕ → ℕ → ℚ) × AreRates a b rate

  at_next : (w : Basics) (i : ℕ) (m : Bool) → get_or w i false ≡ m → is_in w (suc i) ≡ m
  at_next w i m e = let place : suc i - 1 ≡ i = omega arith in ap (λ j. get_or w j false) place ∙ e

  exchange_in : (w : Basics) (h : Stands w) (i : ℕ) → IsMissing b w i → (p : ℕ) → IsPivot w (λ k. h.rate k (suc i)) (size a) p → Stands (exchanged w p (suc i))
  exchange_in w h i lacks p found =
      let q_is : IsNonbasic a w (suc i) = ((omega arith, omega (arith, lacks.below, one.counted)), at_next w i false lacks.second) in
      let p_is : IsBasic a w p = ((found.low, found.high), found.leaves) in
      record {
        nonsingular = IsNonsingular-exchanged a w p (suc i) (λ k. h.rate k (suc i)) h.nonsingular p_is q_is (h.are_rates (suc i) q_is) found.pivot;
        rate = exchanged_rate h.rate p (suc i);
        are_rates = AreRates-exchanged a w h.nonsingular.counted h.rate h.are_rates p (suc i) p_is q_is found.pivot;
      }

  fewer : (w : Basics) (n i : ℕ) → IsNonsingular a w → missing b w ≡ suc n → IsMissing b w i → (p : ℕ) → is_in b p ≡ false →
      missing b (exchanged w p (suc i)) ≡ n
  fewer w n i nonsingular more lacks p unwanted =
      let first = missing-set_true b w i (omega (arith, lacks.below, one.counted, nonsingular.counted)) lacks.first lacks.second in
      let second = missing-set_false b (set w i true) (p - 1) unwanted in
      let place : suc i - 1 ≡ i = omega arith in
      let same : missing b (exchanged w p (suc i)) ≡ missing b (set (set w i true) (p - 1) false) =
      ap (λ j. missing b (set (set w j true) (p - 1) false)) place in
      omega (arith, first, second, same, more)

  walk : (n : ℕ) (w : Basics) → Stands w → missing b w ≡ n → Found
  walk zero w h none =
      let same : w ≡ b =
      same_marks b w (one.counted ∙ sym h.nonsingular.counted) none (marked_is w ∙ h.nonsingular.m_basics ∙ sym one.m_basics ∙ sym (marked_is b)) in
      subst (λ (x : Basics). (rate : ℕ → ℕ → ℚ) × AreRates a x rate) same (h.rate, h.are_rates)
  walk (suc n) w h more =
      let lacks = a_missing b w (one.counted ∙ sym h.nonsingular.counted) (omega (arith, more)) in
      let q_is : IsNonbasic a w (suc lacks.0) = ((omega arith, omega (arith, lacks.1.below, one.counted)), at_next w lacks.0 false lacks.1.second) in
      let out = elim (find_pivot w (λ k. h.rate k (suc lacks.0)) (size a)) as (λ _. (p : ℕ) × IsPivot w (λ k. h.rate k (suc lacks.0)) (size a) p) [
        | inl found ↦ found
        | inr none ↦ absurd
            (no_pivot w (suc lacks.0) (λ k. h.rate k (suc lacks.0)) (h.are_rates (suc lacks.0) q_is) q_is.0 (at_next b lacks.0 true lacks.1.first) none)
      ] in
      walk n (exchanged w out.0 (suc lacks.0)) (exchange_in w h lacks.0 lacks.1 out.0 out.1) (fewer w n lacks.0 h.nonsingular more lacks.1 out.0 out.1.unwanted)

  pub rates_exist : Found
  rates_exist =
      walk (missing b (row_basics a)) (row_basics a)
      (record { nonsingular = IsNonsingular-row_basics a; rate = opening_rate a; are_rates = AreRates-opening a }) refl
