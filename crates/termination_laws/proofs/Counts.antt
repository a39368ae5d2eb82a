-- How many status lists there are: each has a number of its own, written to the base 3.
use Rattle.std.proofs.Common.{◌≡◌, ◌≢◌, ℕ, zero, suc, ◌+◌, ◌*◌, ◌^◌, ◌-◌, ◌<◌, ◌≤◌, ◌⊎◌, inl, inr, true, false, List, [], ◌∷◌, length, get_or, refl, sym, ap}
use Rattle.std.proofs.Common.{ap₂, subst, ◌∙◌, arith, cond}
use Rattle.std.specs.Prelude.{Option, None, IsSome, eqb}
use native.Mathlib.Nat.{pow-suc}
use Rattle.std.proofs.lemmas.Bool.Decides.{eqb_tells}
use Rattle.exact_values.specs.Rational.{ℚ}
use Rattle.lp_definitions.specs.LinearProgram.{LinearProgram, lower_of, upper_of}
use Rattle.lp_definitions.specs.Basis.{IsAllowed, IsBasis}
use Rattle.lp_definitions.specs.declared.Status.{Status}
use Rattle.lp_definitions.specs.declared.Status.TheVariants.{Bs, Ll, Ul, Fr}

-- ---- one function from more numbers than it has values takes one value twice

pub pigeonhole : (m n : ℕ) (f : ℕ → ℕ) → ((i : ℕ) → i < n → f i < m) → ((i j : ℕ) → i < n → j < n → f i ≡ f j → i ≡ j) → n ≤ m
pigeonhole zero zero f below one = omega arith
pigeonhole zero (suc n) f below one = let none = below 0 (omega arith) in absurd (omega (arith, none))
pigeonhole (suc m) zero f below one = omega arith
pigeonhole (suc m) (suc n) f below one = let rest = pigeonhole m n g g_below g_one in omega (arith, rest)
  where
    g : ℕ → ℕ
    g i = cond (eqb (f i) m) (f n) (f i)

    Reported : ℕ → Type 0
    Reported i = ((eqb (f i) m ≡ true) × (f i ≡ m)) ⊎ ((eqb (f i) m ≡ false) × (f i ≢ m))

    last : (i : ℕ) → i < n → f i ≢ f n
    last i low same = let is = one i n (omega (arith, low)) (omega arith) same in omega (arith, is, low)

    moved : (i : ℕ) → eqb (f i) m ≡ true → g i ≡ f n
    moved i e = ap (λ b. cond b (f n) (f i)) e

    kept : (i : ℕ) → eqb (f i) m ≡ false → g i ≡ f i
    kept i e = ap (λ b. cond b (f n) (f i)) e

    g_below : (i : ℕ) → i < n → g i < m
    g_below i low = at (eqb_tells (f i) m)
      where
        at : (((eqb (f i) m ≡ true) × (f i ≡ m)) ⊎ ((eqb (f i) m ≡ false) × (f i ≢ m))) → g i < m
        at (inl same) =
            let top = below n (omega arith) in
            let other : f n ≢ m = (λ e. last i low (same.1 ∙ sym e)) in
            let is = moved i same.0 in omega (arith, top, other, is)
        at (inr other) = let top = below i (omega (arith, low)) in let is = kept i other.0 in omega (arith, top, other.1, is)

    g_one : (i j : ℕ) → i < n → j < n → g i ≡ g j → i ≡ j
    g_one i j low_i low_j e = at (eqb_tells (f i) m) (eqb_tells (f j) m)
      where
        at : (((eqb (f i) m ≡ true) × (f i ≡ m)) ⊎ ((eqb (f i) m ≡ false) × (f i ≢ m))) →
            (((eqb (f j) m ≡ true) × (f j ≡ m)) ⊎ ((eqb (f j) m ≡ false) × (f j ≢ m))) → i ≡ j
        at (inl same) (inl too) = one i j (omega (arith, low_i)) (omega (arith, low_j)) (same.1 ∙ sym too.1)
        at (inl same) (inr other) = absurd (last j low_j (sym (kept j other.0) ∙ sym e ∙ moved i same.0))
        at (inr other) (inl same) = absurd (last i low_i (sym (kept i other.0) ∙ e ∙ moved j same.0))
        at (inr other) (inr too) = one i j (omega (arith, low_i)) (omega (arith, low_j)) (sym (kept i other.0) ∙ e ∙ kept j too.0)

-- ---- the number of a status list

abbrev digit : Status → ℕ
digit Bs = 0
digit Ll = 1
digit Ul = 2
digit Fr = 1

pub code : List Status → ℕ
code [] = 0
code (st ∷ s) = digit st + 3 * code s

digit_below : (st : Status) → digit st < 3
digit_below Bs = omega arith
digit_below Ll = omega arith
digit_below Ul = omega arith
digit_below Fr = omega arith

code_step : (d c power : ℕ) → d < 3 → c < power → d + 3 * c < 3 * power
code_step d c power low high = omega (arith, low, high)

power_up : (c n : ℕ) → c < 3 * 3 ^ n → c < 3 ^ suc n
power_up c n h = let is = pow-suc 3 n in omega (arith, h, is)

pub code_below : (s : List Status) → code s < 3 ^ length s
unfolding code
code_below [] = omega arith
code_below (st ∷ s) = power_up (digit st + 3 * code s) (length s) (code_step (digit st) (code s) (3 ^ length s) (digit_below st) (code_below s))

same_status : (x y : Status) (low high : Option ℚ) → IsAllowed x low high → IsAllowed y low high → digit x ≡ digit y → x ≡ y
same_status Bs Bs low high first second e = refl
same_status Bs Ll low high first second e = absurd (omega (arith, e))
same_status Bs Ul low high first second e = absurd (omega (arith, e))
same_status Bs Fr low high first second e = absurd (omega (arith, e))
same_status Ll Bs low high first second e = absurd (omega (arith, e))
same_status Ll Ll low high first second e = refl
same_status Ll Ul low high first second e = absurd (omega (arith, e))
same_status Ll Fr low high first second e = let P : IsSome low → low ≡ None → ⊥ = λ h e. cc in absurd (P first second.0)
same_status Ul Bs low high first second e = absurd (omega (arith, e))
same_status Ul Ll low high first second e = absurd (omega (arith, e))
same_status Ul Ul low high first second e = refl
same_status Ul Fr low high first second e = absurd (omega (arith, e))
same_status Fr Bs low high first second e = absurd (omega (arith, e))
same_status Fr Ll low high first second e = let P : IsSome low → low ≡ None → ⊥ = λ h e. cc in absurd (P second first.0)
same_status Fr Ul low high first second e = absurd (omega (arith, e))
same_status Fr Fr low high first second e = refl

abbrev Fits : List Status → (ℕ → Option ℚ) → (ℕ → Option ℚ) → Type 0
Fits s low high = (k : ℕ) → k < length s → IsAllowed (get_or s k Bs) (low k) (high k)

first_digit : (d c e b : ℕ) → d < 3 → e < 3 → d + 3 * c ≡ e + 3 * b → (d ≡ e) × (c ≡ b)
first_digit d c e b low too same = (omega (arith, low, too, same), omega (arith, low, too, same))

same_list : (s r : List Status) (low high : ℕ → Option ℚ) → length s ≡ length r → Fits s low high → Fits r low high → code s ≡ code r → s ≡ r
unfolding code
same_list [] [] low high lengths first second e = refl
same_list [] (y ∷ r) low high lengths first second e = absurd (omega (arith, lengths))
same_list (x ∷ s) [] low high lengths first second e = absurd (omega (arith, lengths))
same_list (x ∷ s) (y ∷ r) low high lengths first second e =
    let parts = first_digit (digit x) (code s) (digit y) (code r) (digit_below x) (digit_below y) e in
    ap₂ (λ z zs. z ∷ zs) (same_status x y (low 0) (high 0) (first 0 (omega arith)) (second 0 (omega arith)) parts.0)
    (same_list s r (λ k. low (suc k)) (λ k. high (suc k)) (omega (arith, lengths)) (λ k below. first (suc k) (omega (arith, below)))
    (λ k below. second (suc k) (omega (arith, below))) parts.1)

fits : (p : LinearProgram) (s : List Status) → IsBasis p s → Fits s (λ k. lower_of p (suc k)) (λ k. upper_of p (suc k))
fits p s basis k below =
    let place : suc k - 1 ≡ k = omega arith in
    subst (λ i. IsAllowed (get_or s i Bs) (lower_of p (suc k)) (upper_of p (suc k))) place
    (basis.allowed (suc k) (omega arith, omega (arith, below, basis.counted)))

-- two bases with one number are one
pub code_tells : (p : LinearProgram) (s r : List Status) → IsBasis p s → IsBasis p r → code s ≡ code r → s ≡ r
code_tells p s r first second e =
    same_list s r (λ k. lower_of p (suc k)) (λ k. upper_of p (suc k)) (first.counted ∙ sym second.counted) (fits p s first) (fits p r second) e
