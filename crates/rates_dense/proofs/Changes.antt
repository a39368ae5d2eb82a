-- The list of the changed variables, and rates that are taken over at them, or at the basics of the lines.
use Rattle.std.specs.Prelude.{eqb}
use Rattle.std.proofs.Common.{true, false, ◌≡◌, ◌≢◌, ℕ, ◌+◌, ◌-◌, ◌<◌, ◌≤◌, ◌⊎◌, inl, inr, List, length, get_or, set, take, sym, ap, ◌∙◌, subst, All, arith}
use Rattle.std.proofs.Common.{below_more}
use Rattle.std.proofs.lemmas.Bool.Decides.{eqb_tells}
use Rattle.std.proofs.lemmas.List.{get_or-set_same, get_or-set_other, get_or-map, length-map, length-take-le, get_or-take}
use Rattle.exact_values.specs.Rational.{ℚ, zero_ℚ}
use Rattle.lp_definitions.specs.LinearProgram.{value_at}
use Rattle.rates_dense.specs.declared.line.Line.{Line}
use Rattle.rates_dense.proofs.Fills.{filled_at}
use Rattle.rates_dense.specs.Lines.{IsFilled, AreNumbers, AreChanged, IsListed, HasPlaces, basics_of, HaveRatesAt, IsTakenOver}

-- ---- the list

-- the first `count` places have the variables up to n where f is not 0
pub record ListedTo (js : List ℕ) (f : ℕ → ℚ) (n count : ℕ) : Type 0 where
  pub numbers : (place : ℕ) → place < count → (1 ≤ get_or js place 0) × (get_or js place 0 ≤ n)
  pub each : (j : ℕ) → 1 ≤ j → j ≤ n → ((place : ℕ) × (place < count) × (get_or js place 0 ≡ j)) ⊎ (f j ≡ zero_ℚ)

-- at the next variable f is 0
pub listed_zero : (js : List ℕ) (f : ℕ → ℚ) (n count : ℕ) → f (n + 1) ≡ zero_ℚ → ListedTo js f n count → ListedTo js f (n + 1) count
listed_zero js f n count zero so_far = record {
  numbers = λ place below. let h = so_far.numbers place below in (h.0, omega (arith, h.1));
  each = λ j low high. at j low high (eqb_tells j (n + 1));
}
  where
    at : (j : ℕ) → 1 ≤ j → j ≤ n + 1 → ((eqb j (n + 1) ≡ true) × (j ≡ n + 1)) ⊎ ((eqb j (n + 1) ≡ false) × (j ≢ n + 1)) →
        ((place : ℕ) × (place < count) × (get_or js place 0 ≡ j)) ⊎ (f j ≡ zero_ℚ)
    at j low high (inl same) = inr (ap f same.1 ∙ zero)
    at j low high (inr other) = so_far.each j low (omega (arith, other.1, high))

-- the next variable is listed
pub listed_more : (js : List ℕ) (f : ℕ → ℚ) (n count : ℕ) → count < length js → ListedTo js f n count → ListedTo (set js count (n + 1)) f (n + 1) (count + 1)
listed_more js f n count room so_far = record {
  numbers = below_more (λ place. (1 ≤ get_or (set js count (n + 1)) place 0) × (get_or (set js count (n + 1)) place 0 ≤ n + 1)) count
      (λ place below. let h = so_far.numbers place below in subst (λ (k : ℕ). (1 ≤ k) × (k ≤ n + 1)) (sym (kept place below)) (h.0, omega (arith, h.1)))
      (subst (λ (k : ℕ). (1 ≤ k) × (k ≤ n + 1)) (sym own) (omega arith, omega arith));
  each = λ j low high. at j low high (eqb_tells j (n + 1));
}
  where
    own : get_or (set js count (n + 1)) count 0 ≡ n + 1
    own = get_or-set_same js count (n + 1) 0 room

    kept : (place : ℕ) → place < count → get_or (set js count (n + 1)) place 0 ≡ get_or js place 0
    kept place below = let other : place ≢ count = omega arith in get_or-set_other js count place (n + 1) 0 other

    before : (j : ℕ) → ((place : ℕ) × (place < count) × (get_or js place 0 ≡ j)) ⊎ (f j ≡ zero_ℚ) →
        ((place : ℕ) × (place < count + 1) × (get_or (set js count (n + 1)) place 0 ≡ j)) ⊎ (f j ≡ zero_ℚ)
    before j (inl there) = inl (there.0, omega (arith, there.1), kept there.0 there.1 ∙ there.2)
    before j (inr none) = inr none

    at : (j : ℕ) → 1 ≤ j → j ≤ n + 1 → ((eqb j (n + 1) ≡ true) × (j ≡ n + 1)) ⊎ ((eqb j (n + 1) ≡ false) × (j ≢ n + 1)) →
        ((place : ℕ) × (place < count + 1) × (get_or (set js count (n + 1)) place 0 ≡ j)) ⊎ (f j ≡ zero_ℚ)
    at j low high (inl same) = inl (count, omega arith, own ∙ sym same.1)
    at j low high (inr other) = before j (so_far.each j low (omega (arith, other.1, high)))

-- all variables are listed
pub listed_to_end : (js : List ℕ) (quotients : List ℚ) (f : ℕ → ℚ) (n count : ℕ) → length quotients ≤ n → n ≤ length quotients → count ≤ length js →
    IsFilled quotients f → ListedTo js f n count → AreChanged (take count js) quotients
listed_to_end js quotients f n count all within room filled listed = record {
  numbers = λ place below. let h = listed.numbers place (omega (arith, counted, below)) in
      subst (λ (k : ℕ). (1 ≤ k) × (k ≤ length quotients)) (sym (read place (omega (arith, counted, below)))) (h.0, omega (arith, h.1, within));
  each = λ j low high. at j low high (listed.each j low (omega (arith, high, all)));
}
  where
    counted : length (take count js) ≡ count
    counted = length-take-le count js room

    read : (place : ℕ) → place < count → get_or (take count js) place 0 ≡ get_or js place 0
    read place below = get_or-take count js place 0 below

    at : (j : ℕ) → 1 ≤ j → j ≤ length quotients → ((place : ℕ) × (place < count) × (get_or js place 0 ≡ j)) ⊎ (f j ≡ zero_ℚ) →
        IsListed (take count js) j ⊎ (value_at quotients j ≡ zero_ℚ)
    at j low high (inl there) = inl (record { place = there.0; within = omega (arith, counted, there.1); is = read there.0 there.1 ∙ there.2 })
    at j low high (inr none) = inr (filled_at quotients f filled j low high ∙ none)

-- ---- taking over

-- the rates at the first n of the list are taken over
pub record TakenTo (js : List ℕ) (old new : List ℚ) (f : ℕ → ℚ) (n : ℕ) : Type 0 where
  pub listed : (place : ℕ) → place < n → value_at new (get_or js place 0) ≡ f (get_or js place 0)
  pub others : (j : ℕ) → 1 ≤ j → j ≤ length old → (value_at new j ≡ f j) ⊎ (value_at new j ≡ value_at old j)

pub taken_to_end : (js : List ℕ) (old new : List ℚ) (f : ℕ → ℚ) (n : ℕ) → length js ≤ n → TakenTo js old new f n → IsTakenOver js old new f
taken_to_end js old new f n all so_far = record { listed = λ place within. so_far.listed place (omega (arith, all, within)); others = so_far.others }

pub taken_more : (js : List ℕ) (old new : List ℚ) (f : ℕ → ℚ) (n : ℕ) (v : ℚ) → AreNumbers (length new) js → n < length js → v ≡ f (get_or js n 0) →
    TakenTo js old new f n → TakenTo js old (set new (get_or js n 0 - 1) v) f (n + 1)
taken_more js old new f n v numbers within is_v so_far = record {
  listed = below_more (λ place. value_at (set new (j - 1) v) (get_or js place 0) ≡ f (get_or js place 0)) n
      (λ place below. at (get_or js place 0) (numbers place (omega arith)).0 (eqb_tells (get_or js place 0) j) (so_far.listed place below))
      (own ∙ is_v);
  others = λ i low high. other i low (eqb_tells i j) (so_far.others i low high);
}
  where
    j : ℕ
    j = get_or js n 0

    own : value_at (set new (j - 1) v) j ≡ v
    own = let inside : j - 1 < length new = omega (arith, (numbers n within).0, (numbers n within).1) in get_or-set_same new (j - 1) v zero_ℚ inside

    kept : (i : ℕ) → 1 ≤ i → i ≢ j → value_at (set new (j - 1) v) i ≡ value_at new i
    kept i low apart =
        let elsewhere : i - 1 ≢ j - 1 = λ e. apart (omega (arith, e, low, (numbers n within).0)) in
        get_or-set_other new (j - 1) (i - 1) v zero_ℚ elsewhere

    there : (i : ℕ) → i ≡ j → value_at (set new (j - 1) v) i ≡ f i
    there i same = ap (value_at (set new (j - 1) v)) same ∙ own ∙ is_v ∙ ap f (sym same)

    at : (i : ℕ) → 1 ≤ i → ((eqb i j ≡ true) × (i ≡ j)) ⊎ ((eqb i j ≡ false) × (i ≢ j)) → value_at new i ≡ f i → value_at (set new (j - 1) v) i ≡ f i
    at i low (inl same) before = there i same.1
    at i low (inr apart) before = kept i low apart.1 ∙ before

    other : (i : ℕ) → 1 ≤ i → ((eqb i j ≡ true) × (i ≡ j)) ⊎ ((eqb i j ≡ false) × (i ≢ j)) → (value_at new i ≡ f i) ⊎ (value_at new i ≡ value_at old i) →
        (value_at (set new (j - 1) v) i ≡ f i) ⊎ (value_at (set new (j - 1) v) i ≡ value_at old i)
    other i low (inl same) before = inl (there i same.1)
    other i low (inr apart) (inl is) = inl (kept i low apart.1 ∙ is)
    other i low (inr apart) (inr is) = inr (kept i low apart.1 ∙ is)

-- the basic of the line that a loop has
pub basic_within : (lines : List Line) (size n : ℕ) (line : Line) → n < length lines → line ≡ get_or lines n line → AreNumbers size (basics_of lines) →
    (1 ≤ line.basic) × (line.basic ≤ size)
basic_within lines size n line within is_line numbers =
    let basic : Line → ℕ = λ (x : Line). x.basic in
    let is : get_or (basics_of lines) n 0 ≡ line.basic = get_or-map basic lines n line 0 within ∙ ap basic (sym is_line) in
    let listed : n < length (basics_of lines) = omega (arith, length-map lines basic, within) in
    subst (λ (k : ℕ). (1 ≤ k) × (k ≤ size)) is (numbers n listed)

pub place_within : (lines : List Line) (size n : ℕ) (line : Line) → n < length lines → line ≡ get_or lines n line → All (HasPlaces size) lines →
    length line.rates.items ≡ size
place_within lines size n line within is_line places = ap (λ (x : Line). length x.rates.items) is_line ∙ (places n line within).places

-- the same at the basic of one more line
pub taken_line : (lines : List Line) (j : ℕ) (old new : List ℚ) (f : ℕ → ℚ) (n : ℕ) (line : Line) (v : ℚ) → n < length lines → line ≡ get_or lines n line
    → AreNumbers (length new) (basics_of lines) → HaveRatesAt j lines f → v ≡ value_at line.rates.items j
    → TakenTo (basics_of lines) old new f n → TakenTo (basics_of lines) old (set new (line.basic - 1) v) f (n + 1)
taken_line lines j old new f n line v within is_line numbers have is_v so_far =
    let basic : Line → ℕ = λ (x : Line). x.basic in
    let is_basic : get_or (basics_of lines) n 0 ≡ line.basic = get_or-map basic lines n line 0 within ∙ ap basic (sym is_line) in
    let has_rate : value_at line.rates.items j ≡ f line.basic = subst (λ (x : Line). value_at x.rates.items j ≡ f x.basic) (sym is_line) (have n line within) in
    let listed : n < length (basics_of lines) = omega (arith, length-map lines basic, within) in
    subst (λ (k : ℕ). TakenTo (basics_of lines) old (set new (k - 1) v) f (n + 1)) is_basic
    (taken_more (basics_of lines) old new f n v numbers listed (is_v ∙ has_rate ∙ ap f (sym is_basic)) so_far)

-- a rate that is 0 stands there already
pub taken_zero : (lines : List Line) (j : ℕ) (old new : List ℚ) (f : ℕ → ℚ) (n : ℕ) (line : Line) → n < length lines → line ≡ get_or lines n line
    → AreNumbers (length old) (basics_of lines) → All (λ v. v ≡ zero_ℚ) old → HaveRatesAt j lines f
    → value_at line.rates.items j ≡ zero_ℚ → TakenTo (basics_of lines) old new f n → TakenTo (basics_of lines) old new f (n + 1)
taken_zero lines j old new f n line within is_line numbers zeros have none so_far = record {
  listed = below_more (λ place. value_at new (get_or (basics_of lines) place 0) ≡ f (get_or (basics_of lines) place 0)) n so_far.listed
      (subst (λ (k : ℕ). value_at new k ≡ f k) (sym is_basic) (there (so_far.others line.basic number.0 number.1)));
  others = so_far.others;
}
  where
    is_basic : get_or (basics_of lines) n 0 ≡ line.basic
    is_basic = get_or-map (λ (x : Line). x.basic) lines n line 0 within ∙ ap (λ (x : Line). x.basic) (sym is_line)

    number : (1 ≤ line.basic) × (line.basic ≤ length old)
    number = basic_within lines (length old) n line within is_line numbers

    f_none : f line.basic ≡ zero_ℚ
    f_none = sym (subst (λ (x : Line). value_at x.rates.items j ≡ f x.basic) (sym is_line) (have n line within)) ∙ none

    there : (value_at new line.basic ≡ f line.basic) ⊎ (value_at new line.basic ≡ value_at old line.basic) → value_at new line.basic ≡ f line.basic
    there (inl is) = is
    there (inr kept) = kept ∙ zeros (line.basic - 1) zero_ℚ (omega (arith, number.0, number.1)) ∙ sym f_none
