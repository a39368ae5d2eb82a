-- Powers of two in a greatest common divisor: an odd number shares none of them, and the twos of two numbers are shared as far as both have them.
use Rattle.std.proofs.Common.{◌≡◌, ◌≢◌, ℕ, zero, suc, min, max, ◌+◌, ◌-◌, ◌*◌, ◌/◌, ◌%◌, ◌^◌, ◌<◌, ◌≤◌, ◌⊎◌, inl, inr, refl, sym, ◌∙◌, ap, subst, arith}
use Prim.Native.Nat.{◌∣◌}
use mir.Val.{bits}
use lib.Count.{count_trailing_zeros, under}
use Rattle.std.specs.Int.{abs_diff, trailing_zeros, Width}
use Rattle.std.proofs.Math.Nat.{one-mul, mul_comm, pow-suc, dvd-mul_right, mul-dvd-mul_right, div-mul_cancel, mul_assoc, mod-eq_of_lt, div-le_self}
use Rattle.std.proofs.lemmas.Nat.{div-add-mod', pow_pos, pow-add}
use Rattle.std.proofs.lemmas.Nat.Gcd.{dvd_refl, dvd_trans, IsGcd-from_sub, le_of_dvd}
use Rattle.std.proofs.lemmas.Nat.Bits.{bit_at-trailing_zeros}
use Rattle.exact_values.specs.Gcd.{gcd}
use Rattle.exact_values.specs.GcdLaws.{IsGcd-gcd, gcd-is, gcd_comm, gcd-mod, gcd-one_right, gcd-scaled, gcd-same, gcd-zero, coprime-mul, coprime-dvd}
use Rattle.exact_values.specs.GcdLaws.{dvd_from_coprime, dvd-gcd, gcd-dvd_left, gcd-dvd_right}

-- a factor that shares nothing with x takes nothing away from what x shares
pub gcd-drop : (x y k : ℕ) → gcd x k ≡ 1 → gcd x (y * k) ≡ gcd x y
gcd-drop x y k apart = gcd-is x (y * k) (gcd x y) (
  gcd-dvd_left x y,
  dvd_trans (gcd x y) (gcd-dvd_right x y) (dvd-mul_right y k),
  λ d h p. dvd-gcd x y d h
      (dvd_from_coprime d k y (coprime-dvd x k d k apart h (dvd_refl k)) (subst (λ n. d ∣ n) (mul_comm y k) p)),
)

odd-two : (x : ℕ) → x % 2 ≡ 1 → gcd x 2 ≡ 1
odd-two x odd = sym (gcd-mod x 2) ∙ ap (gcd 2) odd ∙ gcd-one_right 2

pub odd-pow : (x t : ℕ) → x % 2 ≡ 1 → gcd x (2 ^ t) ≡ 1
odd-pow x zero odd = gcd-one_right x
odd-pow x (suc t) odd = ap (gcd x) (pow-suc 2 t) ∙ coprime-mul x (2 ^ t) 2 (odd-pow x t odd) (odd-two x odd)

-- the twos of n do not count beside an odd number
pub gcd-odd_quotient : (x n t : ℕ) → x % 2 ≡ 1 → n / 2 ^ t * 2 ^ t ≡ n → gcd x (n / 2 ^ t) ≡ gcd x n
gcd-odd_quotient x n t odd whole = sym (gcd-drop x (n / 2 ^ t) (2 ^ t) (odd-pow x t odd)) ∙ ap (gcd x) whole

-- ---- the twos of a number

twos-dvd : (k n : ℕ) → 2 ^ count_trailing_zeros k n ∣ n
unfolding count_trailing_zeros
twos-dvd zero n = let e : 1 * n ≡ n = one-mul n in subst (λ m. 1 ∣ m) e (dvd-mul_right 1 n)
twos-dvd (suc k) n = by_digit (twos-dvd k (n / 2)) (n % 2) refl
  where
    by_digit : 2 ^ count_trailing_zeros k (n / 2) ∣ n / 2 → (d : ℕ) → n % 2 ≡ d → 2 ^ under d (count_trailing_zeros k (n / 2)) ∣ n
    by_digit half zero e =
        let even : n / 2 * 2 ≡ n = omega (arith, div-add-mod' n 2) in
        subst (λ m. m ∣ n) (sym (pow-suc 2 (count_trailing_zeros k (n / 2))))
        (subst (λ m. 2 ^ count_trailing_zeros k (n / 2) * 2 ∣ m) even (mul-dvd-mul_right (2 ^ count_trailing_zeros k (n / 2)) half 2))
    by_digit half (suc d) e = subst (λ m. 1 ∣ m) (one-mul n) (dvd-mul_right 1 n)

-- a number without its twos
pub record IsOddPart (w : Width) (n odd : ℕ) : Type 0 where
  pub shift_fits : trailing_zeros w n < bits w
  pub whole : odd * 2 ^ trailing_zeros w n ≡ n
  pub is_odd : odd % 2 ≡ 1

pub odd_part : (w : Width) (n : ℕ) → 0 < n → n < 2 ^ bits w → IsOddPart w n (n / 2 ^ trailing_zeros w n)
odd_part w n n_pos fits =
    let place = bit_at-trailing_zeros w n n_pos fits in
    record { shift_fits = place.0; whole = div-mul_cancel (2 ^ trailing_zeros w n) (twos-dvd (bits w) n); is_odd = place.1 }

-- ---- the steps

-- two odd numbers of a machine's width, and what they share
pub record OddPair (w : Width) (x y shared : ℕ) : Type 0 where
  pub x_fits : x < 2 ^ bits w
  pub y_fits : y < 2 ^ bits w
  pub x_odd : x % 2 ≡ 1
  pub y_odd : y % 2 ≡ 1
  pub same : gcd x y ≡ shared

either_way : (m n : ℕ) → (m ≤ n) ⊎ (n ≤ m)
either_way m n = grind arith

-- a number and what another has more than it
gcd-sub : (m n : ℕ) → m ≤ n → gcd m (n - m) ≡ gcd m n
gcd-sub m n below =
    gcd_comm m (n - m)
    ∙ sym (gcd-is n m (gcd (n - m) m) (IsGcd-from_sub n m (gcd (n - m) m) below (IsGcd-gcd (n - m) m)))
    ∙ gcd_comm n m

-- the smaller number is taken from the larger, and the difference loses its twos
pub odds_step : (w : Width) (x y shared : ℕ) → OddPair w x y shared → x ≢ y
    → OddPair w (min x y) (abs_diff x y / 2 ^ trailing_zeros w (abs_diff x y)) shared
odds_step w x y shared pair apart = by_order (either_way x y)
  where
    gap_pos : 0 < abs_diff x y
    gap_pos = omega arith

    gap_fits : abs_diff x y < 2 ^ bits w
    gap_fits = omega (arith, pair.x_fits, pair.y_fits)

    odd : IsOddPart w (abs_diff x y) (abs_diff x y / 2 ^ trailing_zeros w (abs_diff x y))
    odd = odd_part w (abs_diff x y) gap_pos gap_fits

    -- where m is the smaller one, and n the larger
    ordered : (m n : ℕ) → m ≤ n → m % 2 ≡ 1 → gcd m n ≡ shared → min x y ≡ m → abs_diff x y ≡ n - m
        → OddPair w (min x y) (abs_diff x y / 2 ^ trailing_zeros w (abs_diff x y)) shared
    ordered m n below m_odd same least gap = record {
      x_fits = omega (arith, pair.x_fits, pair.y_fits);
      y_fits = omega (arith, gap_fits, div-le_self (abs_diff x y) (2 ^ trailing_zeros w (abs_diff x y)));
      x_odd = ap (λ k. k % 2) least ∙ m_odd;
      y_odd = odd.is_odd;
      same =
          ap (λ k. gcd k (abs_diff x y / 2 ^ trailing_zeros w (abs_diff x y))) least
          ∙ gcd-odd_quotient m (abs_diff x y) (trailing_zeros w (abs_diff x y)) m_odd odd.whole
          ∙ ap (gcd m) gap ∙ gcd-sub m n below ∙ same;
    }

    by_order : (x ≤ y) ⊎ (y ≤ x) → OddPair w (min x y) (abs_diff x y / 2 ^ trailing_zeros w (abs_diff x y)) shared
    by_order (inl h) = ordered x y h pair.x_odd pair.same (omega arith) (omega arith)
    by_order (inr h) = ordered y x h pair.y_odd (gcd_comm y x ∙ pair.same) (omega arith) (omega arith)

pub odds_end : (w : Width) (x y shared : ℕ) → OddPair w x y shared → x ≡ y → x ≡ shared
odds_end w x y shared pair e = sym (gcd-same x) ∙ ap (gcd x) e ∙ pair.same

pub gcd-ordered : (a b : ℕ) → gcd (max a b) (min a b) ≡ gcd a b
gcd-ordered a b = by_order (either_way a b)
  where
    by_order : (a ≤ b) ⊎ (b ≤ a) → gcd (max a b) (min a b) ≡ gcd a b
    by_order (inl h) = let e : max a b ≡ b = omega arith in let k : min a b ≡ a = omega arith in ap (λ n. gcd n (min a b)) e ∙ ap (gcd b) k ∙ gcd_comm b a
    by_order (inr h) = let e : max a b ≡ a = omega arith in let k : min a b ≡ b = omega arith in ap (λ n. gcd n (min a b)) e ∙ ap (gcd a) k

pub gcd_mod_left : (a b : ℕ) → gcd (a % b) b ≡ gcd a b
gcd_mod_left a b = gcd_comm (a % b) b ∙ gcd-mod a b

-- the twos that both numbers have are shared, and no others
pub gcd-twos : (p q i j : ℕ) → p % 2 ≡ 1 → q % 2 ≡ 1 → gcd p q * 2 ^ min i j ≡ gcd (p * 2 ^ i) (q * 2 ^ j)
gcd-twos p q i j p_odd q_odd = by_order (either_way i j)
  where
    -- the one with fewer twos first
    fewer : (x y s k : ℕ) → x % 2 ≡ 1 → gcd (x * 2 ^ s) (y * 2 ^ k * 2 ^ s) ≡ gcd x y * 2 ^ s
    fewer x y s k odd = gcd-scaled x (y * 2 ^ k) (2 ^ s) (pow_pos s) ∙ ap (λ n. n * 2 ^ s) (gcd-drop x y (2 ^ k) (odd-pow x k odd))

    split : (y s k : ℕ) → y * 2 ^ k * 2 ^ s ≡ y * 2 ^ (k + s)
    split y s k = mul_assoc y (2 ^ k) (2 ^ s) ∙ ap (λ n. y * n) (sym (pow-add 2 k s))

    by_order : (i ≤ j) ⊎ (j ≤ i) → gcd p q * 2 ^ min i j ≡ gcd (p * 2 ^ i) (q * 2 ^ j)
    by_order (inl h) =
        let least : min i j ≡ i = omega arith in
        let rest : j - i + i ≡ j = omega arith in
        ap (λ n. gcd p q * 2 ^ n) least ∙ sym (fewer p q i (j - i) p_odd) ∙ ap (gcd (p * 2 ^ i)) (split q i (j - i) ∙ ap (λ n. q * 2 ^ n) rest)
    by_order (inr h) =
        let least : min i j ≡ j = omega arith in
        let rest : i - j + j ≡ i = omega arith in
        ap (λ n. gcd p q * 2 ^ n) least ∙ ap (λ n. n * 2 ^ j) (gcd_comm p q) ∙ sym (fewer q p j (i - j) q_odd)
        ∙ ap (gcd (q * 2 ^ j)) (split p j (i - j) ∙ ap (λ n. p * 2 ^ n) rest) ∙ gcd_comm (q * 2 ^ j) (p * 2 ^ i)

-- the last step: the shift to the left loses nothing
pub shifted_back : (w : Width) (near small odds : ℕ) → 0 < near → 0 < small → near < 2 ^ bits w → small < 2 ^ bits w
    → odds ≡ gcd (near / 2 ^ trailing_zeros w near) (small / 2 ^ trailing_zeros w small)
    → odds * 2 ^ min (trailing_zeros w near) (trailing_zeros w small) % 2 ^ bits w ≡ gcd near small
shifted_back w near small odds near_pos small_pos near_fits small_fits is =
    let left = odd_part w near near_pos near_fits in
    let right = odd_part w small small_pos small_fits in
    let whole : odds * 2 ^ min (trailing_zeros w near) (trailing_zeros w small) ≡ gcd near small =
    ap (λ n. n * 2 ^ min (trailing_zeros w near) (trailing_zeros w small)) is
    ∙ gcd-twos _ _ (trailing_zeros w near) (trailing_zeros w small) left.is_odd right.is_odd
    ∙ ap (λ n. gcd n (small / 2 ^ trailing_zeros w small * 2 ^ trailing_zeros w small)) left.whole ∙ ap (gcd near) right.whole in
    let fits : gcd near small < 2 ^ bits w = omega (arith, le_of_dvd small_pos (gcd-dvd_right near small)) in
    ap (λ n. n % 2 ^ bits w) whole ∙ mod-eq_of_lt fits

-- ---- the start

pub gcd-small_zero : (a b large small : ℕ) → large ≡ max a b → small ≡ min a b → small ≡ 0 → large ≡ gcd a b
gcd-small_zero a b large small is_large is_small e =
    sym (gcd-zero large) ∙ ap (gcd large) (sym e) ∙ ap (λ n. gcd n small) is_large ∙ ap (gcd (max a b)) is_small ∙ gcd-ordered a b

pub gcd-near : (a b large small near : ℕ) → large ≡ max a b → small ≡ min a b → gcd near small ≡ gcd large small → gcd near small ≡ gcd a b
gcd-near a b large small near is_large is_small is = is ∙ ap (λ n. gcd n small) is_large ∙ ap (gcd (max a b)) is_small ∙ gcd-ordered a b

pub gcd-near_zero : (a b near small : ℕ) → gcd near small ≡ gcd a b → near ≡ 0 → small ≡ gcd a b
gcd-near_zero a b near small is e = sym (gcd-zero small) ∙ gcd_comm small 0 ∙ ap (λ n. gcd n small) (sym e) ∙ is
