-- Whole numbers of one machine word.
use Rattle.std.proofs.Common.{◌≡◌, ℕ, ◌*◌, ◌^◌, ◌≤◌, refl, sym, ◌∙◌, ap, ap₂, arith, ℤ, pos, FitsSigned, to_z, of_z, Option, None, Some}
use Rattle.std.specs.Int.{w64, w128}
use Rattle.std.specs.Option.{SomeIff}
use Rattle.std.specs.Prelude.{IfSome}
use Rattle.std.specs.Prelude.{◌+ℤ◌, ◌*ℤ◌, unsigned_abs}
use Rattle.std.proofs.lemmas.Int.{ints, unsigned_abs-mul, to_z-of_z}
use Rattle.std.proofs.lemmas.Nat.{mul-le}
use Rattle.exact_values.specs.Rational.{ℚ, whole, ◌+ℚ◌, ◌*ℚ◌}
use Rattle.exact_values.proofs.Fractions.{is_ratio, same_from_ratio}
use Rattle.exact_values.proofs.Ring.{by_ring3, ◌⊗◌, ◌≐◌}
use Rattle.exact_values.proofs.RingLaws.{zero-add, mul-one, whole_ratio, whole-add, whole-mul}
use Rattle.frac128.specs.Terms.{Fits}
use Rattle.frac128.proofs.Parts.{read, read_fitting, word_product}

wide : (z : ℤ) → FitsSigned w64 z → FitsSigned w128 z
wide z h = omega (arith, ints)

word_read : (z : ℤ) → FitsSigned w64 z → read z ≡ z
word_read z h = to_z-of_z w128 z (wide z h)

pub word_twice : (z : ℤ) → FitsSigned w64 z → read (to_z w64 (of_z w64 z)) ≡ z
word_twice z h = ap read (to_z-of_z w64 z h) ∙ word_read z h

word_abs : (z : ℤ) → FitsSigned w64 z → unsigned_abs z ≤ 2 ^ 63
word_abs z h = omega (arith, ints)

-- the product of two words
module _ (c e : ℤ) (c_word : FitsSigned w64 c) (e_word : FitsSigned w64 e) where
  pub product_is : read (read (to_z w64 (of_z w64 c)) *ℤ read (to_z w64 (of_z w64 e))) ≡ c *ℤ e
  product_is =
      (word_product c e c e (wide c c_word) (wide e e_word) (rw (word_read c c_word) c_word) (rw (word_read e e_word) e_word) (sym (word_read c c_word))
      (sym (word_read e e_word))).1

  pub product_small : unsigned_abs (c *ℤ e) ≤ 2 ^ 126
  product_small =
      let bound : unsigned_abs c * unsigned_abs e ≤ 2 ^ 63 * 2 ^ 63 =
      mul-le (unsigned_abs c) (unsigned_abs e) (2 ^ 63) (2 ^ 63) (word_abs c c_word) (word_abs e e_word) in
      rw (unsigned_abs-mul c e) (omega (arith, bound))

module _ (x c e : ℤ) (x_word : FitsSigned w64 x) (c_word : FitsSigned w64 c) (e_word : FitsSigned w64 e) where
  fitting : (z : ℤ) → Fits z → FitsSigned w128 z
  fitting z h = omega (arith, ints)

  pub word_total_is : read (to_z w64 (of_z w64 x)) +ℤ read (read (to_z w64 (of_z w64 c)) *ℤ read (to_z w64 (of_z w64 e))) ≡ x +ℤ c *ℤ e
  word_total_is = ap₂ (λ a b. a +ℤ b) (word_twice x x_word) (product_is c e c_word e_word)

  pub word_total_fits : Fits (x +ℤ c *ℤ e)
  word_total_fits =
      let product = product_small c e c_word e_word in
      let first = word_abs x x_word in
      more x (c *ℤ e) first product
    where
      more : (a b : ℤ) → unsigned_abs a ≤ 2 ^ 63 → unsigned_abs b ≤ 2 ^ 126 → Fits (a +ℤ b)
      more a b h k = omega (arith, ints)

  pub word_total_wide : FitsSigned w128 (x +ℤ c *ℤ e)
  word_total_wide = fitting (x +ℤ c *ℤ e) word_total_fits

-- a fraction over 1 is its numerator
pub is_whole : (x : ℚ) → x.denominator ≡ 1 → whole x.numerator ≡ x
is_whole x one = same_from_ratio (whole_ratio x.numerator) (is_ratio x) (rw one (omega arith))

pub whole_total : (x c e : ℤ) → whole (x +ℤ c *ℤ e) ≡ whole x +ℚ whole c *ℚ whole e
whole_total x c e = whole-add x (c *ℤ e) ∙ ap (λ q. whole x +ℚ q) (whole-mul c e)

-- a sum that was checked
pub checked_total : (o : Option ℤ) (P : Type 0) (a b s x y : ℤ) (q : ℚ) → a ≡ s → b ≡ x → y ≡ pos 1 → whole y ≡ q → SomeIff o P (a +ℤ b) →
    IfSome o (λ next. whole next ≡ whole s +ℚ whole x *ℚ q)
checked_total None P a b s x y q is_a is_b is_y is_q h = tt
checked_total (Some next) P a b s x y q is_a is_b is_y is_q h =
    ap whole (h.1 ∙ ap₂ (λ m n. m +ℤ n) is_a is_b) ∙ whole-add s x
    ∙ ap (λ t. whole s +ℚ t) (sym (mul-one (whole x)) ∙ ap (λ t. whole x *ℚ t) (sym (sym is_q ∙ ap whole is_y)))

-- a multiple
pub multiple_is : (n t d r : ℤ) (by : ℚ) → whole d ≡ by → r ≡ pos 0 +ℤ t *ℤ d → n ≡ r → whole n ≡ whole t *ℚ by
multiple_is n t d r by is_by is_r is_n = ap whole (is_n ∙ is_r) ∙ whole_total (pos 0) t d ∙ zero-add (whole t *ℚ whole d) ∙ ap (λ q. whole t *ℚ q) is_by

pub is_one : (n : ℕ) → pos n ≡ pos 1 → n ≡ 1
is_one n e = omega (arith, ints, e)

-- a number that was cast to a word
pub word_is : (x n m : ℤ) → FitsSigned w64 (read n) → x ≡ read n → Fits n → n ≡ m → to_z w64 (of_z w64 x) ≡ m
word_is x n m word is_x fits is_n = ap (λ z. to_z w64 (of_z w64 z)) is_x ∙ to_z-of_z w64 (read n) word ∙ read_fitting n fits ∙ is_n

-- a product by the parts of a fraction, with a multiple of its denominator
pub by_multiple : (x s n d t : ℚ) → n ≡ x *ℚ d → s ≡ t *ℚ d → n *ℚ t ≡ x *ℚ s
by_multiple x s n d t is_n is_s = ap (λ q. q *ℚ t) is_n ∙ by_ring3 x d t (λ x d t. (x ⊗ d) ⊗ t ≐ x ⊗ (t ⊗ d)) refl ∙ ap (λ q. x *ℚ q) (sym is_s)

-- a sum with one product more, where both fit
pub summed : (o : Option ℤ) (P : Type 0) (a b s x y : ℤ) (q : ℚ) → a ≡ s → b ≡ x *ℤ y → whole y ≡ q → SomeIff o P (a +ℤ b) →
    IfSome o (λ next. whole next ≡ whole s +ℚ whole x *ℚ q)
summed None P a b s x y q is_a is_b is_q h = tt
summed (Some next) P a b s x y q is_a is_b is_q h =
    ap whole (h.1 ∙ ap₂ (λ m n. m +ℤ n) is_a is_b) ∙ whole_total s x y ∙ ap (λ t. whole s +ℚ whole x *ℚ t) is_q

-- a word that was cast from a number
pub word_of : (x n : ℤ) → FitsSigned w64 (read n) → x ≡ read n → read n ≡ n → to_z w64 (of_z w64 x) ≡ n
word_of x n word is_x is_n = ap (λ z. to_z w64 (of_z w64 z)) is_x ∙ to_z-of_z w64 (read n) word ∙ is_n

pub read_small : (n : ℤ) → unsigned_abs n ≤ 2 ^ 126 → read n ≡ n
read_small n h = read_fitting n (let fits : Fits n = omega (arith, ints, h) in fits)
