-- An exchange over a rate that is not 0 leaves a nonsingular set, and its rates follow from those before.
use Rattle.std.proofs.Common.{◌≡◌, ◌≢◌, ℕ, zero, suc, ◌+◌, ◌-◌, ◌<◌, ◌⊎◌, inl, inr, refl, sym, ◌∙◌, ap, [], ◌∷◌, true, false, cond, length, get_or, set, arith}
use Rattle.std.specs.Prelude.{eqb, count_by}
use Rattle.std.proofs.lemmas.Bool.Decides.{eqb_tells}
use Rattle.std.proofs.lemmas.List.{get_or-set_same, get_or-set_other, length-set}
use Rattle.std.proofs.lemmas.List.Recursion.{is_count_by}
use Rattle.exact_values.specs.Rational.{ℚ, zero_ℚ, one_ℚ, ◌-ℚ◌, ◌*ℚ◌, ◌/ℚ◌}
use Rattle.exact_values.proofs.RingLaws.{mul-one, mul-zero, zero-mul}
use Rattle.exact_values.proofs.Inverse.{div-mul_cancel}
use Rattle.lp_definitions.specs.LinearProgram.{Matrix, Vector, size, IsVariable, KeepsEquations}
use Rattle.lp_definitions.specs.Basis.{Basics, is_in, IsBasic, IsNonbasic, IsNonsingular, IsDirectionOf, AreRates, exchanged}
use Rattle.lp_laws.specs.Rates.{exchanged_rate}
use Rattle.lp_laws.proofs.Values.{sub-self, sub-zero, same_from_difference, no_divisors, clash}
use Rattle.lp_laws.proofs.Equations.{KeepsEquations-sub, KeepsEquations-scale}

-- ---- the marks

abbrev pub marked : Basics → ℕ
marked [] = 0
marked (m ∷ ms) = cond m (1 + marked ms) (marked ms)

pub marked_is : (b : Basics) → marked b ≡ count_by (λ m. m) b
marked_is b = is_count_by marked (λ m. m) refl (λ m ms. refl) b

pub marked-set_true : (b : Basics) (i : ℕ) → i < length b → get_or b i false ≡ false → marked (set b i true) ≡ suc (marked b)
marked-set_true [] i below out = absurd (omega arith)
marked-set_true (m ∷ ms) zero below out = rw out (omega arith)
marked-set_true (true ∷ ms) (suc i) below out = ap (λ n. 1 + n) (marked-set_true ms i (omega arith) out) ∙ omega arith
marked-set_true (false ∷ ms) (suc i) below out = marked-set_true ms i (omega arith) out

marked-set_false : (b : Basics) (i : ℕ) → i < length b → get_or b i false ≡ true → suc (marked (set b i false)) ≡ marked b
marked-set_false [] i below in_it = absurd (omega arith)
marked-set_false (m ∷ ms) zero below in_it = rw in_it (omega arith)
marked-set_false (true ∷ ms) (suc i) below in_it = let rest = marked-set_false ms i (omega arith) in_it in omega (arith, rest)
marked-set_false (false ∷ ms) (suc i) below in_it = marked-set_false ms i (omega arith) in_it

module _ (a : Matrix) (b : Basics) (counted : length b ≡ size a) (p q : ℕ) (leaves : IsBasic a b p) (enters : IsNonbasic a b q) where
  differ : p - 1 ≢ q - 1
  differ e = clash (sym leaves.1 ∙ ap (λ k. get_or b k false) e ∙ enters.1)

  q_below : q - 1 < length b
  q_below = rw counted (omega (arith, enters.0.0, enters.0.1))

  p_below : p - 1 < length (set b (q - 1) true)
  p_below = rw (length-set, counted) (omega (arith, leaves.0.0, leaves.0.1))

  pub length-exchanged : length (exchanged b p q) ≡ size a
  length-exchanged = rw (length-set, length-set) counted

  pub marked-exchanged : count_by (λ m. m) (exchanged b p q) ≡ count_by (λ m. m) b
  marked-exchanged =
      let entered : marked (set b (q - 1) true) ≡ suc (marked b) = marked-set_true b (q - 1) q_below enters.1 in
      let still : get_or (set b (q - 1) true) (p - 1) false ≡ true = get_or-set_other b (q - 1) (p - 1) true false differ ∙ leaves.1 in
      let left : suc (marked (exchanged b p q)) ≡ marked (set b (q - 1) true) = marked-set_false (set b (q - 1) true) (p - 1) p_below still in
      sym (marked_is (exchanged b p q)) ∙ (omega (arith, entered, left)) ∙ marked_is b

  pub leaver_out : is_in (exchanged b p q) p ≡ false
  leaver_out = get_or-set_same (set b (q - 1) true) (p - 1) false false p_below

  pub entering_in : is_in (exchanged b p q) q ≡ true
  entering_in = get_or-set_other (set b (q - 1) true) (p - 1) (q - 1) false false (λ e. differ (sym e)) ∙ get_or-set_same b (q - 1) true false q_below

  pub others_stay : (k : ℕ) → IsVariable a k → k ≢ p → k ≢ q → is_in (exchanged b p q) k ≡ is_in b k
  others_stay k is other_p other_q =
      get_or-set_other (set b (q - 1) true) (p - 1) (k - 1) false false (λ e. other_p (omega (arith, e, is.0, leaves.0.0)))
      ∙ get_or-set_other b (q - 1) (k - 1) true false (λ e. other_q (omega (arith, e, is.0, enters.0.0)))

  -- a nonbasic after the exchange, other than the variable that left, was one before, and not the one that entered
  pub was_nonbasic : (k : ℕ) → IsNonbasic a (exchanged b p q) k → k ≢ p → IsNonbasic a b k × (k ≢ q)
  was_nonbasic k out other =
      let not_q : k ≢ q = λ e. clash (sym entering_in ∙ ap (is_in (exchanged b p q)) (sym e) ∙ out.1) in
      ((out.0, sym (others_stay k out.0 other not_q) ∙ out.1), not_q)

-- ---- the vectors

pub IsNonsingular-exchanged : (a : Matrix) (b : Basics) (p q : ℕ) (d : Vector) → IsNonsingular a b → IsBasic a b p → IsNonbasic a b q → IsDirectionOf a b q d →
    d p ≢ zero_ℚ → IsNonsingular a (exchanged b p q)
IsNonsingular-exchanged a b p q d one leaves enters direction pivot = record {
  counted = length-exchanged a b one.counted p q leaves enters;
  m_basics = marked-exchanged a b one.counted p q leaves enters ∙ one.m_basics;
  only_zero = only_zero;
}
  where
    only_zero : (z : Vector) → KeepsEquations a z → ((k : ℕ) → IsNonbasic a (exchanged b p q) k → z k ≡ zero_ℚ) → (k : ℕ) → IsVariable a k → z k ≡ zero_ℚ
    only_zero z keeps out k is = multiple k is ∙ ap (λ u. u *ℚ d k) none ∙ zero-mul (d k)
      where
        rest : Vector
        rest i = z i -ℚ z q *ℚ d i

        rest_keeps : KeepsEquations a rest
        rest_keeps = KeepsEquations-sub a z (λ i. z q *ℚ d i) keeps (KeepsEquations-scale a (z q) d direction.keeps)

        at : (i : ℕ) → IsNonbasic a b i → (((eqb i q ≡ true) × (i ≡ q)) ⊎ ((eqb i q ≡ false) × (i ≢ q))) → rest i ≡ zero_ℚ
        at i nonbasic (inl same) = ap rest same.1 ∙ ap (λ x. z q -ℚ z q *ℚ x) direction.own ∙ ap (λ x. z q -ℚ x) (mul-one (z q)) ∙ sub-self (z q)
        at i nonbasic (inr other) =
            let other_p : i ≢ p = λ e. clash (sym leaves.1 ∙ ap (is_in b) (sym e) ∙ nonbasic.1) in
            let still_out : IsNonbasic a (exchanged b p q) i =
            (nonbasic.0, others_stay a b one.counted p q leaves enters i nonbasic.0 other_p other.1 ∙ nonbasic.1) in
            ap (λ x. x -ℚ z q *ℚ d i) (out i still_out) ∙ ap (λ x. zero_ℚ -ℚ z q *ℚ x) (direction.others i nonbasic other.1)
            ∙ ap (λ x. zero_ℚ -ℚ x) (mul-zero (z q)) ∙ sub-self zero_ℚ

        multiple : (i : ℕ) → IsVariable a i → z i ≡ z q *ℚ d i
        multiple i var = same_from_difference (z i) (z q *ℚ d i) (one.only_zero rest rest_keeps (λ j nonbasic. at j nonbasic (eqb_tells j q)) i var)

        none : z q ≡ zero_ℚ
        none = no_divisors (z q) (d p) (sym (multiple p leaves.0) ∙ out p (leaves.0, leaver_out a b one.counted p q leaves enters)) pivot

-- ---- the rates

module _ (a : Matrix) (b : Basics) (counted : length b ≡ size a) (rate : ℕ → ℕ → ℚ) (are : AreRates a b rate) (p q : ℕ) (leaves : IsBasic a b p)
    (enters : IsNonbasic a b q) (pivot : rate p q ≢ zero_ℚ) where
  before : (k : ℕ) → IsNonbasic a (exchanged b p q) k → k ≢ p → IsNonbasic a b k × (k ≢ q)
  before = was_nonbasic a b counted p q leaves enters

  -- the direction of the variable that left
  pub leaver_direction : IsDirectionOf a (exchanged b p q) p (λ i. (one_ℚ /ℚ rate p q) *ℚ rate i q)
  leaver_direction = record {
    keeps = KeepsEquations-scale a (one_ℚ /ℚ rate p q) (λ i. rate i q) (are q enters).keeps;
    own = div-mul_cancel one_ℚ (rate p q) pivot;
    others = λ k out other.
        let old = before k out other in ap (λ x. (one_ℚ /ℚ rate p q) *ℚ x) ((are q enters).others k old.0 old.1) ∙ mul-zero (one_ℚ /ℚ rate p q);
  }

  -- and those of the other nonbasics
  pub other_direction : (j : ℕ) → IsNonbasic a (exchanged b p q) j → j ≢ p →
      IsDirectionOf a (exchanged b p q) j (λ i. rate i j -ℚ (rate p j /ℚ rate p q) *ℚ rate i q)
  other_direction j out other = record {
    keeps =
        KeepsEquations-sub a (λ i. rate i j) (λ i. factor *ℚ rate i q) (are j old.0).keeps (KeepsEquations-scale a factor (λ i. rate i q) (are q enters).keeps);
    own =
        ap (λ x. x -ℚ factor *ℚ rate j q) (are j old.0).own ∙ ap (λ x. one_ℚ -ℚ factor *ℚ x) ((are q enters).others j old.0 old.1)
        ∙ ap (λ x. one_ℚ -ℚ x) (mul-zero factor) ∙ sub-zero one_ℚ;
    others = λ k nonbasic differs. at k nonbasic differs (eqb_tells k p);
  }
    where
      factor : ℚ
      factor = rate p j /ℚ rate p q

      old : IsNonbasic a b j × (j ≢ q)
      old = before j out other

      at : (k : ℕ) → IsNonbasic a (exchanged b p q) k → k ≢ j → (((eqb k p ≡ true) × (k ≡ p)) ⊎ ((eqb k p ≡ false) × (k ≢ p))) →
          rate k j -ℚ factor *ℚ rate k q ≡ zero_ℚ
      at k nonbasic differs (inl same) =
          ap (λ i. rate i j -ℚ factor *ℚ rate i q) same.1 ∙ ap (λ x. rate p j -ℚ x) (div-mul_cancel (rate p j) (rate p q) pivot) ∙ sub-self (rate p j)
      at k nonbasic differs (inr apart) =
          let was = before k nonbasic apart.1 in
          ap (λ x. x -ℚ factor *ℚ rate k q) ((are j old.0).others k was.0 differs) ∙ ap (λ x. zero_ℚ -ℚ factor *ℚ x) ((are q enters).others k was.0 was.1)
          ∙ ap (λ x. zero_ℚ -ℚ x) (mul-zero factor) ∙ sub-self zero_ℚ

  pub AreRates-exchanged : AreRates a (exchanged b p q) (exchanged_rate rate p q)
  AreRates-exchanged j out = at (eqb_tells j p)
    where
      at : (((eqb j p ≡ true) × (j ≡ p)) ⊎ ((eqb j p ≡ false) × (j ≢ p))) → IsDirectionOf a (exchanged b p q) j (λ i. exchanged_rate rate p q i j)
      at (inl same) = rw (same.0, same.1) leaver_direction
      at (inr other) = rw other.0 (other_direction j out other.1)
