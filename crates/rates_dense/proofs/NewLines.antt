-- The rates of the basics after an exchange of p for q, from the lines before. A line has the rates at the nonbasics, and 0 at the basics.
use Rattle.std.specs.Prelude.{eqb}
use Rattle.std.proofs.Common.{◌≡◌, ◌≢◌, ℕ, ◌⊎◌, inl, inr, refl, sym, ◌∙◌, ap, Bool, true, false, cond, length}
use Rattle.std.proofs.lemmas.Bool.Decides.{eqb_tells}
use Rattle.exact_values.specs.Rational.{ℚ, zero_ℚ, one_ℚ, neg_ℚ, inverse_ℚ, ◌+ℚ◌, ◌-ℚ◌, ◌*ℚ◌, ◌/ℚ◌}
use Rattle.exact_values.proofs.RingLaws.{mul-one, mul-zero, zero-mul, zero-add, add-zero}
use Rattle.lp_definitions.specs.LinearProgram.{Matrix, Vector, size, IsVariable}
use Rattle.lp_definitions.specs.Basis.{Basics, is_in, IsBasic, IsNonbasic, AreRates, exchanged}
use Rattle.lp_laws.specs.Rates.{exchanged_rate}
use Rattle.lp_laws.proofs.Exchange.{others_stay, entering_in, leaver_out}
use Rattle.lp_laws.proofs.Values.{clash}
use Rattle.rates_dense.proofs.Values.{neg_zero}

-- the entry of the line of i at k
abbrev pub line_entry : Basics → (ℕ → ℕ → ℚ) → ℕ → Vector
line_entry b rate i k = cond (is_in b k) zero_ℚ (rate i k)

-- the entries at the entering variable, at the leaver, and elsewhere
abbrev pub staying_entry : ℕ → ℕ → Vector → Vector → Vector
staying_entry p q quotients old k = cond (eqb k q) zero_ℚ (cond (eqb k p) (quotients k *ℚ old q) (old k -ℚ quotients k *ℚ old q))

abbrev pub entering_entry : ℕ → ℕ → Vector → Vector
entering_entry p q quotients k = cond (eqb k q) zero_ℚ (cond (eqb k p) (quotients k) (neg_ℚ (quotients k)))

abbrev Reported : ℕ → ℕ → Type 0
Reported k j = ((eqb k j ≡ true) × (k ≡ j)) ⊎ ((eqb k j ≡ false) × (k ≢ j))

-- a line without a part along the entering variable is as it was
pub untouched_entry : (p q : ℕ) (quotients old : Vector) → old p ≡ zero_ℚ → old q ≡ zero_ℚ → (k : ℕ) → old k ≡ staying_entry p q quotients old k
untouched_entry p q quotients old at_p at_q k = at (eqb_tells k q) (eqb_tells k p)
  where
    none : quotients k *ℚ old q ≡ zero_ℚ
    none = ap (λ x. quotients k *ℚ x) at_q ∙ mul-zero (quotients k)

    at : Reported k q → Reported k p → old k ≡ staying_entry p q quotients old k
    at (inl same) other = ap old same.1 ∙ at_q ∙ sym (ap (λ m. cond m zero_ℚ (cond (eqb k p) (quotients k *ℚ old q) (old k -ℚ quotients k *ℚ old q))) same.0)
    at (inr not_q) (inl same) =
        ap old same.1 ∙ at_p ∙ sym none
        ∙ sym (ap (λ m. cond m zero_ℚ (cond (eqb k p) (quotients k *ℚ old q) (old k -ℚ quotients k *ℚ old q))) not_q.0
        ∙ ap (λ m. cond m (quotients k *ℚ old q) (old k -ℚ quotients k *ℚ old q)) same.0)
    at (inr not_q) (inr not_p) =
        sym (add-zero (old k)) ∙ ap (λ x. old k +ℚ x) (sym neg_zero) ∙ ap (λ x. old k -ℚ x) (sym none)
        ∙ sym (ap (λ m. cond m zero_ℚ (cond (eqb k p) (quotients k *ℚ old q) (old k -ℚ quotients k *ℚ old q))) not_q.0
        ∙ ap (λ m. cond m (quotients k *ℚ old q) (old k -ℚ quotients k *ℚ old q)) not_p.0)

-- nor does an entry change where the quotient is 0, which it is not at the entering variable
pub unchanged_entry : (p q : ℕ) (quotients old : Vector) → old p ≡ zero_ℚ → quotients q ≢ zero_ℚ → (k : ℕ) → quotients k ≡ zero_ℚ →
    old k ≡ staying_entry p q quotients old k
unchanged_entry p q quotients old at_p apart k none = at (eqb_tells k q) (eqb_tells k p)
  where
    nothing : zero_ℚ ≡ quotients k *ℚ old q
    nothing = sym (ap (λ x. x *ℚ old q) none ∙ zero-mul (old q))

    past_entering : eqb k q ≡ false → cond (eqb k p) (quotients k *ℚ old q) (old k -ℚ quotients k *ℚ old q) ≡ staying_entry p q quotients old k
    past_entering reported = sym (ap (λ m. cond m zero_ℚ (cond (eqb k p) (quotients k *ℚ old q) (old k -ℚ quotients k *ℚ old q))) reported)

    at : Reported k q → Reported k p → old k ≡ staying_entry p q quotients old k
    at (inl same) other = absurd (apart (ap quotients (sym same.1) ∙ none))
    at (inr not_q) (inl same) =
        ap old same.1 ∙ at_p ∙ nothing ∙ sym (ap (λ m. cond m (quotients k *ℚ old q) (old k -ℚ quotients k *ℚ old q)) same.0) ∙ past_entering not_q.0
    at (inr not_q) (inr not_p) =
        sym (add-zero (old k)) ∙ ap (λ x. old k +ℚ x) (sym neg_zero) ∙ ap (λ x. old k -ℚ x) nothing
        ∙ sym (ap (λ m. cond m (quotients k *ℚ old q) (old k -ℚ quotients k *ℚ old q)) not_p.0) ∙ past_entering not_q.0

pub unchanged_entering : (p q : ℕ) (quotients leaver : Vector) → leaver p ≡ zero_ℚ → quotients q ≢ zero_ℚ → (k : ℕ) → (eqb k p ≡ false → leaver k ≡ zero_ℚ) →
    quotients k ≡ zero_ℚ → leaver k ≡ entering_entry p q quotients k
unchanged_entering p q quotients leaver at_p apart k elsewhere none = at (eqb_tells k q) (eqb_tells k p)
  where
    past_entering : eqb k q ≡ false → cond (eqb k p) (quotients k) (neg_ℚ (quotients k)) ≡ entering_entry p q quotients k
    past_entering reported = sym (ap (λ m. cond m zero_ℚ (cond (eqb k p) (quotients k) (neg_ℚ (quotients k)))) reported)

    at : Reported k q → Reported k p → leaver k ≡ entering_entry p q quotients k
    at (inl same) other = absurd (apart (ap quotients (sym same.1) ∙ none))
    at (inr not_q) (inl same) =
        ap leaver same.1 ∙ at_p ∙ sym none ∙ sym (ap (λ m. cond m (quotients k) (neg_ℚ (quotients k))) same.0) ∙ past_entering not_q.0
    at (inr not_q) (inr not_p) =
        elsewhere not_p.0 ∙ sym neg_zero ∙ ap neg_ℚ (sym none) ∙ sym (ap (λ m. cond m (quotients k) (neg_ℚ (quotients k))) not_p.0) ∙ past_entering not_q.0

module _ (a : Matrix) (b : Basics) (counted : length b ≡ size a) (rate : ℕ → ℕ → ℚ) (are : AreRates a b rate) (p q : ℕ) (leaves : IsBasic a b p)
    (enters : IsNonbasic a b q) where
  q_in : is_in (exchanged b p q) q ≡ true
  q_in = entering_in a b counted p q leaves enters

  p_out : is_in (exchanged b p q) p ≡ false
  p_out = leaver_out a b counted p q leaves enters

  stays : (k : ℕ) → IsVariable a k → k ≢ p → k ≢ q → is_in (exchanged b p q) k ≡ is_in b k
  stays = others_stay a b counted p q leaves enters

  -- another basic stays basic
  pub basic_stays : (i : ℕ) → IsBasic a b i → i ≢ p → IsBasic a (exchanged b p q) i
  basic_stays i basic other =
      let not_q : i ≢ q = λ e. clash (sym basic.1 ∙ ap (is_in b) e ∙ enters.1) in
      (basic.0, stays i basic.0 other not_q ∙ basic.1)

  pub entering_basic : IsBasic a (exchanged b p q) q
  entering_basic = (enters.0, q_in)

  -- and one that is basic then was so before, or is the entering variable
  pub basic_before : (i : ℕ) → IsBasic a (exchanged b p q) i → i ≢ q → IsBasic a b i × (i ≢ p)
  basic_before i basic other =
      let not_p : i ≢ p = λ e. clash (sym basic.1 ∙ ap (is_in (exchanged b p q)) e ∙ p_out) in
      ((basic.0, sym (stays i basic.0 not_p other) ∙ basic.1), not_p)

  abbrev pub new_entry : ℕ → Vector
  new_entry i k = line_entry (exchanged b p q) (exchanged_rate rate p q) i k

  new_at_entering : (i k : ℕ) → k ≡ q → new_entry i k ≡ zero_ℚ
  new_at_entering i k same = ap (λ m. cond m zero_ℚ (exchanged_rate rate p q i k)) (ap (is_in (exchanged b p q)) same ∙ q_in)

  new_at_leaver : (i k : ℕ) → eqb k p ≡ true → k ≡ p → new_entry i k ≡ (one_ℚ /ℚ rate p q) *ℚ rate i q
  new_at_leaver i k reported same =
      ap (λ m. cond m zero_ℚ (exchanged_rate rate p q i k)) (ap (is_in (exchanged b p q)) same ∙ p_out)
      ∙ ap (λ m. cond m ((one_ℚ /ℚ rate p q) *ℚ rate i q) (rate i k -ℚ (rate p k /ℚ rate p q) *ℚ rate i q)) reported

  new_at_basic : (i k : ℕ) → IsVariable a k → is_in b k ≡ true → k ≢ p → k ≢ q → new_entry i k ≡ zero_ℚ
  new_at_basic i k var is_basic not_p not_q = ap (λ m. cond m zero_ℚ (exchanged_rate rate p q i k)) (stays k var not_p not_q ∙ is_basic)

  new_at_nonbasic : (i k : ℕ) → IsVariable a k → is_in b k ≡ false → eqb k p ≡ false → k ≢ p → k ≢ q →
      new_entry i k ≡ rate i k -ℚ (rate p k /ℚ rate p q) *ℚ rate i q
  new_at_nonbasic i k var out reported not_p not_q =
      ap (λ m. cond m zero_ℚ (exchanged_rate rate p q i k)) (stays k var not_p not_q ∙ out)
      ∙ ap (λ m. cond m ((one_ℚ /ℚ rate p q) *ℚ rate i q) (rate i k -ℚ (rate p k /ℚ rate p q) *ℚ rate i q)) reported

  module _ (leaver quotients : Vector)
      (is_leaver : (k : ℕ) → IsVariable a k → leaver k ≡ line_entry b rate p k)
      (are_quotients : (k : ℕ) → IsVariable a k → quotients k ≡ cond (eqb k p) one_ℚ (leaver k) /ℚ leaver q) where
    pub leaver_pivot : leaver q ≡ rate p q
    leaver_pivot = is_leaver q enters.0 ∙ ap (λ m. cond m zero_ℚ (rate p q)) enters.1

    over_pivot : (x y : ℚ) → x ≡ y /ℚ leaver q → x ≡ y /ℚ rate p q
    over_pivot x y e = e ∙ ap (λ v. y /ℚ v) leaver_pivot

    pub quotient_at_leaver : (k : ℕ) → IsVariable a k → eqb k p ≡ true → quotients k ≡ one_ℚ /ℚ rate p q
    quotient_at_leaver k var reported = over_pivot (quotients k) one_ℚ (are_quotients k var ∙ ap (λ m. cond m one_ℚ (leaver k) /ℚ leaver q) reported)

    quotient_elsewhere : (k : ℕ) → IsVariable a k → eqb k p ≡ false → quotients k ≡ line_entry b rate p k /ℚ rate p q
    quotient_elsewhere k var reported =
        over_pivot (quotients k) (line_entry b rate p k)
        (are_quotients k var ∙ ap (λ m. cond m one_ℚ (leaver k) /ℚ leaver q) reported ∙ ap (λ v. v /ℚ leaver q) (is_leaver k var))

    pub quotient_at_basic : (k : ℕ) → IsVariable a k → eqb k p ≡ false → is_in b k ≡ true → quotients k ≡ zero_ℚ
    quotient_at_basic k var reported is_basic =
        quotient_elsewhere k var reported ∙ ap (λ m. cond m zero_ℚ (rate p k) /ℚ rate p q) is_basic ∙ zero-mul (inverse_ℚ (rate p q))

    pub quotient_at_nonbasic : (k : ℕ) → IsVariable a k → eqb k p ≡ false → is_in b k ≡ false → quotients k ≡ rate p k /ℚ rate p q
    quotient_at_nonbasic k var reported out = quotient_elsewhere k var reported ∙ ap (λ m. cond m zero_ℚ (rate p k) /ℚ rate p q) out

    -- the line of a basic that stays
    module _ (i : ℕ) (old : Vector) (is_old : (k : ℕ) → IsVariable a k → old k ≡ line_entry b rate i k) where
      factor : old q ≡ rate i q
      factor = is_old q enters.0 ∙ ap (λ m. cond m zero_ℚ (rate i q)) enters.1

      pub staying_new : (k : ℕ) → IsVariable a k → staying_entry p q quotients old k ≡ new_entry i k
      staying_new k var = at (eqb_tells k q) (eqb_tells k p) (is_in b k) refl
        where
          past_entering : eqb k q ≡ false → staying_entry p q quotients old k ≡ cond (eqb k p) (quotients k *ℚ old q) (old k -ℚ quotients k *ℚ old q)
          past_entering reported = ap (λ m. cond m zero_ℚ (cond (eqb k p) (quotients k *ℚ old q) (old k -ℚ quotients k *ℚ old q))) reported

          past_both : eqb k q ≡ false → eqb k p ≡ false → staying_entry p q quotients old k ≡ old k -ℚ quotients k *ℚ old q
          past_both first second = past_entering first ∙ ap (λ m. cond m (quotients k *ℚ old q) (old k -ℚ quotients k *ℚ old q)) second

          at : Reported k q → Reported k p → (mark : Bool) → is_in b k ≡ mark → staying_entry p q quotients old k ≡ new_entry i k
          at (inl same) other mark is =
              ap (λ m. cond m zero_ℚ (cond (eqb k p) (quotients k *ℚ old q) (old k -ℚ quotients k *ℚ old q))) same.0 ∙ sym (new_at_entering i k same.1)
          at (inr not_q) (inl same) mark is =
              past_entering not_q.0 ∙ ap (λ m. cond m (quotients k *ℚ old q) (old k -ℚ quotients k *ℚ old q)) same.0
              ∙ ap (λ x. x *ℚ old q) (quotient_at_leaver k var same.0) ∙ ap (λ x. (one_ℚ /ℚ rate p q) *ℚ x) factor ∙ sym (new_at_leaver i k same.0 same.1)
          at (inr not_q) (inr not_p) true is =
              past_both not_q.0 not_p.0 ∙ ap (λ x. old k -ℚ x *ℚ old q) (quotient_at_basic k var not_p.0 is) ∙ ap (λ x. old k -ℚ x) (zero-mul (old q))
              ∙ ap (λ x. old k +ℚ x) neg_zero ∙ add-zero (old k) ∙ is_old k var ∙ ap (λ m. cond m zero_ℚ (rate i k)) is
              ∙ sym (new_at_basic i k var is not_p.1 not_q.1)
          at (inr not_q) (inr not_p) false is =
              past_both not_q.0 not_p.0 ∙ ap (λ x. x -ℚ quotients k *ℚ old q) (is_old k var ∙ ap (λ m. cond m zero_ℚ (rate i k)) is)
              ∙ ap (λ x. rate i k -ℚ x *ℚ old q) (quotient_at_nonbasic k var not_p.0 is) ∙ ap (λ x. rate i k -ℚ (rate p k /ℚ rate p q) *ℚ x) factor
              ∙ sym (new_at_nonbasic i k var is not_p.0 not_p.1 not_q.1)

    -- the line of the entering variable
    pub entering_new : (k : ℕ) → IsVariable a k → entering_entry p q quotients k ≡ new_entry q k
    entering_new k var = at (eqb_tells k q) (eqb_tells k p) (is_in b k) refl
      where
        own : rate q q ≡ one_ℚ
        own = (are q enters).own

        past_entering : eqb k q ≡ false → entering_entry p q quotients k ≡ cond (eqb k p) (quotients k) (neg_ℚ (quotients k))
        past_entering reported = ap (λ m. cond m zero_ℚ (cond (eqb k p) (quotients k) (neg_ℚ (quotients k)))) reported

        past_both : eqb k q ≡ false → eqb k p ≡ false → entering_entry p q quotients k ≡ neg_ℚ (quotients k)
        past_both first second = past_entering first ∙ ap (λ m. cond m (quotients k) (neg_ℚ (quotients k))) second

        at : Reported k q → Reported k p → (mark : Bool) → is_in b k ≡ mark → entering_entry p q quotients k ≡ new_entry q k
        at (inl same) other mark is = ap (λ m. cond m zero_ℚ (cond (eqb k p) (quotients k) (neg_ℚ (quotients k)))) same.0 ∙ sym (new_at_entering q k same.1)
        at (inr not_q) (inl same) mark is =
            past_entering not_q.0 ∙ ap (λ m. cond m (quotients k) (neg_ℚ (quotients k))) same.0 ∙ quotient_at_leaver k var same.0
            ∙ sym (mul-one (one_ℚ /ℚ rate p q)) ∙ ap (λ x. (one_ℚ /ℚ rate p q) *ℚ x) (sym own) ∙ sym (new_at_leaver q k same.0 same.1)
        at (inr not_q) (inr not_p) true is =
            past_both not_q.0 not_p.0 ∙ ap neg_ℚ (quotient_at_basic k var not_p.0 is) ∙ neg_zero ∙ sym (new_at_basic q k var is not_p.1 not_q.1)
        at (inr not_q) (inr not_p) false is =
            let none : rate q k ≡ zero_ℚ = (are k (var, is)).others q enters (λ e. not_q.1 (sym e)) in
            past_both not_q.0 not_p.0 ∙ ap neg_ℚ (quotient_at_nonbasic k var not_p.0 is) ∙ sym (zero-add (neg_ℚ (rate p k /ℚ rate p q)))
            ∙ ap (λ x. x -ℚ rate p k /ℚ rate p q) (sym none) ∙ ap (λ x. rate q k -ℚ x) (sym (mul-one (rate p k /ℚ rate p q)))
            ∙ ap (λ x. rate q k -ℚ (rate p k /ℚ rate p q) *ℚ x) (sym own) ∙ sym (new_at_nonbasic q k var is not_p.0 not_p.1 not_q.1)
