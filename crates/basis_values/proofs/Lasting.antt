-- How long a motion lasts at least, by the product of a length and a speed in words; and what is no nearer than what is nearest so far.
use Rattle.std.proofs.Common.{◌≡◌, ◌≢◌, ℕ, ◌+◌, ◌*◌, ◌/◌, ◌%◌, ◌≤◌, ℤ, Bool, true, false, refl, sym, ◌∙◌, ap, ap₂, subst, arith}
use Rattle.std.specs.Prelude.{Option, Some, None, option_map, IfSome, IsTrue, not, pos}
use Rattle.std.specs.Option.{unwrap_or}
use borrow.Author.Differences.{up, down}
use Rattle.std.proofs.lemmas.Nat.{div-add-mod'}
use Rattle.exact_values.specs.Rational.{ℚ, whole, fraction, zero_ℚ, neg_ℚ, inverse_ℚ, ◌≤ℚ◌, ◌-ℚ◌, ◌*ℚ◌, ◌/ℚ◌}
use Rattle.exact_values.proofs.Fractions.{IsRatio, is_ratio, mul_ratio, fraction_ratio}
use Rattle.exact_values.proofs.Inverse.{inverse-neg}
use Rattle.exact_values.proofs.Ring.{by_ring1, by_ring2, ◌⊗◌, ◌≐◌, opposite}
use Rattle.exact_values.proofs.TestsLaws.{test_from_le}
use Rattle.lp_definitions.specs.LinearProgram.{LinearProgram, Vector}
use Rattle.simplex_definitions.specs.Moves.{step_length, signed}
use Rattle.basis_values.specs.Motions.{motion}
use Rattle.basis_values.specs.Reach.{IsAhead, sooner}
use Rattle.basis_values.specs.declared.reach.Reach.{Reach}
use Rattle.basis_values.specs.declared.reach.Ahead.{Ahead}
use Rattle.basis_values.proofs.Lengths.{ahead_at, no_length}
use Rattle.exact_values.proofs.Order.{le_from_ratios, lt_from_ratios, le-div}
use Rattle.basis_values.specs.declared.word_terms.Words.{Words}
use Rattle.basis_values.specs.WordTerms.{AreTermsOf, MakeUp}

-- the product of three words, by its words
pub three_words : (base pair z : ℕ) →
    (pair / base * z + pair % base * z / base) * base + pair % base * z % base ≡ pair * z
three_words base pair z =
    let first = ap (λ n. n * z) (div-add-mod' pair base) in
    omega (arith, first, div-add-mod' (pair % base * z) base)

ratio_of : (x : ℚ) (w : Words) → AreTermsOf x w → IsRatio x w.top 0 w.bottom
ratio_of x w h =
    let top : IsRatio x w.top 0 x.denominator = subst (λ (n : ℤ). IsRatio x (up n) (down n) x.denominator) h.is_top (is_ratio x) in
    subst (λ (d : ℕ). IsRatio x w.top 0 d) h.is_bottom top

nothing_ratio : IsRatio zero_ℚ 0 0 1
unfolding whole
nothing_ratio = is_ratio zero_ℚ

quotient_ratio : (x : ℚ) (w : Words) → MakeUp x w → IsRatio x w.top 0 w.bottom
quotient_ratio x w h = subst (λ (y : ℚ). IsRatio y w.top 0 w.bottom) h.is (fraction_ratio (pos w.top) w.bottom h.some)

pub lasts_as_long : (d s l : ℚ) (dw sw lw : Words) → MakeUp d dw → MakeUp s sw → AreTermsOf l lw → sw.top ≢ 0 →
    lw.top * sw.top * dw.bottom ≤ dw.top * lw.bottom * sw.bottom → l ≤ℚ d /ℚ s
lasts_as_long d s l dw sw lw d_is s_is l_is some most =
    le-div {x = l} {a = d} {b = s} (lt_from_ratios nothing_ratio (quotient_ratio s sw s_is) (omega (arith, some)))
    (le_from_ratios (mul_ratio (ratio_of l lw l_is) (quotient_ratio s sw s_is)) (quotient_ratio d dw d_is) (omega (arith, most)))

-- ---- what is nearest so far stays so

signed_ratio : (rises : Bool) (x d : ℚ) → d ≢ zero_ℚ → signed rises x /ℚ signed rises d ≡ x /ℚ d
signed_ratio true x d some = refl
signed_ratio false x d some =
    ap (λ i. neg_ℚ x *ℚ i) (inverse-neg d some) ∙ by_ring2 x (inverse_ℚ d) (λ x i. opposite x ⊗ opposite i ≐ x ⊗ i) refl

none_sooner : (nearest : Option Reach) (k : ℕ) → sooner nearest None k ≡ nearest
none_sooner None k = refl
none_sooner (Some r) k = refl

pub rests : (p : LinearProgram) (z d : Vector) (up : Bool) (k : ℕ) (speed rate : ℚ) (nearest : Option Reach) → IsAhead p (λ _. speed) k None →
    speed ≡ signed up rate → rate ≡ d k → sooner nearest (step_length p z (motion d up) k) k ≡ nearest
rests p z d up k speed rate nearest none speed_is rate_is =
    let there : IsAhead p (motion d up) k None = ahead_at p (motion d up) k speed None (speed_is ∙ ap (signed up) rate_is) none in
    ap (λ o. sooner nearest o k) (sym (no_length p z (motion d up) k there)) ∙ none_sooner nearest k

later : (r : Reach) (x : ℚ) (o : Option ℚ) (k : ℕ) → o ≡ Some x → r.length ≤ℚ x → sooner (Some r) o k ≡ Some r
later r x o k is most = subst (λ (o : Option ℚ). sooner (Some r) o k ≡ Some r) (sym is) (rw (test_from_le r.length x most) refl)

-- a number counted the other way
pub counted_back : (up : Bool) (x : ℚ) → signed (not up) x ≡ neg_ℚ (signed up x)
counted_back true x = refl
counted_back false x = by_ring1 x (λ x. x ≐ opposite (opposite x)) refl

pub no_nearer : (p : LinearProgram) (z d : Vector) (up : Bool) (k : ℕ) (a : Ahead) (rate value distance far fast : ℚ) (rises : Bool) (r : Reach) →
    IsAhead p (λ _. signed up rate) k (Some a) → rate ≡ d k → value ≡ z k → distance ≡ a.limit -ℚ value → far ≡ signed rises distance →
    fast ≡ signed rises (signed up rate) → r.length ≤ℚ far /ℚ fast → sooner (Some r) (step_length p z (motion d up) k) k ≡ Some r
no_nearer p z d up k a rate value distance far fast rises r ahead rate_is value_is distance_is far_is fast_is most =
    let speed_is : signed up rate ≡ motion d up k = ap (signed up) rate_is in
    let there : IsAhead p (motion d up) k (Some a) = ahead_at p (motion d up) k (signed up rate) (Some a) speed_is ahead in
    let gap : distance ≡ a.limit -ℚ z k = distance_is ∙ ap (λ v. a.limit -ℚ v) value_is in
    let turned : far /ℚ fast ≡ (a.limit -ℚ z k) /ℚ motion d up k =
    ap₂ (λ x y. x /ℚ y) far_is fast_is ∙ signed_ratio rises distance (signed up rate) ahead.3 ∙ ap₂ (λ x y. x /ℚ y) gap speed_is in
    later r ((a.limit -ℚ z k) /ℚ motion d up k) (step_length p z (motion d up) k) k
    (ap (option_map (λ l. (l -ℚ z k) /ℚ motion d up k)) there.0) (subst (λ (x : ℚ). r.length ≤ℚ x) turned most)

-- what a test that may fail tells where it is passed
pub when_passed : (o : Option Bool) (b : Bool) (P : Type 0) → b ≡ unwrap_or o false → IfSome o (λ x. IsTrue x → P) → IsTrue b → P
when_passed None b P e h passed = absurd (let clash : false ≡ true = sym e ∙ passed in cc)
when_passed (Some x) b P e h passed = h (sym e ∙ passed)
