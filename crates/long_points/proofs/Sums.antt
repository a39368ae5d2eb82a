-- Sums that are made term by term, times a denominator.
use Rattle.std.proofs.Common.{◌≡◌, ℕ, zero, suc, ◌+◌, ◌<◌, List, [], ◌∷◌, length, get_or, drop, refl, sym, ap, ◌∙◌, pos, negsuc, arith, add-one}
use Rattle.std.specs.Prelude.{ℤ, nat_abs, ◌==◌, IsTrue}
use Rattle.std.proofs.Math.Seq.{drop-cons}
use Rattle.exact_values.specs.Rational.{ℚ, whole, zero_ℚ, one_ℚ, ◌+ℚ◌, ◌-ℚ◌, ◌*ℚ◌, neg_ℚ}
use Rattle.exact_values.proofs.Ring.{by_ring1, by_ring2, by_ring3, by_ring4, ◌⊕◌, ◌⊖◌, ◌⊗◌, ◌≐◌, number, opposite}
use Rattle.exact_values.proofs.RingLaws.{zero-mul}
use Rattle.lp_definitions.specs.declared.Entry.{Entry}
use Rattle.lp_definitions.specs.LinearProgram.{LinearProgram, Vector, entry}
use Rattle.check_definitions.specs.Steps.{sum_of}
use Rattle.check_definitions.specs.Checks.{entry_products}

pub zero_top : (z : ℤ) → IsTrue (nat_abs z == 0) → whole z ≡ zero_ℚ
zero_top (pos zero) e = refl
zero_top (pos (suc n)) e = absurd (grind (arith, e))
zero_top (negsuc n) e = absurd (grind (arith, e))

-- ---- one product more

pub nothing_added : (s e v d t : ℚ) → t ≡ v *ℚ d → t ≡ zero_ℚ → s ≡ s +ℚ e *ℚ v *ℚ d
nothing_added s e v d t is none =
    by_ring2 s e (λ s e. s ≐ s ⊕ e ⊗ number (pos 0)) refl
    ∙ ap (λ q. s +ℚ e *ℚ q) (sym none ∙ is)
    ∙ by_ring4 s e v d (λ s e v d. s ⊕ e ⊗ (v ⊗ d) ≐ s ⊕ e ⊗ v ⊗ d) refl

-- ---- what is compared

pub opposite_made : (t a w s : ℚ) → a ≡ zero_ℚ → w ≡ whole (negsuc 0) → s ≡ a +ℚ w *ℚ t → s ≡ neg_ℚ t
opposite_made t a w s none minus made = made ∙ (λ i. none i +ℚ minus i *ℚ t) ∙ by_ring1 t (λ t. number (pos 0) ⊕ number (negsuc 0) ⊗ t ≐ opposite t) refl

pub cost_compared : (total y cost d a b s w t : ℚ) → a ≡ total *ℚ d → w ≡ one_ℚ → t ≡ y *ℚ d → b ≡ a +ℚ w *ℚ t → s ≡ b -ℚ cost *ℚ d →
    s ≡ (y -ℚ (cost -ℚ total)) *ℚ d
cost_compared total y cost d a b s w t summed one is made taken =
    taken ∙ ap (λ b. b -ℚ cost *ℚ d) (made ∙ (λ i. summed i +ℚ one i *ℚ is i))
    ∙ by_ring4 total y cost d (λ s y k d. s ⊗ d ⊕ number (pos 1) ⊗ (y ⊗ d) ⊖ k ⊗ d ≐ (y ⊖ (k ⊖ s)) ⊗ d) refl

-- the right-hand side less the activity
pub left_made : (right z d t w a b s u : ℚ) → t ≡ z *ℚ d → w ≡ whole (negsuc 0) → u ≡ right → a ≡ zero_ℚ → b ≡ a +ℚ u *ℚ d → s ≡ b +ℚ w *ℚ t →
    s ≡ (right -ℚ z) *ℚ d
left_made right z d t w a b s u is_t minus is_u none first second =
    let first_is : b ≡ zero_ℚ +ℚ right *ℚ d = first ∙ (λ i. none i +ℚ is_u i *ℚ d) in
    second ∙ (λ i. first_is i +ℚ minus i *ℚ is_t i)
    ∙ by_ring3 right z d (λ r z d. number (pos 0) ⊕ r ⊗ d ⊕ number (negsuc 0) ⊗ (z ⊗ d) ≐ (r ⊖ z) ⊗ d) refl

-- a slack over the same denominator
pub over_same : (x slack d e left top w s : ℚ) → left ≡ x *ℚ d → top ≡ slack *ℚ e → e ≡ d → w ≡ whole (negsuc 0) → s ≡ left +ℚ w *ℚ top →
    s ≡ (x -ℚ slack) *ℚ d
over_same x slack d e left top w s is_left is_top same minus made =
    made ∙ (λ i. is_left i +ℚ minus i *ℚ is_top i) ∙ ap (λ e. x *ℚ d +ℚ whole (negsuc 0) *ℚ (slack *ℚ e)) same
    ∙ by_ring3 x slack d (λ x s d. x ⊗ d ⊕ number (negsuc 0) ⊗ (s ⊗ d) ≐ (x ⊖ s) ⊗ d) refl

-- and over another one
pub over_other : (x slack d e left more shown w s : ℚ) → left ≡ x *ℚ d → more ≡ left *ℚ e → shown ≡ slack *ℚ e *ℚ d → w ≡ whole (negsuc 0) →
    s ≡ more +ℚ w *ℚ shown → s ≡ (x -ℚ slack) *ℚ (d *ℚ e)
over_other x slack d e left more shown w s is_left is_more is_shown minus made =
    let more_is : more ≡ x *ℚ d *ℚ e = is_more ∙ ap (λ q. q *ℚ e) is_left in
    made ∙ (λ i. more_is i +ℚ minus i *ℚ is_shown i)
    ∙ by_ring4 x slack d e (λ x s d e. x ⊗ d ⊗ e ⊕ number (negsuc 0) ⊗ (s ⊗ e ⊗ d) ≐ (x ⊖ s) ⊗ (d ⊗ e)) refl

-- ---- a row

module _ (p : LinearProgram) (z : Vector) (i : ℕ) where
  abbrev pub terms : ℕ → ℚ
  terms j = entry p.matrix i j *ℚ z (p.rows + j)

-- ---- a column

-- the numbers that are left are to be added to the sum so far
pub record IsPart (y : Vector) (es : List Entry) (i : ℕ) (d s : ℚ) : Type 0 where
  pub so_far : ℚ
  pub is : s ≡ so_far *ℚ d
  pub left : sum_of zero_ℚ (entry_products y es) ≡ sum_of so_far (entry_products y (drop i es))

module _ (y : Vector) (es : List Entry) where
  pub column_begins : (s d : ℚ) → s ≡ zero_ℚ → IsPart y es 0 d s
  column_begins s d none = record { so_far = zero_ℚ; is = none ∙ sym (zero-mul d); left = refl }

  pub column_goes_on : (i : ℕ) (e : Entry) (d s t new : ℚ) → i < length es → get_or es i e ≡ e → t ≡ y e.row *ℚ d → new ≡ s +ℚ e.value *ℚ t →
      IsPart y es i d s → IsPart y es (i + 1) d new
  column_goes_on i e d s t new below here is_t made part = record {
    so_far = part.so_far +ℚ y e.row *ℚ e.value;
    is = made ∙ (λ i. part.is i +ℚ e.value *ℚ is_t i) ∙ by_ring4 part.so_far e.value (y e.row) d (λ s v y d. s ⊗ d ⊕ v ⊗ (y ⊗ d) ≐ (s ⊕ y ⊗ v) ⊗ d) refl;
    left = part.left ∙ ap (λ rest. sum_of part.so_far (entry_products y rest)) (drop-cons es i e below ∙ ap (λ x. x ∷ drop (suc i) es) here)
        ∙ ap (λ k. sum_of (part.so_far +ℚ y e.row *ℚ e.value) (entry_products y (drop k es))) (sym (add-one i));
  }

  pub column_ends : (i : ℕ) (d s : ℚ) → drop i es ≡ [] → IsPart y es i d s → s ≡ sum_of zero_ℚ (entry_products y es) *ℚ d
  column_ends i d s none part = part.is ∙ ap (λ q. q *ℚ d) (sym (part.left ∙ ap (λ rest. sum_of part.so_far (entry_products y rest)) none))
