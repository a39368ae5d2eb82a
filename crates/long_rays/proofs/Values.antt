-- Numbers of a vector, compared.
use Rattle.std.proofs.Common.{◌≡◌, ℕ, ◌+◌, refl, sym, ap, ◌∙◌, pos, negsuc, add-one, Option, Some, None}
use Rattle.std.specs.Prelude.{ℤ, ◌*ℤ◌, option_map}
use Rattle.exact_values.specs.Rational.{ℚ, whole, zero_ℚ, one_ℚ, compare_ℚ, ◌+ℚ◌, ◌-ℚ◌, ◌*ℚ◌}
use Rattle.exact_values.specs.Sums.{sum_to, sum_up_to}
use Rattle.exact_values.specs.Tests.{is_less}
use Rattle.exact_values.proofs.Order.{zero_below_one}
use Rattle.exact_values.proofs.Ring.{by_ring2, by_ring3, by_ring4, by_ring5, ◌⊕◌, ◌⊖◌, ◌⊗◌, ◌≐◌, number}
use Rattle.exact_values.proofs.RingLaws.{whole-mul, zero-mul}
use Rattle.lp_definitions.specs.LinearProgram.{LinearProgram, Vector, IsVariable, lower_of, upper_of, objective_value, with_change_row}
use Rattle.check_definitions.specs.Checks.{is_crossed}
use Rattle.long_vectors.specs.declared.values.Value.{Value}
use Rattle.long_vectors.specs.Vectors.{IsValue}
use Rattle.long_programs.specs.declared.programs.ChangeAt.{ChangeAt}
use Rattle.long_programs.specs.declared.programs.ChangeAt.TheVariants.{Unchanged, Row, Set}
use Rattle.long_programs.specs.Programs.{program_of, IsPlain, shift_at}
use Rattle.long_programs.proofs.Compared.{compare_scaled}
use Rattle.long_programs.proofs.Moves.{lower_at, upper_at}
use Rattle.long_rays.specs.Tests.{change_value}

-- ---- one value more

pub value_added : (old new v d one : ℚ) (top scaled times : ℤ) → whole top ≡ v *ℚ d → scaled ≡ top *ℤ times → one ≡ one_ℚ → new ≡ old +ℚ one *ℚ whole scaled →
    new ≡ old +ℚ v *ℚ d *ℚ whole times
value_added old new v d one top scaled times is_top is_scaled is_one made =
    made ∙ (λ i. old +ℚ is_one i *ℚ whole (is_scaled i)) ∙ ap (λ q. old +ℚ one_ℚ *ℚ q) (whole-mul top times ∙ ap (λ q. q *ℚ whole times) is_top)
    ∙ by_ring4 old v d (whole times) (λ o v d t. o ⊕ number (pos 1) ⊗ (v ⊗ d ⊗ t) ≐ o ⊕ v ⊗ d ⊗ t) refl

pub row_added : (old new v d x : ℚ) (theta : Value) → IsValue x theta → new ≡ old +ℚ v *ℚ d *ℚ whole theta.top →
    new ≡ old +ℚ x *ℚ v *ℚ (d *ℚ whole theta.bottom)
row_added old new v d x theta is made =
    made ∙ ap (λ q. old +ℚ v *ℚ d *ℚ q) is.is
    ∙ by_ring5 old v d x (whole theta.bottom) (λ o v d x t. o ⊕ v ⊗ d ⊗ (x ⊗ t) ≐ o ⊕ x ⊗ v ⊗ (d ⊗ t)) refl

pub nothing_changes : (old x d : ℚ) → old ≡ old +ℚ x *ℚ zero_ℚ *ℚ d
nothing_changes old x d = by_ring3 old x d (λ o x d. o ≐ o ⊕ x ⊗ number (pos 0) ⊗ d) refl

-- ---- the objective

pub objective_at : (p : LinearProgram) (change : ChangeAt) (x : ℚ) (v : Vector) → IsPlain p change →
    objective_value (program_of p change x) v ≡ v p.objective +ℚ x *ℚ change_value change v
objective_at p Unchanged x v none = ap (λ c. with_change_row c v (v p.objective)) none ∙ by_ring2 (v p.objective) x (λ l t. l ≐ l ⊕ t ⊗ number (pos 0)) refl
objective_at p (Row h) x v none = refl
objective_at p (Set shift) x v none = ap (λ c. with_change_row c v (v p.objective)) none ∙ by_ring2 (v p.objective) x (λ l t. l ≐ l ⊕ t ⊗ number (pos 0)) refl

pub objective_sum : (none first last own x rate d t : ℚ) → none ≡ zero_ℚ → first ≡ none +ℚ own *ℚ d *ℚ t → last ≡ first +ℚ x *ℚ rate *ℚ (d *ℚ t) →
    last ≡ (own +ℚ x *ℚ rate) *ℚ (d *ℚ t)
objective_sum none first last own x rate d t is_none is_first is_last =
    is_last ∙ ap (λ s. s +ℚ x *ℚ rate *ℚ (d *ℚ t)) (is_first ∙ ap (λ s. s +ℚ own *ℚ d *ℚ t) is_none)
    ∙ by_ring5 own x rate d t (λ o x r d t. number (pos 0) ⊕ o ⊗ d ⊗ t ⊕ x ⊗ r ⊗ (d ⊗ t) ≐ (o ⊕ x ⊗ r) ⊗ (d ⊗ t)) refl

-- ---- shifts

module _ (w shift : Vector) where
  pub shifts_begin : (s d : ℚ) → s ≡ zero_ℚ → s ≡ sum_up_to 0 (λ k. w k *ℚ shift k) *ℚ d
  unfolding sum_to
  shifts_begin s d none = none ∙ sym (zero-mul d)

  pub shifts_go_on : (j : ℕ) (s new by t d : ℚ) → s ≡ sum_up_to j (λ k. w k *ℚ shift k) *ℚ d → by ≡ shift (j + 1) → t ≡ w (j + 1) *ℚ d → new ≡ s +ℚ by *ℚ t →
      new ≡ sum_up_to (j + 1) (λ k. w k *ℚ shift k) *ℚ d
  unfolding sum_to
  shifts_go_on j s new by t d so_far is_by is_t made =
      made ∙ (λ i. so_far i +ℚ is_by i *ℚ is_t i)
      ∙ by_ring4 (sum_up_to j (λ k. w k *ℚ shift k)) (shift (j + 1)) (w (j + 1)) d (λ s b w d. s ⊗ d ⊕ b ⊗ (w ⊗ d) ≐ (s ⊕ w ⊗ b) ⊗ d) refl
      ∙ ap (λ k. (sum_up_to j (λ k. w k *ℚ shift k) +ℚ w k *ℚ shift k) *ℚ d) (add-one j)
      ∙ ap (λ k. sum_up_to k (λ k. w k *ℚ shift k) *ℚ d) (sym (add-one j))

-- ---- a number and a value

pub compared_values : (x y d e none first last one minus : ℚ) (own_top bottom own top other value : ℤ) → whole own_top ≡ x *ℚ e → whole top ≡ y *ℚ d →
    d ≡ whole bottom → e ≡ whole other →
    own ≡ own_top *ℤ bottom → value ≡ top *ℤ other → none ≡ zero_ℚ → one ≡ one_ℚ → minus ≡ whole (negsuc 0) → first ≡ none +ℚ one *ℚ whole own →
    last ≡ first +ℚ minus *ℚ whole value →
    last ≡ (x -ℚ y) *ℚ (d *ℚ e)
compared_values x y d e none first last one minus own_top bottom own top other value is_own is_top is_d is_e own_is value_is is_none is_one is_minus is_first
    is_last =
    let left : whole own ≡ x *ℚ e *ℚ d = ap whole own_is ∙ whole-mul own_top bottom ∙ (λ i. is_own i *ℚ sym is_d i) in
    let right : whole value ≡ y *ℚ d *ℚ e = ap whole value_is ∙ whole-mul top other ∙ (λ i. is_top i *ℚ sym is_e i) in
    is_last ∙ (λ i. (is_first ∙ (λ j. is_none j +ℚ is_one j *ℚ left j)) i +ℚ is_minus i *ℚ right i)
    ∙ by_ring4 x y d e (λ x y d e. number (pos 0) ⊕ number (pos 1) ⊗ (x ⊗ e ⊗ d) ⊕ number (negsuc 0) ⊗ (y ⊗ d ⊗ e) ≐ (x ⊖ y) ⊗ (d ⊗ e)) refl

-- ---- crossed limits

compare_moved : (x y c : ℚ) → compare_ℚ (x +ℚ c) (y +ℚ c) ≡ compare_ℚ x y
compare_moved x y c =
    sym (compare_scaled (x +ℚ c) (y +ℚ c) one_ℚ (x -ℚ y) zero_below_one (by_ring3 x y c (λ x y c. x ⊖ y ≐ ((x ⊕ c) ⊖ (y ⊕ c)) ⊗ number (pos 1)) refl))
    ∙ compare_scaled x y one_ℚ (x -ℚ y) zero_below_one (by_ring2 x y (λ x y. x ⊖ y ≐ (x ⊖ y) ⊗ number (pos 1)) refl)

crossed_moved : (c : ℚ) (low high : Option ℚ) → is_crossed (option_map (λ l. l +ℚ c) low) (option_map (λ l. l +ℚ c) high) ≡ is_crossed low high
crossed_moved c None high = refl
crossed_moved c (Some l) None = refl
crossed_moved c (Some l) (Some h) = ap is_less (compare_moved h l c)

pub crossed_at : (p : LinearProgram) (change : ChangeAt) (x : ℚ) (k : ℕ) → IsVariable p.matrix k →
    is_crossed (lower_of (program_of p change x) k) (upper_of (program_of p change x) k) ≡ is_crossed (lower_of p k) (upper_of p k)
crossed_at p change x k is =
    (λ i. is_crossed (lower_at p change x k is i) (upper_at p change x k is i)) ∙ crossed_moved (x *ℚ shift_at p change k) (lower_of p k) (upper_of p k)
