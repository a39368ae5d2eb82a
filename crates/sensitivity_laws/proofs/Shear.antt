-- One number of a matrix grows by x: the vectors that keep the equations then have x times the value of its column more on its row.
use Rattle.std.proofs.Common.{◌≡◌, ◌≢◌, ℕ, suc, ◌+◌, ◌≤◌, ◌<◌, List, refl, sym, ap, ap₂, subst, ◌∙◌, true, false, ◌⊎◌, inl, inr, arith}
use Rattle.std.specs.Prelude.{nat_eq, cond, eqb}
use Rattle.std.proofs.lemmas.Bool.Decides.{eqb_tells}
use Rattle.exact_values.specs.Rational.{ℚ, zero_ℚ, neg_ℚ, ◌+ℚ◌, ◌*ℚ◌}
use Rattle.exact_values.specs.Sums.{sum_to, with_at}
use Rattle.exact_values.proofs.Ring.{by_ring2, by_ring4, opposite, ◌⊕◌, ◌⊖◌, ◌⊗◌, ◌≐◌}
use Rattle.exact_values.proofs.RingLaws.{add-zero, mul-zero}
use Rattle.exact_values.proofs.Sums.{sum_to-same, sum_to-with_at}
use Rattle.lp_definitions.specs.LinearProgram.{Matrix, Vector, entry, IsVariable, KeepsEquations}
use Rattle.lp_definitions.specs.Basis.{Basics, is_in, IsNonbasic, IsNonsingular, AreRates}
use Rattle.lp_definitions.specs.declared.Entry.{Entry}
use Rattle.lp_laws.proofs.Values.{clash}

-- x times the value at k is added at o
abbrev pub shear : ℕ → ℕ → ℚ → Vector → Vector
shear o k x z i = cond (nat_eq i o) (z i +ℚ x *ℚ z k) (z i)

pub shear_own : (o k : ℕ) (x : ℚ) (z : Vector) → shear o k x z o ≡ z o +ℚ x *ℚ z k
shear_own o k x z = let e : nat_eq o o ≡ true = grind arith in ap (λ b. cond b (z o +ℚ x *ℚ z k) (z o)) e

pub shear_other : (o k : ℕ) (x : ℚ) (z : Vector) (i : ℕ) → i ≢ o → shear o k x z i ≡ z i
shear_other o k x z i other = let e : nat_eq i o ≡ false = grind (arith, other) in ap (λ b. cond b (z i +ℚ x *ℚ z k) (z i)) e

-- the second matrix has x more on row o in the column suc c, and is else the first
pub record IsMore (a b : Matrix) (o c : ℕ) (x : ℚ) : Type 0 where
  pub own : entry b o (suc c) ≡ entry a o (suc c) +ℚ x
  pub other_rows : (i e : ℕ) → i ≢ o → entry b i (suc e) ≡ entry a i (suc e)
  pub other_columns : (e : ℕ) → e ≢ c → entry b o (suc e) ≡ entry a o (suc e)

pub less : (a b : Matrix) (o c : ℕ) (x : ℚ) → IsMore a b o c x → IsMore b a o c (neg_ℚ x)
less a b o c x more = record {
  own = by_ring2 (entry a o (suc c)) x (λ a x. a ≐ a ⊕ x ⊕ opposite x) refl ∙ ap (λ e. e +ℚ neg_ℚ x) (sym more.own);
  other_rows = λ i e other. sym (more.other_rows i e other);
  other_columns = λ e other. sym (more.other_columns e other);
}

module _ (m n : ℕ) (o c : ℕ) (is_o : (1 ≤ o) × (o ≤ m)) (is_c : c < n) where
  abbrev matrix : List (List Entry) → Matrix
  matrix columns = record { rows = m; cols = n; columns = columns }

  pub shear_keeps : (columns others : List (List Entry)) (x : ℚ) → IsMore (matrix columns) (matrix others) o c x → (z : Vector)
      → KeepsEquations (matrix columns) z → KeepsEquations (matrix others) (shear o (m + suc c) x z)
  shear_keeps columns others x more z keeps i row = at (eqb_tells i o)
    where
      f : ℕ → ℚ
      f e = entry (matrix columns) o (suc e) *ℚ z (m + suc e)

      columns_stay : (e : ℕ) → shear o (m + suc c) x z (m + suc e) ≡ z (m + suc e)
      columns_stay e = shear_other o (m + suc c) x z (m + suc e) (λ h. absurd (omega (arith, h, is_o.1)))

      term : (e : ℕ) → (((eqb e c ≡ true) × (e ≡ c)) ⊎ ((eqb e c ≡ false) × (e ≢ c)))
          → entry (matrix others) o (suc e) *ℚ shear o (m + suc c) x z (m + suc e) ≡ with_at c ((entry (matrix columns) o (suc c) +ℚ x) *ℚ z (m + suc c)) f e
      term e (inl same) =
          let is : nat_eq e c ≡ true = grind (arith, same.1) in
          ap (λ v. entry (matrix others) o (suc e) *ℚ v) (columns_stay e)
          ∙ ap (λ e. entry (matrix others) o (suc e) *ℚ z (m + suc e)) same.1
          ∙ ap (λ v. v *ℚ z (m + suc c)) more.own
          ∙ sym (ap (λ b. cond b ((entry (matrix columns) o (suc c) +ℚ x) *ℚ z (m + suc c)) (f e)) is)
      term e (inr apart) =
          let is : nat_eq e c ≡ false = grind (arith, apart.1) in
          ap₂ ◌*ℚ◌ (more.other_columns e apart.1) (columns_stay e)
          ∙ sym (ap (λ b. cond b ((entry (matrix columns) o (suc c) +ℚ x) *ℚ z (m + suc c)) (f e)) is)

      own : shear o (m + suc c) x z o ≡ sum_to n (λ e. entry (matrix others) o (suc e) *ℚ shear o (m + suc c) x z (m + suc e))
      own =
          shear_own o (m + suc c) x z
          ∙ ap (λ v. v +ℚ x *ℚ z (m + suc c)) (keeps o is_o)
          ∙ by_ring4 (sum_to n f) x (z (m + suc c)) (entry (matrix columns) o (suc c)) (λ s x v a. s ⊕ x ⊗ v ≐ s ⊕ ((a ⊕ x) ⊗ v ⊖ a ⊗ v)) refl
          ∙ sym (sum_to-with_at n c ((entry (matrix columns) o (suc c) +ℚ x) *ℚ z (m + suc c)) f is_c)
          ∙ sum_to-same n _ _ (λ e _. sym (term e (eqb_tells e c)))

      at : (((eqb i o ≡ true) × (i ≡ o)) ⊎ ((eqb i o ≡ false) × (i ≢ o))) →
          shear o (m + suc c) x z i ≡ sum_to n (λ e. entry (matrix others) i (suc e) *ℚ shear o (m + suc c) x z (m + suc e))
      at (inl same) =
          subst (λ i. shear o (m + suc c) x z i ≡ sum_to n (λ e. entry (matrix others) i (suc e) *ℚ shear o (m + suc c) x z (m + suc e))) (sym same.1) own
      at (inr apart) =
          shear_other o (m + suc c) x z i apart.1
          ∙ keeps i row
          ∙ sum_to-same n _ _ (λ e _. ap₂ ◌*ℚ◌ (sym (more.other_rows i e apart.1)) (sym (columns_stay e)))

  module _ (columns others : List (List Entry)) (x : ℚ) (more : IsMore (matrix columns) (matrix others) o c x) (b : Basics) (basic : is_in b o ≡ true) where
    -- o is basic, so a nonbasic keeps its value
    nonbasic_other : (i : ℕ) → is_in b i ≡ false → i ≢ o
    nonbasic_other i out e = clash (sym basic ∙ ap (is_in b) (sym e) ∙ out)

    pub shear_nonsingular : IsNonsingular (matrix columns) b → IsNonsingular (matrix others) b
    shear_nonsingular one = record { counted = one.counted; m_basics = one.m_basics; only_zero = only_zero }
      where
        only_zero : (z : Vector) → KeepsEquations (matrix others) z → ((i : ℕ) → IsNonbasic (matrix others) b i → z i ≡ zero_ℚ) → (i : ℕ) →
            IsVariable (matrix others) i → z i ≡ zero_ℚ
        only_zero z keeps zeros i is = at i is (eqb_tells i o)
          where
            back : (i : ℕ) → IsVariable (matrix columns) i → shear o (m + suc c) (neg_ℚ x) z i ≡ zero_ℚ
            back =
                one.only_zero (shear o (m + suc c) (neg_ℚ x) z)
                (shear_keeps others columns (neg_ℚ x) (less (matrix columns) (matrix others) o c x more) z keeps)
                (λ i out. shear_other o (m + suc c) (neg_ℚ x) z i (nonbasic_other i out.1) ∙ zeros i out)

            apart_zero : (i : ℕ) → IsVariable (matrix others) i → i ≢ o → z i ≡ zero_ℚ
            apart_zero i is other = sym (shear_other o (m + suc c) (neg_ℚ x) z i other) ∙ back i is

            column_zero : z (m + suc c) ≡ zero_ℚ
            column_zero = apart_zero (m + suc c) (omega arith, omega (arith, is_c)) (λ h. absurd (omega (arith, h, is_o.1)))

            own_zero : z o ≡ zero_ℚ
            own_zero =
                sym (add-zero (z o)) ∙ ap (λ v. z o +ℚ v) (sym (mul-zero (neg_ℚ x))) ∙ ap (λ v. z o +ℚ neg_ℚ x *ℚ v) (sym column_zero)
                ∙ sym (shear_own o (m + suc c) (neg_ℚ x) z) ∙ back o (is_o.0, omega (arith, is_o.1))

            at : (i : ℕ) → IsVariable (matrix others) i → (((eqb i o ≡ true) × (i ≡ o)) ⊎ ((eqb i o ≡ false) × (i ≢ o))) → z i ≡ zero_ℚ
            at i is (inl same) = ap z same.1 ∙ own_zero
            at i is (inr apart) = apart_zero i is apart.1

    pub shear_rates : (rate : ℕ → ℕ → ℚ) → AreRates (matrix columns) b rate → AreRates (matrix others) b (λ i j. shear o (m + suc c) x (λ i. rate i j) i)
    shear_rates rate are j out = record {
      keeps = shear_keeps columns others x more (λ i. rate i j) (are j out).keeps;
      own = shear_other o (m + suc c) x (λ i. rate i j) j (nonbasic_other j out.1) ∙ (are j out).own;
      others = λ k is other. shear_other o (m + suc c) x (λ i. rate i j) k (nonbasic_other k is.1) ∙ (are j out).others k is other;
    }
