-- A set of variables has one dependency at most, and none where it is nonsingular.
use Rattle.std.proofs.Common.{◌≡◌, ◌≢◌, ℕ, zero, suc, ◌+◌, ◌-◌, ◌<◌, ◌≤◌, ◌⊎◌, inl, inr, Bool, true, false, refl, sym, ap, ap₂, subst, ◌∙◌, arith, pos}
use Rattle.exact_values.specs.Rational.{ℚ, zero_ℚ, one_ℚ, ◌+ℚ◌, ◌-ℚ◌, ◌*ℚ◌, inverse_ℚ}
use Rattle.exact_values.proofs.Inverse.{zero_or_not, mul-inverse, one_apart}
use Rattle.exact_values.proofs.Ring.{by_ring1, by_ring2, ◌⊕◌, ◌⊖◌, ◌⊗◌, ◌≐◌, number}
use Rattle.exact_values.proofs.RingLaws.{mul-zero}
use Rattle.exact_values.proofs.Sums.{sum_to-zero}
use Rattle.lp_definitions.specs.LinearProgram.{Matrix, Vector, entry, IsVariable, KeepsEquations}
use Rattle.lp_definitions.specs.Basis.{Basics, is_in, IsNonsingular}
use Rattle.lp_laws.proofs.Equations.{KeepsEquations-sub, KeepsEquations-scale}
use Rattle.basis_deck_definitions.specs.Dependencies.{IsDependency}

pub order : (m n : ℕ) → (m < n) ⊎ ((m ≡ n) ⊎ (n < m))
order zero zero = inr (inl refl)
order zero (suc n) = inl (omega arith)
order (suc m) zero = inr (inr (omega arith))
order (suc m) (suc n) = by (order m n)
  where
    by : (m < n) ⊎ ((m ≡ n) ⊎ (n < m)) → (suc m < suc n) ⊎ ((suc m ≡ suc n) ⊎ (suc n < suc m))
    by (inl less) = inl (omega (arith, less))
    by (inr (inl same)) = inr (inl (ap suc same))
    by (inr (inr more)) = inr (inr (omega (arith, more)))

-- two dependencies of one column
module _ (a : Matrix) (b : Basics) (c : ℕ) (d f : Vector) (left : IsDependency a b c d) (right : IsDependency a b c f) where
  u : Vector
  u k = d k -ℚ f k

  u_keeps : KeepsEquations a u
  unfolding u
  u_keeps = KeepsEquations-sub a d f left.combination.keeps right.combination.keeps

  differ : (x y z : ℚ) → x ≡ z → y ≡ z → x -ℚ y ≡ zero_ℚ
  differ x y z first second = ap₂ ◌-ℚ◌ first second ∙ by_ring1 z (λ z. z ⊖ z ≐ number (pos 0)) refl

  u_outside : (k : ℕ) → IsVariable a k → is_in b k ≡ false → u k ≡ zero_ℚ
  unfolding u
  u_outside k is mark = differ (d k) (f k) zero_ℚ (left.combination.outside k (is, mark)) (right.combination.outside k (is, mark))

  u_later : (k : ℕ) → c < k → IsVariable a k → u k ≡ zero_ℚ
  unfolding u
  u_later k past is = by (is_in b k) refl
    where
      by : (mark : Bool) → is_in b k ≡ mark → u k ≡ zero_ℚ
      by true mark = differ (d k) (f k) zero_ℚ (left.combination.later k past (is, mark)) (right.combination.later k past (is, mark))
      by false mark = differ (d k) (f k) zero_ℚ (left.combination.outside k (is, mark)) (right.combination.outside k (is, mark))

  u_own : u c ≡ zero_ℚ
  unfolding u
  u_own = differ (d c) (f c) one_ℚ left.combination.own right.combination.own

  -- where u is 0 past j, it is 0 at j: else it would be a combination for j
  u_next : (j : ℕ) → a.rows < j → j < c → IsVariable a j → ((k : ℕ) → j < k → IsVariable a k → u k ≡ zero_ℚ) → u j ≡ zero_ℚ
  u_next j column before is past = by_mark (is_in b j) refl
    where
      scaled : (x : ℚ) (k : ℕ) → u k ≡ zero_ℚ → x *ℚ u k ≡ zero_ℚ
      scaled x k none = ap (λ y. x *ℚ y) none ∙ mul-zero x

      by_value : is_in b j ≡ true → (u j ≡ zero_ℚ) ⊎ (u j ≢ zero_ℚ) → u j ≡ zero_ℚ
      by_value mark (inl none) = none
      by_value mark (inr apart) = absurd (left.first j before (λ k. inverse_ℚ (u j) *ℚ u k) (record {
        is_column = column;
        basic = (is, mark);
        keeps = KeepsEquations-scale a (inverse_ℚ (u j)) u u_keeps;
        own = by_ring2 (inverse_ℚ (u j)) (u j) (λ x y. x ⊗ y ≐ y ⊗ x) refl ∙ mul-inverse (u j) apart;
        later = λ k after basic. scaled (inverse_ℚ (u j)) k (past k after basic.0);
        outside = λ k out. scaled (inverse_ℚ (u j)) k (u_outside k out.0 out.1);
      }))

      by_mark : (mark : Bool) → is_in b j ≡ mark → u j ≡ zero_ℚ
      by_mark true mark = by_value mark (zero_or_not (u j))
      by_mark false mark = u_outside j is mark

  -- so u is 0 at the columns, from the last to the first
  u_columns : (n j : ℕ) → j + n ≡ c → a.rows < j → (k : ℕ) → j ≤ k → IsVariable a k → u k ≡ zero_ℚ
  u_columns zero j at column k from is = by (order c k)
    where
      by : (c < k) ⊎ ((c ≡ k) ⊎ (k < c)) → u k ≡ zero_ℚ
      by (inl past) = u_later k past is
      by (inr (inl own)) = subst (λ k. u k ≡ zero_ℚ) own u_own
      by (inr (inr before)) = absurd (omega (arith, before, from, at))
  u_columns (suc n) j at column k from is =
      by (order j k) (λ k past is. u_columns n (suc j) (omega (arith, at)) (omega (arith, column)) k (omega (arith, past)) is)
    where
      by : (j < k) ⊎ ((j ≡ k) ⊎ (k < j)) → ((k : ℕ) → j < k → IsVariable a k → u k ≡ zero_ℚ) → u k ≡ zero_ℚ
      by (inl past) rest = rest k past is
      by (inr (inl own)) rest = subst (λ k. u k ≡ zero_ℚ) own (u_next j column (omega (arith, at)) (subst (IsVariable a) (sym own) is) rest)
      by (inr (inr before)) rest = absurd (omega (arith, before, from))

  column_zero : (k : ℕ) → a.rows < k → IsVariable a k → u k ≡ zero_ℚ
  column_zero k column is = u_columns (c - suc a.rows) (suc a.rows) (omega (arith, left.combination.is_column)) (omega arith) k (omega (arith, column)) is

  -- and then at the rows
  u_zero : (k : ℕ) → IsVariable a k → u k ≡ zero_ℚ
  u_zero k is = by (order a.rows k)
    where
      at_row : k ≤ a.rows → u k ≡ zero_ℚ
      at_row low =
          u_keeps k (is.0, low)
          ∙ sum_to-zero a.cols (λ j. entry a k (suc j) *ℚ u (a.rows + suc j))
          (λ j below. ap (λ x. entry a k (suc j) *ℚ x) (column_zero (a.rows + suc j) (omega arith) (omega arith, omega (arith, below)))
          ∙ mul-zero (entry a k (suc j)))

      by : (a.rows < k) ⊎ ((a.rows ≡ k) ⊎ (k < a.rows)) → u k ≡ zero_ℚ
      by (inl column) = column_zero k column is
      by (inr (inl same)) = at_row (omega (arith, same))
      by (inr (inr row)) = at_row (omega (arith, row))

  pub same_vector : (k : ℕ) → IsVariable a k → d k ≡ f k
  unfolding u
  same_vector k is = by_ring2 (d k) (f k) (λ x y. x ≐ (x ⊖ y) ⊕ y) refl ∙ ap (λ x. x +ℚ f k) (u_zero k is) ∙ by_ring1 (f k) (λ y. number (pos 0) ⊕ y ≐ y) refl

pub one_dependency : (a : Matrix) (b : Basics) (c e : ℕ) (d f : Vector) → IsDependency a b c d → IsDependency a b e f →
    (c ≡ e) × ((k : ℕ) → IsVariable a k → d k ≡ f k)
one_dependency a b c e d f left right = by (order c e)
  where
    by : (c < e) ⊎ ((c ≡ e) ⊎ (e < c)) → (c ≡ e) × ((k : ℕ) → IsVariable a k → d k ≡ f k)
    by (inl less) = absurd (right.first c less d left.combination)
    by (inr (inl same)) = (same, same_vector a b c d f left (subst (λ c. IsDependency a b c f) (sym same) right))
    by (inr (inr more)) = absurd (left.first e more f right.combination)

pub dependency_singular : (a : Matrix) (b : Basics) (c : ℕ) (d : Vector) → IsDependency a b c d → IsNonsingular a b → ⊥
dependency_singular a b c d is one = one_apart (sym is.combination.own ∙ one.only_zero d is.combination.keeps is.combination.outside c is.combination.basic.0)
