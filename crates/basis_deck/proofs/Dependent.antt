-- Where no row may go out for a column, the column's direction is the dependency.
use Rattle.std.proofs.Common.{◌≡◌, ℕ, ◌<◌, ◌≤◌, ◌⊎◌, inl, inr, Bool, true, false, refl, sym, ◌∙◌, arith}
use Rattle.exact_values.specs.Rational.{zero_ℚ}
use Rattle.exact_values.proofs.Inverse.{one_apart}
use Rattle.lp_definitions.specs.LinearProgram.{Matrix, Vector, IsVariable}
use Rattle.lp_definitions.specs.Basis.{Basics, is_in, IsBasic, IsNonbasic, IsDirectionOf}
use Rattle.lp_laws.proofs.Values.{clash}
use Rattle.basis_deck_definitions.specs.Dependencies.{IsCombination, IsDependency}
use Rattle.basis_deck_laws.proofs.Dependencies.{order}
use Rattle.basis_deck.specs.Installing.{IsOnWay}

module _ (a : Matrix) (b w : Basics) (c : ℕ) (d : Vector) (way : IsOnWay a b w c) (column : a.rows < c) (basic : IsBasic a b c)
    (direction : IsDirectionOf a w c d)
    (none : (k : ℕ) → IsVariable a k → k ≤ a.rows → is_in b k ≡ false → is_in w k ≡ true → d k ≡ zero_ℚ) where
  apart : (k : ℕ) → is_in b k ≡ false → k ≡ c → ⊥
  apart k out same = clash (sym (subst_mark k same) ∙ out)
    where
      subst_mark : (k : ℕ) → k ≡ c → is_in b k ≡ true
      subst_mark k same = rw same basic.1

  outside : (k : ℕ) → IsNonbasic a b k → d k ≡ zero_ℚ
  outside k out = by_mark (is_in w k) refl
    where
      at_row : is_in w k ≡ true → (a.rows < k) ⊎ ((a.rows ≡ k) ⊎ (k < a.rows)) → (c ≤ k → ⊥) → d k ≡ zero_ℚ
      at_row mark (inl past) before = absurd (clash (sym mark ∙ way.done k out.0 past (below before) ∙ out.1))
        where
          below : (c ≤ k → ⊥) → k < c
          below not_past = by (order k c)
            where
              by : (k < c) ⊎ ((k ≡ c) ⊎ (c < k)) → k < c
              by (inl less) = less
              by (inr (inl same)) = absurd (not_past (omega (arith, same)))
              by (inr (inr more)) = absurd (not_past (omega (arith, more)))
      at_row mark (inr (inl same)) before = none k out.0 (omega (arith, same)) out.1 mark
      at_row mark (inr (inr row)) before = none k out.0 (omega (arith, row)) out.1 mark

      by_mark : (mark : Bool) → is_in w k ≡ mark → d k ≡ zero_ℚ
      by_mark false mark = direction.others k (out.0, mark) (apart k out.1)
      by_mark true mark = at_row mark (order a.rows k) (λ past. clash (sym mark ∙ way.ahead k out.0 past))

  combination : IsCombination a b c d
  combination = record {
    is_column = column;
    basic = basic;
    keeps = direction.keeps;
    own = direction.own;
    later = λ k past is. direction.others k (is.0, way.ahead k is.0 (omega (arith, past))) (λ same. omega (arith, past, same));
    outside = outside;
  }

  -- a combination for a column before c is 0 at the nonbasics of w
  first : (j : ℕ) → j < c → (e : Vector) → IsCombination a b j e → ⊥
  first j before e other = one_apart (sym other.own ∙ way.nonsingular.only_zero e other.keeps at_nonbasic j other.basic.0)
    where
      at_nonbasic : (k : ℕ) → IsNonbasic a w k → e k ≡ zero_ℚ
      at_nonbasic k out = by_mark (is_in b k) refl
        where
          by_mark : (mark : Bool) → is_in b k ≡ mark → e k ≡ zero_ℚ
          by_mark false mark = other.outside k (out.0, mark)
          by_mark true mark = by_row (order a.rows k) (order k c)
            where
              is_row : k ≤ a.rows → e k ≡ zero_ℚ
              is_row low = absurd (clash (sym (way.rows k out.0 low mark) ∙ out.1))

              by_row : (a.rows < k) ⊎ ((a.rows ≡ k) ⊎ (k < a.rows)) → (k < c) ⊎ ((k ≡ c) ⊎ (c < k)) → e k ≡ zero_ℚ
              by_row (inr (inl same)) o = is_row (omega (arith, same))
              by_row (inr (inr row)) o = is_row (omega (arith, row))
              by_row (inl past) (inl less) = absurd (clash (sym mark ∙ sym (way.done k out.0 past less) ∙ out.1))
              by_row (inl past) (inr (inl same)) = other.later k (omega (arith, before, same)) (out.0, mark)
              by_row (inl past) (inr (inr more)) = other.later k (omega (arith, before, more)) (out.0, mark)

  pub dependent : IsDependency a b c d
  dependent = record { combination = combination; first = first }
