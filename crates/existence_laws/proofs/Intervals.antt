-- The numbers at which finitely many conditions hold are those between two ends: a condition whose function falls bounds them above by its
-- zero, one whose function rises below, and one whose function is constant holds everywhere.
use Rattle.std.proofs.Common.{◌⊎◌, inl, inr, suc, List, [], ◌∷◌, Option, Some, None, arith}
use Rattle.std.specs.Prelude.{◌↔◌, IfSome}
use Rattle.std.proofs.lemmas.List.Elements.{All-nil, All-cons}
use Rattle.exact_values.specs.Rational.{ℚ, zero_ℚ, ◌≤ℚ◌, ◌<ℚ◌}
use Rattle.exact_values.proofs.Order.{le_trans, le_of_lt, lt_or_le, lt_irrefl, lt_of_lt_of_le}
use Rattle.affine_laws.specs.Conditions.{Condition, Holds, zero_of, AllHold}
use Rattle.affine_laws.proofs.Single.{before_zero, after_zero, holds_before, holds_after, holds_by_sides}
use Rattle.existence_laws.specs.Intervals.{HasEnds}

-- an upper end and one more bound: the lesser of both, or the bound where there is no end; and likewise of a lower end the greater
lesser : (first : Option ℚ) (z : ℚ) → (end : Option ℚ) × ((x : ℚ) → IfSome end (λ h. x ≤ℚ h) ↔ (IfSome first (λ h. x ≤ℚ h) × (x ≤ℚ z)))
lesser None z = (Some z, λ x. ((λ le. (tt, le)), (λ both. both.1)))
lesser (Some h) z = by (lt_or_le z h)
  where
    by : (z <ℚ h) ⊎ (h ≤ℚ z) → (end : Option ℚ) × ((x : ℚ) → IfSome end (λ u. x ≤ℚ u) ↔ ((x ≤ℚ h) × (x ≤ℚ z)))
    by (inl less) = (Some z, λ x. ((λ le. (le_trans le (le_of_lt less), le)), (λ both. both.1)))
    by (inr most) = (Some h, λ x. ((λ le. (le, le_trans le most)), (λ both. both.0)))

greater : (first : Option ℚ) (z : ℚ) → (end : Option ℚ) × ((x : ℚ) → IfSome end (λ l. l ≤ℚ x) ↔ (IfSome first (λ l. l ≤ℚ x) × (z ≤ℚ x)))
greater None z = (Some z, λ x. ((λ le. (tt, le)), (λ both. both.1)))
greater (Some l) z = by (lt_or_le l z)
  where
    by : (l <ℚ z) ⊎ (z ≤ℚ l) → (end : Option ℚ) × ((x : ℚ) → IfSome end (λ u. u ≤ℚ x) ↔ ((l ≤ℚ x) × (z ≤ℚ x)))
    by (inl less) = (Some z, λ x. ((λ le. (le_trans (le_of_lt less) le, le)), (λ both. both.1)))
    by (inr least) = (Some l, λ x. ((λ le. (le, le_trans least le)), (λ both. both.0)))

-- one more condition, which holds at the same number
module _ (c : Condition) (cs : List Condition) (from : ℚ) (here : Holds c from) (rest : HasEnds (AllHold cs)) where
  head : (x : ℚ) → AllHold (c ∷ cs) x → Holds c x
  head x all = all 0 c (omega arith)

  tail : (x : ℚ) → AllHold (c ∷ cs) x → AllHold cs x
  tail x all = λ i d within. all (suc i) d (omega arith)

  both : (x : ℚ) → Holds c x → AllHold cs x → AllHold (c ∷ cs) x
  both x own others = All-cons (λ e. Holds e x) c cs own others

  falling : c.slope <ℚ zero_ℚ → HasEnds (AllHold (c ∷ cs))
  falling falls =
      let end = lesser rest.high (zero_of c) in
      record {
        low = rest.low;
        high = end.0;
        exact = λ x. (
          (λ within. let split = (end.1 x).0 within.1 in both x (holds_before c falls x split.1) ((rest.exact x).0 (within.0, split.0))),
          (λ all. let between = (rest.exact x).1 (tail x all) in (between.0, (end.1 x).1 (between.1, before_zero c falls x (head x all)))),
        );
      }

  rising : zero_ℚ <ℚ c.slope → HasEnds (AllHold (c ∷ cs))
  rising rises =
      let end = greater rest.low (zero_of c) in
      record {
        low = end.0;
        high = rest.high;
        exact = λ x. (
          (λ within. let split = (end.1 x).0 within.0 in both x (holds_after c rises x split.1) ((rest.exact x).0 (split.0, within.1))),
          (λ all. let between = (rest.exact x).1 (tail x all) in ((end.1 x).1 (between.0, after_zero c rises x (head x all)), between.1)),
        );
      }

  level : zero_ℚ ≤ℚ c.slope → c.slope ≤ℚ zero_ℚ → HasEnds (AllHold (c ∷ cs))
  level least most = record {
    low = rest.low;
    high = rest.high;
    exact = λ x. (
      (λ within. both x
          (holds_by_sides c from x here (λ rises. absurd (lt_irrefl (lt_of_lt_of_le rises most))) (λ falls. absurd (lt_irrefl (lt_of_lt_of_le falls least))))
          ((rest.exact x).0 within)),
      (λ all. (rest.exact x).1 (tail x all)),
    );
  }

  one_more : HasEnds (AllHold (c ∷ cs))
  one_more = by (lt_or_le c.slope zero_ℚ) (lt_or_le zero_ℚ c.slope)
    where
      by : (c.slope <ℚ zero_ℚ) ⊎ (zero_ℚ ≤ℚ c.slope) → (zero_ℚ <ℚ c.slope) ⊎ (c.slope ≤ℚ zero_ℚ) → HasEnds (AllHold (c ∷ cs))
      by (inl falls) _ = falling falls
      by (inr least) (inl rises) = rising rises
      by (inr least) (inr most) = level least most

pub intervals_exist : (cs : List Condition) (from : ℚ) → AllHold cs from → HasEnds (AllHold cs)
intervals_exist [] from hold = record { low = None; high = None; exact = λ x. ((λ within. All-nil (λ c. Holds c x)), (λ all. (tt, tt))) }
intervals_exist (c ∷ cs) from hold = one_more c cs from (hold 0 c (omega arith)) (intervals_exist cs from (λ i d within. hold (suc i) d (omega arith)))
