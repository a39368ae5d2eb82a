-- Lists of conditions.
use Rattle.std.proofs.Common.{◌≡◌, ◌≢◌, suc, refl, sym, subst, ◌∙◌, ◌⊎◌, inl, inr, Bool, true, false, arith, List, [], ◌∷◌}
use Rattle.std.specs.Prelude.{◌↔◌, ◌&&◌, cond}
use Rattle.std.proofs.lemmas.List.Elements.{All-cons, All-contains}
use Rattle.exact_values.specs.Rational.{ℚ, zero_ℚ, ◌≤ℚ◌, ◌<ℚ◌}
use Rattle.exact_values.specs.Tests.{lt_ℚ}
use Rattle.exact_values.proofs.Order.{le_refl, le_trans, le_of_lt, apart_from_below}
use Rattle.exact_values.proofs.TestsLaws.{lt_from_test, test_from_lt, le_from_lt_fails}
use Rattle.affine_laws.specs.Conditions.{Condition, value, Holds, zero_of, AllHold, Falling, nearer, reach_of, EndsAt, SomeEndsAt, IsReach}
use Rattle.affine_laws.specs.Laws.{IsBetweenZeros}
use Rattle.affine_laws.proofs.Single.{value_at_zero, before_zero, after_zero, holds_between, holds_by_sides, zero_beyond, zero_is}

pub stays : (cs : List Condition) (from x : ℚ) → AllHold cs from → from ≤ℚ x → Falling cs (λ c. x ≤ℚ zero_of c) → AllHold cs x
stays cs from x hold forward before i d within = holds_between _ from x (hold i d within) forward (before i d within)

pub greatest : (cs : List Condition) (x : ℚ) → AllHold cs x → Falling cs (λ c. x ≤ℚ zero_of c)
greatest cs x hold i d within falls = before_zero _ falls x (hold i d within)

pub both_sides : (cs : List Condition) (from x : ℚ) → AllHold cs from → AllHold cs x ↔ IsBetweenZeros cs x
both_sides cs from x there = (to, back)
  where
    to : AllHold cs x → IsBetweenZeros cs x
    to hold = record { above = λ i d within rises. after_zero _ rises x (hold i d within); below = greatest cs x hold }

    back : IsBetweenZeros cs x → AllHold cs x
    back between i d within = holds_by_sides _ from x (there i d within) (between.above i d within) (between.below i d within)

pub strictly : (cs : List Condition) (from : ℚ) → AllHold cs from → Falling cs (λ c. value c from ≢ zero_ℚ) → Falling cs (λ c. from <ℚ zero_of c)
strictly cs from hold apart i d within falls = zero_beyond _ falls from (hold i d within) (apart i d within falls)

-- ---- the reach

-- what one more condition makes of an end
record IsNearer (c : Condition) (from before to : ℚ) : Type 0 where
  forward : from ≤ℚ to
  no_more : to ≤ℚ before
  own : c.slope <ℚ zero_ℚ → to ≤ℚ zero_of c
  ended : (to ≡ before) ⊎ EndsAt to c

is_nearer : (c : Condition) (from before : ℚ) → Holds c from → from ≤ℚ before → IsNearer c from before (nearer c before)
is_nearer c from before holds forward = at (lt_ℚ c.slope zero_ℚ) (lt_ℚ (zero_of c) before) refl refl
  where
    at : (falls nears : Bool) → lt_ℚ c.slope zero_ℚ ≡ falls → lt_ℚ (zero_of c) before ≡ nears →
        IsNearer c from before (cond (falls && nears) (zero_of c) before)
    at true true is_falls is_nears =
        let falls : c.slope <ℚ zero_ℚ = lt_from_test _ _ is_falls in
        record {
          forward = before_zero c falls from holds;
          no_more = le_of_lt (lt_from_test _ _ is_nears);
          own = λ _. le_refl (zero_of c);
          ended = inr (record { falls = falls; is_zero = value_at_zero c (apart_from_below falls) });
        }
    at true false is_falls is_nears = record { forward = forward; no_more = le_refl before; own = λ _. le_from_lt_fails _ _ is_nears; ended = inl refl }
    at false nears is_falls is_nears =
        record { forward = forward; no_more = le_refl before; own = λ falls. let e = test_from_lt _ _ falls in cc; ended = inl refl }

-- the end of a list
record IsEnd (cs : List Condition) (from max to : ℚ) : Type 0 where
  forward : from ≤ℚ to
  at_most : to ≤ℚ max
  before : Falling cs (λ c. to ≤ℚ zero_of c)
  ended : (to ≡ max) ⊎ SomeEndsAt cs to

is_end : (cs : List Condition) (from max : ℚ) → AllHold cs from → from ≤ℚ max → IsEnd cs from max (reach_of max cs)
is_end [] from max hold forward = record { forward = forward; at_most = le_refl max; before = λ i d within. absurd (omega (arith, within)); ended = inl refl }
is_end (c ∷ cs) from max hold forward = with (is_end cs from max (λ i d within. hold (suc i) d (omega (arith, within))) forward)
  where
    with : IsEnd cs from max (reach_of max cs) → IsEnd (c ∷ cs) from max (reach_of max (c ∷ cs))
    with rest = on (is_nearer c from (reach_of max cs) (hold 0 c (omega arith)) rest.forward)
      where
        more : SomeEndsAt cs (reach_of max cs) → SomeEndsAt (c ∷ cs) (reach_of max cs)
        more some = record { condition = some.condition; among = (suc some.among.0, omega (arith, some.among.1), some.among.2); ends = some.ends }

        end : (to : ℚ) → (to ≡ reach_of max cs) ⊎ EndsAt to c → (reach_of max cs ≡ max) ⊎ SomeEndsAt cs (reach_of max cs) → (to ≡ max) ⊎ SomeEndsAt (c ∷ cs) to
        end to (inr own) _ = inr (record { condition = c; among = (0, omega arith, refl); ends = own })
        end to (inl same) (inl last) = inl (same ∙ last)
        end to (inl same) (inr some) = inr (subst (SomeEndsAt (c ∷ cs)) (sym same) (more some))

        on : IsNearer c from (reach_of max cs) (reach_of max (c ∷ cs)) → IsEnd (c ∷ cs) from max (reach_of max (c ∷ cs))
        on step = record {
          forward = step.forward;
          at_most = le_trans step.no_more rest.at_most;
          before =
              All-cons (λ e. e.slope <ℚ zero_ℚ → reach_of max (c ∷ cs) ≤ℚ zero_of e) c cs step.own
              (λ i d within falls. le_trans step.no_more (rest.before i d within falls));
          ended = end (reach_of max (c ∷ cs)) step.ended rest.ended;
        }

pub reach : (cs : List Condition) (from max : ℚ) → AllHold cs from → from ≤ℚ max → IsReach cs from max (reach_of max cs)
reach cs from max hold forward = with (is_end cs from max hold forward)
  where
    with : IsEnd cs from max (reach_of max cs) → IsReach cs from max (reach_of max cs)
    with e = record {
      forward = e.forward;
      at_most = e.at_most;
      holds = λ x after before. stays cs from x hold after (λ i d within falls. le_trans before (e.before i d within falls));
      greatest = λ x most hold. at x most hold e.ended;
      ended = e.ended;
    }
      where
        at : (x : ℚ) → x ≤ℚ max → AllHold cs x → (reach_of max cs ≡ max) ⊎ SomeEndsAt cs (reach_of max cs) → x ≤ℚ reach_of max cs
        at x most hold (inl last) = subst (λ m. x ≤ℚ m) (sym last) most
        at x most hold (inr some) =
            subst (λ m. x ≤ℚ m) (zero_is some.condition (reach_of max cs) some.ends)
            (All-contains (λ c. c.slope <ℚ zero_ℚ → x ≤ℚ zero_of c) cs some.condition (greatest cs x hold) some.among some.ends.falls)
