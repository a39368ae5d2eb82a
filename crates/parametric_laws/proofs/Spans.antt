-- Conditions of all variables: from a number at which they hold and none ends, they hold on a stretch past it.
use Rattle.std.proofs.Common.{◌≡◌, ℕ, zero, suc, ◌+◌, ◌<◌, ◌≤◌, ◌⊎◌, inl, inr, List, [], ◌∷◌, refl, sym, ◌∙◌, subst, arith}
use Rattle.std.specs.Prelude.{Option, Some, None, IfSome, slice_index_or}
use Rattle.std.proofs.lemmas.List.Elements.{All-cons}
use Rattle.exact_values.specs.Rational.{ℚ, ◌≤ℚ◌, ◌<ℚ◌}
use Rattle.exact_values.proofs.Order.{le_of_lt, lt_from_le, lt_irrefl}
use Rattle.affine_laws.specs.Conditions.{Condition, Holds, AllHold, reach_of, EndsAt, SomeEndsAt, IsReach}
use Rattle.affine_laws.proofs.Lists.{reach}
use Rattle.simplex_laws.proofs.Numbered.{from_first}
use Rattle.sensitivity_laws.specs.Changes.{Sides, SidesHold}

abbrev put : Option Condition → List Condition → List Condition
put None cs = cs
put (Some c) cs = c ∷ cs

-- the conditions of so many numbers
abbrev conditions : (ℕ → Sides) → ℕ → ℕ → List Condition
conditions f first zero = []
conditions f first (suc n) = put (f first).first (put (f first).second (conditions f (suc first) n))

put_hold : (o : Option Condition) (cs : List Condition) (x : ℚ) → IfSome o (λ c. Holds c x) → AllHold cs x → AllHold (put o cs) x
put_hold None cs x h rest = rest
put_hold (Some c) cs x h rest = All-cons (λ e. Holds e x) c cs h rest

put_first : (o : Option Condition) (cs : List Condition) (x : ℚ) → AllHold (put o cs) x → IfSome o (λ c. Holds c x)
put_first None cs x all = tt
put_first (Some c) cs x all = all 0 c (omega arith)

put_rest : (o : Option Condition) (cs : List Condition) (x : ℚ) → AllHold (put o cs) x → AllHold cs x
put_rest None cs x all = all
put_rest (Some c) cs x all = λ i d within. all (suc i) d (omega (arith, within))

all_hold : (f : ℕ → Sides) (n first : ℕ) (x : ℚ) → ((k : ℕ) → first ≤ k → k < first + n → SidesHold (f k) x) → AllHold (conditions f first n) x
all_hold f zero first x h = λ i d within. absurd (omega (arith, within))
all_hold f (suc n) first x h =
    let here = h first (omega arith) (omega arith) in
    put_hold (f first).first (put (f first).second (conditions f (suc first) n)) x here.0
    (put_hold (f first).second (conditions f (suc first) n) x here.1
    (all_hold f n (suc first) x (λ k low high. h k (omega (arith, low)) (omega (arith, high)))))

each_holds : (f : ℕ → Sides) (n first : ℕ) (x : ℚ) → AllHold (conditions f first n) x → (k : ℕ) → first ≤ k → k < first + n → SidesHold (f k) x
each_holds f zero first x all k low high = absurd (omega (arith, low, high))
each_holds f (suc n) first x all k low high =
    let after_first = put_rest (f first).first (put (f first).second (conditions f (suc first) n)) x all in
    from_first (λ k. SidesHold (f k) x) first n
    (put_first (f first).first (put (f first).second (conditions f (suc first) n)) x all, put_first (f first).second (conditions f (suc first) n) x after_first)
    (each_holds f n (suc first) x (put_rest (f first).second (conditions f (suc first) n) x after_first)) k low high

-- one of the two conditions ends at x
pub data SideEnds (sides : Sides) (x : ℚ) : Type 0 where
  first_ends : (c : Condition) → sides.first ≡ Some c → EndsAt x c → SideEnds sides x
  second_ends : (c : Condition) → sides.second ≡ Some c → EndsAt x c → SideEnds sides x

record IsEnding (f : ℕ → Sides) (first n : ℕ) (x : ℚ) : Type 0 where
  number : ℕ
  low : first ≤ number
  high : number < first + n
  ends : SideEnds (f number) x

record PutEnds (o : Option Condition) (x : ℚ) : Type 0 where
  condition : Condition
  is : o ≡ Some condition
  ends : EndsAt x condition

some_put : (o : Option Condition) (cs : List Condition) (x : ℚ) → SomeEndsAt (put o cs) x → PutEnds o x ⊎ SomeEndsAt cs x
some_put None cs x some = inr some
some_put (Some c) cs x some = by_place some.among.0 refl
  where
    by_place : (i : ℕ) → some.among.0 ≡ i → PutEnds (Some c) x ⊎ SomeEndsAt cs x
    by_place zero is = inl (record { condition = c; is = refl; ends = subst (EndsAt x) (sym (first_is is some.among.2)) some.ends })
      where
        first_is : some.among.0 ≡ zero → slice_index_or (c ∷ cs) some.among.0 some.condition ≡ some.condition → c ≡ some.condition
        first_is is e = rw is at e
    by_place (suc i) is = inr (record { condition = some.condition; among = (i, omega (arith, is, some.among.1), rest_is is some.among.2); ends = some.ends })
      where
        rest_is : some.among.0 ≡ suc i → slice_index_or (c ∷ cs) some.among.0 some.condition ≡ some.condition →
            slice_index_or cs i some.condition ≡ some.condition
        rest_is is e = rw is at e

one_ends : (f : ℕ → Sides) (n first : ℕ) (x : ℚ) → SomeEndsAt (conditions f first n) x → IsEnding f first n x
one_ends f zero first x some = absurd (omega (arith, some.among.1))
one_ends f (suc n) first x some = by_first (some_put (f first).first (put (f first).second (conditions f (suc first) n)) x some) (one_ends f n (suc first) x)
  where
    later : IsEnding f (suc first) n x → IsEnding f first (suc n) x
    later e = record { number = e.number; low = omega (arith, e.low); high = omega (arith, e.high); ends = e.ends }

    by_second : PutEnds (f first).second x ⊎ SomeEndsAt (conditions f (suc first) n) x →
        (SomeEndsAt (conditions f (suc first) n) x → IsEnding f (suc first) n x) → IsEnding f first (suc n) x
    by_second (inl e) rest = record { number = first; low = omega arith; high = omega arith; ends = second_ends e.condition e.is e.ends }
    by_second (inr some) rest = later (rest some)

    by_first : PutEnds (f first).first x ⊎ SomeEndsAt (put (f first).second (conditions f (suc first) n)) x →
        (SomeEndsAt (conditions f (suc first) n) x → IsEnding f (suc first) n x) → IsEnding f first (suc n) x
    by_first (inl e) rest = record { number = first; low = omega arith; high = omega arith; ends = first_ends e.condition e.is e.ends }
    by_first (inr some) rest = by_second (some_put (f first).second (conditions f (suc first) n) x some) rest

-- the conditions hold from one number to a greater one
pub record IsSpan (f : ℕ → Sides) (n : ℕ) (from max : ℚ) : Type 0 where
  pub to : ℚ
  pub past : from <ℚ to
  pub within : to ≤ℚ max
  pub holds : (x : ℚ) → from ≤ℚ x → x ≤ℚ to → (k : ℕ) → 1 ≤ k → k ≤ n → SidesHold (f k) x

pub span : (f : ℕ → Sides) (n : ℕ) (from max : ℚ) → from <ℚ max → ((k : ℕ) → 1 ≤ k → k ≤ n → SidesHold (f k) from) →
    ((k : ℕ) → 1 ≤ k → k ≤ n → SideEnds (f k) from → ⊥) → IsSpan f n from max
span f n from max forward hold none = record {
  to = reach_of max (conditions f 1 n);
  past = lt_from_le reached.forward (λ same. at_end same reached.ended);
  within = reached.at_most;
  holds = λ x after before k low high. each_holds f n 1 x (reached.holds x after before) k low (omega (arith, high));
}
  where
    reached : IsReach (conditions f 1 n) from max (reach_of max (conditions f 1 n))
    reached = reach (conditions f 1 n) from max (all_hold f n 1 from (λ k low high. hold k low (omega (arith, high)))) (le_of_lt forward)

    at_end : from ≡ reach_of max (conditions f 1 n) →
        (reach_of max (conditions f 1 n) ≡ max) ⊎ SomeEndsAt (conditions f 1 n) (reach_of max (conditions f 1 n)) → ⊥
    at_end same (inl last) = lt_irrefl (subst (λ x. x <ℚ max) (same ∙ last) forward)
    at_end same (inr some) =
        let e = one_ends f n 1 from (subst (SomeEndsAt (conditions f 1 n)) (sym same) some) in
        none e.number e.low (omega (arith, e.high)) e.ends
