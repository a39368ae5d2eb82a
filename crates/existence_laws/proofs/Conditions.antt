-- The conditions of all variables, as one list.
use Rattle.std.proofs.Common.{◌≡◌, ◌≢◌, ◌⊎◌, inl, inr, ℕ, zero, suc, ◌≤◌, List, [], ◌∷◌, ◌++◌, Option, Some, None, true, false, refl, sym, subst, arith}
use Rattle.std.specs.Prelude.{◌↔◌, IfSome, eqb, option_map}
use Rattle.std.specs.Option.{option_to_list}
use Rattle.std.proofs.lemmas.Bool.Decides.{eqb_tells}
use Rattle.std.proofs.lemmas.List.Elements.{All-nil, All-cons, All-head, All-tail}
use Rattle.exact_values.specs.Rational.{ℚ, ◌+ℚ◌, ◌-ℚ◌, ◌≤ℚ◌}
use Rattle.exact_values.proofs.Ring.{by_ring2, by_ring3, ◌⊕◌, ◌⊖◌, ◌≐◌}
use Rattle.exact_values.proofs.Order.{le_by_one}
use Rattle.affine_laws.specs.Conditions.{Condition, Holds, AllHold}
use Rattle.lp_definitions.specs.LinearProgram.{Matrix, size, IsVariable}
use Rattle.sensitivity_laws.specs.Changes.{Sides, SidesHold}
use Rattle.existence_laws.specs.Intervals.{HasEnds}
use Rattle.existence_laws.proofs.Intervals.{intervals_exist}

-- ---- lists

-- the one or two conditions of a variable, as far as they are there
pub conditions_of : Sides → List Condition
conditions_of c = option_to_list c.first ++ option_to_list c.second

one_holds : (o : Option Condition) (x : ℚ) → AllHold (option_to_list o) x ↔ IfSome o (λ c. Holds c x)
one_holds None x = ((λ all. tt), (λ _. All-nil (λ c. Holds c x)))
one_holds (Some c) x = ((λ all. All-head (λ c. Holds c x) c [] all), (λ own. All-cons (λ c. Holds c x) c [] own (All-nil (λ c. Holds c x))))

pub append_holds : (cs ds : List Condition) (x : ℚ) → AllHold (cs ++ ds) x ↔ (AllHold cs x × AllHold ds x)
append_holds [] ds x = ((λ all. (All-nil (λ c. Holds c x), all)), (λ both. both.1))
append_holds (c ∷ cs) ds x = by (append_holds cs ds x)
  where
    by : (AllHold (cs ++ ds) x ↔ (AllHold cs x × AllHold ds x)) → AllHold (c ∷ cs ++ ds) x ↔ (AllHold (c ∷ cs) x × AllHold ds x)
    by rest = (
      (λ all. let split = rest.0 (All-tail (λ c. Holds c x) c (cs ++ ds) all) in
          (All-cons (λ c. Holds c x) c cs (All-head (λ c. Holds c x) c (cs ++ ds) all) split.0, split.1)),
      (λ both. All-cons (λ c. Holds c x) c (cs ++ ds) (All-head (λ c. Holds c x) c cs both.0) (rest.1 (All-tail (λ c. Holds c x) c cs both.0, both.1))),
    )

pub sides_hold : (c : Sides) (x : ℚ) → AllHold (conditions_of c) x ↔ SidesHold c x
unfolding conditions_of
sides_hold c x =
    let split = append_holds (option_to_list c.first) (option_to_list c.second) x in
    let one = one_holds c.first x in
    let other = one_holds c.second x in
    ((λ all. let both = split.0 all in (one.0 both.0, other.0 both.1)), (λ hold. split.1 (one.1 hold.0, other.1 hold.1)))

-- the conditions of the variables from 1 to n
pub conditions_up_to : (ℕ → Sides) → ℕ → List Condition
conditions_up_to sides zero = []
conditions_up_to sides (suc n) = conditions_of (sides (suc n)) ++ conditions_up_to sides n

module _ (sides : ℕ → Sides) (x : ℚ) where
  abbrev HoldUpTo : ℕ → Type 0
  HoldUpTo n = (k : ℕ) → 1 ≤ k → k ≤ n → SidesHold (sides k) x

  up_to_hold : (n : ℕ) → AllHold (conditions_up_to sides n) x ↔ HoldUpTo n
  unfolding conditions_up_to
  up_to_hold zero = ((λ all k low high. absurd (omega arith)), (λ _. All-nil (λ c. Holds c x)))
  up_to_hold (suc n) = by (append_holds (conditions_of (sides (suc n))) (conditions_up_to sides n) x) (sides_hold (sides (suc n)) x) (up_to_hold n)
    where
      by : (AllHold (conditions_of (sides (suc n)) ++ conditions_up_to sides n) x ↔
          (AllHold (conditions_of (sides (suc n))) x × AllHold (conditions_up_to sides n) x)) →
          (AllHold (conditions_of (sides (suc n))) x ↔ SidesHold (sides (suc n)) x) → (AllHold (conditions_up_to sides n) x ↔ HoldUpTo n) →
          AllHold (conditions_of (sides (suc n)) ++ conditions_up_to sides n) x ↔ HoldUpTo (suc n)
      by split own rest = (
        (λ all k low high. let both = split.0 all in at (own.0 both.0) (rest.0 both.1) k low high (eqb_tells k (suc n))),
        (λ each. split.1 (own.1 (each (suc n) (omega arith) (omega arith)), rest.1 (λ k low high. each k low (omega arith)))),
      )
        where
          at : SidesHold (sides (suc n)) x → HoldUpTo n → (k : ℕ) → 1 ≤ k → k ≤ suc n →
              (((eqb k (suc n) ≡ true) × (k ≡ suc n)) ⊎ ((eqb k (suc n) ≡ false) × (k ≢ suc n))) → SidesHold (sides k) x
          at last earlier k low high (inl same) = subst (λ k. SidesHold (sides k) x) (sym same.1) last
          at last earlier k low high (inr other) = earlier k low (let apart = other.1 in omega (arith, apart))

  -- the conditions of each variable hold
  pub each_holds : (a : Matrix) → AllHold (conditions_up_to sides (size a)) x ↔ ((k : ℕ) → IsVariable a k → SidesHold (sides k) x)
  each_holds a =
      let all = up_to_hold (size a) in
      ((λ hold k is. all.0 hold k is.0 is.1), (λ each. all.1 (λ k low high. each k (low, high))))

-- ---- ends

-- what holds just where the conditions of a list do, and somewhere, has ends
pub ends_of : (P : ℚ → Type 0) (cs : List Condition) → ((x : ℚ) → AllHold cs x ↔ P x) → (from : ℚ) → P from → HasEnds P
ends_of P cs same from here =
    let ends = intervals_exist cs from ((same from).1 here) in
    record { low = ends.low; high = ends.high; exact = λ x. ((λ within. (same x).0 ((ends.exact x).0 within)), (λ holds. (ends.exact x).1 ((same x).1 holds))) }

-- what holds at by + x just where P holds at x has ends that are moved so far
module _ (P Q : ℚ → Type 0) (by : ℚ) (same : (x : ℚ) → Q (by +ℚ x) ↔ P x) where
  low_moved : (low : Option ℚ) (t : ℚ) → IfSome (option_map (λ l. by +ℚ l) low) (λ l. l ≤ℚ t) ↔ IfSome low (λ l. l ≤ℚ t -ℚ by)
  low_moved None t = ((λ h. h), (λ h. h))
  low_moved (Some l) t = (
    (λ h. le_by_one h (by_ring3 by l t (λ b l t. t ⊖ b ≐ l ⊕ (t ⊖ (b ⊕ l))) refl)),
    (λ h. le_by_one h (by_ring3 by l t (λ b l t. t ≐ (b ⊕ l) ⊕ ((t ⊖ b) ⊖ l)) refl)),
  )

  high_moved : (high : Option ℚ) (t : ℚ) → IfSome (option_map (λ h. by +ℚ h) high) (λ h. t ≤ℚ h) ↔ IfSome high (λ h. t -ℚ by ≤ℚ h)
  high_moved None t = ((λ h. h), (λ h. h))
  high_moved (Some u) t = (
    (λ h. le_by_one h (by_ring3 by u t (λ b u t. u ≐ (t ⊖ b) ⊕ ((b ⊕ u) ⊖ t)) refl)),
    (λ h. le_by_one h (by_ring3 by u t (λ b u t. b ⊕ u ≐ t ⊕ (u ⊖ (t ⊖ b))) refl)),
  )

  pub moved_ends : HasEnds P → HasEnds Q
  moved_ends ends = record { low = option_map (λ l. by +ℚ l) ends.low; high = option_map (λ h. by +ℚ h) ends.high; exact = exact }
    where
      there : (t : ℚ) → by +ℚ (t -ℚ by) ≡ t
      there t = by_ring2 by t (λ b t. b ⊕ (t ⊖ b) ≐ t) refl

      exact : (t : ℚ) → (IfSome (option_map (λ l. by +ℚ l) ends.low) (λ l. l ≤ℚ t) × IfSome (option_map (λ h. by +ℚ h) ends.high) (λ h. t ≤ℚ h)) ↔ Q t
      exact t =
          let below = low_moved ends.low t in
          let above = high_moved ends.high t in (
            (λ within. subst Q (there t) ((same (t -ℚ by)).1 ((ends.exact (t -ℚ by)).0 (below.0 within.0, above.0 within.1)))),
            (λ holds. let between = (ends.exact (t -ℚ by)).1 ((same (t -ℚ by)).0 (subst Q (sym (there t)) holds)) in (below.1 between.0, above.1 between.1)),
          )
