-- The marks of the variables that placings are of.
use Rattle.std.proofs.Common.{◌≡◌, ◌≢◌, ℕ, zero, suc, ◌+◌, ◌-◌, ◌<◌, ◌≤◌, Bool, true, false, ◌||◌, List, [], ◌∷◌, ◌++◌, length, map, set, replicate, refl, sym}
use Rattle.std.proofs.Common.{ap, ap₂, ◌∙◌, arith}
use Rattle.std.specs.Prelude.{nat_eq}
use Rattle.std.specs.List.{list_any}
use Rattle.std.proofs.lemmas.Bool.Decides.{nat_tests}
use Rattle.std.proofs.lemmas.List.{get_or-map}
use Rattle.std.proofs.lemmas.List.Folds.{list_any-append}
use Rattle.lp_definitions.specs.LinearProgram.{LinearProgram, size, numbers_from, variables, IsVariable}
use Rattle.lp_laws.proofs.Opening.{length-numbers_from, numbers_from-at}
use Rattle.basis_deck_definitions.specs.Placings.{Placing}
use Rattle.basis_deck.specs.Reading.{marks_of, is_marked}

module _ (f g : ℕ → Bool) where
  same_marks : (first n : ℕ) → ((k : ℕ) → first ≤ k → g k ≡ f k) → map g (numbers_from first n) ≡ map f (numbers_from first n)
  same_marks first zero same = refl
  same_marks first (suc n) same = ap₂ (λ x xs. x ∷ xs) (same first (omega arith)) (same_marks (suc first) n (λ k above. same k (omega arith)))

  -- marks of two tests that differ in one number, which passes the second
  one_more : (first n i : ℕ) → i < n → g (first + i) ≡ true → ((k : ℕ) → k ≢ first + i → g k ≡ f k) →
      map g (numbers_from first n) ≡ set (map f (numbers_from first n)) i true
  one_more first zero i below own others = absurd (omega arith)
  one_more first (suc n) zero below own others =
      let here : first + 0 ≡ first = omega arith in
      ap₂ (λ x xs. x ∷ xs) (ap g (sym here) ∙ own) (same_marks (suc first) n (λ k above. others k (λ e. omega (arith, e))))
  one_more first (suc n) (suc i) below own others =
      let there : first + suc i ≡ suc first + i = omega arith in
      ap₂ (λ x xs. x ∷ xs) (others first (λ e. omega (arith, e)))
      (one_more (suc first) n i (omega arith) (ap g (sym there) ∙ own) (λ k apart. others k (λ e. apart (e ∙ there))))

none_marked : (first n : ℕ) → map (λ (k : ℕ). false) (numbers_from first n) ≡ replicate n false
none_marked first zero = refl
none_marked first (suc n) = ap (λ marks. false ∷ marks) (none_marked (suc first) n)

module _ (lp : LinearProgram) where
  -- at first none is marked
  pub unmarked : marks_of lp [] ≡ replicate (size lp.matrix) false
  unmarked = none_marked 1 (size lp.matrix)

  -- the mark of a variable tells whether one of the placings is of it
  pub marked_at : (placings : List Placing) (placing : Placing) → IsVariable lp.matrix placing.variable
      → is_marked (marks_of lp placings) placing ≡ list_any (λ earlier. nat_eq earlier.variable placing.variable) placings
  marked_at placings placing is =
      let k = placing.variable in
      let below : k - 1 < length (variables lp.matrix) = rw (length-numbers_from 1 (size lp.matrix)) (omega (arith, is.0, is.1)) in
      get_or-map (λ (k : ℕ). list_any (λ (earlier : Placing). nat_eq earlier.variable k) placings) (variables lp.matrix) (k - 1) 0 false below
      ∙ ap (λ (n : ℕ). list_any (λ (earlier : Placing). nat_eq earlier.variable n) placings)
      (numbers_from-at 1 (size lp.matrix) (k - 1) 0 (omega (arith, is.0, is.1)) ∙ omega (arith, is.0))

  -- one more placing marks its variable
  pub marks_more : (placings : List Placing) (placing : Placing) → IsVariable lp.matrix placing.variable
      → marks_of lp (placings ++ placing ∷ []) ≡ set (marks_of lp placings) (placing.variable - 1) true
  marks_more placings placing is =
      let here : 1 + (placing.variable - 1) ≡ placing.variable = omega (arith, is.0) in
      one_more before after 1 (size lp.matrix) (placing.variable - 1) (omega (arith, is.0, is.1))
      (ap after here ∙ split placing.variable ∙ own (before placing.variable) (nat_eq placing.variable placing.variable) (grind (arith, nat_tests)))
      (λ k apart. split k ∙ other (before k) (nat_eq placing.variable k) (differs k (λ e. apart (sym e ∙ sym here))))
    where
      before : ℕ → Bool
      before k = list_any (λ earlier. nat_eq earlier.variable k) placings

      after : ℕ → Bool
      after k = list_any (λ earlier. nat_eq earlier.variable k) (placings ++ placing ∷ [])

      split : (k : ℕ) →
          list_any (λ (earlier : Placing). nat_eq earlier.variable k) (placings ++ placing ∷ []) ≡
          (list_any (λ (earlier : Placing). nat_eq earlier.variable k) placings || (nat_eq placing.variable k || false))
      split k = list_any-append (λ (earlier : Placing). nat_eq earlier.variable k) placings (placing ∷ [])

      differs : (k : ℕ) → placing.variable ≢ k → nat_eq placing.variable k ≡ false
      differs k apart = grind (arith, nat_tests)

      own : (b c : Bool) → c ≡ true → (b || (c || false)) ≡ true
      own true c e = refl
      own false true e = refl
      own false false e = e

      other : (b c : Bool) → c ≡ false → (b || (c || false)) ≡ b
      other true c e = refl
      other false true e = e
      other false false e = refl
