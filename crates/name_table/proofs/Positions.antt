-- Places of elements that pass a test.
use Rattle.std.proofs.Common.{◌≡◌, ℕ, suc, ◌+◌, ◌<◌, Bool, true, false, cond, not, ◌||◌, List, [], ◌∷◌, Some, None, length, ◌++◌, if◌then◌else◌, refl, ap, sym}
use Rattle.std.proofs.Common.{◌∙◌, arith, length-append}
use Rattle.std.specs.List.{list_any, position, position_or_len}
use Rattle.std.proofs.lemmas.Bool.Decides.{nat_tests}

module _ {X : Type 0} (p : X → Bool) where
  -- where no element passes, the place is the length
  pub position_or_len-none : (xs : List X) → list_any p xs ≡ false → position_or_len p xs ≡ length xs
  position_or_len-none [] e = refl
  position_or_len-none (x ∷ xs) e = by (p x) e (position_or_len-none xs)
    where
      by : (b : Bool) → (b || list_any p xs) ≡ false → (list_any p xs ≡ false → position_or_len p xs ≡ length xs) →
          cond (not b) (1 + position_or_len p xs) 0 ≡ suc (length xs)
      by true e rest = cc e
      by false e rest = rw (rest e) (omega arith)

  -- where an element passes, the place is before the end
  pub position_or_len-some : (xs : List X) → list_any p xs ≡ true → position_or_len p xs < length xs
  position_or_len-some [] e = cc e
  position_or_len-some (x ∷ xs) e = by (p x) e (position_or_len-some xs)
    where
      by : (b : Bool) → (b || list_any p xs) ≡ true → (list_any p xs ≡ true → position_or_len p xs < length xs) →
          cond (not b) (1 + position_or_len p xs) 0 < suc (length xs)
      by true e rest = omega arith
      by false e rest = let bound : position_or_len p xs < length xs = rest e in omega arith

  pub position-none : (xs : List X) → list_any p xs ≡ false → position p xs ≡ None
  position-none xs e = let n = position_or_len-none xs e in rw n (grind (arith, nat_tests))

  pub position-some : (xs : List X) → list_any p xs ≡ true → position p xs ≡ Some (position_or_len p xs)
  position-some xs e = let bound : position_or_len p xs < length xs = position_or_len-some xs e in grind (arith, nat_tests)

-- what is new is not there yet
absent_if_new : (b is_new : Bool) → is_new ≡ not b → is_new ≡ true → b ≡ false
absent_if_new true is_new reported is_true = cc (reported, is_true)
absent_if_new false is_new reported is_true = refl

module _ {X : Type 0} (p : X → Bool) (names : List X) (is_new : Bool) (reported : is_new ≡ not (list_any p names)) (is_true : is_new ≡ true) where
  -- a new element goes to the end, and its number is the new length
  pub added_last : (new : List X) (name : X) (index : ℕ) → new ≡ (if list_any p names then names else names ++ name ∷ []) → index ≡ position_or_len p names
      → (new ≡ names ++ name ∷ []) × (index + 1 ≡ length new)
  added_last new name index keys place =
      let absent = absent_if_new (list_any p names) is_new reported is_true in
      let last : new ≡ names ++ name ∷ [] = keys ∙ rw absent refl in
      (last, ap (λ n. n + 1) (place ∙ position_or_len-none p names absent) ∙ sym (ap length last ∙ length-append names (name ∷ [])))

  -- and it had no place
  pub new_has_no_place : position p names ≡ None
  new_has_no_place = position-none p names (absent_if_new (list_any p names) is_new reported is_true)
