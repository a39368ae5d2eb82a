-- The numbers of names in a table, and names that are put into one.
use Rattle.std.proofs.Common.{◌≡◌, ℕ, zero, suc, ◌+◌, ◌<◌, Bool, true, false, cond, not, ◌||◌, List, [], ◌∷◌, Some, None, length, take, slice_get, refl, sym}
use Rattle.std.proofs.Common.{ap, subst, ◌∙◌, unwrap_or, arith}
use Rattle.std.specs.List.{AllByRecursion, list_any, position, position_or_len, IsDistinct}
use Rattle.std.specs.Option.{option_map}
use Rattle.std.proofs.lemmas.Bool.{lt-ltb}
use Rattle.std.proofs.lemmas.Bool.Decides.{nat_tests}
use Rattle.problem_definitions.specs.Names.{Name, same, has_name, number_in}
use Rattle.problem_definitions.specs.Valid.{IsNumberOf}
use Rattle.problem_definitions.proofs.Names.{same_sym}
use Rattle.problem_definitions.proofs.Places.{number_in-is, number_in-within}
use Rattle.name_table.specs.Numbers.{number_of}

-- where no element passes, the place is the length
place_past : {X : Type 0} (p : X → Bool) (xs : List X) → list_any p xs ≡ false → position_or_len p xs ≡ length xs
place_past p [] e = refl
place_past p (x ∷ xs) e = by (p x) e (place_past p xs)
  where
    by : (b : Bool) → (b || list_any p xs) ≡ false → (list_any p xs ≡ false → position_or_len p xs ≡ length xs) →
        cond (not b) (1 + position_or_len p xs) 0 ≡ suc (length xs)
    by true e rest = absurd (cc e)
    by false e rest = let inner : position_or_len p xs ≡ length xs = rest e in omega (arith, inner)

module _ (names : List Name) (name : Name) where
  known : has_name names name ≡ true → number_of name names ≡ Some (position_or_len (same name) names + 1)
  known e =
      let number = number_in-within names name e in
      let within : position_or_len (same name) names < length names = omega (arith, number_in-is names name e, number.at_most) in
      rw (lt-ltb (position_or_len (same name) names) (length names) within) refl

  -- a name that isn't there has no number
  pub absent : has_name names name ≡ false → number_of name names ≡ None
  absent e =
      let past = place_past (same name) names e in
      let none : position (same name) names ≡ None = rw past (grind (arith, nat_tests)) in
      ap (option_map (λ (place : ℕ). place + 1)) none

  -- a name that has no number isn't there
  pub missing : number_of name names ≡ None → has_name names name ≡ false
  missing none = by (has_name names name) refl
    where
      by : (b : Bool) → has_name names name ≡ b → has_name names name ≡ false
      by true e = absurd (cc (none, known e))
      by false e = e

  -- one that has a number is there, and the number is its own
  pub there : (k : ℕ) → number_of name names ≡ Some k → has_name names name ≡ true
  there k some = by (has_name names name) refl
    where
      by : (b : Bool) → has_name names name ≡ b → has_name names name ≡ true
      by true e = e
      by false e = absurd (cc (some, absent e))

  pub within : (k : ℕ) → number_of name names ≡ Some k → IsNumberOf (length names) k
  within k some = subst (IsNumberOf (length names)) (ap (λ o. unwrap_or o 0) some) (number_in-within names name (there k some))

  pub number : (k : ℕ) → number_of name names ≡ Some k → k ≡ number_in names name
  number k some = sym (ap (λ o. unwrap_or o 0) some)

-- in a list of different names, no name stands before itself
apart : (name : Name) (names : List Name) (i : ℕ) (other : Name) → AllByRecursion (λ other. same name other ≡ false) names → slice_get names i ≡ Some other →
    same name other ≡ false
apart name [] i other h at = absurd (cc at)
apart name (n ∷ names) zero other h at = subst (λ o. same name o ≡ false) (cc at) h.0
apart name (n ∷ names) (suc i) other h at = apart name names i other h.1 at

new_at : (names : List Name) (i : ℕ) (name : Name) → IsDistinct same names → slice_get names i ≡ Some name → has_name (take i names) name ≡ false
unfolding IsDistinct
new_at [] i name distinct at = absurd (cc at)
new_at (n ∷ names) zero name distinct at = refl
new_at (n ∷ names) (suc i) name distinct at =
    let first : same name n ≡ false = same_sym name n ∙ apart n names i name distinct.0 at in
    ap (λ b. b || has_name (take i names) name) first ∙ new_at names i name distinct.1 at

-- the next name of a list of different names is new
pub next_is_new : (names so_far : List Name) (i : ℕ) (name : Name) → IsDistinct same names → slice_get names i ≡ Some name → so_far ≡ take i names →
    number_of name so_far ≡ None
next_is_new names so_far i name distinct at is = absent so_far name (ap (λ list. has_name list name) is ∙ new_at names i name distinct at)
