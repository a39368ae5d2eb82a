-- Steps whose comparisons all hold: in any arithmetic they do where the steps are checked, and where nothing is refused the steps are
-- checked where they do.
use Rattle.std.proofs.Common.{◌≡◌, ◌≢◌, ℕ, zero, suc, ◌+◌, ◌<◌, ◌≤◌, List, [], ◌∷◌, ◌++◌, Bool, true, false, refl, subst, arith}
use Rattle.std.specs.Prelude.{if◌then◌else◌}
use Rattle.std.specs.List.{flat_map}
use native.Mathlib.Decide.{ℕ_discrete}
use Rattle.frac128.specs.declared.Refused.{Refused}
use Rattle.lp_definitions.specs.LinearProgram.{numbers_from}
use Rattle.check_definitions.specs.declared.Verdict.TheVariants.{Checked, Unchecked}
use Rattle.check_definitions.specs.Steps.{Step, operation, comparison, Arithmetic, of_any_length, verdict_by, AllHold}

pub checked_hold : (A : Arithmetic) (steps : List Step) → verdict_by A steps ≡ Checked → AllHold steps
checked_hold A [] e = tt
checked_hold A (operation op x y ∷ steps) e = made (A.refused op x y) e (checked_hold A steps)
  where
    made : (b : Bool) → (if b then Unchecked (record { op = op; left = x; right = y }) else verdict_by A steps) ≡ Checked →
        (verdict_by A steps ≡ Checked → AllHold steps) → AllHold steps
    made true e rest = cc
    made false e rest = rest e
checked_hold A (comparison part number true ∷ steps) e = (refl, checked_hold A steps e)
checked_hold A (comparison part number false ∷ steps) e = cc

pub hold_checked : (steps : List Step) → AllHold steps → verdict_by of_any_length steps ≡ Checked
hold_checked [] h = refl
hold_checked (operation op x y ∷ steps) h = hold_checked steps h
hold_checked (comparison part number true ∷ steps) h = hold_checked steps h.1
hold_checked (comparison part number false ∷ steps) h = cc

-- what an arithmetic checks, that of any length does too
pub checked_widens : (A : Arithmetic) (steps : List Step) → verdict_by A steps ≡ Checked → verdict_by of_any_length steps ≡ Checked
checked_widens A steps e = hold_checked steps (checked_hold A steps e)

pub never_refused : (steps : List Step) (refused : Refused) → verdict_by of_any_length steps ≢ Unchecked refused
never_refused [] refused e = cc
never_refused (operation op x y ∷ steps) refused e = never_refused steps refused e
never_refused (comparison part number true ∷ steps) refused e = never_refused steps refused e
never_refused (comparison part number false ∷ steps) refused e = cc

-- ---- steps that follow one another

pub hold-append : (xs ys : List Step) → AllHold (xs ++ ys) → AllHold xs × AllHold ys
hold-append [] ys h = (tt, h)
hold-append (operation op x y ∷ xs) ys h = hold-append xs ys h
hold-append (comparison part number holds ∷ xs) ys h = let rest : AllHold xs × AllHold ys = hold-append xs ys h.1 in ((h.0, rest.0), rest.1)

-- the comparison that ends the steps
pub last_holds : (xs : List Step) (part number : ℕ) (b : Bool) → AllHold (xs ++ comparison part number b ∷ []) → b ≡ true
last_holds xs part number b h = (hold-append xs (comparison part number b ∷ []) h).1.0

-- the same steps for each of a list of numbers
pub each_hold : (f : ℕ → List Step) (first n k : ℕ) → AllHold (flat_map f (numbers_from first n)) → first ≤ k → k < first + n → AllHold (f k)
each_hold f first zero k h low high = absurd (omega arith)
each_hold f first (suc n) k h low high =
    let both = hold-append (f first) (flat_map f (numbers_from (suc first) n)) h in
    by_place (ℕ_discrete first k) both.0 (each_hold f (suc first) n k both.1)
  where
    by_place : Dec (first ≡ k) → AllHold (f first) → (suc first ≤ k → k < suc first + n → AllHold (f k)) → AllHold (f k)
    by_place (yes same) here later = subst (λ i. AllHold (f i)) same here
    by_place (no other) here later = later (omega arith) (omega arith)
