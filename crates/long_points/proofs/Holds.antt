-- Steps whose comparisons hold, one after the other.
use Rattle.std.proofs.Common.{◌≡◌, ℕ, zero, suc, ◌+◌, ◌<◌, ◌≤◌, List, [], ◌∷◌, ◌++◌, Bool, true, false, refl, sym, ap, ◌∙◌, arith}
use Rattle.std.specs.Prelude.{IsTrue, ◌↔◌, ◌&&◌, Option, Some, None}
use Rattle.std.specs.List.{flat_map}
use native.Mathlib.Decide.{ℕ_discrete}
use Rattle.exact_values.specs.Rational.{ℚ, ◌+ℚ◌}
use Rattle.lp_definitions.specs.declared.Change.{Change}
use Rattle.lp_definitions.specs.LinearProgram.{Vector, numbers_from}
use Rattle.check_definitions.specs.Steps.{Step, operation, comparison, AllHold, Product, product_of, sum_steps}
use Rattle.check_definitions.specs.Checks.{change_steps}
use Rattle.check_definitions.proofs.Holding.{hold-append, each_hold}
use Rattle.long_points.specs.Tests.{UpTo}

pub append_hold : (xs ys : List Step) → AllHold xs → AllHold ys → AllHold (xs ++ ys)
append_hold [] ys a b = b
append_hold (operation op x y ∷ xs) ys a b = append_hold xs ys a b
append_hold (comparison part number holds ∷ xs) ys a b = (a.0, append_hold xs ys a.1 b)

-- sums have no comparisons
pub sums_hold : (start : ℚ) (ts : List Product) → AllHold (sum_steps start ts)
sums_hold start [] = tt
sums_hold start (t ∷ ts) = sums_hold (start +ℚ product_of t) ts

pub change_holds : (c : Option Change) (f : Vector) (v : ℚ) → AllHold (change_steps c f v)
change_holds None f v = tt
change_holds (Some c) f v = tt

-- ---- the same test of each number

-- the steps of a number hold just where it passes
abbrev pub Reads : (ℕ → List Step) → (ℕ → Bool) → Type 0
Reads f test = (k : ℕ) → test k ≡ true ↔ AllHold (f k)

pub none_yet : (test : ℕ → Bool) → UpTo test 0
none_yet test k first last = absurd (omega (arith, first, last))

pub one_more : (test : ℕ → Bool) (i : ℕ) → UpTo test i → test (i + 1) ≡ true → UpTo test (i + 1)
one_more test i so_far passed k first last = by (ℕ_discrete k (i + 1))
  where
    by : Dec (k ≡ i + 1) → test k ≡ true
    by (yes same) = ap test same ∙ passed
    by (no other) = so_far k first (omega (arith, other, last))

module _ (f : ℕ → List Step) (test : ℕ → Bool) (reads : Reads f test) where
  all_hold : (first n : ℕ) → ((k : ℕ) → first ≤ k → k < first + n → test k ≡ true) → AllHold (flat_map f (numbers_from first n))
  all_hold first zero h = tt
  all_hold first (suc n) h =
      append_hold (f first) (flat_map f (numbers_from (suc first) n)) ((reads first).0 (h first (omega arith) (omega arith)))
      (all_hold (suc first) n (λ k low high. h k (omega (arith, low)) (omega (arith, high))))

  pub all_passed : (n i : ℕ) → n ≤ i → UpTo test i → IsTrue true ↔ AllHold (flat_map f (numbers_from 1 n))
  all_passed n i end so_far = ((λ e. all_hold 1 n (λ k low high. so_far k low (omega (arith, high, end)))), (λ h. refl))

  pub one_failed : (n i : ℕ) → i < n → test (i + 1) ≡ false → IsTrue false ↔ AllHold (flat_map f (numbers_from 1 n))
  one_failed n i below failed = (
    (λ e. cc),
    (λ h. sym failed ∙ (reads (i + 1)).1 (each_hold f 1 n (i + 1) h (omega arith) (omega (arith, below)))),
  )

  pub told : (count n : ℕ) → count ≡ n → (holds : Bool) → IsTrue holds ↔ UpTo test count → IsTrue holds ↔ AllHold (flat_map f (numbers_from 1 n))
  told count n same holds is = (
    (λ e. all_hold 1 n (λ k low high. is.0 e k low (omega (arith, high, same)))),
    (λ h. is.1 (λ k low high. (reads k).1 (each_hold f 1 n k h low (omega (arith, high, same))))),
  )

-- ---- one part after the other

pub both_hold : (a b : Bool) (xs ys : List Step) → IsTrue a ↔ AllHold xs → IsTrue b ↔ AllHold ys → IsTrue (a && b) ↔ AllHold (xs ++ ys)
both_hold true b xs ys first second = ((λ e. append_hold xs ys (first.0 refl) (second.0 e)), (λ h. second.1 (hold-append xs ys h).1))
both_hold false b xs ys first second = ((λ e. cc), (λ h. first.1 (hold-append xs ys h).0))
