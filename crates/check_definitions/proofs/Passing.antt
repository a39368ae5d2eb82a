-- Verdicts of steps that follow one another.
use Rattle.std.proofs.Common.{◌≡◌, ℕ, zero, suc, ◌+◌, ◌-◌, ◌<◌, ◌≤◌, List, [], ◌∷◌, ◌++◌, Bool, true, false, refl, sym, ap, ◌∙◌, arith, add-one}
use Rattle.std.specs.Prelude.{if◌then◌else◌}
use Rattle.std.specs.List.{flat_map}
use native.Mathlib.Decide.{ℕ_discrete}
use Rattle.frac128.specs.Operations.{refuses}
use Rattle.lp_definitions.specs.LinearProgram.{numbers_from}
use Rattle.check_definitions.specs.declared.Verdict.{Verdict}
use Rattle.check_definitions.specs.declared.Verdict.TheVariants.{Checked, Failed, Unchecked}
use Rattle.check_definitions.specs.Steps.{Step, operation, comparison, verdict_of, followed_by}

pub verdict-append : (xs ys : List Step) → verdict_of (xs ++ ys) ≡ followed_by (verdict_of xs) (verdict_of ys)
verdict-append [] ys = refl
verdict-append (operation op x y ∷ xs) ys = by_test (refuses op x y) (verdict-append xs ys)
  where
    by_test : (b : Bool) → verdict_of (xs ++ ys) ≡ followed_by (verdict_of xs) (verdict_of ys)
        → (if b then Unchecked (record { op = op; left = x; right = y }) else verdict_of (xs ++ ys)) ≡ followed_by
        (if b then Unchecked (record { op = op; left = x; right = y }) else verdict_of xs) (verdict_of ys)
    by_test true e = refl
    by_test false e = e
verdict-append (comparison part number holds ∷ xs) ys = by_test holds (verdict-append xs ys)
  where
    by_test : (b : Bool) → verdict_of (xs ++ ys) ≡ followed_by (verdict_of xs) (verdict_of ys)
        → (if b then verdict_of (xs ++ ys) else Failed part number) ≡ followed_by (if b then verdict_of xs else Failed part number) (verdict_of ys)
    by_test true e = e
    by_test false e = refl

-- both parts are checked where the whole is
pub both_checked : (v w : Verdict) → followed_by v w ≡ Checked → (v ≡ Checked) × (w ≡ Checked)
both_checked Checked w e = (refl, e)
both_checked (Failed part number) w e = cc
both_checked (Unchecked r) w e = cc

pub checked-append : (xs ys : List Step) → verdict_of (xs ++ ys) ≡ Checked → (verdict_of xs ≡ Checked) × (verdict_of ys ≡ Checked)
checked-append xs ys e = both_checked (verdict_of xs) (verdict_of ys) (sym (verdict-append xs ys) ∙ e)

-- a comparison that is checked holds
pub holds_if_checked : (part number : ℕ) (b : Bool) → verdict_of (comparison part number b ∷ []) ≡ Checked → b ≡ true
holds_if_checked part number true e = refl
holds_if_checked part number false e = cc

-- ---- the same steps for each of a list of numbers

-- the number i + 1, and those after it up to n
pub numbers-next : (i n : ℕ) → i < n → numbers_from (i + 1) (n - i) ≡ (i + 1) ∷ numbers_from (i + 1 + 1) (n - (i + 1))
numbers-next i n below = at (n - i) (n - (i + 1)) (omega arith) ∙ ap (λ s. (i + 1) ∷ numbers_from s (n - (i + 1))) (sym (add-one (i + 1)))
  where
    at : (left rest : ℕ) → left ≡ suc rest → numbers_from (i + 1) left ≡ (i + 1) ∷ numbers_from (suc (i + 1)) rest
    at left rest e = ap (numbers_from (i + 1)) e

pub numbers-end : (n : ℕ) → numbers_from (n + 1) (n - n) ≡ []
numbers-end n = let none : n - n ≡ 0 = omega arith in ap (numbers_from (n + 1)) none

pub each-next : (f : ℕ → List Step) (i n : ℕ) → i < n →
    verdict_of (flat_map f (numbers_from (i + 1) (n - i))) ≡ followed_by (verdict_of (f (i + 1)))
    (verdict_of (flat_map f (numbers_from (i + 1 + 1) (n - (i + 1)))))
each-next f i n below =
    ap (λ ks. verdict_of (flat_map f ks)) (numbers-next i n below)
    ∙ verdict-append (f (i + 1)) (flat_map f (numbers_from (i + 1 + 1) (n - (i + 1))))

pub each-end : (f : ℕ → List Step) (n : ℕ) → verdict_of (flat_map f (numbers_from (n + 1) (n - n))) ≡ Checked
each-end f n = ap (λ ks. verdict_of (flat_map f ks)) (numbers-end n)

-- each number's steps are checked where all are
pub each_checked : (f : ℕ → List Step) (first n k : ℕ) → verdict_of (flat_map f (numbers_from first n)) ≡ Checked → first ≤ k → k < first + n →
    verdict_of (f k) ≡ Checked
each_checked f first zero k e low high = absurd (omega arith)
each_checked f first (suc n) k e low high =
    let both = checked-append (f first) (flat_map f (numbers_from (suc first) n)) e in
    by_place (ℕ_discrete first k) both.0 (each_checked f (suc first) n k both.1)
  where
    by_place : Dec (first ≡ k) → verdict_of (f first) ≡ Checked → (suc first ≤ k → k < suc first + n → verdict_of (f k) ≡ Checked) → verdict_of (f k) ≡ Checked
    by_place (yes same) here later = ap (λ i. verdict_of (f i)) (sym same) ∙ here
    by_place (no other) here later = later (omega arith) (omega arith)
