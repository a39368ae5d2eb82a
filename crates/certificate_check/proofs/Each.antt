-- The same steps for each number up to n, in a loop.
use Rattle.std.proofs.Common.{◌≡◌, ℕ, ◌+◌, ◌-◌, ◌<◌, ◌++◌, List, arith, sym, ap, ◌∙◌, Err, Result}
use Rattle.std.specs.Prelude.{IsErrAnd}
use Rattle.std.specs.List.{flat_map}
use Rattle.std.proofs.lemmas.Result.{err_from_is_err_and}
use Rattle.frac128.specs.declared.Refused.{Refused}
use Rattle.lp_definitions.specs.LinearProgram.{numbers_from}
use Rattle.check_definitions.specs.declared.Verdict.TheVariants.{Checked, Unchecked}
use Rattle.check_definitions.specs.Steps.{Step, verdict_of, followed_by}
use Rattle.check_definitions.proofs.Passing.{verdict-append, each-next, each-end}
use Rattle.certificate_check.specs.declared.stops.Stopped.{Stopped}
use Rattle.certificate_check.specs.declared.stops.Stopped.TheVariants.{Comparison, Operation}
use Rattle.certificate_check.specs.Results.{verdict_from}

-- those up to i are checked, and the rest decides
pub record EachLeft (f : ℕ → List Step) (n i : ℕ) : Type 0 where
  pub left : verdict_of (flat_map f (numbers_from 1 n)) ≡ verdict_of (flat_map f (numbers_from (i + 1) (n - i)))

pub each_left : (f : ℕ → List Step) (n : ℕ) → EachLeft f n 0
each_left f n = let all : n - 0 ≡ n = omega arith in record { left = ap (λ k. verdict_of (flat_map f (numbers_from 1 k))) (sym all) }

pub each_passed : (f : ℕ → List Step) (n i : ℕ) → EachLeft f n i → i < n → Checked ≡ verdict_of (f (i + 1)) → EachLeft f n (i + 1)
each_passed f n i h below passed =
    record { left = h.left ∙ each-next f i n below ∙ ap (λ v. followed_by v (verdict_of (flat_map f (numbers_from (i + 1 + 1) (n - (i + 1)))))) (sym passed) }

pub each_stopped : (f : ℕ → List Step) (n i : ℕ) → EachLeft f n i → i < n → (s : Stopped) → verdict_from (Err s) ≡ verdict_of (f (i + 1)) →
    verdict_from (Err s) ≡ verdict_of (flat_map f (numbers_from 1 n))
each_stopped f n i h below s stopped = at s stopped ∙ sym (h.left ∙ each-next f i n below)
  where
    at : (s : Stopped) → verdict_from (Err s) ≡ verdict_of (f (i + 1)) →
        verdict_from (Err s) ≡ followed_by (verdict_of (f (i + 1))) (verdict_of (flat_map f (numbers_from (i + 1 + 1) (n - (i + 1)))))
    at (Comparison part number) e = ap (λ v. followed_by v (verdict_of (flat_map f (numbers_from (i + 1 + 1) (n - (i + 1)))))) e
    at (Operation refused) e = ap (λ v. followed_by v (verdict_of (flat_map f (numbers_from (i + 1 + 1) (n - (i + 1)))))) e

pub each_done : (f : ℕ → List Step) (n : ℕ) → EachLeft f n n → Checked ≡ verdict_of (flat_map f (numbers_from 1 n))
each_done f n h = sym (h.left ∙ each-end f n)

-- ---- parts that follow one another

pub goes_on : (xs ys : List Step) → verdict_of xs ≡ Checked → verdict_of (xs ++ ys) ≡ verdict_of ys
goes_on xs ys e = verdict-append xs ys ∙ ap (λ v. followed_by v (verdict_of ys)) e

pub refused_before : (xs ys : List Step) (refused : Refused) → verdict_of xs ≡ Unchecked refused → verdict_of (xs ++ ys) ≡ Unchecked refused
refused_before xs ys refused e = verdict-append xs ys ∙ ap (λ v. followed_by v (verdict_of ys)) e

pub stopped_before : (xs ys : List Step) (s : Stopped) → verdict_from (Err s) ≡ verdict_of xs → verdict_from (Err s) ≡ verdict_of (xs ++ ys)
stopped_before xs ys s e = at s e ∙ sym (verdict-append xs ys)
  where
    at : (s : Stopped) → verdict_from (Err s) ≡ verdict_of xs → verdict_from (Err s) ≡ followed_by (verdict_of xs) (verdict_of ys)
    at (Comparison part number) e = ap (λ v. followed_by v (verdict_of ys)) e
    at (Operation refused) e = ap (λ v. followed_by v (verdict_of ys)) e

-- ---- what a `?` hands on

module _ (result : Result (Unit {0}) Stopped) where
  pub handed_on : (s : Stopped) → IsErrAnd result (λ y. y ≡ s) → verdict_from result ≡ verdict_from (Err s)
  handed_on s h = let p = err_from_is_err_and result h in ap verdict_from p.1 ∙ ap (λ (y : Stopped). verdict_from (Err y)) p.2

  pub each_exit : (f : ℕ → List Step) (n i : ℕ) → EachLeft f n i → i < n → (s : Stopped) → verdict_from (Err s) ≡ verdict_of (f (i + 1))
      → IsErrAnd result (λ y. y ≡ s)
      → verdict_from result ≡ verdict_of (flat_map f (numbers_from 1 n))
  each_exit f n i h below s stopped is = handed_on s is ∙ each_stopped f n i h below s stopped

  pub part_exit : (xs ys : List Step) (s : Stopped) → verdict_from (Err s) ≡ verdict_of xs → IsErrAnd result (λ y. y ≡ s) →
      verdict_from result ≡ verdict_of (xs ++ ys)
  part_exit xs ys s stopped is = handed_on s is ∙ stopped_before xs ys s stopped

  pub value_exit : (xs ys : List Step) (refused : Refused) → verdict_of xs ≡ Unchecked refused → IsErrAnd result (λ y. y ≡ Operation refused) →
      verdict_from result ≡ verdict_of (xs ++ ys)
  value_exit xs ys refused stopped is = handed_on (Operation refused) is ∙ sym (refused_before xs ys refused stopped)
