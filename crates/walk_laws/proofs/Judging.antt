-- What is judged right was read so, and passed each of its tests.
use Rattle.std.proofs.Common.{◌≡◌, ℕ, List, [], ◌∷◌, Bool, true, false, if◌then◌else◌, Option, Some, None, refl, sym, ap, ◌∙◌}
use Rattle.std.specs.Prelude.{◌&&◌, is_some}
use Rattle.exact_values.specs.Rational.{ℚ}
use Rattle.check_definitions.specs.declared.Verdict.{Verdict}
use Rattle.check_definitions.specs.declared.Verdict.TheVariants.{Checked, Failed, Unchecked}
use Rattle.check_definitions.specs.Steps.{in_turn}
use Rattle.check_definitions.proofs.Passing.{both_checked, holds_if_checked}
use Rattle.walk_definitions.specs.Checkers.{Checker}
use Rattle.walk_definitions.specs.Words.{Parsed, fraction_in, form_in}
use Rattle.walk_definitions.specs.Reading.{Judged, Right, Fails, Refuses, by_verdict, tested_or, unread, tested_by, judged_map}
use Rattle.walk_definitions.specs.Tests.{asked}

pub asked_holds : (b : Bool) → asked b ≡ Checked → b ≡ true
asked_holds b e = holds_if_checked 6 0 b e

abbrev pub AllChecked : List Verdict → Type 0
AllChecked [] = Unit {0}
AllChecked (v ∷ vs) = (v ≡ Checked) × AllChecked vs

-- each verdict is checked where the whole turn is
pub each_checked : (vs : List Verdict) → in_turn vs ≡ Checked → AllChecked vs
each_checked [] e = tt
each_checked (v ∷ vs) e = let parts = both_checked v (in_turn vs) e in (parts.0, each_checked vs parts.1)

-- what was read, and that it passed
pub record IsPassed {X : Type 0} (test : X → Verdict) (parsed : Parsed X) (x : X) (after : List ℕ) : Type 0 where
  pub is_read : parsed ≡ Some (x, after)
  pub passes : test x ≡ Checked

passed : {X : Type 0} (otherwise : Judged X) (test : X → Verdict) (parsed : Parsed X) (x : X) (after : List ℕ) → (otherwise ≡ Right x after → ⊥) →
    tested_or otherwise test parsed ≡ Right x after → IsPassed test parsed x after
passed otherwise test None x after never e = absurd (never e)
passed {X = X} otherwise test (Some got) x after never e = by (test got.0) refl e
  where
    by : (v : Verdict) → test got.0 ≡ v → by_verdict v got.0 got.1 ≡ Right x after → IsPassed test (Some got) x after
    by Checked is e =
        let same : got.0 ≡ x = cc in
        let left : got.1 ≡ after = cc in
        record { is_read = λ i. Some (same i, left i); passes = ap test (sym same) ∙ is }
    by (Failed part number) is e = cc
    by (Unchecked refused) is e = cc

-- what isn't read isn't right
never_right : {X : Type 0} (b : Bool) (x : X) (after : List ℕ) → ◌≡◌ {A = Judged X} (if b then Refuses else Fails) (Right x after) → ⊥
never_right true x after e = cc e
never_right false x after e = cc e

pub right_is_passed : (C : Checker) {X : Type 0} (test : X → Verdict) (reads : (List ℕ → Option ℚ) → List ℕ → Parsed X) (rest : List ℕ) (x : X)
    (after : List ℕ) →
    tested_by C test reads rest ≡ Right x after → IsPassed test (reads (fraction_in C) rest) x after
right_is_passed C test reads rest x after e =
    passed (unread C reads rest) test (reads (fraction_in C) rest) x after (never_right (is_some C.most_digits && is_some (reads (form_in C) rest)) x after) e

-- what it was made of is right
pub record IsMadeOf {X Y : Type 0} (f : X → Y) (judged : Judged X) (y : Y) (after : List ℕ) : Type 0 where
  pub made_of : X
  pub is_right : judged ≡ Right made_of after
  pub is_made : f made_of ≡ y

pub right_is_made : {X Y : Type 0} (f : X → Y) (judged : Judged X) (y : Y) (after : List ℕ) → judged_map f judged ≡ Right y after → IsMadeOf f judged y after
right_is_made f (Right x rest) y after e =
    let same : f x ≡ y = cc in
    let left : rest ≡ after = cc in
    record { made_of = x; is_right = ap (λ r. Right x r) left; is_made = same }
right_is_made f Fails y after e = cc
right_is_made f Refuses y after e = cc
