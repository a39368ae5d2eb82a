-- What tests answer of verdicts, where no operation is refused.
use Rattle.std.proofs.Common.{◌≡◌, List, Bool, true, false, refl, sym, subst}
use Rattle.std.specs.Prelude.{IsTrue, ◌↔◌, ◌&&◌}
use Rattle.check_definitions.specs.declared.Verdict.{Verdict}
use Rattle.check_definitions.specs.declared.Verdict.TheVariants.{Checked, Failed, Unchecked}
use Rattle.check_definitions.specs.Steps.{Step, AllHold, of_any_length, verdict_by, followed_by}
use Rattle.check_definitions.proofs.Holding.{checked_hold, hold_checked, never_refused}
use Rattle.walk_definitions.specs.Tests.{asked}
use Rattle.listing_claims.specs.Passing.{IsFailed}
use Rattle.long_solutions.specs.Answers.{Answers}

pub answers_of : (holds : Bool) (steps : List Step) → IsTrue holds ↔ AllHold steps → Answers holds (verdict_by of_any_length steps)
answers_of true steps h = hold_checked steps (h.0 refl)
answers_of false steps h = failed (verdict_by of_any_length steps) refl
  where
    failed : (v : Verdict) → verdict_by of_any_length steps ≡ v → IsFailed v
    failed Checked e = let no : false ≡ true = h.1 (checked_hold of_any_length steps e) in cc
    failed (Failed part number) e = tt
    failed (Unchecked refused) e = absurd (never_refused steps refused e)

failed_first : (v w : Verdict) → IsFailed v → IsFailed (followed_by v w)
failed_first Checked w h = absurd h
failed_first (Failed part number) w h = tt
failed_first (Unchecked refused) w h = absurd h

-- one verdict after the other
pub both_answer : (a b : Bool) (v w : Verdict) → Answers a v → Answers b w → Answers (a && b) (followed_by v w)
both_answer true b v w first second = subst (λ (u : Verdict). Answers b (followed_by u w)) (sym first) second
both_answer false b v w first second = failed_first v w first

-- the last of them
pub last_answers : (b : Bool) (v : Verdict) → Answers b v → Answers b (followed_by v Checked)
last_answers b Checked h = h
last_answers b (Failed part number) h = h
last_answers b (Unchecked refused) h = h

-- one that is always checked
pub after_checked : (b : Bool) (v w : Verdict) → v ≡ Checked → Answers b w → Answers b (followed_by v w)
after_checked b v w checked h = subst (λ (u : Verdict). Answers b (followed_by u w)) (sym checked) h

pub asked_answers : (b : Bool) → Answers b (asked b)
asked_answers true = refl
asked_answers false = tt
