-- What is read by its values, and how it is judged.
use Rattle.std.proofs.Common.{◌≡◌, ℕ, Bool, true, false, ◌&&◌, List, Option, Some, None, Result, refl, sym, ap, subst, ◌∙◌, if◌then◌else◌}
use Rattle.std.specs.Prelude.{is_some, IsErrAnd}
use Rattle.std.proofs.lemmas.Result.{err_from_is_err_and}
use Rattle.exact_values.specs.Rational.{ℚ}
use Rattle.check_definitions.specs.declared.Verdict.{Verdict}
use Rattle.check_definitions.specs.declared.Verdict.TheVariants.{Checked, Failed, Unchecked}
use Rattle.walk_definitions.specs.Checkers.{Checker}
use Rattle.walk_definitions.specs.Words.{Parsed, fraction_in, form_in}
use Rattle.walk_definitions.specs.Reading.{Judged, Right, Fails, Refuses, by_verdict, tested_or, unread, tested_by, judged_map}
use Rattle.listing_claims.specs.declared.claims.Stop.{Stop}
use Rattle.listing_claims.specs.declared.claims.Stop.TheVariants as stops
use Rattle.listing_claims.specs.Passing.{Stops}
use Rattle.listing_answers.specs.Words.{Found}
use Rattle.listing_answers.specs.Taken.{IsStopped, Taken, IsUnread}

-- what a `?` hands on
pub handed_on : {A X : Type 0} (Shows : X → A → Type 0) (judged : Judged A) (new : List ℕ) (result : Result X Stop) (stop : Stop) → IsStopped judged stop →
    IsErrAnd result (λ y. y ≡ stop) → Taken Shows judged new result
handed_on {A} {X} Shows judged new result stop h handed =
    let p = err_from_is_err_and result handed in
    subst (λ (r : Result X Stop). Taken Shows judged new r) (sym p.1) (subst (λ (s : Stop). IsStopped judged s) (sym p.2) h)

-- what is made of an answer that is stopped
pub made_stops : {A B : Type 0} (f : A → B) (judged : Judged A) (stop : Stop) → IsStopped judged stop → IsStopped (judged_map f judged) stop
made_stops f judged stops.Wrong wrong = ap (judged_map f) wrong
made_stops f judged stops.Unchecked refused = ap (judged_map f) refused
made_stops f judged stops.NoMemory none = tt

verdict_stops : {A : Type 0} (a : A) (rest : List ℕ) (stop : Stop) (v : Verdict) → Stops stop v → IsStopped (by_verdict v a rest) stop
verdict_stops a rest stops.Wrong (Failed part number) h = refl
verdict_stops a rest stops.Wrong Checked h = absurd h
verdict_stops a rest stops.Wrong (Unchecked refused) h = absurd h
verdict_stops a rest stops.Unchecked (Unchecked refused) h = refl
verdict_stops a rest stops.Unchecked Checked h = absurd h
verdict_stops a rest stops.Unchecked (Failed part number) h = absurd h
verdict_stops a rest stops.NoMemory v h = tt

module _ {A : Type 0} (C : Checker) (reads : (List ℕ → Option ℚ) → List ℕ → Parsed A) (old : List ℕ) where
  -- ---- what isn't read

  module _ (none : reads (fraction_in C) old ≡ None) where
    -- no number is too long
    pub without_limit : is_some C.most_digits ≡ false → IsUnread C reads old stops.Wrong
    without_limit limit = (none, ap (λ b. if b && is_some (reads (form_in C) old) then Refuses else Fails) limit)

    -- all is there by its form, or isn't
    by_form : (b : Bool) → is_some (reads (form_in C) old) ≡ b → is_some C.most_digits ≡ true →
        IsUnread C reads old (if b then stops.Unchecked else stops.Wrong)
    by_form true form limit = (none, λ i. if limit i && form i then Refuses else Fails)
    by_form false form limit = (none, λ i. if limit i && form i then Refuses else Fails)

    is_there : {X : Type 0} (Shows : X → A → Type 0) (new : List ℕ) (form : Option X) → Found Shows (reads (form_in C) old) new form →
        is_some (reads (form_in C) old) ≡ is_some form
    is_there Shows new None found = ap is_some found
    is_there Shows new (Some x) found = ap is_some found.is_found

    pub with_limit : {X : Type 0} (Shows : X → A → Type 0) (new : List ℕ) (form : Option X) (b : Bool) (stop : Stop) → is_some C.most_digits ≡ true →
        Found Shows (reads (form_in C) old) new form → b ≡ is_some form →
        stop ≡ (if b then stops.Unchecked else stops.Wrong) → IsUnread C reads old stop
    with_limit Shows new form b stop limit found is is_stop =
        subst (λ (s : Stop). IsUnread C reads old s) (sym is_stop) (by_form b (is_there Shows new form found ∙ sym is) limit)

  -- ---- how it is judged

  module _ (test : A → Verdict) where
    pub right_by : (a : A) (new : List ℕ) → reads (fraction_in C) old ≡ Some (a, new) → test a ≡ Checked → tested_by C test reads old ≡ Right a new
    right_by a new e passes = ap (tested_or (unread C reads old) test) e ∙ ap (λ v. by_verdict v a new) passes

    pub test_stops : (a : A) (rest : List ℕ) (stop : Stop) → reads (fraction_in C) old ≡ Some (a, rest) → Stops stop (test a) →
        IsStopped (tested_by C test reads old) stop
    test_stops a rest stop e h = subst (λ (o : Parsed A). IsStopped (tested_or (unread C reads old) test o) stop) (sym e) (verdict_stops a rest stop (test a) h)

    pub reading_stops : (stop : Stop) → IsUnread C reads old stop → IsStopped (tested_by C test reads old) stop
    reading_stops stops.Wrong h = ap (tested_or (unread C reads old) test) h.0 ∙ h.1
    reading_stops stops.Unchecked h = ap (tested_or (unread C reads old) test) h.0 ∙ h.1
    reading_stops stops.NoMemory h = tt
