-- Steps that follow one another, and what is handed on where they stop.
use Rattle.std.proofs.Common.{◌≡◌, ℕ, ◌+◌, ◌-◌, ◌<◌, List, ◌++◌, Result, sym, subst, ◌∙◌}
use Rattle.std.specs.Prelude.{IsErrAnd}
use Rattle.std.specs.List.{flat_map}
use Rattle.std.proofs.lemmas.Result.{err_from_is_err_and}
use Rattle.lp_definitions.specs.LinearProgram.{numbers_from}
use Rattle.check_definitions.specs.declared.Verdict.{Verdict}
use Rattle.check_definitions.specs.declared.Verdict.TheVariants.{Checked}
use Rattle.check_definitions.specs.Steps.{Step, verdict_of}
use Rattle.check_definitions.proofs.Passing.{verdict-append, each-next}
use Rattle.certificate_check.proofs.Each.{EachLeft, each_passed, each_done}
use Rattle.listing_claims.specs.declared.claims.Stop.{Stop}
use Rattle.listing_claims.specs.Passing.{Stops, Judges}
use Rattle.listing_claims.proofs.Passing.{stops_first, stops_next, judges_exit, both_pass}
use Rattle.checks_of_128_bits.specs.Making.{Makes}

-- the same steps for each number up to n
pub each_exit : (f : ℕ → List Step) (n i : ℕ) (result : Result (Unit {0}) Stop) (stop : Stop) → EachLeft f n i → i < n → Stops stop (verdict_of (f (i + 1))) →
    IsErrAnd result (λ y. y ≡ stop) →
    Judges (verdict_of (flat_map f (numbers_from 1 n))) result
each_exit f n i result stop left below h handed =
    subst (λ (v : Verdict). Judges v result) (sym (left.left ∙ each-next f i n below))
    (judges_exit (verdict_of (f (i + 1))) (verdict_of (flat_map f (numbers_from (i + 1 + 1) (n - (i + 1))))) result stop h handed)

pub each_goes_on : (f : ℕ → List Step) (n i : ℕ) → EachLeft f n i → i < n → verdict_of (f (i + 1)) ≡ Checked → EachLeft f n (i + 1)
each_goes_on f n i left below passed = each_passed f n i left below (sym passed)

pub each_ends : (f : ℕ → List Step) (n i : ℕ) → i ≡ n → EachLeft f n i → verdict_of (flat_map f (numbers_from 1 n)) ≡ Checked
each_ends f n i all left = sym (each_done f n (subst (EachLeft f n) all left))

pub each_stops : (f : ℕ → List Step) (n i : ℕ) (stop : Stop) → EachLeft f n i → i < n → Stops stop (verdict_of (f (i + 1))) →
    Stops stop (verdict_of (flat_map f (numbers_from 1 n)))
each_stops f n i stop left below h =
    subst (λ (v : Verdict). Stops stop v) (sym (left.left ∙ each-next f i n below))
    (stops_first stop (verdict_of (f (i + 1))) (verdict_of (flat_map f (numbers_from (i + 1 + 1) (n - (i + 1))))) h)

-- what a `?` hands on where something is made
pub made_handed : {X : Type 0} (Shows : X → Type 0) (v : Verdict) (result : Result X Stop) (stop : Stop) → Stops stop v → IsErrAnd result (λ y. y ≡ stop) →
    Makes Shows v result
made_handed {X} Shows v result stop h handed =
    let p = err_from_is_err_and result handed in
    subst (λ (r : Result X Stop). Makes Shows v r) (sym p.1) (subst (λ (s : Stop). Stops s v) (sym p.2) h)

-- steps, one list after another
pub steps_first : (stop : Stop) (xs ys : List Step) → Stops stop (verdict_of xs) → Stops stop (verdict_of (xs ++ ys))
steps_first stop xs ys h = subst (λ (v : Verdict). Stops stop v) (sym (verdict-append xs ys)) (stops_first stop (verdict_of xs) (verdict_of ys) h)

pub steps_next : (stop : Stop) (xs ys : List Step) → verdict_of xs ≡ Checked → Stops stop (verdict_of ys) → Stops stop (verdict_of (xs ++ ys))
steps_next stop xs ys passed h = subst (λ (v : Verdict). Stops stop v) (sym (verdict-append xs ys)) (stops_next stop (verdict_of xs) (verdict_of ys) passed h)

pub steps_pass : (xs ys : List Step) → verdict_of xs ≡ Checked → verdict_of ys ≡ Checked → verdict_of (xs ++ ys) ≡ Checked
steps_pass xs ys first second = verdict-append xs ys ∙ both_pass (verdict_of xs) (verdict_of ys) first second
