-- Verdicts that follow one another, and what they let pass.
use Rattle.std.proofs.Common.{◌≡◌, Result, refl, sym, subst, ◌∙◌}
use Rattle.std.specs.Prelude.{IsErrAnd}
use Rattle.std.proofs.lemmas.Result.{err_from_is_err_and}
use Rattle.check_definitions.specs.declared.Verdict.{Verdict}
use Rattle.check_definitions.specs.declared.Verdict.TheVariants.{Checked, Failed, Unchecked}
use Rattle.check_definitions.specs.Steps.{followed_by}
use Rattle.listing_claims.specs.declared.claims.Stop.{Stop}
use Rattle.listing_claims.specs.declared.claims.Stop.TheVariants as stops
use Rattle.listing_claims.specs.Passing.{Stops, Judges}

pub stops_first : (stop : Stop) (v w : Verdict) → Stops stop v → Stops stop (followed_by v w)
stops_first stops.Wrong (Failed part number) w h = tt
stops_first stops.Wrong Checked w h = absurd h
stops_first stops.Wrong (Unchecked refused) w h = absurd h
stops_first stops.Unchecked (Unchecked refused) w h = tt
stops_first stops.Unchecked Checked w h = absurd h
stops_first stops.Unchecked (Failed part number) w h = absurd h
stops_first stops.NoMemory v w h = tt

-- a verdict that a call gave
pub passes : (given v : Verdict) → given ≡ v → given ≡ Checked → v ≡ Checked
passes given v same passed = sym same ∙ passed

pub stops_given : (stop : Stop) (given v : Verdict) → given ≡ v → Stops stop given → Stops stop v
stops_given stop given v same h = subst (λ (u : Verdict). Stops stop u) same h

followed_alone : (v : Verdict) → followed_by v Checked ≡ v
followed_alone Checked = refl
followed_alone (Failed part number) = refl
followed_alone (Unchecked refused) = refl

-- what a `?` hands on
pub handed_on : (v : Verdict) (result : Result (Unit {0}) Stop) (stop : Stop) → Stops stop v → IsErrAnd result (λ y. y ≡ stop) → Judges v result
handed_on v result stop h handed =
    let p = err_from_is_err_and result handed in
    subst (λ (r : Result (Unit {0}) Stop). Judges v r) (sym p.1) (subst (λ (s : Stop). Stops s v) (sym p.2) h)

pub judges_exit : (v w : Verdict) (result : Result (Unit {0}) Stop) (stop : Stop) → Stops stop v → IsErrAnd result (λ y. y ≡ stop) →
    Judges (followed_by v w) result
judges_exit v w result stop h handed = handed_on (followed_by v w) result stop (stops_first stop v w h) handed

-- the first lets pass
pub judges_then : (v w : Verdict) (result : Result (Unit {0}) Stop) → v ≡ Checked → Judges w result → Judges (followed_by v w) result
judges_then v w result passed h = subst (λ (u : Verdict). Judges (followed_by u w) result) (sym passed) h

-- where a call gave the verdict
pub exit_by : (given v w : Verdict) (result : Result (Unit {0}) Stop) (stop : Stop) → given ≡ v → Stops stop given → IsErrAnd result (λ y. y ≡ stop) →
    Judges (followed_by v w) result
exit_by given v w result stop same h handed = judges_exit v w result stop (subst (λ (u : Verdict). Stops stop u) same h) handed

pub then_by : (given v w : Verdict) (result : Result (Unit {0}) Stop) → given ≡ v → given ≡ Checked → Judges w result → Judges (followed_by v w) result
then_by given v w result same passed h = judges_then v w result (sym same ∙ passed) h

pub judges_last : (v : Verdict) (result : Result (Unit {0}) Stop) → Judges v result → Judges (followed_by v Checked) result
judges_last v result h = subst (λ (u : Verdict). Judges u result) (sym (followed_alone v)) h

pub last_by : (given v : Verdict) (result : Result (Unit {0}) Stop) → given ≡ v → Judges given result → Judges (followed_by v Checked) result
last_by given v result same h = judges_last v result (subst (λ (u : Verdict). Judges u result) same h)

pub judges_same : (v w : Verdict) (result : Result (Unit {0}) Stop) → v ≡ w → Judges v result → Judges w result
judges_same v w result same h = subst (λ (u : Verdict). Judges u result) same h

pub stops_next : (stop : Stop) (v w : Verdict) → v ≡ Checked → Stops stop w → Stops stop (followed_by v w)
stops_next stop v w passed h = subst (λ (u : Verdict). Stops stop (followed_by u w)) (sym passed) h

pub both_pass : (v w : Verdict) → v ≡ Checked → w ≡ Checked → followed_by v w ≡ Checked
both_pass v w first second = (λ i. followed_by (first i) w) ∙ second
