-- What a test answers of a verdict.
--     Answers holds verdict        the verdict lets pass where the test holds, and else a comparison of it fails
use Rattle.std.specs.Prelude.{◌≡◌, Bool, true, false}
use Rattle.check_definitions.specs.declared.Verdict.{Verdict}
use Rattle.check_definitions.specs.declared.Verdict.TheVariants.{Checked}
use Rattle.listing_claims.specs.Passing.{IsFailed}

abbrev pub Answers : Bool → Verdict → Type 0
Answers true verdict = verdict ≡ Checked
Answers false verdict = IsFailed verdict
