-- What a verdict lets pass.
--     Stops stop verdict           the verdict stops so; memory may run out at any time
--     Judges verdict result        the verdict lets pass, or stops so
use Rattle.std.specs.Prelude.{◌≡◌, Result, Ok, Err}
use Rattle.check_definitions.specs.declared.Verdict.{Verdict}
use Rattle.check_definitions.specs.declared.Verdict.TheVariants.{Checked, Failed, Unchecked}
use Rattle.listing_claims.specs.declared.claims.Stop.{Stop}
use Rattle.listing_claims.specs.declared.claims.Stop.TheVariants as stops

-- a comparison fails
abbrev pub IsFailed : Verdict → Type 0
IsFailed Checked = ⊥
IsFailed (Failed part number) = Unit {0}
IsFailed (Unchecked refused) = ⊥

-- an operation is refused
abbrev pub IsRefused : Verdict → Type 0
IsRefused Checked = ⊥
IsRefused (Failed part number) = ⊥
IsRefused (Unchecked refused) = Unit {0}

abbrev pub Stops : Stop → Verdict → Type 0
Stops stops.Wrong verdict = IsFailed verdict
Stops stops.Unchecked verdict = IsRefused verdict
Stops stops.NoMemory verdict = Unit {0}

abbrev pub Judges : Verdict → Result (Unit {0}) Stop → Type 0
Judges verdict (Ok done) = verdict ≡ Checked
Judges verdict (Err stop) = Stops stop verdict
