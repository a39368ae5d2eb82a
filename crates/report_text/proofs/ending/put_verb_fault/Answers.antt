use Rattle.std.proofs.Common.{ap, ◌∷◌, [], codes}
use Rattle.std.specs.List.{concat}
use Rattle.listing_definitions.specs.Listing.{fault_text}
use Rattle.job_devices.proofs.TextLemmas.{writes_same}
use Rattle.report_text.proofs.ending.put_verb_fault.Goals as goal

pub returns : goal.returns
returns g c =
    writes_same (ap (λ n. concat (codes "STOP 10 VERB " ∷ fault_text n c.args.card ∷ codes "\n" ∷ [])) c.verb_fault_number.ensures) c.put_fault.ensures
