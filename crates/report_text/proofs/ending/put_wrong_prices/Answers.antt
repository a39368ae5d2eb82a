use Rattle.std.proofs.Common.{ap, ◌∷◌, [], codes}
use Rattle.std.specs.List.{concat}
use Rattle.listing_definitions.specs.Numbers.{digits}
use Rattle.listing_definitions.specs.Listing.{fault_text}
use Rattle.job_devices.proofs.TextLemmas.{writes_same}
use Rattle.report_text.proofs.ending.put_wrong_prices.Goals as goal

pub returns : goal.returns
returns g c =
    writes_same (ap
    (λ n. concat
    (codes "STOP 10 VERB " ∷ fault_text n c.args.card ∷ codes " VARIABLE " ∷ digits c.args.variable ∷ codes "\n" ∷ [])) c.verb_fault_number.ensures)
    c.put_fault_at.ensures
