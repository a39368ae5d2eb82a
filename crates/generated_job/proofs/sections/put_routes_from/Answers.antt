use Rattle.std.proofs.Common.{rules}
use Rattle.deck_definitions.specs.Written.{card_text}
use Rattle.deck_definitions.specs.Transport.{up_to, route_cards}
use Rattle.job_devices.proofs.TextLemmas.{writes_same}
use Rattle.generated_job.proofs.Numbered.{some_cards_each}
use Rattle.generated_job.proofs.sections.put_routes_from.Goals as goal

pub returns : goal.returns
returns g c =
    writes_same (some_cards_each (λ j. route_cards c.args.from j) (up_to c.args.n))
    (c.put_numbered.ensures (λ j. card_text (route_cards c.args.from j)) (λ before number result after low met. search rules))
