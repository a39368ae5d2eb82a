use Rattle.std.proofs.Common.{rules}
use Rattle.std.specs.List.{flat_map}
use Rattle.deck_definitions.specs.Written.{card_text}
use Rattle.deck_definitions.specs.Transport.{up_to, route_cards}
use Rattle.job_devices.proofs.TextLemmas.{writes_same}
use Rattle.generated_job.proofs.Numbered.{some_cards_each}
use Rattle.generated_job.proofs.sections.put_routes.Goals as goal

pub returns : goal.returns
returns g c =
    writes_same (some_cards_each (λ i. flat_map (λ j. route_cards i j) (up_to c.args.n)) (up_to c.args.n))
    (c.put_numbered.ensures (λ i. card_text (flat_map (λ j. route_cards i j) (up_to c.args.n))) (λ before number result after low met. search rules))
