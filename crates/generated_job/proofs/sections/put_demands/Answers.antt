use Rattle.std.proofs.Common.{codes, rules}
use Rattle.deck_definitions.specs.Transport.{up_to, destination, item_card}
use Rattle.job_devices.proofs.TextLemmas.{writes_same}
use Rattle.bcd_out.specs.Lines.{line}
use Rattle.generated_job.proofs.Numbered.{a_card_each}
use Rattle.generated_job.proofs.sections.put_demands.Goals as goal

pub returns : goal.returns
returns g c =
    writes_same (a_card_each (λ j. item_card (codes "RHS") (destination j) 10) (up_to c.args.n))
    (c.put_numbered.ensures (λ j. line (item_card (codes "RHS") (destination j) 10)) (λ before number result after low met. search rules))
