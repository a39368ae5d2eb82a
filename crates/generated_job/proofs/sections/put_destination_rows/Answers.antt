use Rattle.std.proofs.Common.{rules}
use Rattle.problem_definitions.specs.declared.RowKind.TheVariants.{G}
use Rattle.problem_definitions.specs.Problem.{plain_row}
use Rattle.deck_definitions.specs.Written.{row_card}
use Rattle.deck_definitions.specs.Transport.{up_to, destination}
use Rattle.job_devices.proofs.TextLemmas.{writes_same}
use Rattle.bcd_out.specs.Lines.{line}
use Rattle.generated_job.proofs.Numbered.{a_card_each}
use Rattle.generated_job.proofs.sections.put_destination_rows.Goals as goal

pub returns : goal.returns
returns g c =
    writes_same (a_card_each (λ j. row_card (plain_row G (destination j))) (up_to c.args.n))
    (c.put_numbered.ensures (λ j. line (row_card (plain_row G (destination j)))) (λ before number result after low met. search rules))
