-- The first argument ends at the first comma outside quotes.
use Rattle.control_verbs.proofs.Outside.{first_part_cut}
use Rattle.control_verbs.proofs.parts.split_argument.Goals as goal

pub returns-then-comma-text-clause-parts : goal.returns-then-comma-text-clause-parts
returns-then-comma-text-clause-parts c = first_part_cut c.place_outside-comma.result c.args.text.now c.place_outside-comma.ensures.place c.if-comma-text.true
