-- All columns are read where there are fewer than 72.
use Rattle.control_verbs.proofs.Taken.{all_taken}
use Rattle.control_verbs.proofs.columns.read_columns.Goals as goal

pub returns-then-card-lt-READ_COLUMNS : goal.returns-then-card-lt-READ_COLUMNS
returns-then-card-lt-READ_COLUMNS c = all_taken 72 c.args.card.now c.if-card-lt-READ_COLUMNS.true
