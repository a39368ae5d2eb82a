use Rattle.reinversion.proofs.Keeping.{keeps_through, overflow_through}
use Rattle.reinversion.proofs.Turns.{prepared_few, turn_is}
use Rattle.reinversion.proofs.form.ProductFormRates.exchange.Goals as goal

pub exchange_in_file-requires-clause-pivot : goal.exchange_in_file-requires-clause-pivot
exchange_in_file-requires-clause-pivot c = rw (c.in_ok-reinvert_if_due.ensures.same_matrix, c.in_ok-reinvert_if_due.ensures.same_basics) c.requires.pivot

pub exchange_in_file-requires-clause-not_due : goal.exchange_in_file-requires-clause-not_due
exchange_in_file-requires-clause-not_due c = prepared_few c.args.self.now c.reinvert_if_due.new.self c.in_ok-reinvert_if_due.ensures.prepared

pub returns-clause-turn : goal.returns-clause-turn
returns-clause-turn c =
    turn_is c.exchange_in_file.result c.args.self.now c.reinvert_if_due.new.self c.exchange_in_file.new.self c.args.p c.args.q
    c.in_ok-reinvert_if_due.ensures.prepared
    c.exchange_in_file.ensures.ok c.exchange_in_file.ensures.counted

pub returns-clause-waypoints : goal.returns-clause-waypoints
returns-clause-waypoints c =
    keeps_through c.args.self.now.file c.reinvert_if_due.new.self.file c.exchange_in_file.new.self.file c.in_ok-reinvert_if_due.ensures.same_matrix
    c.in_ok-reinvert_if_due.ensures.same_basics
    c.in_ok-reinvert_if_due.ensures.waypoints c.exchange_in_file.ensures.waypoints

pub returns-clause-overflow : goal.returns-clause-overflow
returns-clause-overflow c =
    overflow_through c.args.self.now.file c.reinvert_if_due.new.self.file c.exchange_in_file.new.self.file c.in_ok-reinvert_if_due.ensures.same_matrix
    c.in_ok-reinvert_if_due.ensures.same_basics
    c.in_ok-reinvert_if_due.ensures.waypoints c.exchange_in_file.result c.args.p c.args.q c.exchange_in_file.ensures.overflow
