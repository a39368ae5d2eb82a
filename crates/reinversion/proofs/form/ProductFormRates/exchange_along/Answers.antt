use Rattle.std.proofs.Common.{Ok}
use Rattle.reinversion.proofs.Keeping.{keeps_through}
use Rattle.reinversion.proofs.Turns.{turn_is}
use Rattle.reinversion.proofs.form.ProductFormRates.exchange_along.Goals as goal

pub returns-clause-turn : goal.returns-clause-turn
returns-clause-turn c =
    turn_is (Ok tt) c.args.self.now c.reinvert_if_due.new.self c.exchange_in_file_along.new.self c.args.p c.args.q c.in_ok-reinvert_if_due.ensures.prepared
    c.in_ok-exchange_in_file_along.ensures.ok c.in_ok-exchange_in_file_along.ensures.counted

pub returns-clause-waypoints : goal.returns-clause-waypoints
returns-clause-waypoints c =
    keeps_through c.args.self.now.file c.reinvert_if_due.new.self.file c.exchange_in_file_along.new.self.file c.in_ok-reinvert_if_due.ensures.same_matrix
    c.in_ok-reinvert_if_due.ensures.same_basics
    c.in_ok-reinvert_if_due.ensures.waypoints c.exchange_in_file_along.ensures.waypoints
