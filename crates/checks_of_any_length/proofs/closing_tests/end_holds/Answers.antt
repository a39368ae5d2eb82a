use Rattle.checks_of_any_length.proofs.Claiming.{ends_shown}
use Rattle.checks_of_any_length.proofs.closing_tests.end_holds.Goals as goal

pub returns : goal.returns
returns c = λ l is. ends_shown c.args.value.now l c.args.most c.in_ok-holds.holds (c.in_ok-holds.ensures c.args.value.now l c.in_ok-own.ensures is)
