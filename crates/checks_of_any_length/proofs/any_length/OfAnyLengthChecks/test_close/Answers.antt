use Rattle.checks_of_any_length.proofs.any_length.OfAnyLengthChecks.test_close.Goals as goal

pub returns : goal.returns
returns c = c.judged.ensures _ c.in_ok-holds.ensures
