use Rattle.lp_definitions.specs.LinearProgram.{value_at}
use Rattle.walk_definitions.specs.Tests.{slack_steps}
use Rattle.certificate_check.proofs.Each.{EachLeft}
use Rattle.listing_words.specs.Read.{sheet_view}
use Rattle.checks_of_128_bits.proofs.solution_tests.check_slacks.Given as goal

-- the slacks so far are right
abbrev pub invariant-loop-i : goal.invariant-loop-i
invariant-loop-i l = EachLeft (slack_steps (sheet_view l.sheet) (value_at l.point) (value_at l.slacks)) l.sheet.lp.now.rows l.i
