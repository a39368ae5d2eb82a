use Rattle.std.proofs.Common.{◌≡◌, length}
use Rattle.card_definitions.specs.Cards.{is_blank}
use Rattle.card_definitions.specs.Words.{without_trailing}
use Rattle.card_reader.proofs.blanks.without_blanks.Given as goal

abbrev pub invariant-loop-rest : goal.invariant-loop-rest
invariant-loop-rest l = without_trailing is_blank l.rest ≡ without_trailing is_blank l.columns

abbrev pub decreases-loop-rest : goal.decreases-loop-rest
decreases-loop-rest l = length l.rest
