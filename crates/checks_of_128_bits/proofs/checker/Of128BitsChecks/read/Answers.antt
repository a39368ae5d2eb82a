use Rattle.std.proofs.Common.{sym, ◌∙◌}
use Rattle.checks_of_128_bits.proofs.Carried.{word_again, word_read}
use Rattle.checks_of_128_bits.proofs.checker.Of128BitsChecks.read.Goals as goal

pub new-requires : goal.new-requires
new-requires c = word_again c.args.word.now c.in-Some.field-0 (sym c.in-Some.is ∙ c.fraction_in.ensures)

pub returns-in-Some : goal.returns-in-Some
returns-in-Some c = word_read c.args.word.now c.in-Some.field-0 c.new.result (sym c.in-Some.is ∙ c.fraction_in.ensures) c.new.ensures
