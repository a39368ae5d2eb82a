use Rattle.std.proofs.Common.{Some, sym, ap, ◌∙◌}
use Rattle.checks_of_any_length.proofs.Reading.{long_is_none, other_is_none, text_is_read}
use Rattle.checks_of_any_length.proofs.any_length.OfAnyLengthChecks.read.Goals as goal

pub returns-then-is_long : goal.returns-then-is_long
returns-then-is_long c = sym (long_is_none c.args.word.now (sym c.is_long.ensures ∙ c.if-is_long.true))

pub returns-then-not-branch : goal.returns-then-not-branch
returns-then-not-branch c =
    sym (other_is_none c.args.word.now (sym c.is_long.ensures ∙ c.if-is_long.false) (sym c.in_ok-is_number.ensures ∙ c.if-not-branch.true))

pub returns : goal.returns
returns c =
    ap Some c.new.ensures
    ∙ sym (text_is_read c.args.word.now (sym c.is_long.ensures ∙ c.if-is_long.false) (sym c.in_ok-is_number.ensures ∙ c.if-not-branch.false))
