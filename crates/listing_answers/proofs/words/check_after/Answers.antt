use Rattle.std.proofs.Common.{ap, ◌∙◌}
use Rattle.listing_words.specs.Read.{taken}
use Rattle.listing_answers.proofs.Chains.{check_after_text}
use Rattle.listing_answers.proofs.words.check_after.Goals as goal

pub returns : goal.returns
returns c =
    check_after_text c.args.text.now c.args.cursor.now c.take.new.self c.check.new.cursor c.check.result
    (c.take.ensures.taken ∙ ap (λ b. taken b c.take.new.self) c.if-not-take.false) c.check.ensures
