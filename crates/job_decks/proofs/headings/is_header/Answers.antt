use Rattle.std.proofs.Common.{◌∙◌}
use Rattle.job_decks.proofs.FirstWords.{heads}
use Rattle.job_decks.proofs.headings.is_header.Goals as goal

pub returns : goal.returns
returns c = λ number. c.has_word.ensures ∙ heads number c.args.card.bytes.now
