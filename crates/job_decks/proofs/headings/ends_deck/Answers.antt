use Rattle.std.proofs.Common.{◌∙◌}
use Rattle.job_decks.proofs.FirstWords.{ends}
use Rattle.job_decks.proofs.headings.ends_deck.Goals as goal

pub returns : goal.returns
returns c = λ number. c.has_word.ensures ∙ ends number c.args.card.bytes.now
