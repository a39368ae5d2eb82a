use Rattle.std.proofs.Common.{◌≡◌, ap, sym, subst, ◌∙◌}
use Rattle.card_definitions.specs.Fields.{word_text}
use Rattle.card_definitions.proofs.FreeWords.{IsWordText}
use Rattle.revise_definitions.specs.Actions.{short_name}
use Rattle.revise_deck.proofs.FreeAnchors.{word_text-is, short-name}
use Rattle.revise_deck.proofs.sections.free_anchor.Goals as goal

pub returns : goal.returns
returns c =
    let card = c.args.card.bytes.now in
    let word : c.word_text.result.now ≡ word_text card 1 = c.word_text.ensures card c.free_words.ensures in
    short-name c.of.result c.word_text.result.now
    (subst IsWordText (sym word) (word_text-is card 1 c.args.card.printable)) c.of.ensures.is_name c.of.ensures.value ∙ ap short_name word
