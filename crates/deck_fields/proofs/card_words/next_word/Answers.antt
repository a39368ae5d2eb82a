use Rattle.std.proofs.Common.{length, drop, take, ◌-◌, ◌+◌, refl, sym, subst, arith}
use Rattle.deck_fields.specs.WordsViewed.{AreWordsBefore}
use Rattle.deck_fields.proofs.WordsBefore.{rest_is, before-blank, before-word}
use Rattle.deck_fields.proofs.card_words.next_word.Goals.{then-len-gt0, else-len-gt0}
use Rattle.deck_fields.proofs.card_words.next_word.Goals as goal

pub returns-clause-before : goal.returns-clause-before
returns-clause-before c = elim c.if-len-gt0.branch [
  | then-len-gt0 w ↦ subst (λ found. AreWordsBefore found c.args.card.now (c.args.start + c.first_blank-len.result + 1)) (sym w.found-is)
      (before-word _ _ c.args.card.now
      (take (length c.args.card.now - c.args.start) (drop c.args.start c.args.card.now)) c.args.start c.first_blank-len.result _
      (rest_is c.args.start c.args.card.now) c.first_blank-len.ensures.length c.first_blank-len.ensures.bound w.if-len-gt0.true
      (omega (arith, c.requires.inside, c.requires.short)) refl refl w.add_word.ensures.count w.add_word.ensures.items c.requires.before)
  | else-len-gt0 w ↦ subst (λ found. AreWordsBefore found c.args.card.now (c.args.start + c.first_blank-len.result + 1)) (sym w.found-is)
      (before-blank c.args.found.now c.args.card.now
      (take (length c.args.card.now - c.args.start) (drop c.args.start c.args.card.now)) c.args.start c.first_blank-len.result
      (rest_is c.args.start c.args.card.now) c.first_blank-len.ensures.length c.first_blank-len.ensures.bound w.if-len-gt0.false c.requires.before)
]
