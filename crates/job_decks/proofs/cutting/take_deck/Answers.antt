use Rattle.std.proofs.Common.{◌≡◌, ◌≤◌, ◌+◌, ◌-◌, drop, true, false, ap, sym, ◌∙◌, arith}
use Rattle.deck_definitions.specs.Decks.{decks_of, deck_taken, is_wanted}
use Rattle.card_definitions.specs.Cards.{cards_between, numbered_cards}
use Rattle.job_decks.proofs.Places.{take_first, pass_first, none_taken, first_of_deck}
use Rattle.job_decks.proofs.cutting.take_deck.Goals as goal

pub returns-then-is_wanted-clause-taken : goal.returns-then-is_wanted-clause-taken
returns-then-is_wanted-clause-taken c =
    let cards = c.args.cards.now in
    let deck = c.in-Some.deck in
    let from_one : 1 ≤ deck.first = omega (arith, c.in-Some.ensures.within.0) in
    let first = first_of_deck deck.first deck.last cards c.card.result.bytes.now from_one c.in-Some.ensures.within.1 c.card.ensures in
    let wanted : is_wanted c.args.wanted (cards_between deck.first deck.last cards) ≡ true =
    ap (is_wanted c.args.wanted) first ∙ sym (c.is_wanted.ensures deck.first _) ∙ c.if-is_wanted.true in
    c.loop-deck.invariant.taken ∙ ap (deck_taken c.args.wanted) c.in-Some.ensures.deck
    ∙ take_first c.args.wanted (cards_between deck.first deck.last cards) (decks_of (drop deck.last (numbered_cards cards))) wanted

pub overflow_add-next : goal.overflow_add-next
overflow_add-next c = omega (arith, c.in-Some.ensures.few)

pub loop-deck-preserved : goal.loop-deck-preserved
loop-deck-preserved c =
    let cards = c.args.cards.now in
    let deck = c.in-Some.deck in
    let within = c.in-Some.ensures.within in
    let from_one : 1 ≤ deck.first = omega (arith, within.0) in
    let first = first_of_deck deck.first deck.last cards c.card.result.bytes.now from_one within.1 c.card.ensures in
    let unwanted : is_wanted c.args.wanted (cards_between deck.first deck.last cards) ≡ false =
    ap (is_wanted c.args.wanted) first ∙ sym (c.is_wanted.ensures deck.first _) ∙ c.if-is_wanted.false in
    let after : deck.last ≡ deck.last + 1 - 1 = omega arith in
    record {
      taken = c.loop-deck.invariant.taken ∙ ap (deck_taken c.args.wanted) c.in-Some.ensures.deck
          ∙ pass_first c.args.wanted (cards_between deck.first deck.last cards) (decks_of (drop deck.last (numbered_cards cards))) unwanted
          ∙ ap (λ n. deck_taken c.args.wanted (decks_of (drop n (numbered_cards cards)))) after;
      later = omega (arith, within.0, within.1, c.loop-deck.invariant.later);
      within = omega (arith, within.2);
    }

pub returns-clause-taken : goal.returns-clause-taken
returns-clause-taken c = c.loop-deck.invariant.taken ∙ ap (deck_taken c.args.wanted) c.in_default.ensures.deck ∙ none_taken c.args.wanted
