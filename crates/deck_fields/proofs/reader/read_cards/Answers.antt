use Rattle.std.proofs.Common.{◌≡◌, ◌+◌, ◌≤◌, ◌∷◌, [], sym, ap, subst, ◌∙◌, arith}
use Rattle.std.proofs.lemmas.Result.{err_from_is_err_and}
use Rattle.card_definitions.specs.Cards.{live}
use Rattle.card_definitions.proofs.Numbered.{live-append}
use Rattle.deck_definitions.specs.declared.Section.TheVariants.{Endata}
use Rattle.deck_definitions.specs.Sections.{is_section_after}
use Rattle.deck_definitions.specs.Conversion.{first_faulty}
use Rattle.deck_definitions.specs.Readings.{ArePrintableCards}
use Rattle.deck_fields.proofs.Between.{cards_up_to, cards_more, nothing_yet, next_printable}
use Rattle.deck_fields.proofs.FirstFaulty.{next_fine, stop_at, unended}
use Rattle.deck_fields.proofs.reader.read_cards.Goals as goal

pub loop-number-init : goal.loop-number-init
loop-number-init g c =
    let nothing = nothing_yet c.args.first c.args.cards.now in
    record {
      made = subst (g.D.Draft.is_made_of c.args.draft.now c.args.draft.now) (ap live (sym nothing)) c.requires.start;
      no_fault = ap (λ cards. first_faulty (g.D.Draft.test c.args.draft.now) [] (live cards)) nothing;
      printable = subst ArePrintableCards (sym nothing) tt;
    }

pub loop-number-preserved : goal.loop-number-preserved
loop-number-preserved g c =
    let cards = c.args.cards.now in
    let seen = cards_up_to c.args.first c.loop-number.number cards in
    record {
      made = subst (g.D.Draft.is_made_of c.args.draft.now c.read_card.new.draft)
          (sym (live-append seen (record { number = c.loop-number.number; bytes = c.card.result.bytes.now } ∷ []))
          ∙ ap live (sym
          (cards_more c.args.first c.loop-number.number cards c.card.result.bytes.now c.requires.from_one c.loop-number.auto.number c.card.ensures)))
          (c.in_ok-read_card.ensures.made c.args.draft.now (live seen) c.loop-number.invariant.made);
      no_fault =
          next_fine (g.D.Draft.test c.args.draft.now) c.args.first c.loop-number.number cards c.card.result.bytes.now c.requires.from_one
          c.loop-number.auto.number c.card.ensures c.loop-number.invariant.no_fault
          (c.in_ok-read_card.ensures.no_fault c.args.draft.now (live seen) c.loop-number.invariant.made);
      printable =
          next_printable c.args.first c.loop-number.number cards c.card.result.bytes.now c.requires.from_one c.loop-number.auto.number c.card.ensures
          c.loop-number.invariant.printable c.card.result.printable;
    }

pub returns-in_err-read_card-clause-stop : goal.returns-in_err-read_card-clause-stop
returns-in_err-read_card-clause-stop g c =
    let below : c.loop-number.number ≤ c.args.last = omega (arith, c.min-end.ensures) in
    let seen = cards_up_to c.args.first c.loop-number.number c.args.cards.now in
    let p = err_from_is_err_and c.from_residual.result c.from_residual.ensures.1 in
    rw (p.1, p.2)
    (stop_at (g.D.Draft.test c.args.draft.now) c.args.first c.loop-number.number c.args.cards.now c.card.result.bytes.now c.requires.from_one
    c.loop-number.auto.number c.card.ensures
    c.loop-number.invariant.no_fault c.args.last _ below
    (c.in_err-read_card.ensures.stop c.args.draft.now (live seen) c.loop-number.invariant.made))

pub returns-then-not-is_ended-clause-stop : goal.returns-then-not-is_ended-clause-stop
returns-then-not-is_ended-clause-stop g c =
    let ordered : c.args.first ≤ c.min-end.result + 1 = omega (arith, c.min-end.ensures, c.requires.ordered, c.requires.within, c.count.ensures.count) in
    let all : c.loop-number.number ≡ c.args.last + 1 =
    omega (
      arith,
      c.min-end.ensures,
      c.requires.ordered,
      c.requires.within,
      c.count.ensures.count,
      c.loop-number-test.false,
      c.loop-number.auto.number-end
          ordered,
    ) in
    let end = ap (λ number. live (cards_up_to c.args.first number c.args.cards.now)) all in
    unended (g.D.Draft.test c.args.draft.now) c.args.first c.args.last c.args.cards.now c.requires.from_one c.requires.ordered c.requires.within
    (ap (first_faulty (g.D.Draft.test c.args.draft.now) []) (sym end) ∙ c.loop-number.invariant.no_fault)
    (ap (is_section_after Endata) (sym end)
    ∙ sym (c.is_ended.ensures c.args.draft.now (live (cards_up_to c.args.first c.loop-number.number c.args.cards.now)) c.loop-number.invariant.made)
    ∙ c.if-not-is_ended.true)
