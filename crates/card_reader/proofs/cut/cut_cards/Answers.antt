use Rattle.std.proofs.Common.{◌≡◌, ◌<◌, ◌+◌, ◌++◌, ◌∷◌, [], length, sym, ◌∙◌, ap, arith}
use Rattle.std.proofs.lemmas.List.{length-append, map-append}
use Rattle.std.proofs.lemmas.List.Elements.{All-push}
use Rattle.std.specs.Option.{option_or}
use Rattle.card_definitions.specs.Cards.{cards_of}
use Rattle.card_reader.specs.Spans.{IsWithin, cards_at, span_bytes}
use Rattle.card_reader.proofs.CardLemmas.{cards_done, cards_left, cards_more, length-cards_at}
use Rattle.card_reader.proofs.FaultLemmas.{fault_of_cards, fault_of_cards-append, faultless, job_fault-cards, job_fault-within}
use Rattle.card_reader.proofs.cut.cut_cards.Goals as goal
use Rattle.card_definitions.specs.declared.TheConstants.{MAX_JOB_CARDS}

pub returns-then-len-eq-MAX_JOB_CARDS-clause-fault : goal.returns-then-len-eq-MAX_JOB_CARDS-clause-fault
returns-then-len-eq-MAX_JOB_CARDS-clause-fault c =
    let bytes = c.args.bytes.now in
    let spans = c.loop-start.spans.items in
    let many : MAX_JOB_CARDS < length (cards_of bytes) =
    omega (
      arith,
      length-cards_at bytes spans,
      cards_left bytes c.loop-start.start
          (cards_at bytes spans) c.loop-start-test.true c.loop-start.invariant.cards,
    ) in
    job_fault-cards bytes many

pub loop-start-preserved : goal.loop-start-preserved
loop-start-preserved c =
    let bytes = c.args.bytes.now in
    let spans = c.loop-start.spans.items in
    let span = c.next_span-next.result.0 in
    let pushed : c.push.new.self.items ≡ spans ++ span ∷ [] = c.in_ok-push.ensures.items in
    let one_more : length c.push.new.self.items ≡ length spans + 1 = ap length pushed ∙ length-append spans (span ∷ []) in
    let number : c.len-in-loop-start.result ≡ length (cards_at bytes spans) + 1 = omega (arith, length-cards_at bytes spans) in
    record {
      cards = rw pushed (cards_more bytes spans span c.loop-start.start c.next_span-next.result.1 c.loop-start.invariant.cards c.next_span-next.ensures.card);
      within = rw pushed (All-push (IsWithin (length bytes)) spans span c.loop-start.invariant.within c.next_span-next.ensures.within);
      few = omega arith;
      fault = c.or-fault.ensures ∙ ap (λ found. option_or found c.fault_of.result) c.loop-start.invariant.fault
          ∙ ap (option_or (fault_of_cards (cards_at bytes spans))) c.fault_of.ensures
          ∙ sym (fault_of_cards-append (cards_at bytes spans) (span_bytes bytes span) c.len-in-loop-start.result number)
          ∙ ap fault_of_cards (sym (map-append (span_bytes bytes) spans (span ∷ []))) ∙ ap (λ list. fault_of_cards (cards_at bytes list)) (sym pushed);
      in_range = c.next_span-next.ensures.in_range;
    }

pub returns-in-Some-clause-fault : goal.returns-in-Some-clause-fault
returns-in-Some-clause-fault c =
    let bytes = c.args.bytes.now in
    let spans = c.loop-start.spans.items in
    let cards = cards_at bytes spans in
    let all = cards_done bytes c.loop-start.start cards c.loop-start-test.false c.loop-start.invariant.cards in
    job_fault-within bytes cards c.requires (omega (arith, length-cards_at bytes spans)) all ∙ sym c.loop-start.invariant.fault ∙ c.in-Some.is

pub returns-in-None-clause-cards : goal.returns-in-None-clause-cards
returns-in-None-clause-cards c = cards_done c.args.bytes.now c.loop-start.start _ c.loop-start-test.false c.loop-start.invariant.cards

pub returns-in-None-clause-fault : goal.returns-in-None-clause-fault
returns-in-None-clause-fault c =
    let bytes = c.args.bytes.now in
    let spans = c.loop-start.spans.items in
    let cards = cards_at bytes spans in
    let all = cards_done bytes c.loop-start.start cards c.loop-start-test.false c.loop-start.invariant.cards in
    job_fault-within bytes cards c.requires (omega (arith, length-cards_at bytes spans)) all ∙ sym c.loop-start.invariant.fault ∙ c.in-None.is

pub returns-in-None-clause-faultless : goal.returns-in-None-clause-faultless
returns-in-None-clause-faultless c = faultless _ (sym c.loop-start.invariant.fault ∙ c.in-None.is)
