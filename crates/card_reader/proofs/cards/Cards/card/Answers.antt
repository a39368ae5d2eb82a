use Rattle.std.proofs.Common.{◌-◌, ◌<◌, length, take, drop, slice_get, Some, ◌∙◌, ap, sym, arith}
use Rattle.std.proofs.lemmas.List.{length-map}
use Rattle.card_reader.specs.Spans.{span_bytes}
use Rattle.card_reader.proofs.CardRead.{faultless_at, card_at}
use Rattle.card_reader.proofs.cards.Cards.card.Goals as goal

pub new-requires-clause-printable : goal.new-requires-clause-printable
new-requires-clause-printable c =
    let bytes = c.self.inside.bytes.items in
    let spans = c.self.inside.spans.items in
    let inside : c.args.n - 1 < length spans =
    omega (arith, c.requires.first, c.requires.last, ap length c.self.view_is, length-map spans (span_bytes bytes)) in
    rw c.deref.ensures.value (faultless_at bytes spans (c.args.n - 1) c.index-span.result.now c.self.invariant inside c.index-span.ensures).printable

pub new-requires-clause-short : goal.new-requires-clause-short
new-requires-clause-short c =
    let bytes = c.self.inside.bytes.items in
    let spans = c.self.inside.spans.items in
    let inside : c.args.n - 1 < length spans =
    omega (arith, c.requires.first, c.requires.last, ap length c.self.view_is, length-map spans (span_bytes bytes)) in
    rw c.deref.ensures.value (faultless_at bytes spans (c.args.n - 1) c.index-span.result.now c.self.invariant inside c.index-span.ensures).short

pub returns : goal.returns
returns c =
    let bytes = c.self.inside.bytes.items in
    let spans = c.self.inside.spans.items in
    let inside : c.args.n - 1 < length spans =
    omega (arith, c.requires.first, c.requires.last, ap length c.self.view_is, length-map spans (span_bytes bytes)) in
    ap (λ cards. slice_get cards (c.args.n - 1)) (sym c.self.view_is)
    ∙ card_at bytes spans (c.args.n - 1) c.index-span.result.now inside c.index-span.ensures
    ∙ ap Some (ap (λ list. take (c.index-span.result.now.end - c.index-span.result.now.start) (drop c.index-span.result.now.start list))
    (sym c.deref.ensures.value) ∙ sym c.new.ensures)
