-- The card at a place.
use Rattle.std.proofs.Common.{◌≡◌, ℕ, ◌<◌, List, length, slice_index_or, slice_get, Some, sym, ◌∙◌, ap, subst, arith}
use Rattle.std.proofs.lemmas.List.{get_or-map, length-map}
use Rattle.std.proofs.lemmas.Option.{slice_get-get_or}
use Rattle.card_reader.specs.Spans.{cards_at, span_bytes, AreSpans, IsFaultless}
use Rattle.card_reader.specs.declared.span.Span.{Span}

-- the card of a span has no fault
pub faultless_at : (bytes : List ℕ) (spans : List Span) (k : ℕ) (span : Span) → AreSpans bytes spans → k < length spans → span ≡ slice_index_or spans k span →
    IsFaultless (span_bytes bytes span)
faultless_at bytes spans k span lawful inside is =
    let place : k < length (cards_at bytes spans) = omega (arith, length-map spans (span_bytes bytes)) in
    subst IsFaultless (get_or-map (span_bytes bytes) spans k span (span_bytes bytes span) inside ∙ ap (span_bytes bytes) (sym is))
    (lawful.faultless k (span_bytes bytes span) place)

pub card_at : (bytes : List ℕ) (spans : List Span) (k : ℕ) (span : Span) → k < length spans → span ≡ slice_index_or spans k span →
    slice_get (cards_at bytes spans) k ≡ Some (span_bytes bytes span)
card_at bytes spans k span inside is =
    let place : k < length (cards_at bytes spans) = omega (arith, length-map spans (span_bytes bytes)) in
    slice_get-get_or (cards_at bytes spans) k (span_bytes bytes span) place
    ∙ ap Some (get_or-map (span_bytes bytes) spans k span (span_bytes bytes span) inside ∙ ap (span_bytes bytes) (sym is))
