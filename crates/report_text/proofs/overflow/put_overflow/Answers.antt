use Rattle.std.proofs.Common.{◌++◌, [], ◌∷◌, codes}
use Rattle.std.specs.List.{concat}
use Rattle.std.proofs.lemmas.Result.{err_from_is_err_and}
use Rattle.listing_definitions.specs.Numbers.{digits}
use Rattle.job_devices.proofs.TextLemmas.{writes_then, writes_more, writes_same}
use Rattle.report_text.specs.Views.{evidence_tail, place_text, place_view}
use Rattle.report_text.proofs.Overflows.{overflow_parts}
use Rattle.report_text.proofs.overflow.put_overflow.Goals as goal

pub returns-in_err-put_evidence_head : goal.returns-in_err-put_evidence_head
returns-in_err-put_evidence_head g c =
    let place = place_view c.args.basis c.args.way.now in
    let p = err_from_is_err_and c.from_residual.result c.from_residual.ensures.1 in
    rw (p.1, p.2)
    (writes_same (overflow_parts c.args.evidence.now place c.args.card)
    (writes_more
    (concat (evidence_tail c.args.evidence.now ∷ codes " CARD " ∷ digits c.args.card ∷ codes "\n" ∷ []) ++ place_text place)
    c.in_err-put_evidence_head.ensures))

pub returns-in_err-put_evidence_tail : goal.returns-in_err-put_evidence_tail
returns-in_err-put_evidence_tail g c =
    let place = place_view c.args.basis c.args.way.now in
    let p = err_from_is_err_and c.from_residual-in_err-put_evidence_tail.result c.from_residual-in_err-put_evidence_tail.ensures.1 in
    rw (p.1, p.2)
    (writes_same (overflow_parts c.args.evidence.now place c.args.card)
    (writes_then c.in_ok-put_evidence_head.ensures (writes_more (place_text place) c.in_err-put_evidence_tail.ensures)))

pub returns : goal.returns
returns g c =
    writes_same (overflow_parts c.args.evidence.now (place_view c.args.basis c.args.way.now) c.args.card)
    (writes_then c.in_ok-put_evidence_head.ensures (writes_then c.in_ok-put_evidence_tail.ensures c.put_place.ensures))
