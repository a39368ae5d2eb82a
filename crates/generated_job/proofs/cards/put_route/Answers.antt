use Rattle.std.proofs.Common.{◌≡◌, ℕ, List, ◌++◌, codes, refl, ap, ◌∙◌, sym}
use Rattle.std.proofs.lemmas.List.{append-nil}
use Rattle.std.proofs.lemmas.Result.{err_from_is_err_and}
use Rattle.job_devices.proofs.TextLemmas.{writes_then, writes_more, writes_same}
use Rattle.deck_definitions.specs.Written.{card_text}
use Rattle.deck_definitions.specs.Transport.{route, route_cost, source, destination, item_card, route_cards}
use Rattle.bcd_out.specs.Lines.{line}
use Rattle.generated_job.proofs.cards.put_route.Goals as goal

-- an item of one on a row
abbrev one_on : List ℕ → List ℕ → List ℕ
one_on name row = line (item_card name row 1)

route_text : (i j : ℕ) {name from to : List ℕ} {cost : ℕ} → name ≡ route i j → cost ≡ route_cost i j → from ≡ source i → to ≡ destination j
    → line (item_card name (codes "COST") cost) ++ (one_on name from ++ one_on name to) ≡ card_text (route_cards i j)
route_text i j e c f t =
    (λ k. line (item_card (e k) (codes "COST") (c k)) ++ (one_on (e k) (f k) ++ one_on (e k) (t k)))
    ∙ ap (λ w. line (item_card (route i j) (codes "COST") (route_cost i j)) ++ (one_on (route i j) (source i) ++ w))
    (sym (append-nil (one_on (route i j) (destination j))))

pub returns-in_err-put_item : goal.returns-in_err-put_item
returns-in_err-put_item g c =
    let p = err_from_is_err_and c.from_residual.result c.from_residual.ensures.1 in
    rw (p.1, p.2) (writes_same (route_text c.args.from c.args.to c.route-name.ensures c.route_cost.ensures refl refl)
    (writes_more (one_on c.route-name.result (source c.args.from) ++ one_on c.route-name.result (destination c.args.to)) c.in_err-put_item.ensures))

pub returns-in_err-put_item-2 : goal.returns-in_err-put_item-2
returns-in_err-put_item-2 g c =
    let p = err_from_is_err_and c.from_residual-in_err-put_item-2.result c.from_residual-in_err-put_item-2.ensures.1 in
    rw (p.1, p.2) (writes_same (route_text c.args.from c.args.to c.route-name.ensures c.route_cost.ensures c.source.ensures refl)
    (writes_then c.in_ok-put_item.ensures (writes_more (one_on c.route-name.result (destination c.args.to)) c.in_err-put_item-2.ensures)))

pub returns : goal.returns
returns g c =
    writes_same (route_text c.args.from c.args.to c.route-name.ensures c.route_cost.ensures c.source.ensures c.destination.ensures)
    (writes_then c.in_ok-put_item.ensures (writes_then c.in_ok-put_item-2.ensures c.put_item-3.ensures))
