use Rattle.std.proofs.Common.{codes}
use Rattle.std.proofs.lemmas.Result.{err_from_is_err_and}
use Rattle.job_devices.proofs.TextLemmas.{writes_then, writes_more, writes_same}
use Rattle.bcd_out.specs.Lines.{line}
use Rattle.generated_job.proofs.Deck.{from_demands, from_supplies, from_rhs, from_routes, from_columns, from_destinations, from_sources, deck_text}
use Rattle.generated_job.proofs.job.put_deck.Goals as goal

pub returns-in_err-put_all : goal.returns-in_err-put_all
returns-in_err-put_all g c =
    let p = err_from_is_err_and c.from_residual.result c.from_residual.ensures.1 in
    rw (p.1, p.2) (writes_same (deck_text c.args.n) (writes_more (from_sources c.args.n) c.in_err-put_all.ensures))

pub returns-in_err-put_source_rows : goal.returns-in_err-put_source_rows
returns-in_err-put_source_rows g c =
    let p = err_from_is_err_and c.from_residual-in_err-put_source_rows.result c.from_residual-in_err-put_source_rows.ensures.1 in
    rw (p.1, p.2)
    (writes_same (deck_text c.args.n) (writes_then c.in_ok-put_all.ensures (writes_more (from_destinations c.args.n) c.in_err-put_source_rows.ensures)))

pub returns-in_err-put_destination_rows : goal.returns-in_err-put_destination_rows
returns-in_err-put_destination_rows g c =
    let p = err_from_is_err_and c.from_residual-in_err-put_destination_rows.result c.from_residual-in_err-put_destination_rows.ensures.1 in
    rw (p.1, p.2)
    (writes_same (deck_text c.args.n)
    (writes_then c.in_ok-put_all.ensures
    (writes_then c.in_ok-put_source_rows.ensures (writes_more (from_columns c.args.n) c.in_err-put_destination_rows.ensures))))

pub returns-in_err-put_all-2 : goal.returns-in_err-put_all-2
returns-in_err-put_all-2 g c =
    let p = err_from_is_err_and c.from_residual-in_err-put_all-2.result c.from_residual-in_err-put_all-2.ensures.1 in
    rw (p.1, p.2)
    (writes_same (deck_text c.args.n)
    (writes_then c.in_ok-put_all.ensures
    (writes_then c.in_ok-put_source_rows.ensures
    (writes_then c.in_ok-put_destination_rows.ensures (writes_more (from_routes c.args.n) c.in_err-put_all-2.ensures)))))

pub returns-in_err-put_routes : goal.returns-in_err-put_routes
returns-in_err-put_routes g c =
    let p = err_from_is_err_and c.from_residual-in_err-put_routes.result c.from_residual-in_err-put_routes.ensures.1 in
    rw (p.1, p.2)
    (writes_same (deck_text c.args.n)
    (writes_then c.in_ok-put_all.ensures
    (writes_then c.in_ok-put_source_rows.ensures
    (writes_then c.in_ok-put_destination_rows.ensures
    (writes_then c.in_ok-put_all-2.ensures (writes_more (from_rhs c.args.n) c.in_err-put_routes.ensures))))))

pub returns-in_err-put_all-3 : goal.returns-in_err-put_all-3
returns-in_err-put_all-3 g c =
    let p = err_from_is_err_and c.from_residual-in_err-put_all-3.result c.from_residual-in_err-put_all-3.ensures.1 in
    rw (p.1, p.2)
    (writes_same (deck_text c.args.n)
    (writes_then c.in_ok-put_all.ensures
    (writes_then c.in_ok-put_source_rows.ensures
    (writes_then c.in_ok-put_destination_rows.ensures
    (writes_then c.in_ok-put_all-2.ensures
    (writes_then c.in_ok-put_routes.ensures (writes_more (from_supplies c.args.n) c.in_err-put_all-3.ensures)))))))

pub returns-in_err-put_supplies : goal.returns-in_err-put_supplies
returns-in_err-put_supplies g c =
    let p = err_from_is_err_and c.from_residual-in_err-put_supplies.result c.from_residual-in_err-put_supplies.ensures.1 in
    rw (p.1, p.2)
    (writes_same (deck_text c.args.n)
    (writes_then c.in_ok-put_all.ensures
    (writes_then c.in_ok-put_source_rows.ensures
    (writes_then c.in_ok-put_destination_rows.ensures
    (writes_then c.in_ok-put_all-2.ensures
    (writes_then c.in_ok-put_routes.ensures
    (writes_then c.in_ok-put_all-3.ensures (writes_more (from_demands c.args.n) c.in_err-put_supplies.ensures))))))))

pub returns-in_err-put_demands : goal.returns-in_err-put_demands
returns-in_err-put_demands g c =
    let p = err_from_is_err_and c.from_residual-in_err-put_demands.result c.from_residual-in_err-put_demands.ensures.1 in
    rw (p.1, p.2)
    (writes_same (deck_text c.args.n)
    (writes_then c.in_ok-put_all.ensures
    (writes_then c.in_ok-put_source_rows.ensures
    (writes_then c.in_ok-put_destination_rows.ensures
    (writes_then c.in_ok-put_all-2.ensures
    (writes_then c.in_ok-put_routes.ensures
    (writes_then c.in_ok-put_all-3.ensures
    (writes_then c.in_ok-put_supplies.ensures (writes_more (line (codes "ENDATA")) c.in_err-put_demands.ensures)))))))))

pub returns : goal.returns
returns g c =
    writes_same (deck_text c.args.n)
    (writes_then c.in_ok-put_all.ensures
    (writes_then c.in_ok-put_source_rows.ensures
    (writes_then c.in_ok-put_destination_rows.ensures
    (writes_then c.in_ok-put_all-2.ensures
    (writes_then c.in_ok-put_routes.ensures
    (writes_then c.in_ok-put_all-3.ensures
    (writes_then c.in_ok-put_supplies.ensures (writes_then c.in_ok-put_demands.ensures c.put_all-4.ensures))))))))
