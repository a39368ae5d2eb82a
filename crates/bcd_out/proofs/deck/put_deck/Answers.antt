use Rattle.std.proofs.Common.{◌∙◌, refl, codes}
use Rattle.std.proofs.lemmas.Result.{err_from_is_err_and}
use Rattle.job_devices.proofs.TextLemmas.{writes_then, writes_more, writes_same}
use Rattle.bcd_out.proofs.Texts.{from_rows, from_columns, from_rhs, from_ranges, from_bounds, deck_text_of}
use Rattle.bcd_out.specs.Lines.{line}
use Rattle.bcd_out.proofs.deck.put_deck.Goals as goal

pub returns-in_err-put_name : goal.returns-in_err-put_name
returns-in_err-put_name g c =
    let p = err_from_is_err_and c.from_residual.result c.from_residual.ensures.1 in
    rw (p.1, p.2)
    (writes_same
    (deck_text_of c.args.problem.now
    (c.bytes.ensures.bytes ∙ c.name-name.ensures.name) c.rows-rows.ensures.rows c.columns-columns.ensures.columns refl refl refl)
    (writes_more
    (from_rows c.rows-rows.result.now c.columns-columns.result.now c.args.problem.now.rhs c.args.problem.now.ranges c.args.problem.now.bounds)
    c.in_err-put_name.ensures))

pub returns-in_err-put_rows : goal.returns-in_err-put_rows
returns-in_err-put_rows g c =
    let p = err_from_is_err_and c.from_residual-in_err-put_rows.result c.from_residual-in_err-put_rows.ensures.1 in
    rw (p.1, p.2)
    (writes_same
    (deck_text_of c.args.problem.now
    (c.bytes.ensures.bytes ∙ c.name-name.ensures.name) c.rows-rows.ensures.rows c.columns-columns.ensures.columns refl refl refl)
    (writes_then c.in_ok-put_name.ensures
    (writes_more
    (from_columns c.rows-rows.result.now c.columns-columns.result.now c.args.problem.now.rhs c.args.problem.now.ranges c.args.problem.now.bounds)
    c.in_err-put_rows.ensures)))

pub returns-in_err-put_columns : goal.returns-in_err-put_columns
returns-in_err-put_columns g c =
    let p = err_from_is_err_and c.from_residual-in_err-put_columns.result c.from_residual-in_err-put_columns.ensures.1 in
    rw (p.1, p.2)
    (writes_same
    (deck_text_of c.args.problem.now
    (c.bytes.ensures.bytes ∙ c.name-name.ensures.name) c.rows-rows.ensures.rows c.columns-columns.ensures.columns refl refl refl)
    (writes_then c.in_ok-put_name.ensures
    (writes_then c.in_ok-put_rows.ensures
    (writes_more
    (from_rhs c.rows-rows.result.now c.columns-columns.result.now c.args.problem.now.rhs c.args.problem.now.ranges c.args.problem.now.bounds)
    c.in_err-put_columns.ensures))))

pub returns-in_err-put_value_section : goal.returns-in_err-put_value_section
returns-in_err-put_value_section g c =
    let p = err_from_is_err_and c.from_residual-in_err-put_value_section.result c.from_residual-in_err-put_value_section.ensures.1 in
    rw (p.1, p.2)
    (writes_same
    (deck_text_of c.args.problem.now
    (c.bytes.ensures.bytes ∙ c.name-name.ensures.name) c.rows-rows.ensures.rows c.columns-columns.ensures.columns c.rhs.ensures.rhs refl refl)
    (writes_then c.in_ok-put_name.ensures
    (writes_then c.in_ok-put_rows.ensures
    (writes_then c.in_ok-put_columns.ensures
    (writes_more
    (from_ranges c.rows-rows.result.now c.columns-columns.result.now c.args.problem.now.ranges c.args.problem.now.bounds)
    c.in_err-put_value_section.ensures)))))

pub returns-in_err-put_value_section-2 : goal.returns-in_err-put_value_section-2
returns-in_err-put_value_section-2 g c =
    let p = err_from_is_err_and c.from_residual-in_err-put_value_section-2.result c.from_residual-in_err-put_value_section-2.ensures.1 in
    rw (p.1, p.2)
    (writes_same
    (deck_text_of c.args.problem.now
    (c.bytes.ensures.bytes
    ∙ c.name-name.ensures.name) c.rows-rows.ensures.rows c.columns-columns.ensures.columns c.rhs.ensures.rhs c.ranges-2.ensures.ranges refl)
    (writes_then c.in_ok-put_name.ensures
    (writes_then c.in_ok-put_rows.ensures
    (writes_then c.in_ok-put_columns.ensures
    (writes_then c.in_ok-put_value_section.ensures
    (writes_more
    (from_bounds c.columns-columns.result.now c.args.problem.now.bounds) c.in_err-put_value_section-2.ensures))))))

pub returns-in_err-put_bound_section : goal.returns-in_err-put_bound_section
returns-in_err-put_bound_section g c =
    let p = err_from_is_err_and c.from_residual-in_err-put_bound_section.result c.from_residual-in_err-put_bound_section.ensures.1 in
    rw (p.1, p.2)
    (writes_same
    (deck_text_of c.args.problem.now
    (c.bytes.ensures.bytes
    ∙ c.name-name.ensures.name) c.rows-rows.ensures.rows c.columns-columns.ensures.columns c.rhs.ensures.rhs c.ranges-2.ensures.ranges
    c.bounds.ensures.bounds) (writes_then c.in_ok-put_name.ensures (writes_then c.in_ok-put_rows.ensures (writes_then c.in_ok-put_columns.ensures
    (writes_then c.in_ok-put_value_section.ensures (writes_then c.in_ok-put_value_section-2.ensures (writes_more (line (codes "ENDATA"))
    c.in_err-put_bound_section.ensures)))))))

pub returns : goal.returns
returns g c =
    writes_same (deck_text_of c.args.problem.now
    (c.bytes.ensures.bytes
    ∙ c.name-name.ensures.name) c.rows-rows.ensures.rows c.columns-columns.ensures.columns c.rhs.ensures.rhs c.ranges-2.ensures.ranges
    c.bounds.ensures.bounds) (writes_then c.in_ok-put_name.ensures (writes_then c.in_ok-put_rows.ensures (writes_then c.in_ok-put_columns.ensures
    (writes_then c.in_ok-put_value_section.ensures (writes_then c.in_ok-put_value_section-2.ensures (writes_then c.in_ok-put_bound_section.ensures
    (c.put_all.ensures)))))))
