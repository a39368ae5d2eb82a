use Rattle.std.proofs.Common.{◌-◌, ◌+◌, arith}
use Rattle.std.specs.List.{flat_map}
use Rattle.std.proofs.lemmas.Result.{err_from_is_err_and}
use Rattle.job_devices.proofs.TextLemmas.{writes_then, writes_more, writes_same}
use Rattle.lp_definitions.specs.LinearProgram.{numbers_from}
use Rattle.listing_tables.specs.Tables.{line_view}
use Rattle.listing_tables.proofs.Tables.{line_next, lines_around}
use Rattle.listing_tables.proofs.table.put_table.Goals as goal

pub returns-in_err-put_table_line : goal.returns-in_err-put_table_line
returns-in_err-put_table_line g c =
    let p = err_from_is_err_and c.from_residual.result c.from_residual.ensures.1 in
    rw (p.1, p.2) (writes_same (lines_around (line_view c.args.sheet c.args.table) c.args.first c.loop-k.k c.args.last (omega arith) (omega arith))
    (writes_more (flat_map (line_view c.args.sheet c.args.table) (numbers_from (c.loop-k.k + 2) (c.args.last - (c.loop-k.k + 1))))
    (writes_then c.loop-k.invariant c.in_err-put_table_line.ensures)))

pub loop-k-preserved : goal.loop-k-preserved
loop-k-preserved g c =
    writes_same (line_next (line_view c.args.sheet c.args.table) c.args.first c.loop-k.k (omega arith))
    (writes_then c.loop-k.invariant c.in_ok-put_table_line.ensures)
