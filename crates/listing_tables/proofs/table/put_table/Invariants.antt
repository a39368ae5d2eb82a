use Rattle.std.proofs.Common.{◌-◌, ◌+◌, Ok}
use Rattle.std.specs.List.{flat_map}
use Rattle.job_devices.specs.Text.{Writes}
use Rattle.lp_definitions.specs.LinearProgram.{numbers_from}
use Rattle.listing_tables.specs.Tables.{line_view}
use Rattle.listing_tables.proofs.table.put_table.Given as goal

abbrev pub invariant-loop-k : goal.invariant-loop-k
invariant-loop-k g l =
    Writes {T = Unit {0}} (g.P.Sink.taken l.fn.print) (g.P.Sink.taken l.print) (Ok tt)
    (flat_map (line_view l.sheet l.table) (numbers_from (l.first + 1) (l.k - l.first)))
