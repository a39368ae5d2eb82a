use Rattle.std.proofs.Common.{Ok, map, take}
use Rattle.std.specs.List.{flat_map, enumerate_from}
use Rattle.job_devices.specs.Text.{Writes}
use Rattle.listing_definitions.specs.Text.{interval_text}
use Rattle.report_text.specs.Parametric.{interval_view}
use Rattle.report_text.proofs.parametric.put_intervals.Given as goal

abbrev pub invariant-loop-index : goal.invariant-loop-index
invariant-loop-index g l =
    Writes {T = Unit {0}} (g.P.Sink.taken l.fn.print) (g.P.Sink.taken l.print) (Ok tt)
    (flat_map interval_text (take l.index (enumerate_from 1 (map (interval_view l.sheet) l.parts))))
