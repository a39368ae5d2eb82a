use Rattle.std.proofs.Common.{Ok, take}
use Rattle.std.specs.List.{flat_map}
use Rattle.job_devices.specs.Text.{Writes}
use Rattle.listing_tables.specs.Values.{value_after_blank}
use Rattle.listing_tables.proofs.line.put_values.Given as goal

abbrev pub invariant-loop-value : goal.invariant-loop-value
invariant-loop-value g l =
    Writes {T = Unit {0}} (g.P.Sink.taken l.fn.print) (g.P.Sink.taken l.print) (Ok tt) (flat_map value_after_blank (take l.value-index l.values))
