use Rattle.std.proofs.Common.{◌≡◌, ◌≤◌, ◌-◌, length}
use Rattle.std.specs.Io.KnownBytes.{Consumes}
use Rattle.job_devices.proofs.reading.read_up_to.Given as goal

abbrev pub invariant-loop-piece : goal.invariant-loop-piece
invariant-loop-piece g l = record {
  bytes : Consumes (g.S.Source.given l.fn.source).left (g.S.Source.given l.source).left l.bytes.items;
  short : length l.bytes.items ≤ l.most;
  quiet : (g.S.Source.given l.source).faults ≡ (g.S.Source.given l.fn.source).faults;
}

abbrev pub decreases-loop-piece : goal.decreases-loop-piece
decreases-loop-piece g l = l.most - length l.bytes.items
