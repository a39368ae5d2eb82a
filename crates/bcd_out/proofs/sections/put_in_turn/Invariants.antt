use Rattle.std.proofs.Common.{ℕ, List, Ok, take}
use Rattle.std.specs.List.{flat_map}
use Rattle.job_devices.specs.Text.{Writes}
use Rattle.bcd_out.specs.Lines.{WritesEach}
use Rattle.bcd_out.proofs.sections.put_in_turn.Given as goal

abbrev pub invariant-loop-item : goal.invariant-loop-item
invariant-loop-item g l =
    (lines : _ → List ℕ) → WritesEach g.P.Sink.taken (goal.F-post g l.put) lines →
    Writes {T = Unit {0}} (g.P.Sink.taken l.fn.punch) (g.P.Sink.taken l.punch) (Ok tt) (flat_map lines (take l.item-index l.items))
