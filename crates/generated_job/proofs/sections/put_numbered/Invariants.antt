use Rattle.std.proofs.Common.{ℕ, List, Ok}
use Rattle.std.specs.List.{flat_map}
use Rattle.deck_definitions.specs.Transport.{up_to}
use Rattle.job_devices.specs.Text.{Writes}
use Rattle.generated_job.specs.Numbered.{WritesOfNumbers}
use Rattle.generated_job.proofs.sections.put_numbered.Given as goal

abbrev pub invariant-loop-before : goal.invariant-loop-before
invariant-loop-before g l =
    (lines : ℕ → List ℕ) → WritesOfNumbers g.P.Sink.taken (goal.F-post g l.put) lines →
    Writes {T = Unit {0}} (g.P.Sink.taken l.fn.text) (g.P.Sink.taken l.text) (Ok tt) (flat_map lines (up_to l.before))
