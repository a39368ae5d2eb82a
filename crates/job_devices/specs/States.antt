-- What a device shows of itself.
use Rattle.std.specs.Prelude.{ℕ, List, Option, None}

-- a source: the bytes that reads give from here on, where it tells them, and how often a read has failed
pub record SourceState : Type 0 where
  pub left : Option (List ℕ)
  pub faults : ℕ

-- a sink: the bytes written so far, where it tells them; how often a write has failed, and how often one found no memory; and what was
-- written when a write last stopped, where one has and the sink tells it
pub record SinkState : Type 0 where
  pub written : Option (List ℕ)
  pub faults : ℕ
  pub refusals : ℕ
  pub stopped_at : Option (List ℕ)

-- devices that tell nothing of the bytes
abbrev pub untold_source : ℕ → SourceState
untold_source faults = record { left = None; faults = faults }

abbrev pub untold_sink : ℕ → SinkState
untold_sink faults = record { written = None; faults = faults; refusals = 0; stopped_at = None }
