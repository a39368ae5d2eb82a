-- What one read and one write of a device do.
use Rattle.std.specs.Prelude.{◌≡◌, ℕ, List, length, Result, IfOk}
use Rattle.std.specs.Io.{ReadsAtMost, WritesAtMost}
use Rattle.std.specs.Io.KnownBytes.{ReadConsumes, WriteAppends}
use Rattle.job_devices.specs.Causes.{HasReadCause, HasWriteCause, KeepsStop}
use Rattle.job_devices.specs.States.{SourceState, SinkState}
use Rattle.job_devices.specs.declared.device.Failed.{Failed}
use Rattle.job_devices.specs.declared.device.WriteStop.{WriteStop}

-- A read gives at most as many bytes as there is room for, and they are the next ones. One that fails takes nothing away, and is
-- counted.
pub record IsRead (old new : SourceState) (result : Result ℕ Failed) (buf : List ℕ) : Type 0 where
  pub bound : ReadsAtMost result buf
  pub bytes : ReadConsumes old.left new.left result buf
  pub cause : HasReadCause old new result

-- A write appends a prefix of the piece, which is empty only where the piece is. One that stops appends nothing, and its cause is
-- counted.
pub record IsWrite (old new : SinkState) (result : Result ℕ WriteStop) (piece : List ℕ) : Type 0 where
  pub bound : WritesAtMost result piece
  pub some : IfOk result (λ count. count ≡ 0 → length piece ≡ 0)
  pub bytes : WriteAppends old.written new.written result piece
  pub cause : HasWriteCause old new result
  pub stopped : KeepsStop old new result
