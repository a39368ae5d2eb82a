-- What callers see of the punch file.
use Rattle.std.specs.Prelude.{ℕ, List, Option, Some, None, take}
use Rattle.std.specs.Io.KnownBytes.{Appends}
use Rattle.job_devices.specs.Text.{AppendsPrefix}
use Rattle.job_devices.specs.Stream.{stream_inner}
use Rattle.job_devices.specs.declared.punch.PunchFile.{PunchFile}
use Rattle.job_devices.specs.declared.stream.Stream.{Stream}

-- the file, where it was created
abbrev pub punch_file : {R F D : Type 0} → PunchFile R F D → Option (Stream F)
punch_file punch = punch.file

-- how often it has failed
abbrev pub punch_faults : {R F D : Type 0} → PunchFile R F D → ℕ
punch_faults punch = punch.faults

-- what a call leaves in the file, where that was there before: all that it took, and after a fault a prefix of it
abbrev pub FileTakes : {F : Type 0} → (F → Option (List ℕ)) → Option (Stream F) → Option (Stream F) → Option ℕ → List ℕ → Type 0
FileTakes contents None now taken piece = Unit
FileTakes contents (Some before) None taken piece = ⊥
FileTakes contents (Some before) (Some now) None piece = AppendsPrefix (contents (stream_inner before)) (contents (stream_inner now)) piece
FileTakes contents (Some before) (Some now) (Some taken) piece = Appends (contents (stream_inner before)) (contents (stream_inner now)) (take taken piece)
