-- What callers see of the listing file.
use Rattle.std.specs.Prelude.{◌≡◌, ℕ, ◌<◌, List, Option, Some, None, length, take}
use Rattle.std.specs.Io.KnownBytes.{Consumes, Keeps, IsAtEnd}
use Rattle.job_devices.specs.Stream.{stream_inner}
use Rattle.job_devices.specs.declared.listing.ListingFile.{ListingFile}
use Rattle.job_devices.specs.declared.stream.Stream.{Stream}

-- the file, where it was opened
abbrev pub listing_file : {R F D : Type 0} → ListingFile R F D → Option (Stream F)
listing_file listing = listing.file

-- how often it has failed
abbrev pub listing_faults : {R F D : Type 0} → ListingFile R F D → ℕ
listing_faults listing = listing.faults

-- what a call leaves in the file, where that was open before: all but the bytes that it gave, none only at the end; and after a fault all
abbrev pub FileGives : {F : Type 0} → (F → Option (List ℕ)) → Option (Stream F) → Option (Stream F) → Option ℕ → List ℕ → Type 0
FileGives remaining None now given buf = Unit
FileGives remaining (Some before) None given buf = ⊥
FileGives remaining (Some before) (Some now) None buf = Keeps (remaining (stream_inner before)) (remaining (stream_inner now))
FileGives remaining (Some before) (Some now) (Some count) buf =
    Consumes (remaining (stream_inner before)) (remaining (stream_inner now)) (take count buf) ×
    (count ≡ 0 → 0 < length buf → IsAtEnd (remaining (stream_inner now)))
