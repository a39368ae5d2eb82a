-- The exit codes of a check, and the status of what a listing is found to be.
--     code_of status               the exit code
--     cut_status stop              the status where the print takes no more
--     status_of answer             that of what a listing is found to be
use Rattle.std.specs.Prelude.{ℕ, Option, Some, None}
use Rattle.job_devices.specs.declared.device.WriteStop.{WriteStop}
use Rattle.job_devices.specs.declared.device.WriteStop.TheVariants.{Failed, NoMemory}
use Rattle.walk_definitions.specs.Walker as walks
use Rattle.listing_check.specs.declared.status.CheckStatus.{CheckStatus}
use Rattle.listing_check.specs.declared.status.CheckStatus.TheVariants.{Attested, Words, ReadFault, PrintFault, ListingFault, Memory, Wrong, Open, Unchecked}
use Rattle.listing_check.specs.declared.status.CheckStatus.TheVariants.{Long}

abbrev pub code_of : CheckStatus → ℕ
code_of Attested = 0
code_of Words = 4
code_of ReadFault = 24
code_of PrintFault = 25
code_of ListingFault = 27
code_of Memory = 28
code_of Wrong = 40
code_of Open = 41
code_of Unchecked = 42
code_of Long = 43

abbrev pub cut_status : WriteStop → CheckStatus
cut_status Failed = PrintFault
cut_status NoMemory = Memory

abbrev pub status_of : Option walks.Found → CheckStatus
status_of None = Long
status_of (Some (walks.Attested reports)) = Attested
status_of (Some (walks.Wrong rest)) = Wrong
status_of (Some (walks.Open rest)) = Open
status_of (Some (walks.Unchecked rest)) = Unchecked
