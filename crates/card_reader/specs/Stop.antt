-- What a stop reports, and how the reading of a job stops with its source.
use Rattle.job_devices.specs.declared.reading.SourceStop.{SourceStop}
use Rattle.job_devices.specs.declared.reading.SourceStop.TheVariants as source
use Rattle.card_reader.specs.declared.stop.CardStop.{CardStop}
use Rattle.card_reader.specs.declared.stop.CardStop.TheVariants.{Fault, NoMemory}
use Rattle.card_reader.specs.declared.stop.ReadingFault.{ReadingFault}
use Rattle.card_reader.specs.declared.stop.ReadingFault.TheVariants.{Source}

-- this holds of the fault, if one is reported; memory may run out at any time
abbrev pub IfFault : {F : Type 0} → (F → Type 0) → CardStop F → Type 0
IfFault Holds (Fault found) = Holds found
IfFault Holds NoMemory = Unit {0}

abbrev pub stop_of_source : SourceStop → CardStop ReadingFault
stop_of_source source.Failed = Fault Source
stop_of_source source.NoMemory = NoMemory
