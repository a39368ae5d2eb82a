-- What callers see of the devices in memory.
use Rattle.std.specs.Prelude.{ℕ, List, Option, Some, drop, take, option_map}
use Rattle.job_devices.specs.States.{SourceState, SinkState}
use Rattle.job_devices.specs.declared.memory.MemorySource.{MemorySource}
use Rattle.job_devices.specs.declared.memory.MemorySink.{MemorySink}
use Rattle.job_devices.specs.declared.memory.SureSource.{SureSource}
use Rattle.job_devices.specs.declared.memory.SureSink.{SureSink}

-- the bytes that a source in memory still gives
abbrev pub source_left : MemorySource → List ℕ
source_left source = drop source.at source.bytes.items

-- how many bytes a read gives at most
abbrev pub piece_limit : MemorySource → ℕ
piece_limit source = source.piece

-- the numbers of the reads that fail
abbrev pub failing_reads : MemorySource → List ℕ
failing_reads source = source.fails.items

-- how many reads were made
abbrev pub reads_made : MemorySource → ℕ
reads_made source = source.reads

-- how many of them failed
abbrev pub reads_failed : MemorySource → ℕ
reads_failed source = source.faults

-- the bytes that a source that never fails still gives
abbrev pub sure_left : SureSource → List ℕ
sure_left source = drop source.at source.bytes.items

-- what was written
abbrev pub sink_bytes : MemorySink → List ℕ
sink_bytes sink = sink.bytes.items

-- the numbers of the writes that fail
abbrev pub failing_writes : MemorySink → List ℕ
failing_writes sink = sink.fails.items

-- how many writes were made
abbrev pub writes_made : MemorySink → ℕ
writes_made sink = sink.writes

-- how many of them failed
abbrev pub writes_failed : MemorySink → ℕ
writes_failed sink = sink.faults

-- how many found no memory
abbrev pub writes_refused : MemorySink → ℕ
writes_refused sink = sink.refusals

-- what was written when a write last stopped
abbrev pub sink_stopped : MemorySink → Option (List ℕ)
sink_stopped sink = option_map (λ count. take count sink.bytes.items) sink.stopped

-- what was written to a sink that never fails
abbrev pub sure_bytes : SureSink → List ℕ
sure_bytes sink = sink.bytes.items

-- what was written when a write to it last found no memory
abbrev pub sure_stopped : SureSink → Option (List ℕ)
sure_stopped sink = option_map (λ count. take count sink.bytes.items) sink.stopped

-- what each of them shows
abbrev pub source_state : MemorySource → SourceState
source_state source = record { left = Some (source_left source); faults = reads_failed source }

abbrev pub sure_source_state : SureSource → SourceState
sure_source_state source = record { left = Some (sure_left source); faults = 0 }

abbrev pub sink_state : MemorySink → SinkState
sink_state sink = record { written = Some (sink_bytes sink); faults = writes_failed sink; refusals = writes_refused sink; stopped_at = sink_stopped sink }

abbrev pub sure_sink_state : SureSink → SinkState
sure_sink_state sink = record { written = Some (sure_bytes sink); faults = 0; refusals = sink.refusals; stopped_at = sure_stopped sink }
