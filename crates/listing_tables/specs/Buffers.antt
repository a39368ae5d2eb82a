-- What a buffer of text holds.
--     buffer_text b                what was written to it
--     buffer_stopped b             what was written when a piece last found no room, if one has
use Rattle.std.specs.Prelude.{ℕ, List, Option, Some, take, option_map}
use Rattle.job_devices.specs.States.{SinkState}
use Rattle.listing_tables.specs.declared.buffer.TextBuffer.{TextBuffer}

abbrev pub buffer_text : TextBuffer → List ℕ
buffer_text buffer = buffer.bytes.items

abbrev pub buffer_stopped : TextBuffer → Option (List ℕ)
buffer_stopped buffer = option_map (λ count. take count buffer.bytes.items) buffer.stopped

-- what it shows
abbrev pub buffer_state : TextBuffer → SinkState
buffer_state buffer = record { written = Some (buffer_text buffer); faults = 0; refusals = buffer.refusals; stopped_at = buffer_stopped buffer }
