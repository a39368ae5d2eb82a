-- What a check begins with.
--     IsStartOf bytes start        the program of these bytes, or why there is none
--     IsWhole stop                 a job that is stopped so is read whole
use Rattle.std.specs.Prelude.{◌≡◌, ℕ, List, Some, None, Err}
use Rattle.card_definitions.specs.Cards.{cards_of, job_fault}
use Rattle.control_definitions.specs.Compiled.{compiled}
use Rattle.job_program.specs.declared.stop.EarlyStop.{EarlyStop}
use Rattle.job_program.specs.declared.stop.EarlyStop.TheVariants as stops
use Rattle.job_program.specs.Stops.{ArePrepared}
use Rattle.listing_check.specs.declared.start.Start.{Start}
use Rattle.listing_check.specs.declared.start.Start.TheVariants.{Program, Card, Control}

abbrev pub IsStartOf : List ℕ → Start → Type 0
IsStartOf bytes (Program prepared) = ArePrepared (Some bytes) prepared
IsStartOf bytes (Card fault) = job_fault bytes ≡ Some fault
IsStartOf bytes (Control fault) = (job_fault bytes ≡ None) × (compiled (cards_of bytes) ≡ Err fault)

abbrev pub IsWhole : EarlyStop → Type 0
IsWhole (stops.Card fault) = Unit {0}
IsWhole (stops.Control fault) = Unit {0}
IsWhole stop = ⊥
