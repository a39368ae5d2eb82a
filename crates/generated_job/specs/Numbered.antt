-- What is written of numbers.
use Rattle.std.specs.Borrow.{MutBor}
use Rattle.std.specs.Prelude.{ℕ, ◌<◌, List, Result}
use Rattle.job_devices.specs.States.{SinkState}
use Rattle.job_devices.specs.Text.{Writes}
use Rattle.job_devices.specs.declared.device.WriteStop.{WriteStop}

-- what is asked of calls that write something of a number below 1000: each writes this text of it
abbrev pub WritesOfNumbers : {P : Type 0} → (P → SinkState) → (MutBor P → ℕ → Result (Unit {0}) WriteStop → MutBor P → Type 0) → (ℕ → List ℕ) → Type 0
WritesOfNumbers taken puts text =
    (before : MutBor _) (number : ℕ) (result : Result (Unit {0}) WriteStop) (after : MutBor _) → number < 1000 → puts before number result after →
    Writes (taken before.now) (taken after.now) result (text number)
