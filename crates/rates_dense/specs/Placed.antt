-- Where the line of a basic is found.
use Rattle.std.specs.Prelude.{◌≡◌, ℕ, ◌-◌, ◌<◌, List, length, slice_index}
use Rattle.std.specs.List.{HoldsAt}
use Rattle.rates_dense.specs.declared.line.Line.{Line}

-- the slot of variable k is that of a line of its own
pub record IsPlaced (slots : List ℕ) (lines : List Line) (k : ℕ) : Type 0 where
  pub within : slice_index slots (k - 1) < length lines
  pub own : HoldsAt (λ line. line.basic ≡ k) lines (slice_index slots (k - 1))
