use Rattle.std.proofs.Common.{◌≡◌, ℕ, ◌+◌, min, take}
use Rattle.std.specs.List.{sum_by}
use Rattle.bcd_out.specs.Lines.{CountsEach, max_counted}
use Rattle.bcd_out.proofs.count.with_each.Given as goal

abbrev pub invariant-loop-item : goal.invariant-loop-item
invariant-loop-item g l =
    (size : _ → ℕ) → CountsEach (goal.F-post g l.cards) size → l.total ≡ min (l.count + sum_by size (take l.item-index l.items)) max_counted
