use Rattle.std.proofs.Common.{◌-◌, ◌≤◌}
use Rattle.lp_definitions.specs.LinearProgram.{size}
use Rattle.listing_words.specs.Read.{sheet_view}
use Rattle.listing_claims.specs.Numbers.{number_in}
use Rattle.listing_readers.proofs.Multipliers.{IsRaySoFar}
use Rattle.listing_readers.proofs.rays.ray.Given as goal

abbrev pub invariant-loop-k : goal.invariant-loop-k
invariant-loop-k g l =
    (l.k ≤ l.count) × IsRaySoFar (number_in g.T.Checks.checker l.fn.by) (sheet_view l.fn.sheet) l.fn.cursor l.k
    (size l.fn.sheet.lp.now.matrix - l.k) l.cursor l.ray.items
