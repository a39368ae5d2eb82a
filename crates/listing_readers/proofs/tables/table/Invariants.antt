use Rattle.std.proofs.Common.{◌+◌, ◌-◌, ◌≤◌}
use Rattle.lp_definitions.specs.LinearProgram.{numbers_from}
use Rattle.listing_words.specs.Read.{sheet_view}
use Rattle.listing_claims.specs.Numbers.{number_in}
use Rattle.listing_readers.proofs.Reading.{IsReadSoFar}
use Rattle.listing_readers.proofs.tables.table.Given as goal

abbrev pub invariant-loop-i : goal.invariant-loop-i
invariant-loop-i g l =
    (l.i ≤ l.fn.count) × IsReadSoFar (number_in g.T.Checks.checker l.fn.by) (sheet_view l.fn.sheet) l.fn.shape
    (numbers_from (l.fn.before + 1) l.fn.count) l.fn.cursor (l.fn.before + l.i + 1) (l.fn.count - l.i) l.cursor l.table.items
