use Rattle.std.proofs.Common.{◌≡◌, drop}
use Rattle.lp_definitions.specs.LinearProgram.{on_row}
use Rattle.long_programs.proofs.programs.number_on.Given as goal

-- none of the numbers so far is on the row
abbrev pub invariant-loop-entry : goal.invariant-loop-entry
invariant-loop-entry l = on_row l.column l.row ≡ on_row (drop l.entry-index l.column) l.row
