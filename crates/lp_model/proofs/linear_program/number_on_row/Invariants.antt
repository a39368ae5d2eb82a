use Rattle.std.proofs.Common.{◌≡◌, drop}
use Rattle.lp_definitions.specs.LinearProgram.{on_row}
use Rattle.lp_model.proofs.linear_program.number_on_row.Given as goal

abbrev pub invariant-loop-entry : goal.invariant-loop-entry
invariant-loop-entry l = on_row l.entries l.row ≡ on_row (drop l.entry-index l.entries) l.row
