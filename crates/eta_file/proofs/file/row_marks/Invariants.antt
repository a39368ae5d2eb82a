use Rattle.std.proofs.Common.{◌≡◌, map, leb}
use Rattle.lp_definitions.specs.LinearProgram.{numbers_from}
use Rattle.eta_file.proofs.file.row_marks.Given as goal

-- the marks so far
abbrev pub invariant-loop-k : goal.invariant-loop-k
invariant-loop-k l = l.marks.items ≡ map (λ k. leb k l.lp.matrix.rows) (numbers_from 1 l.k)
