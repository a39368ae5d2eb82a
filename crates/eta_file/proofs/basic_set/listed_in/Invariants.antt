use Rattle.std.proofs.Common.{◌≡◌, filter}
use Rattle.lp_definitions.specs.LinearProgram.{numbers_from}
use Rattle.lp_definitions.specs.Basis.{is_in}
use Rattle.eta_file.proofs.basic_set.listed_in.Given as goal

-- those of the places so far
abbrev pub invariant-loop-place : goal.invariant-loop-place
invariant-loop-place l = l.listed.items ≡ filter (is_in l.marks) (numbers_from 1 l.place)
