use Rattle.std.proofs.Common.{◌≡◌, length}
use Rattle.lp_definitions.specs.LinearProgram.{size}
use Rattle.reinversion.specs.Rebuilt.{IsRebuilt}
use Rattle.reinversion.proofs.rebuild.rebuild.Given as goal

-- the columns so far are through
abbrev pub invariant-loop-c : goal.invariant-loop-c
invariant-loop-c l = record {
  rebuilt : IsRebuilt l.old.matrix l.old.basics l.c l.new;
  places : length l.workspace ≡ size l.old.matrix;
  wholes : length l.wholes ≡ size l.old.matrix;
}
