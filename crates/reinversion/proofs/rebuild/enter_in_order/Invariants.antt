use Rattle.std.proofs.Common.{◌≡◌, length}
use Rattle.lp_definitions.specs.LinearProgram.{size}
use Rattle.reinversion.specs.Rebuilt.{IsRebuilt}
use Rattle.reinversion.proofs.rebuild.enter_in_order.Given as goal

-- some columns are in
abbrev pub invariant-loop-entering : goal.invariant-loop-entering
invariant-loop-entering l = record {
  rebuilt : IsRebuilt l.old.matrix l.old.basics 0 l.new;
  places : length l.workspace ≡ size l.old.matrix;
  wholes : length l.wholes ≡ size l.old.matrix;
}
