use Rattle.std.proofs.Common.{◌≡◌, length, drop}
use Rattle.lp_model.proofs.NonzeroLists.{IsCleared}
use Rattle.lp_model.proofs.sparse.clear.Given as goal

abbrev pub invariant-loop-k : goal.invariant-loop-k
invariant-loop-k l = (length l.values ≡ length l.fn.values) × IsCleared l.fn.values l.values (drop l.k-index l.listed)
