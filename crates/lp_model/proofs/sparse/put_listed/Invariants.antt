use Rattle.lp_model.specs.Sparse.{over}
use Rattle.lp_model.proofs.PutLists.{IsPut}
use Rattle.lp_model.proofs.sparse.put_listed.Given as goal

abbrev pub invariant-loop-candidate : goal.invariant-loop-candidate
invariant-loop-candidate l = IsPut (over l.fn.denominator l.numbers) l.fn.values l.values l.candidates l.candidate-index l.fn.kept.items l.kept.items
