use Rattle.lp_model.proofs.PutLists.{IsPutSoFar}
use Rattle.lp_model.proofs.sparse.put_places.Given as goal

abbrev pub invariant-loop-place : goal.invariant-loop-place
invariant-loop-place l = IsPutSoFar l.fn.denominator l.numbers l.places l.place-index l.values l.listed.items
