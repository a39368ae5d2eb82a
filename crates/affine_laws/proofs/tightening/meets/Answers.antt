use Rattle.affine_laws.proofs.tightening.meets.Goals as goal

pub returns-then-at_most : goal.returns-then-at_most
returns-then-at_most c = rw c.if-at_most.true c.is_at_most.ensures

pub returns : goal.returns
returns c = rw c.if-at_most.false c.is_at_most-2.ensures
