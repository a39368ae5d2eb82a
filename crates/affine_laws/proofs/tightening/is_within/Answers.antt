use Rattle.affine_laws.proofs.tightening.is_within.Goals as goal

pub returns-then-high : goal.returns-then-high
returns-then-high c = rw c.if-high.true c.is_at_most.ensures

pub returns : goal.returns
returns c = rw c.if-high.false c.is_at_most-2.ensures
