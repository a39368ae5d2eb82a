use Rattle.std.proofs.Common.{rules, ◌≡◌, ◌++◌, ◌∷◌, [], ◌∙◌, ltb}
use Rattle.rates_dense.proofs.opening.opening_marks.Goals as goal
use Rattle.lp_laws.proofs.Marks.{marked_more}

pub loop-k-preserved : goal.loop-k-preserved
loop-k-preserved c =
    let pushed : c.push.new.self.items ≡ c.loop-k.marks.items ++ (ltb c.loop-k.k c.lp.inside.rows ∷ []) = search rules in
    pushed ∙ rw (← c.lp.view_is) (marked_more c.lp.inside.rows c.loop-k.k c.loop-k.marks.items (rw (← c.lp.view_is) at c.loop-k.invariant))
