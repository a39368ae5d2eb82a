use Rattle.std.proofs.Common.{rules, ◌≡◌, ◌∙◌, ◌-◌, ap, sym, to_z}
use Rattle.std.specs.Int.{w128}
use Rattle.std.proofs.lemmas.Int.{to_z-of_z}
use Rattle.whole_vectors.proofs.Ranked.{put_same}
use Rattle.whole_vectors.proofs.sparse_wholes.SparseWholes.put.Goals as goal

pub returns-then-index-n-clause-number : goal.returns-then-index-n-clause-number
returns-then-index-n-clause-number c =
    let x = c.index.result.now in
    let same : x ≡ c.args.n = sym (to_z-of_z w128 x (search rules)) ∙ ap (to_z w128) c.if-index-n.true ∙ to_z-of_z w128 c.args.n c.ranges.n in
    rw (← c.self.view_is) (put_same c.self.inside.numbers.items (c.args.k - 1) x c.args.n c.index.ensures same)
