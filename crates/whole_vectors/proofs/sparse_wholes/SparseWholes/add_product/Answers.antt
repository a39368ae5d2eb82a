use Rattle.std.proofs.Common.{rules, ◌≡◌, ◌<◌, ◌≤◌, ◌-◌, ◌∙◌, ap, ap₂, subst, length, set, arith}
use Rattle.std.specs.Prelude.{IfSome}
use Rattle.std.specs.Int.{w128}
use Rattle.std.proofs.lemmas.Int.{to_z-of_z}
use Rattle.std.proofs.lemmas.List.{length-map}
use Rattle.exact_values.specs.Rational.{ℚ, whole, ◌+ℚ◌, ◌*ℚ◌}
use Rattle.frac128.proofs.Parts.{read_fitting}
use Rattle.lp_definitions.specs.LinearProgram.{value_at}
use Rattle.whole_vectors.specs.Words.{wholes}
use Rattle.whole_vectors.proofs.Ranked.{sum_there}
use Rattle.whole_vectors.proofs.sparse_wholes.SparseWholes.add_product.Goals as goal

pub returns-clause-number : goal.returns-clause-number
returns-clause-number c =
    let a = c.self.inside in
    let held = c.index-held.result.now in
    let next = c.in_ok-next.next in
    let high : c.args.k ≤ length (wholes a.numbers.items) = rw (← c.self.view_is) at c.requires.high in
    let inside : c.args.k - 1 < length a.numbers.items = omega (arith, high, length-map a.numbers.items whole, c.requires.low) in
    let value : whole next ≡ whole held +ℚ whole c.args.x *ℚ c.args.y =
    c.in_ok-next.ensures.value
    ∙ ap₂ (λ s x. whole s +ℚ whole x *ℚ c.args.y) (to_z-of_z w128 held (search rules)) (to_z-of_z w128 c.args.x c.ranges.x) in
    let sum : whole next ≡ value_at c.args.self.now c.args.k +ℚ whole c.args.x *ℚ c.args.y =
    rw (← c.self.view_is) (sum_there a.numbers.items (c.args.k - 1) held next (whole c.args.x *ℚ c.args.y) inside c.index-held.ensures value) in
    subst (λ (q : ℚ). IfSome c.write.result (λ _. c.write.new.self ≡ set c.args.self.now (c.args.k - 1) q))
    (ap whole (read_fitting next c.in_ok-next.ensures.fits) ∙ sum) c.write.ensures.number
