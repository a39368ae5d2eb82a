use Rattle.std.proofs.Common.{rules, ◌≡◌, ◌∙◌, ◌++◌, ◌∷◌, [], sym, ap, subst, List, ℕ, ℤ, filter, drop, length}
use Rattle.std.specs.Int.{w128}
use Rattle.std.proofs.lemmas.Int.{to_z-of_z}
use Rattle.frac128.proofs.Parts.{read}
use Rattle.exact_values.specs.Rational.{ℚ}
use Rattle.lp_model.specs.Sparse.{AreNonzeroFrom, over}
use Rattle.lp_model.proofs.NonzeroLists.{kept_nonzero}
use Rattle.lp_model.proofs.PutLists.{front_taken, none_of_nothing, is_some}
use Rattle.lp_model.proofs.sparse.SparseVector.put_over.Goals as goal

pub invariant_of-self : goal.invariant_of-self
invariant_of-self c =
    let same : read c.args.denominator ≡ c.args.denominator = to_z-of_z w128 c.args.denominator (search rules) in
    let long : c.take-values.result.len ≡ length c.put_around.new.values = search rules in
    let whole = front_taken c.put_around.new.values (drop (length c.put_around.new.values) c.take-values.result.items) c.take-values.result.len long
    ∙ c.in-Ok.ensures.values ∙ ap (λ (d : ℤ). over d c.args.numbers.now) same in
    let none : c.self.inside.nonzero.items ≡ [] =
    none_of_nothing c.self.inside.nonzero.items
    (subst (λ (ys : List ℚ). AreNonzeroFrom ys 1 c.self.inside.nonzero.items) (c.self.view_is ∙ c.take-values.ensures.none) c.self.invariant) in
    let kept : c.put_around.new.kept.items ≡ filter (is_some (over c.args.denominator c.args.numbers.now)) (c.args.before.now ++ c.args.k ∷ c.args.after.now) =
    c.in-Ok.ensures.kept ∙ ap (λ (ls : List ℕ). ls ++ filter (is_some (over (read c.args.denominator) c.args.numbers.now)) (c.args.before.now
    ++ c.args.k ∷ c.args.after.now)) none
    ∙ ap (λ (d : ℤ). filter (is_some (over d c.args.numbers.now)) (c.args.before.now ++ c.args.k ∷ c.args.after.now)) same in
    subst (λ (ys : List ℚ). AreNonzeroFrom ys 1 c.put_around.new.kept.items) (sym whole)
    (subst (AreNonzeroFrom (over c.args.denominator c.args.numbers.now) 1) (sym kept)
    (kept_nonzero (over c.args.denominator c.args.numbers.now) 1 (c.args.before.now ++ c.args.k ∷ c.args.after.now) c.requires.covered))

pub returns-in-Ok-clause-values : goal.returns-in-Ok-clause-values
returns-in-Ok-clause-values c =
    let same : read c.args.denominator ≡ c.args.denominator = to_z-of_z w128 c.args.denominator (search rules) in
    let long : c.take-values.result.len ≡ length c.put_around.new.values = search rules in
    front_taken c.put_around.new.values (drop (length c.put_around.new.values) c.take-values.result.items) c.take-values.result.len long
    ∙ c.in-Ok.ensures.values ∙ ap (λ (d : ℤ). over d c.args.numbers.now) same
