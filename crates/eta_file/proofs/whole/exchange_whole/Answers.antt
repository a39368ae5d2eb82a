use Rattle.std.proofs.Common.{rules, ◌≡◌, ◌-◌, ◌∙◌, refl, sym, ap, set, subst, to_z, of_z}
use Rattle.std.specs.Int.{w128}
use Rattle.std.proofs.lemmas.Int.{to_z-of_z}
use Rattle.exact_values.specs.Rational.{ℚ, whole, zero_ℚ, neg_ℚ, ◌*ℚ◌}
use Rattle.eta_file.specs.Transformations.{IsSubtracted, IsExchanged}
use Rattle.eta_file.proofs.FileLaws.{some_map}
use Rattle.eta_file.proofs.WholeSteps.{exchanged_by}
use Rattle.eta_file.proofs.whole.exchange_whole.Goals as goal

pub returns-clause-exchanged : goal.returns-clause-exchanged
returns-clause-exchanged c =
    let w = c.args.whole.now in
    let taken = c.subtract_whole.new.out in
    let subtracted : IsSubtracted c.args.p c.args.multiple w.entries.items c.args.out.now taken =
    subst (λ xs. IsSubtracted c.args.p c.args.multiple xs c.args.out.now taken) c.deref.ensures.value c.in_ok-subtract_whole.ensures.subtracted in
    let at_q : ℚ = whole (to_z w128 (of_z w128 c.in_ok-opposite.opposite)) in
    let is_at_q : at_q ≡ neg_ℚ (c.args.multiple *ℚ w.scale) =
    ap whole (to_z-of_z w128 c.in_ok-opposite.opposite (search rules)) ∙ c.in_ok-opposite.ensures.value ∙ c.neg.ensures ∙ ap neg_ℚ c.in_ok-at_q.ensures in
    let changed : IsExchanged c.args.p c.args.q c.args.multiple w c.args.out.now (set (set taken (c.args.p - 1) zero_ℚ) (c.args.q - 1) at_q) =
    exchanged_by c.args.p c.args.q c.args.multiple w c.args.out.now taken zero_ℚ at_q c.requires.p_low c.requires.p_high c.requires.q_low c.requires.q_high
    c.subtract_whole.ensures.places subtracted refl is_at_q in
    some_map c.put-2.result (λ _. c.put-2.new.self ≡ set c.put.new.self (c.args.q - 1) at_q)
    (λ _. IsExchanged c.args.p c.args.q c.args.multiple w c.args.out.now c.put-2.new.self)
    (λ u is. subst (λ xs. IsExchanged c.args.p c.args.q c.args.multiple w c.args.out.now xs)
    (sym (is ∙ ap (λ xs. set xs (c.args.q - 1) at_q) c.in_ok-put.ensures.number)) changed)
    c.put-2.ensures.number
