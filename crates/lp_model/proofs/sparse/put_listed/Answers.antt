use Rattle.std.proofs.Common.{rules, ◌≡◌, ◌∙◌, ◌++◌, ◌∷◌, [], ◌+◌, ◌-◌, ap, sym, subst, arith, ℕ, ℤ, pos, List, slice_index_or, slice_set, to_z, of_z}
use Rattle.std.specs.Int.{w128}
use Rattle.std.specs.Prelude.{unsigned_abs, ◌≤ℤ◌}
use Rattle.std.proofs.lemmas.Int.{to_z-of_z}
use Rattle.exact_values.specs.Rational.{ℚ, fraction}
use Rattle.frac128.proofs.Parts.{read}
use Rattle.lp_model.specs.Sparse.{over}
use Rattle.lp_model.proofs.PutLists.{IsPut, next_put, next_zero, all_own}
use Rattle.lp_model.proofs.sparse.put_listed.Goals as goal
use Rattle.lp_model.proofs.sparse.put_listed.Goals.{then-number-ne0+in_ok-map_err, else-number-ne0, After-from_residual}

-- the number of the candidate is put in
put_next : (c : After-from_residual) → IsPut (over c.args.denominator c.args.numbers.now) c.args.values.now
    (slice_set c.loop-candidate.values (slice_index_or c.args.candidates.now c.loop-candidate.candidate-index 0 - 1) c.new.result) c.args.candidates.now
    (c.loop-candidate.candidate-index + 1) c.args.kept.now.items
    (c.loop-candidate.kept.items ++ slice_index_or c.args.candidates.now c.loop-candidate.candidate-index 0 ∷ [])
put_next c =
    let same : to_z w128 (of_z w128 c.args.denominator) ≡ c.args.denominator = to_z-of_z w128 c.args.denominator (search rules) in
    next_put c.args.denominator c.args.numbers.now c.requires.at_least_one c.args.values.now c.loop-candidate.values c.args.candidates.now
    c.loop-candidate.candidate-index c.args.kept.now.items c.loop-candidate.kept.items
    (subst (λ (d : ℤ). IsPut (over d c.args.numbers.now) c.args.values.now c.loop-candidate.values c.args.candidates.now
    c.loop-candidate.candidate-index c.args.kept.now.items c.loop-candidate.kept.items) same c.loop-candidate.invariant) c.loop-candidate-test.true
    c.requires.places c.requires.fit c.requires.candidates c.new.result
    (c.new.ensures ∙ ap (λ (d : ℤ). fraction (read (slice_index_or c.args.numbers.now
    (slice_index_or c.args.candidates.now c.loop-candidate.candidate-index 0 - 1) (pos 0))) (unsigned_abs d)) same) c.if-number-ne0.true

pub returns-in_err-map_err-clause-partly : goal.returns-in_err-map_err-clause-partly
returns-in_err-map_err-clause-partly c = (put_next c).partly

pub returns-in_err-map_err-clause-others : goal.returns-in_err-map_err-clause-others
returns-in_err-map_err-clause-others c = (put_next c).others

pub loop-candidate-preserved : goal.loop-candidate-preserved
loop-candidate-preserved c = elim c.if-number-ne0.branch [
  | then-number-ne0+in_ok-map_err w ↦
      (let same : to_z w128 (of_z w128 c.args.denominator) ≡ c.args.denominator = to_z-of_z w128 c.args.denominator (search rules) in
      let some : pos 1 ≤ℤ to_z w128 (of_z w128 c.args.denominator) = subst (λ (z : ℤ). pos 1 ≤ℤ z) (sym same) c.requires.at_least_one in
      let pushed : w.push.new.self.items ≡ c.loop-candidate.kept.items ++ slice_index_or c.args.candidates.now c.loop-candidate.candidate-index 0 ∷ [] =
      search rules in
      subst (λ (v : List ℚ). IsPut (over (to_z w128 (of_z w128 c.args.denominator)) c.args.numbers.now) c.args.values.now v c.args.candidates.now
      (c.loop-candidate.candidate-index + 1) c.args.kept.now.items c.if-number-ne0.kept.items) (sym w.values-is)
      (subst (λ (v : List ℕ). IsPut (over (to_z w128 (of_z w128 c.args.denominator)) c.args.numbers.now) c.args.values.now
      (slice_set c.loop-candidate.values (slice_index_or c.args.candidates.now c.loop-candidate.candidate-index 0 - 1) w.new.result) c.args.candidates.now
      (c.loop-candidate.candidate-index + 1) c.args.kept.now.items v) (sym (ap (λ v. v.items) w.kept-is ∙ pushed))
      (next_put (to_z w128 (of_z w128 c.args.denominator)) c.args.numbers.now some c.args.values.now c.loop-candidate.values c.args.candidates.now
      c.loop-candidate.candidate-index c.args.kept.now.items c.loop-candidate.kept.items c.loop-candidate.invariant c.loop-candidate-test.true
      c.requires.places c.requires.fit c.requires.candidates w.new.result w.new.ensures w.if-number-ne0.true)))
  | else-number-ne0 w ↦
      (let same : to_z w128 (of_z w128 c.args.denominator) ≡ c.args.denominator = to_z-of_z w128 c.args.denominator (search rules) in
      let some : pos 1 ≤ℤ to_z w128 (of_z w128 c.args.denominator) = subst (λ (z : ℤ). pos 1 ≤ℤ z) (sym same) c.requires.at_least_one in
      subst (λ (v : List ℚ). IsPut (over (to_z w128 (of_z w128 c.args.denominator)) c.args.numbers.now) c.args.values.now v c.args.candidates.now
      (c.loop-candidate.candidate-index + 1) c.args.kept.now.items c.if-number-ne0.kept.items) (sym w.values-is)
      (subst (λ (v : List ℕ). IsPut (over (to_z w128 (of_z w128 c.args.denominator)) c.args.numbers.now) c.args.values.now
      c.loop-candidate.values c.args.candidates.now
      (c.loop-candidate.candidate-index + 1) c.args.kept.now.items v) (sym (ap (λ v. v.items) w.kept-is))
      (next_zero (to_z w128 (of_z w128 c.args.denominator)) c.args.numbers.now some c.args.values.now c.loop-candidate.values c.args.candidates.now
      c.loop-candidate.candidate-index c.args.kept.now.items c.loop-candidate.kept.items c.loop-candidate.invariant c.loop-candidate-test.true
      c.requires.places c.requires.fit c.requires.candidates w.if-number-ne0.false)))
]

pub returns-clause-own : goal.returns-clause-own
returns-clause-own c =
    let same : to_z w128 (of_z w128 c.args.denominator) ≡ c.args.denominator = to_z-of_z w128 c.args.denominator (search rules) in
    (all_own (over c.args.denominator c.args.numbers.now) c.args.values.now c.loop-candidate.values c.args.candidates.now c.loop-candidate.candidate-index
    c.args.kept.now.items c.loop-candidate.kept.items
    (subst (λ (d : ℤ). IsPut (over d c.args.numbers.now) c.args.values.now c.loop-candidate.values c.args.candidates.now
    c.loop-candidate.candidate-index c.args.kept.now.items c.loop-candidate.kept.items) same c.loop-candidate.invariant)
    (omega (arith, c.loop-candidate-test.false))).0

pub returns-clause-kept : goal.returns-clause-kept
returns-clause-kept c =
    let same : to_z w128 (of_z w128 c.args.denominator) ≡ c.args.denominator = to_z-of_z w128 c.args.denominator (search rules) in
    (all_own (over c.args.denominator c.args.numbers.now) c.args.values.now c.loop-candidate.values c.args.candidates.now c.loop-candidate.candidate-index
    c.args.kept.now.items c.loop-candidate.kept.items
    (subst (λ (d : ℤ). IsPut (over d c.args.numbers.now) c.args.values.now c.loop-candidate.values c.args.candidates.now
    c.loop-candidate.candidate-index c.args.kept.now.items c.loop-candidate.kept.items) same c.loop-candidate.invariant)
    (omega (arith, c.loop-candidate-test.false))).1
