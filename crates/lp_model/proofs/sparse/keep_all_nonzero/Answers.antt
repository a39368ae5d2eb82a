use Rattle.std.proofs.Common.{rules, ◌≡◌, ◌∙◌, ◌++◌, ◌+◌, ap, ◌∷◌, [], not, true, false, refl}
use Rattle.exact_values.specs.Rational.{zero_ℚ}
use Rattle.exact_values.specs.Tests.{eq_ℚ}
use Rattle.lp_definitions.specs.LinearProgram.{value_at}
use Rattle.lp_model.proofs.NonzeroLists.{grown_then, grown_else}
use Rattle.lp_model.proofs.sparse.keep_all_nonzero.Goals as goal
use Rattle.lp_model.proofs.sparse.keep_all_nonzero.Goals.{then-is_nonzero+in_ok-map_err, else-is_nonzero}

pub loop-place-preserved : goal.loop-place-preserved
loop-place-preserved c = elim c.if-is_nonzero.branch [
  | then-is_nonzero+in_ok-map_err w ↦
      (let pushed : w.push.new.self.items ≡ c.loop-place.kept.items ++ ((c.loop-place.place + 1) ∷ []) = search rules in
      let passes : not (eq_ℚ (value_at c.args.values.now (c.loop-place.place + 1)) zero_ℚ) ≡ true = search rules in
      ap (λ v. v.items) w.kept-is ∙ pushed
      ∙ grown_then (λ k. not (eq_ℚ (value_at c.args.values.now k) zero_ℚ)) c.args.kept.now.items c.loop-place.kept.items c.loop-place.place
      (c.loop-place.place + 1) refl c.loop-place.invariant passes)
  | else-is_nonzero w ↦
      (let fails : not (eq_ℚ (value_at c.args.values.now (c.loop-place.place + 1)) zero_ℚ) ≡ false = search rules in
      ap (λ v. v.items) w.kept-is
      ∙ grown_else (λ k. not (eq_ℚ (value_at c.args.values.now k) zero_ℚ)) c.args.kept.now.items c.loop-place.kept.items c.loop-place.place
      (c.loop-place.place + 1) refl c.loop-place.invariant fails)
]
