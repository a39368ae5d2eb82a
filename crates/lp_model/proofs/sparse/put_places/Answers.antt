use Rattle.std.proofs.Common.{rules, ◌≡◌, ◌∙◌, ◌+◌, ◌-◌, ap, sym, subst, arith, ℤ, pos, List, slice_index_or, slice_set, to_z, of_z, Bool, false, IsTrue}
use Rattle.std.specs.Int.{w128}
use Rattle.std.specs.Prelude.{◌≤ℤ◌}
use Rattle.std.proofs.lemmas.Int.{to_z-of_z}
use Rattle.std.proofs.lemmas.List.{get_or_default}
use Rattle.exact_values.specs.Rational.{ℚ, zero_ℚ}
use Rattle.lp_model.specs.Sparse.{AreNonzeroFrom}
use Rattle.lp_model.proofs.PutLists.{IsPutSoFar, no_place_put, place_zero, place_again, place_put, put_apart, all_places_put}
use Rattle.lp_model.proofs.sparse.put_places.Goals as goal
use Rattle.lp_model.proofs.sparse.put_places.Goals.{then-number-ne0+then-is_zero+in_ok-put_one, else-number-ne0}
use Rattle.lp_model.proofs.sparse.put_places.Goals.{else-number-ne0-via-then-number-ne0+else-is_zero, else-number-ne0-via-else-number-ne0}

not_both : (b : Bool) → b ≡ false → IsTrue b → ⊥
not_both b fails passes = grind (arith, fails, passes)

pub loop-place-init : goal.loop-place-init
loop-place-init c =
    no_place_put (to_z w128 (of_z w128 c.args.denominator)) c.args.numbers.now c.args.places.now c.args.values.now c.args.listed.now.items
    c.requires.lengths c.requires.zero c.requires.none

pub put_one-requires-clause-zero : goal.put_one-requires-clause-zero
put_one-requires-clause-zero c =
    let place : slice_index_or c.args.places.now c.loop-place.place-index 0 + 1 - 1 ≡ slice_index_or c.args.places.now c.loop-place.place-index 0 =
    omega arith in
    let within = c.requires.covered.within c.loop-place.place-index 0 c.loop-place-test.true in
    let there = get_or_default c.loop-place.values (slice_index_or c.args.places.now c.loop-place.place-index 0) zero_ℚ c.index-values-place.result
    (omega (arith, within, c.loop-place.invariant.lengths)) in
    ap (λ j. slice_index_or c.loop-place.values j zero_ℚ) place ∙ there ∙ c.is_zero.ensures.0 c.if-is_zero.true

pub put_one-requires-clause-some : goal.put_one-requires-clause-some
put_one-requires-clause-some c =
    let same : to_z w128 (of_z w128 c.args.denominator) ≡ c.args.denominator = to_z-of_z w128 c.args.denominator (search rules) in
    let some : pos 1 ≤ℤ to_z w128 (of_z w128 c.args.denominator) = subst (λ (z : ℤ). pos 1 ≤ℤ z) (sym same) c.requires.at_least_one in
    put_apart (to_z w128 (of_z w128 c.args.denominator)) c.args.numbers.now some c.args.places.now c.loop-place.place-index c.loop-place.values
    c.loop-place.listed.items c.loop-place.invariant
    (c.requires.covered.within c.loop-place.place-index 0 c.loop-place-test.true) c.requires.fit c.new.result c.new.ensures c.if-number-ne0.true

pub loop-place-preserved : goal.loop-place-preserved
loop-place-preserved c =
    let same : to_z w128 (of_z w128 c.args.denominator) ≡ c.args.denominator = to_z-of_z w128 c.args.denominator (search rules) in
    let d : ℤ = to_z w128 (of_z w128 c.args.denominator) in
    let some : pos 1 ≤ℤ to_z w128 (of_z w128 c.args.denominator) = subst (λ (z : ℤ). pos 1 ≤ℤ z) (sym same) c.requires.at_least_one in
    let within = c.requires.covered.within c.loop-place.place-index 0 c.loop-place-test.true in
    elim c.if-number-ne0.branch [
      | then-number-ne0+then-is_zero+in_ok-put_one w ↦
          (let values : c.if-number-ne0.values ≡
          slice_set c.loop-place.values (slice_index_or c.args.places.now c.loop-place.place-index 0 + 1 - 1) w.new.result = search rules in
          subst (λ (v : List ℚ). IsPutSoFar (to_z w128 (of_z w128 c.args.denominator)) c.args.numbers.now c.args.places.now (c.loop-place.place-index + 1) v
          c.if-number-ne0.listed.items) (sym values)
          (place_put (to_z w128 (of_z w128 c.args.denominator)) c.args.numbers.now some c.args.places.now c.loop-place.place-index c.loop-place.values
          c.loop-place.listed.items c.loop-place.invariant within c.requires.fit w.new.result w.new.ensures c.if-number-ne0.listed.items
          (subst (λ (v : List ℚ). AreNonzeroFrom v 1 c.if-number-ne0.listed.items) values (search rules))))
      | else-number-ne0 w ↦ elim w.else-number-ne0.branch [
        | else-number-ne0-via-then-number-ne0+else-is_zero v ↦
            (let place : slice_index_or c.args.places.now c.loop-place.place-index 0 + 1 - 1 ≡ slice_index_or c.args.places.now c.loop-place.place-index 0 =
            omega arith in
            let there = get_or_default c.loop-place.values (slice_index_or c.args.places.now c.loop-place.place-index 0) zero_ℚ v.index-values-place.result
            (omega (arith, within, c.loop-place.invariant.lengths)) in
            rw (w.values-is, w.listed-is)
            (place_again (to_z w128 (of_z w128 c.args.denominator)) c.args.numbers.now some c.args.places.now c.loop-place.place-index c.loop-place.values
            c.loop-place.listed.items c.loop-place.invariant within c.requires.fit
            (λ e. not_both v.is_zero.result v.if-is_zero.false
            (v.is_zero.ensures.1 (sym there ∙ ap (λ j. slice_index_or c.loop-place.values j zero_ℚ) (sym place) ∙ e)))))
        | else-number-ne0-via-else-number-ne0 v ↦
            (rw (w.values-is, w.listed-is)
            (place_zero (to_z w128 (of_z w128 c.args.denominator)) c.args.numbers.now some c.args.places.now c.loop-place.place-index c.loop-place.values
            c.loop-place.listed.items c.loop-place.invariant within c.requires.fit v.if-number-ne0.false))
      ]
    ]

pub returns-clause-values : goal.returns-clause-values
returns-clause-values c =
    let same : to_z w128 (of_z w128 c.args.denominator) ≡ c.args.denominator = to_z-of_z w128 c.args.denominator (search rules) in
    all_places_put c.args.denominator c.args.numbers.now c.requires.at_least_one c.args.places.now c.loop-place.place-index c.loop-place.values
    c.loop-place.listed.items c.requires.covered (omega (arith, c.loop-place-test.false))
    (subst (λ (z : ℤ). IsPutSoFar z c.args.numbers.now c.args.places.now c.loop-place.place-index c.loop-place.values c.loop-place.listed.items) same
    c.loop-place.invariant)
