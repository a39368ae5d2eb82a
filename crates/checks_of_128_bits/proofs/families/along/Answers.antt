use Rattle.std.proofs.Common.{◌≡◌, ◌<◌, ◌+◌, ◌++◌, ◌∷◌, [], map, length, ap, ap₂, sym, subst, ◌∙◌, arith, rules}
use Rattle.std.specs.Prelude.{Vec}
use Rattle.std.specs.declared.alloc.Global.{Global}
use Rattle.exact_values.specs.Rational.{ℚ, ◌+ℚ◌, ◌*ℚ◌}
use Rattle.frac128.specs.declared.Frac.{Frac}
use Rattle.lp_definitions.specs.LinearProgram.{numbers_from, size}
use Rattle.lp_laws.proofs.Places.{value_next}
use Rattle.check_definitions.specs.declared.Verdict.{Verdict}
use Rattle.check_definitions.specs.Steps.{verdict_of}
use Rattle.simplex_definitions.specs.Chain.{along}
use Rattle.certificate_check.proofs.Each.{each_left}
use Rattle.walk_definitions.specs.Tests.{along_steps}
use Rattle.listing_words.specs.Read.{sheet_view}
use Rattle.listing_claims.specs.Passing.{Stops}
use Rattle.checks_of_128_bits.specs.Making.{IsAlong}
use Rattle.checks_of_128_bits.proofs.Passing.{made_handed, each_stops, each_goes_on, each_ends}
use Rattle.checks_of_128_bits.proofs.Limits.{one_more, along_step, along_same}
use Rattle.checks_of_128_bits.proofs.families.along.Goals as goal

pub loop-i-init : goal.loop-i-init
loop-i-init c = record {
  made = c.new-made.ensures.items;
  left = each_left (along_step c.args.theta c.args.value.now c.args.rate.now) (size c.args.sheet.lp.now.matrix);
}

pub returns-in_err-next : goal.returns-in_err-next
returns-in_err-next c =
    let p = c.args.sheet.lp.now in
    let value = c.args.value.now in
    let rate = c.args.rate.now in
    let below : c.loop-i.i < size p.matrix = omega (arith, c.loop-i-test.true, c.number_of_variables-i-end.ensures.size) in
    let in_value : c.loop-i.i < length value = omega (arith, below, c.requires.value_places) in
    let in_rate : c.loop-i.i < length rate = omega (arith, below, c.requires.rate_places) in
    let stop = c.in_err-next.field-0.0 in
    made_handed {X = Vec Frac Global} (λ made. IsAlong p c.args.theta value rate made.items)
    (verdict_of (along_steps (sheet_view c.args.sheet) c.args.theta value rate)) c.from_residual.result stop
    (each_stops (along_step c.args.theta value rate) (size p.matrix) c.loop-i.i stop c.loop-i.invariant.left below
    (subst (λ (v : Verdict). Stops stop v)
    (along_same c.args.theta value rate (c.loop-i.i + 1) c.index-value-place.result c.index-rate-place.result
    (sym (value_next value c.loop-i.i c.index-value-place.result in_value c.index-value-place.is))
    (sym (value_next rate c.loop-i.i c.index-rate-place.result in_rate c.index-rate-place.is)))
    c.in_err-next.ensures))
    c.from_residual.ensures.1

pub loop-i-preserved : goal.loop-i-preserved
loop-i-preserved c =
    let p = c.args.sheet.lp.now in
    let value = c.args.value.now in
    let rate = c.args.rate.now in
    let below : c.loop-i.i < size p.matrix = omega (arith, c.loop-i-test.true, c.number_of_variables-i-end.ensures.size) in
    let in_value : c.loop-i.i < length value = omega (arith, below, c.requires.value_places) in
    let in_rate : c.loop-i.i < length rate = omega (arith, below, c.requires.rate_places) in
    let is_value = sym (value_next value c.loop-i.i c.index-value-place.result in_value c.index-value-place.is) in
    let is_rate = sym (value_next rate c.loop-i.i c.index-rate-place.result in_rate c.index-rate-place.is) in
    let pushed : c.push.new.self.items ≡ c.loop-i.made.items ++ (c.in_ok-next.next ∷ []) = search rules in
    record {
      made =
          pushed
          ∙ one_more (along c.args.theta value rate) c.loop-i.made.items c.loop-i.i c.in_ok-next.next c.loop-i.invariant.made
          (c.in_ok-next.ensures.1 ∙ ap₂ (λ (v r : ℚ). v +ℚ c.args.theta *ℚ r) is_value is_rate);
      left =
          each_goes_on (along_step c.args.theta value rate) (size p.matrix) c.loop-i.i c.loop-i.invariant.left below
          (sym (along_same c.args.theta value rate (c.loop-i.i + 1) c.index-value-place.result c.index-rate-place.result is_value is_rate)
          ∙ c.in_ok-next.ensures.0);
    }

pub returns : goal.returns
returns c =
    let p = c.args.sheet.lp.now in
    let all : c.loop-i.i ≡ size p.matrix = omega (arith, c.loop-i-test.false, c.loop-i.auto.i-end, c.number_of_variables-i-end.ensures.size) in (
      each_ends (along_step c.args.theta c.args.value.now c.args.rate.now) (size p.matrix) c.loop-i.i all c.loop-i.invariant.left,
      c.loop-i.invariant.made ∙ ap (λ n. map (along c.args.theta c.args.value.now c.args.rate.now) (numbers_from 1 n)) all,
    )
