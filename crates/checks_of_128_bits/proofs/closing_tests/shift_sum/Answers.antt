use Rattle.std.proofs.Common.{◌≡◌, ◌<◌, length, sym, arith}
use Rattle.exact_values.specs.Rational.{ℚ, zero_ℚ}
use Rattle.lp_definitions.specs.LinearProgram.{value_at}
use Rattle.lp_laws.proofs.Places.{value_next}
use Rattle.check_definitions.specs.Steps.{verdict_of, sum_steps, sum_of}
use Rattle.checks_of_128_bits.proofs.Passing.{made_handed}
use Rattle.checks_of_128_bits.proofs.ClosingSums.{all_products, shifts_begin, shifts_go_on, shifts_stop, shifts_end}
use Rattle.checks_of_128_bits.proofs.closing_tests.shift_sum.Goals as goal

pub loop-place-init : goal.loop-place-init
loop-place-init c = shifts_begin (value_at c.args.ray.now) c.args.shift.now c.args.sheet.lp.now.rows c.whole-sum.result c.whole-sum.ensures (omega arith)

pub returns-in_err-sum : goal.returns-in_err-sum
returns-in_err-sum c changing =
    let rows = c.args.sheet.lp.now.rows in
    let shift = c.args.shift.now in
    let ray = c.args.ray.now in
    let w = value_at ray in
    let place = c.loop-place.place in
    let below : place < rows = omega (arith, c.loop-place-test.true, c.requires.shifts) in
    let in_ray : place < length ray = omega (arith, below, c.requires.places) in
    let in_shift : place < length shift = omega (arith, below, c.requires.shifts) in
    let stop = c.in_err-sum.field-0.0 in
    made_handed (λ (sum : ℚ). sum ≡ sum_of zero_ℚ (all_products w shift rows))
    (verdict_of (sum_steps zero_ℚ (all_products w shift rows))) c.from_residual.result stop
    (shifts_stop w shift rows place c.loop-place.sum c.loop-place.invariant below c.index-ray-place.result c.index-shift-place.result
    (sym (value_next ray place c.index-ray-place.result in_ray c.index-ray-place.is))
    (sym (value_next shift place c.index-shift-place.result in_shift c.index-shift-place.is)) stop c.in_err-sum.ensures) c.from_residual.ensures.1

pub loop-place-preserved : goal.loop-place-preserved
loop-place-preserved c =
    let rows = c.args.sheet.lp.now.rows in
    let shift = c.args.shift.now in
    let ray = c.args.ray.now in
    let place = c.loop-place.place in
    let below : place < rows = omega (arith, c.loop-place-test.true, c.requires.shifts) in
    let in_ray : place < length ray = omega (arith, below, c.requires.places) in
    let in_shift : place < length shift = omega (arith, below, c.requires.shifts) in
    shifts_go_on (value_at ray) shift rows place c.loop-place.sum c.loop-place.invariant below c.index-ray-place.result c.index-shift-place.result
    (sym (value_next ray place c.index-ray-place.result in_ray c.index-ray-place.is))
    (sym (value_next shift place c.index-shift-place.result in_shift c.index-shift-place.is)) c.in_ok-sum.sum c.in_ok-sum.ensures.0 c.in_ok-sum.ensures.1

pub returns : goal.returns
returns c changing =
    let rows = c.args.sheet.lp.now.rows in
    shifts_end (value_at c.args.ray.now) c.args.shift.now rows c.loop-place.place c.loop-place.sum
    (omega (arith, c.loop-place-test.false, c.loop-place.auto.place-end, c.requires.shifts)) c.loop-place.invariant
