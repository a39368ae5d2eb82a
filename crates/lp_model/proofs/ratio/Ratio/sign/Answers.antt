use Rattle.std.proofs.Common.{arith}
use Rattle.std.proofs.lemmas.Int.{ints}
use Rattle.lp_model.proofs.RatioTerms.{sign_above, sign_below, sign_at_zero}
use Rattle.lp_model.proofs.ratio.Ratio.sign.Goals as goal

pub returns-then-num-gt0 : goal.returns-then-num-gt0
returns-then-num-gt0 c =
    let t = c.terms-num.ensures in
    sign_above c.terms-num.result.0 c.terms-num.result.1 c.args.self.now
    (record { at_least_one = t.at_least_one; num_fits = t.num_fits; den_fits = t.den_fits }) t.value (omega (arith, ints, c.if-num-gt0.true, t.num_fits))

pub returns-then-num-lt0 : goal.returns-then-num-lt0
returns-then-num-lt0 c =
    let t = c.terms-num.ensures in
    sign_below c.terms-num.result.0 c.terms-num.result.1 c.args.self.now
    (record { at_least_one = t.at_least_one; num_fits = t.num_fits; den_fits = t.den_fits }) t.value (omega (arith, ints, c.if-num-lt0.true, t.num_fits))

pub returns-else-num-lt0 : goal.returns-else-num-lt0
returns-else-num-lt0 c =
    let t = c.terms-num.ensures in
    sign_at_zero c.terms-num.result.0 c.terms-num.result.1 c.args.self.now
    (record { at_least_one = t.at_least_one; num_fits = t.num_fits; den_fits = t.den_fits }) t.value
    (omega (arith, ints, c.if-num-gt0.false, c.if-num-lt0.false, t.num_fits))
