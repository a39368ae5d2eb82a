use Rattle.std.specs.Int.{w128}
use Rattle.std.proofs.lemmas.Int.{fits_signed_from_abs}
use Rattle.lp_model.proofs.RatioTerms.{zero_test}
use Rattle.lp_model.proofs.ratio.Ratio.is_zero.Goals as goal

pub returns : goal.returns
returns c =
    let t = c.terms-num.ensures in
    zero_test c.terms-num.result.0 c.terms-num.result.1 c.args.self.now
    (record { at_least_one = t.at_least_one; num_fits = t.num_fits; den_fits = t.den_fits }) t.value (fits_signed_from_abs w128 c.terms-num.result.0 t.num_fits)
