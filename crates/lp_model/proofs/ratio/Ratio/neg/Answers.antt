use Rattle.std.proofs.Common.{◌∙◌}
use Rattle.lp_model.proofs.RatioTerms.{negated_terms}
use Rattle.lp_model.proofs.ratio.Ratio.neg.Goals as goal

pub returns : goal.returns
returns c =
    let t = c.terms-num.ensures in
    c.new.ensures ∙ negated_terms c.terms-num.result.0 c.terms-num.result.1 c.args.self.now
    (record { at_least_one = t.at_least_one; num_fits = t.num_fits; den_fits = t.den_fits }) t.value
