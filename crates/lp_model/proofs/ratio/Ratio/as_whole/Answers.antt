use Rattle.std.proofs.Common.{arith, ◌∙◌, ap}
use Rattle.std.proofs.lemmas.Int.{ints}
use Rattle.exact_values.specs.Rational.{whole}
use Rattle.frac128.proofs.Parts.{read_fitting}
use Rattle.lp_model.proofs.RatioTerms.{whole_terms}
use Rattle.lp_model.proofs.ratio.Ratio.as_whole.Goals as goal

pub returns-then-den-eq1 : goal.returns-then-den-eq1
returns-then-den-eq1 c =
    let t = c.terms-num.ensures in
    c.whole.ensures ∙ ap whole (read_fitting c.terms-num.result.0 t.num_fits)
    ∙ whole_terms c.terms-num.result.0 c.terms-num.result.1 c.args.self.now t.value (omega (arith, ints, c.if-den-eq1.true, t.den_fits))
