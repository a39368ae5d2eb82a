use Rattle.std.proofs.Common.{◌≡◌, rules, sym, ◌∙◌}
use Rattle.lp_definitions.specs.LinearProgram.{for_min}
use Rattle.lp_laws.proofs.Values.{clash}
use Rattle.para_objective.proofs.Zeros.{not_lowered, without_rate, lowered}
use Rattle.para_objective.proofs.reaching.with_rate.Goals as goal

pub returns-then-is_zero-clause-nearer : goal.returns-then-is_zero-clause-nearer
returns-then-is_zero-clause-nearer c =
    without_rate c.args.lp.now c.args.basis.now c.args.price c.args.rate c.args.k c.args.best (c.is_zero.ensures.0 c.if-is_zero.true)

pub returns-then-not-may_lower-clause-nearer : goal.returns-then-not-may_lower-clause-nearer
returns-then-not-may_lower-clause-nearer c =
    let is : c.worth.result ≡ for_min c.args.lp.now.sense c.args.rate = search rules in
    not_lowered c.args.lp.now c.args.basis.now c.args.price c.args.rate c.args.k c.args.best c.worth.result is
    (sym c.may_lower.ensures ∙ c.if-not-may_lower.true)

pub returns-in-Ok-clause-nearer : goal.returns-in-Ok-clause-nearer
returns-in-Ok-clause-nearer c =
    let is : c.worth.result ≡ for_min c.args.lp.now.sense c.args.rate = search rules in
    lowered c.args.lp.now c.args.basis.now c.args.price c.args.rate c.args.k c.args.best c.in-Ok.now c.worth.result
    (λ e. clash (sym (c.is_zero.ensures.1 e) ∙ c.if-is_zero.false)) is (sym c.may_lower.ensures ∙ c.if-not-may_lower.false) c.in-Ok.ensures.nearer
