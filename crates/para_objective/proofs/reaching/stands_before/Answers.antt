use Rattle.std.proofs.Common.{sym, ◌∙◌, ap}
use Rattle.para_objective.specs.Reach.{meets}
use Rattle.para_objective.proofs.Zeros.{meets_zero, meets_combined}
use Rattle.para_objective.proofs.reaching.stands_before.Goals as goal

pub returns-in-Ok : goal.returns-in-Ok
returns-in-Ok c h = meets_zero c.args.best c.args.price c.args.rate c.in-Ok.product c.requires c.in-Ok.ensures.value (sym c.meets.ensures ∙ h)

pub returns-in-Some : goal.returns-in-Some
returns-in-Some c h =
    meets_combined c.args.best c.args.price c.args.rate c.in-Some.combined c.requires c.in-Some.ensures
    (ap (λ z. meets c.in-Some.combined z c.args.rate) (sym c.whole.ensures) ∙ sym c.meets-in-Some.ensures ∙ h)
