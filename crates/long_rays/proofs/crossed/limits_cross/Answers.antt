use Rattle.std.proofs.Common.{sym, ◌∙◌}
use Rattle.check_definitions.specs.Checks.{is_crossed}
use Rattle.long_rays.proofs.Values.{crossed_at}
use Rattle.long_rays.proofs.crossed.limits_cross.Goals as goal

pub returns : goal.returns
returns c =
    λ change x. c.crossed_by.ensures ∙ (λ i. is_crossed (c.lower_limit.ensures i) (c.upper_limit.ensures i))
    ∙ sym (crossed_at c.args.lp.now change x c.args.k c.requires)
