use Rattle.std.proofs.Common.{ap, ◌∙◌, false}
use Rattle.std.specs.Ordering.{int_cmp}
use Rattle.integers.specs.Signed.{signed}
use Rattle.long_points.proofs.Orders.{whole_sign}
use Rattle.long_points.proofs.limits.sign_of.Goals as goal

pub returns : goal.returns
returns c = c.compare.ensures ∙ ap (int_cmp c.args.top.now) (c.new-zero.ensures ∙ ap (signed false) c.zero.ensures) ∙ whole_sign c.args.top.now
