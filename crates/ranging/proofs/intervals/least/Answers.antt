use Rattle.std.proofs.Common.{◌≡◌, Some, sym, ◌∙◌}
use Rattle.ranging.proofs.Deviations.{less_is, not_less_is}
use Rattle.ranging.proofs.intervals.least.Goals as goal

pub returns-then-is_less : goal.returns-then-is_less
returns-then-is_less c =
    let one : c.args.first ≡ Some c.in-Some.one = cc in
    let other : c.args.second ≡ Some c.in-Some-second.other = cc in
    less_is c.args.first c.args.second c.in-Some.one c.in-Some-second.other one other (sym c.is_less.ensures ∙ c.if-is_less.true)

pub returns : goal.returns
returns c =
    let one : c.args.first ≡ Some c.in-Some.one = cc in
    let other : c.args.second ≡ Some c.in-Some-second.other = cc in
    not_less_is c.args.first c.args.second c.in-Some.one c.in-Some-second.other one other (sym c.is_less.ensures ∙ c.if-is_less.false)
