use Rattle.std.proofs.Common.{◌≡◌, Option, Some, ap, sym, ◌∙◌, rules}
use Rattle.std.specs.Prelude.{option_map, unwrap_or}
use Rattle.exact_values.specs.Rational.{ℚ, whole, zero_ℚ, ◌+ℚ◌, ◌*ℚ◌}
use Rattle.long_rays.proofs.Meeting.{limit_added}
use Rattle.long_rays.proofs.limits.add_limit.Goals as goal

pub returns-clause-sum : goal.returns-clause-sum
returns-clause-sum c = λ x y d is_top is_theta _.
    let here : c.args.limit ≡ Some c.in-Some.limit = search rules in
    limit_added c.args.sum.now c.add.new.self c.add-2.new.self c.in-Some.limit c.args.shift x y d c.args.top.now c.in_ok-scaled.scaled c.in_ok-moved.moved
    c.args.theta.now is_theta is_top
    c.in_ok-scaled.ensures c.in_ok-moved.ensures c.in_ok-add.ensures c.in_ok-add-2.ensures
    ∙ ap (λ (o : Option ℚ). c.args.sum.now +ℚ y *ℚ unwrap_or (option_map (λ l. l +ℚ x *ℚ c.args.shift) o) zero_ℚ *ℚ (d *ℚ whole c.args.theta.now.bottom))
    (sym here)
