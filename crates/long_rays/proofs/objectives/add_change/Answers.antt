use Rattle.std.proofs.Common.{◌≡◌, ap, sym, ◌∙◌, rules}
use Rattle.exact_values.specs.Rational.{whole, ◌+ℚ◌, ◌*ℚ◌}
use Rattle.lp_definitions.specs.LinearProgram.{value_at}
use Rattle.long_programs.specs.declared.programs.ChangeAt.{ChangeAt}
use Rattle.long_programs.specs.declared.programs.ChangeAt.TheVariants.{Row, Unchanged, Set}
use Rattle.long_rays.specs.Tests.{change_value}
use Rattle.long_rays.proofs.Values.{row_added, nothing_changes}
use Rattle.long_rays.proofs.objectives.add_change.Goals as goal

pub returns-in_ok-add_value-in-Row : goal.returns-in_ok-add_value-in-Row
returns-in_ok-add_value-in-Row c = λ d x over is.
    let here : c.args.at.now.program.change ≡ Row c.in-Row.row = search rules in
    row_added c.args.sum.now c.add_value.new.sum (value_at d c.in-Row.row) (whole c.args.direction.now.bottom) x c.args.at.now.theta.now is
    (c.in_ok-add_value-in-Row.ensures d over)
    ∙ ap (λ (change : ChangeAt). c.args.sum.now +ℚ x *ℚ change_value change (value_at d) *ℚ
    (whole c.args.direction.now.bottom *ℚ whole c.args.at.now.theta.now.bottom)) (sym here)

pub returns-in-Unchanged : goal.returns-in-Unchanged
returns-in-Unchanged c = λ d x over is.
    let here : c.args.at.now.program.change ≡ Unchanged = search rules in
    nothing_changes c.args.sum.now x (whole c.args.direction.now.bottom *ℚ whole c.args.at.now.theta.now.bottom)
    ∙ ap (λ (change : ChangeAt). c.args.sum.now +ℚ x *ℚ change_value change (value_at d) *ℚ
    (whole c.args.direction.now.bottom *ℚ whole c.args.at.now.theta.now.bottom)) (sym here)

pub returns-in-Set : goal.returns-in-Set
returns-in-Set c = λ d x over is.
    let here : c.args.at.now.program.change ≡ Set c.in-Set.field-0 = search rules in
    nothing_changes c.args.sum.now x (whole c.args.direction.now.bottom *ℚ whole c.args.at.now.theta.now.bottom)
    ∙ ap (λ (change : ChangeAt). c.args.sum.now +ℚ x *ℚ change_value change (value_at d) *ℚ
    (whole c.args.direction.now.bottom *ℚ whole c.args.at.now.theta.now.bottom)) (sym here)
