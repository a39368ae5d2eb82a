use Rattle.std.proofs.Common.{◌≡◌, ◌∙◌, sym, refl, true, rules, arith}
use Rattle.long_points.proofs.Holds.{one_more}
use Rattle.long_points.proofs.each.each_holds.Goals as goal

pub loop-i-preserved : goal.loop-i-preserved
loop-i-preserved g c = λ passes answers.
    let passed : c.in_ok-test.field-0 ≡ true = search rules in
    one_more passes c.loop-i.i (c.loop-i.invariant passes answers) (sym (answers _ _ (search rules) (search rules) c.in_ok-test.ensures) ∙ passed)

pub returns : goal.returns
returns g c = λ passes answers. ((λ e k first last. c.loop-i.invariant passes answers k first (omega (arith, last, c.loop-i-test.false))), (λ h. refl))
