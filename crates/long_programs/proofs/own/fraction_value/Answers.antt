use Rattle.std.proofs.Common.{◌∙◌, ap, pos, subst, sym}
use Rattle.std.specs.Prelude.{ℤ}
use Rattle.exact_values.specs.Rational.{whole, zero_ℚ, ◌*ℚ◌, ◌<ℚ◌}
use Rattle.exact_sums.proofs.Ratios.{numerator_is}
use Rattle.long_programs.proofs.Scaled.{denominator_above}
use Rattle.long_programs.proofs.own.fraction_value.Goals as goal

pub returns : goal.returns
returns c =
    let x = c.args.fraction in
    let bottom = c.new-bottom.ensures ∙ ap pos c.in_ok-below.ensures in
    record {
      positive = subst (λ (d : ℤ). zero_ℚ <ℚ whole d) (sym bottom) (denominator_above x);
      is = ap whole c.in_ok-top.ensures ∙ numerator_is x ∙ ap (λ (d : ℤ). x *ℚ whole d) (sym bottom);
    }
