-- A refused operation, on other names of its operands.
use Rattle.std.proofs.Common.{◌≡◌, subst}
use Rattle.exact_values.specs.Rational.{ℚ}
use Rattle.frac128.specs.declared.Op.{Op}
use Rattle.lp_definitions.specs.RatesEvidence.{Refuses}
use Rattle.lp_definitions.specs.declared.Evidence.{Evidence}

pub refuses_at : (e : Evidence) (op : Op) (left right x y : ℚ) → left ≡ x → right ≡ y → Refuses e op left right → Refuses e op x y
refuses_at e op left right x y at_left at_right h = subst (λ u. Refuses e op u y) at_left (subst (λ v. Refuses e op left v) at_right h)
