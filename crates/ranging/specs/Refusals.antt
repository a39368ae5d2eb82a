-- A refused operation of a formula at the basis itself.
--     IsRefusal number q i j term op left right e      the evidence has this formula and these numbers, and the operation
use Rattle.std.specs.Prelude.{◌≡◌, ℕ}
use Rattle.exact_values.specs.Rational.{ℚ, zero_ℚ}
use Rattle.frac128.specs.declared.Op.{Op}
use Rattle.lp_definitions.specs.RatesEvidence.{Names, Refuses}
use Rattle.lp_definitions.specs.declared.Evidence.{Evidence}

pub record IsRefusal (number q i j term : ℕ) (op : Op) (left right : ℚ) (e : Evidence) : Type 0 where
  pub names : Names e number 0 q i j term
  pub no_way : e.way ≡ 0
  pub no_theta : e.theta ≡ zero_ℚ
  pub refuses : Refuses e op left right
