-- The numbers at which conditions hold make an interval.
--     HasEnds P                    P holds just at the numbers between two ends, each of which may be missing
--     IntervalsExist               finitely many conditions that all hold at some number have such ends
use Rattle.std.specs.Prelude.{◌↔◌, List, Option, IfSome}
use Rattle.exact_values.specs.Rational.{ℚ, ◌≤ℚ◌}
use Rattle.affine_laws.specs.Conditions.{Condition, AllHold}

pub record HasEnds (P : ℚ → Type 0) : Type 0 where
  pub low : Option ℚ
  pub high : Option ℚ
  pub exact : (x : ℚ) → (IfSome low (λ l. l ≤ℚ x) × IfSome high (λ h. x ≤ℚ h)) ↔ P x

abbrev pub IntervalsExist : Type 0
IntervalsExist = (cs : List Condition) (from : ℚ) → AllHold cs from → HasEnds (AllHold cs)
