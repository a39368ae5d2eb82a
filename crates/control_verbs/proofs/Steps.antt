-- Values that allow a number of steps.
use Rattle.std.proofs.Common.{◌≡◌, ℕ, ◌≤◌, Bool, true, false, Some, None, if◌then◌else◌, refl, arith, leb}
use Rattle.std.specs.Prelude.{pos}
use Rattle.std.proofs.lemmas.Bool.Decides.{nat_tests}
use Rattle.control_definitions.specs.declared.TheConstants.{MAX_STEPS}
use Rattle.control_definitions.specs.Arguments.{steps_of}

pub steps_allowed : (n denominator : ℕ) → denominator ≡ 1 → n ≤ MAX_STEPS → steps_of (pos n) denominator ≡ Some n
steps_allowed n denominator one few = rw one (by (leb n MAX_STEPS) (grind (arith, nat_tests)))
  where
    by : (b : Bool) → b ≡ true → (if b then Some n else None) ≡ Some n
    by true e = refl
    by false e = cc e
