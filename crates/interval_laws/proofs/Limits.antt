-- A limit and a value that are linear in x, between two values of x at which something is known of them.
use Rattle.std.proofs.Common.{◌≡◌, ap}
use Rattle.std.specs.Prelude.{Option, Some, None, IfSome}
use Rattle.std.proofs.lemmas.Option.{same_Some}
use Rattle.exact_values.specs.Rational.{ℚ, ◌+ℚ◌, ◌*ℚ◌, ◌≤ℚ◌}
use Rattle.sensitivity_laws.proofs.MovedLimits.{moved}
use Rattle.interval_laws.proofs.Affine.{le_between, same_between}

module _ (from x to : ℚ) (after : from ≤ℚ x) (before : x ≤ℚ to) (v r slope : ℚ) where
  pub above_between : (low : Option ℚ) → IfSome (moved from slope low) (λ l. l ≤ℚ v +ℚ from *ℚ r) → IfSome (moved to slope low) (λ l. l ≤ℚ v +ℚ to *ℚ r) →
      IfSome (moved x slope low) (λ l. l ≤ℚ v +ℚ x *ℚ r)
  above_between None first last = tt
  above_between (Some l) first last = le_between from x to after before l slope v r first last

  pub below_between : (high : Option ℚ) → IfSome (moved from slope high) (λ u. v +ℚ from *ℚ r ≤ℚ u) → IfSome (moved to slope high) (λ u. v +ℚ to *ℚ r ≤ℚ u) →
      IfSome (moved x slope high) (λ u. v +ℚ x *ℚ r ≤ℚ u)
  below_between None first last = tt
  below_between (Some u) first last = le_between from x to after before v r u slope first last

  -- at the limit at both ends, and so between them
  pub stands_between : (limit : Option ℚ) → moved from slope limit ≡ Some (v +ℚ from *ℚ r) → moved to slope limit ≡ Some (v +ℚ to *ℚ r) →
      moved x slope limit ≡ Some (v +ℚ x *ℚ r)
  stands_between None first last = cc
  stands_between (Some l) first last = ap Some (same_between from x to after before l slope v r (same_Some _ _ first) (same_Some _ _ last))
