-- What the comparisons of a ray and of a direction ask, each by itself.
--     vanish_test p w j            the multipliers vanish on column j
--     free_test p d k              variable k falls only if it has no lower limit, and rises only if it has no upper one
--     limit_by sign low high       the limit that a multiplier of this sign meets
--     meets_test p w k             the multiplier of variable k is 0 or meets a limit
--     met_product p w k            that multiplier times the limit that it meets
--     IsMet p w k met old new d    whether it does, and a sum to which that product is added, times d
--     SumsTo p w order             how the sum of these products compares with 0, if each multiplier meets a limit
--     change_value change v        the value of the row that is added to the objective for each unit of theta
use Rattle.std.specs.Prelude.{◌≡◌, ℕ, ◌+◌, Bool, true, ◌||◌, Option, Some, None, is_some, is_none, unwrap_or, map}
use Rattle.std.specs.declared.cmp.Ordering.{Ordering}
use Rattle.std.specs.declared.cmp.Ordering.TheVariants.{Less, Equal, Greater}
use Rattle.exact_values.specs.Rational.{ℚ, zero_ℚ, ◌+ℚ◌, ◌*ℚ◌, compare_ℚ}
use Rattle.exact_values.specs.Tests.{eq_ℚ}
use Rattle.lp_definitions.specs.LinearProgram.{LinearProgram, Vector, lower_of, upper_of}
use Rattle.lp_definitions.specs.Solutions.{limit_against}
use Rattle.check_definitions.specs.Steps.{AllHold, sum_of}
use Rattle.check_definitions.specs.Checks.{by_sign, column_products, multiplied, limit_product, ray_limits}
use Rattle.long_programs.specs.declared.programs.ChangeAt.{ChangeAt}
use Rattle.long_programs.specs.declared.programs.ChangeAt.TheVariants.{Unchanged, Row, Set}

abbrev pub limit_by : Ordering → Option ℚ → Option ℚ → Option ℚ
limit_by Less low high = low
limit_by Equal low high = low
limit_by Greater low high = high

module _ (p : LinearProgram) where
  abbrev pub vanish_test : Vector → ℕ → Bool
  vanish_test w j = eq_ℚ (sum_of (w (p.rows + j)) (column_products p w j)) zero_ℚ

  abbrev pub free_test : Vector → ℕ → Bool
  free_test d k = by_sign (compare_ℚ (d k) zero_ℚ) (is_none (lower_of p k)) (is_none (upper_of p k))

  abbrev pub meets_test : Vector → ℕ → Bool
  meets_test w k = eq_ℚ (w k) zero_ℚ || is_some (limit_against p w k)

  abbrev pub met_product : Vector → ℕ → ℚ
  met_product w k = w k *ℚ unwrap_or (limit_against p w k) zero_ℚ

  pub record IsMet (w : Vector) (k : ℕ) (met : Bool) (old new d : ℚ) : Type 0 where
    pub is : met ≡ meets_test w k
    pub adds : met ≡ true → new ≡ old +ℚ met_product w k *ℚ d

  abbrev pub SumsTo : Vector → Option Ordering → Type 0
  SumsTo w None = AllHold (ray_limits p w zero_ℚ (multiplied p w)) → ⊥
  SumsTo w (Some order) =
      AllHold (ray_limits p w zero_ℚ (multiplied p w)) × (order ≡ compare_ℚ (sum_of zero_ℚ (map (limit_product p w) (multiplied p w))) zero_ℚ)

abbrev pub change_value : ChangeAt → Vector → ℚ
change_value Unchanged v = zero_ℚ
change_value (Row h) v = v h
change_value (Set shift) v = zero_ℚ
