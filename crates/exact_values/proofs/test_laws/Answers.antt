use Rattle.exact_values.proofs.TestsLaws.{lt_from_test, test_from_lt, le_from_test, test_from_le, same_from_test, test_from_same, below_from_sign}
use Rattle.exact_values.proofs.TestsLaws.{sign_from_below, zero_from_sign, sign_from_zero, above_from_sign, sign_from_above}
use Rattle.exact_values.proofs.test_laws.Goals as goal

pub returns : goal.returns
returns c = record {
  lt = λ x y. (lt_from_test x y, test_from_lt x y);
  le = λ x y. (le_from_test x y, test_from_le x y);
  eq = λ x y. (same_from_test x y, test_from_same x y);
  sign_below = λ x. (below_from_sign x, sign_from_below x);
  sign_zero = λ x. (zero_from_sign x, sign_from_zero x);
  sign_above = λ x. (above_from_sign x, sign_from_above x);
}
