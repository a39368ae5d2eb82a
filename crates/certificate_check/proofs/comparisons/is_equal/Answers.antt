use Rattle.std.proofs.Common.{◌≡◌, ◌∙◌, refl, Less, Equal, Greater}
use Rattle.std.specs.declared.cmp.Ordering.{Ordering}
use Rattle.std.specs.Ordering.{is_eq}
use Rattle.exact_values.specs.Rational.{compare_ℚ}
use Rattle.exact_values.specs.Tests.{is_equal}
use Rattle.exact_values.proofs.Compare.{compare_ties}
use Rattle.certificate_check.proofs.comparisons.is_equal.Goals as goal

same_test : (o : Ordering) → is_eq o ≡ is_equal o
same_test Less = refl
same_test Equal = refl
same_test Greater = refl

pub returns : goal.returns
returns c = c.eq.ensures ∙ compare_ties c.args.x c.args.y ∙ same_test (compare_ℚ c.args.x c.args.y)
