-- What a checker is to do, so that it never finds a run's own listing wrong. Both checkers do it.
--     SuitsRuns C                  it reads what a run prints, and takes the word of its check
--     CanRefuse C                  its arithmetic refuses some operation
use Rattle.std.proofs.Common.{◌≡◌, true, false, List, refl, sym, ◌∙◌}
use Rattle.exact_values.specs.Rational.{ℚ}
use Rattle.frac128.specs.declared.Op.{Op}
use Rattle.check_definitions.specs.declared.Verdict.TheVariants.{Checked}
use Rattle.check_definitions.specs.Steps.{Step, verdict_of}
use Rattle.listing_definitions.specs.Report.{Check}
use Rattle.listing_definitions.specs.Report as reports
use Rattle.answer_definitions.specs.Verdicts.{found}
use Rattle.walk_definitions.specs.Checkers.{Checker, says_checked, checker_of_128_bits, checker_of_any_length}
use Rattle.walk_definitions.specs.Words.{fraction_in}
use Rattle.walk_definitions.specs.Tests.{says}
use Rattle.walk_definitions.proofs.Numbers.{fraction_of_text}
use Rattle.any_length_laws.proofs.Short.{fraction_widens}
use Rattle.own_listing_laws.proofs.Spelled.{ReadsFractions, in_128_bits}

-- where the steps of a claim are checked, it takes the word of the check that the run made of them
pub record SuitsRuns (C : Checker) : Type 0 where
  pub reads : ReadsFractions (fraction_in C)
  pub takes : (steps : List Step) (check : Check) → verdict_of steps ≡ found check → says C steps ≡ Checked → C.takes check ≡ true

checked_so : (check : Check) → found check ≡ Checked → says_checked check ≡ true
checked_so reports.Checked e = refl
checked_so (reports.Unchecked refused) e = absurd (cc e)

pub suits_128_bits : SuitsRuns checker_of_128_bits
suits_128_bits = record { reads = in_128_bits; takes = λ steps check own checked. checked_so check (sym own ∙ checked) }

pub suits_any_length : SuitsRuns checker_of_any_length
suits_any_length = record {
  reads = record { means = λ x fit. fraction_widens _ x (fraction_of_text x fit) };
  takes = λ steps check own checked. refl;
}

pub record CanRefuse (C : Checker) : Type 0 where
  pub op : Op
  pub left : ℚ
  pub right : ℚ
  pub refuses : C.arithmetic.refused op left right ≡ true

pub never_refuses_any_length : CanRefuse checker_of_any_length → ⊥
never_refuses_any_length can = let e : false ≡ true = can.refuses in cc e
