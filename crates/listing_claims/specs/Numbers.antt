-- How the word of a number is taken.
--     number_in C by word          by its value, or by its form alone
use Rattle.std.specs.Prelude.{ℕ, List, Option}
use Rattle.exact_values.specs.Rational.{ℚ}
use Rattle.walk_definitions.specs.Checkers.{Checker}
use Rattle.walk_definitions.specs.Words.{fraction_in, form_in}
use Rattle.listing_claims.specs.declared.checks.By.{By}
use Rattle.listing_claims.specs.declared.checks.By.TheVariants.{Value, Form}

abbrev pub number_in : Checker → By → List ℕ → Option ℚ
number_in C Value = fraction_in C
number_in C Form = form_in C
