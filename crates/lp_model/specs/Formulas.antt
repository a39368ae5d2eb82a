-- The formulas of an exchange, as evidence of a refusal names them.
--     number_of f      the number by which a listing names the formula
--     basic_of f       the basic that the formula is of, besides the leaver, or 0
--     nonbasic_of f    the nonbasic that the formula is of, besides the entering variable, or 0
use Rattle.std.specs.Prelude.{ℕ}
use Rattle.lp_model.specs.declared.exchange_formula.ExchangeFormula.{ExchangeFormula}
use Rattle.lp_model.specs.declared.exchange_formula.ExchangeFormula.TheVariants.{Quotient, Product, Difference, Reciprocal, Multiple}

abbrev pub number_of : ExchangeFormula → ℕ
number_of (Quotient j) = 1
number_of (Product i j) = 2
number_of (Difference i j) = 3
number_of Reciprocal = 4
number_of (Multiple i) = 5

abbrev pub basic_of : ExchangeFormula → ℕ
basic_of (Quotient j) = 0
basic_of (Product i j) = i
basic_of (Difference i j) = i
basic_of Reciprocal = 0
basic_of (Multiple i) = i

abbrev pub nonbasic_of : ExchangeFormula → ℕ
nonbasic_of (Quotient j) = j
nonbasic_of (Product i j) = j
nonbasic_of (Difference i j) = j
nonbasic_of Reciprocal = 0
nonbasic_of (Multiple i) = 0
