-- The formulas of ranging.
--     ratio_formula i j            formula 14: the price of the nonbasic j over the rate of the basic i at it
--     end_formula i j term         formula 15: a cost or a limit, moved to an end that the rate of the basic i at the nonbasic j makes
use Rattle.std.specs.Prelude.{ℕ}
use Rattle.basis_values.specs.Formulas.{formula_of_rate}
use Rattle.basis_values.specs.declared.formula.Formula.{Formula}

abbrev pub ratio_formula : ℕ → ℕ → Formula
ratio_formula i j = formula_of_rate 14 i j 0

-- i is 0 where the end is the nonbasic's price itself; term is the number of the limit of i that makes the end, and 0 where a price does
abbrev pub end_formula : ℕ → ℕ → ℕ → Formula
end_formula i j term = formula_of_rate 15 i j term
