-- The slack of a row, and when it is refused.
--     slack_at p z i               the slack of row i at the point z: its right-hand side less its activity
--     SlackRefused p z i e         the evidence shows that this difference is refused
use Rattle.std.specs.Prelude.{ℕ}
use Rattle.basis_values.specs.Formulas.{IsRefusal}
use Rattle.basis_values.specs.Reach.{reach_formula}
use Rattle.exact_values.specs.Rational.{◌-ℚ◌}
use Rattle.frac128.specs.declared.Op.TheVariants.{Sub}
use Rattle.lp_definitions.specs.LinearProgram.{LinearProgram, Vector, IsRow, value_at}
use Rattle.lp_definitions.specs.declared.Evidence.{Evidence}

abbrev pub slack_at : LinearProgram → Vector → Vector
slack_at p z i = value_at p.rhs i -ℚ z i

-- formula 6 of the row with the number 3, which is that of a right-hand side; it speaks of the basis itself
abbrev pub SlackRefused : LinearProgram → Vector → ℕ → Evidence → Type 0
SlackRefused p z i e = IsRefusal (reach_formula 6 0 i 3) Sub (value_at p.rhs i) (z i) e

-- that of some row
abbrev pub SomeSlackRefused : LinearProgram → Vector → Evidence → Type 0
SomeSlackRefused p z e = (i : ℕ) × IsRow p.matrix i × SlackRefused p z i e
