-- How values compare with their limits at a value of the parameter.
--     program_at at theta          the linear program at theta of those beside a vector
--     AreOrders p x k orders       how a number compares with the limits of variable k, each if it is there
use Rattle.std.specs.Prelude.{◌≡◌, ℕ}
use Rattle.exact_values.specs.Rational.{ℚ}
use Rattle.lp_definitions.specs.LinearProgram.{LinearProgram, lower_of, upper_of}
use Rattle.long_programs.specs.declared.limits.LimitOrders.{LimitOrders}
use Rattle.long_programs.specs.declared.spread_at.SpreadAt.{SpreadAt}
use Rattle.long_programs.specs.Programs.{program_of, order_to}

abbrev pub program_at : SpreadAt → ℚ → LinearProgram
program_at at theta = program_of at.program.lp.now at.program.change theta

pub record AreOrders (p : LinearProgram) (x : ℚ) (k : ℕ) (orders : LimitOrders) : Type 0 where
  pub lower : orders.lower ≡ order_to (lower_of p k) x
  pub upper : orders.upper ≡ order_to (upper_of p k) x
