-- How fast the basis's point moves with the parameter, as the point of the same basis in another program.
--     shifts_of p shift limit      each limit's shift in its place
--     slope_program p shift        the program with these limits: its basis's point is the slope
--     slope_evidence e             evidence of a sum of that point, as evidence of a sum of the slope
use Rattle.std.specs.Prelude.{ℕ, List, map, Option, option_map, nat_eq, if◌then◌else◌}
use Rattle.exact_values.specs.Rational.{ℚ}
use Rattle.lp_definitions.specs.LinearProgram.{LinearProgram, variables, lower_of, upper_of, with_limits}
use Rattle.lp_definitions.specs.declared.Evidence.{Evidence}
use Rattle.simplex_definitions.specs.RhsRun.{shift_of}

abbrev pub shifts_of : LinearProgram → List ℚ → (ℕ → Option ℚ) → List (Option ℚ)
shifts_of p shift limit = map (λ k. option_map (λ l. shift_of p.matrix shift k) (limit k)) (variables p.matrix)

abbrev pub slope_program : LinearProgram → List ℚ → LinearProgram
slope_program p shift = with_limits p (shifts_of p shift (lower_of p)) (shifts_of p shift (upper_of p))

-- formula 10 as formula 18
abbrev pub slope_evidence : Evidence → Evidence
slope_evidence e = if nat_eq e.formula 10 then record e { formula = 18 } else e
