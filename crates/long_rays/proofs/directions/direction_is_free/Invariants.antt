use Rattle.std.proofs.Common.{List}
use Rattle.exact_values.specs.Rational.{ℚ}
use Rattle.lp_definitions.specs.LinearProgram.{value_at}
use Rattle.long_vectors.specs.Vectors.{IsOver}
use Rattle.long_programs.specs.declared.programs.ChangeAt.{ChangeAt}
use Rattle.long_programs.specs.Programs.{program_of}
use Rattle.long_points.specs.Tests.{UpTo}
use Rattle.long_rays.specs.Tests.{free_test}
use Rattle.long_rays.proofs.directions.direction_is_free.Given as goal

-- the variables so far are free to move
abbrev pub invariant-loop-i : goal.invariant-loop-i
invariant-loop-i l = (change : ChangeAt) → (x : ℚ) → (d : List ℚ) → IsOver d l.direction → UpTo (free_test (program_of l.lp change x) (value_at d)) l.i
