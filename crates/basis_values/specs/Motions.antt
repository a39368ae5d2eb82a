-- How a variable may move, and how others move with it.
--     may_move p s up q            q may move up, or down
--     motion d up                  how fast each variable moves, where what has the direction d rises or falls
use Rattle.std.specs.Prelude.{ℕ, Bool, List, if◌then◌else◌}
use Rattle.lp_definitions.specs.LinearProgram.{LinearProgram, Vector}
use Rattle.lp_definitions.specs.declared.Status.{Status}
use Rattle.simplex_definitions.specs.Moves.{may_rise, may_fall, signed}

abbrev pub may_move : LinearProgram → List Status → Bool → ℕ → Bool
may_move p s up q = if up then may_rise p s q else may_fall p s q

abbrev pub motion : Vector → Bool → Vector
motion d up k = signed up (d k)
