-- What holds of every compiled program.
use Rattle.std.specs.Prelude.{ℕ, ◌+◌, ◌≤◌, ◌<◌, length, Option, None, All, IfSome}
use Rattle.control_definitions.specs.declared.TheConstants.{MAX_STATEMENTS, MAX_STEPS}
use Rattle.control_definitions.specs.Program.{Verb, MoveLimit, Program, label_argument}

-- the number of steps that a verb moves
abbrev pub moved_limit : {L : Type 0} → Verb L → Option ℕ
moved_limit (MoveLimit limit) = limit
moved_limit _ = None

-- a position is the number of a statement, from 1, or one more than their count
pub record IsPosition (count position : ℕ) : Type 0 where
  pub first : 0 < position
  pub last : position ≤ count + 1

-- a program has at most 5,000 statements, its positions lie in it or at its end, and its limits are at most 1,000,000
pub record IsProgram (program : Program) : Type 0 where
  pub few : length program.statements ≤ MAX_STATEMENTS
  pub positions : All (λ statement. IfSome (label_argument statement.verb) (IsPosition (length program.statements))) program.statements
  pub limits : All (λ statement. IfSome (moved_limit statement.verb) (λ limit. limit ≤ MAX_STEPS)) program.statements
