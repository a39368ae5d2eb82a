-- The problems on file.
use Rattle.std.specs.Prelude.{ℕ, List, Option}
use Rattle.std.specs.Map.{lookup}
use Rattle.problem_definitions.specs.Names.{Name, same}
use Rattle.problem_definitions.specs.Problem.{Problem}

-- problems under their names, and the name put last, if any was put
pub record Filed : Type 0 where
  pub problems : List (Name × Problem ℕ)
  pub last : Option Name

-- the problem on file under a name
abbrev pub filed_under : Name → Filed → Option (Problem ℕ)
filed_under name file = lookup (same name) file.problems
