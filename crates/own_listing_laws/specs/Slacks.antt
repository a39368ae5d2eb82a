-- The slacks of SOLUTION, as the listing checker makes them.
--     SlacksFit sheet lines        no difference is refused by which the test of SOLUTION makes a slack
use Rattle.std.specs.Prelude.{◌≡◌, ℕ, ◌≤◌, ◌<◌, false}
use Rattle.frac128.specs.declared.Op.TheVariants.{Sub}
use Rattle.frac128.specs.Operations.{refuses}
use Rattle.lp_definitions.specs.LinearProgram.{value_at}
use Rattle.listing_definitions.specs.Report.{SolutionLines}
use Rattle.question_definitions.specs.Answers.{Sheet}
use Rattle.walk_definitions.specs.Tests.{point_of}

-- Right-hand side minus activity: the run's own check makes no slack, so an operation of it may be the first that is refused.
abbrev pub SlacksFit : Sheet → SolutionLines → Type 0
SlacksFit sheet lines = (i : ℕ) → 0 < i → i ≤ sheet.lp.rows → refuses Sub (value_at sheet.lp.rhs i) (point_of sheet lines i) ≡ false
