-- The test of what SOLUTION prints.
--     Counted                      a value for each variable, and a slack for each row
--     printed_test C sheet mark    the test of activities, prices and slacks
use Rattle.std.specs.Prelude.{◌≡◌, [], ◌∷◌, length}
use Rattle.std.specs.List.{flat_map}
use Rattle.lp_definitions.specs.LinearProgram.{LinearProgram, Vector, size}
use Rattle.check_definitions.specs.declared.Verdict.{Verdict}
use Rattle.check_definitions.specs.Steps.{in_turn}
use Rattle.check_definitions.specs.Checks.{equations, reduced_costs}
use Rattle.answer_definitions.specs.Lines.{row_numbers}
use Rattle.listing_definitions.specs.declared.Mark.{Mark}
use Rattle.question_definitions.specs.Answers.{Sheet}
use Rattle.walk_definitions.specs.Checkers.{Checker}
use Rattle.walk_definitions.specs.Tests.{says, slack_steps, best_test}
use Rattle.listing_claims.specs.declared.claims.Printed.{Printed}

-- a value for each variable, and a slack for each row
pub record Counted (p : LinearProgram) (printed : Printed) : Type 0 where
  pub point : length printed.point.items ≡ size p.matrix
  pub prices : length printed.prices.items ≡ size p.matrix
  pub slacks : length printed.slacks.items ≡ p.matrix.rows

abbrev pub printed_test : Checker → Sheet → Mark → Vector → Vector → Vector → Verdict
printed_test C sheet mark z y slack =
    in_turn (says C (equations sheet.lp 1 z) ∷ says C (reduced_costs sheet.lp y) ∷ says C
    (flat_map (slack_steps sheet z slack) (row_numbers sheet.lp)) ∷ best_test C sheet mark z y ∷ [])
