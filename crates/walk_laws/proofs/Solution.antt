-- A point that passes is best, and the prices that pass with it are its dual certificate.
use Rattle.std.proofs.Common.{◌≡◌, ℕ, List, [], ◌∷◌}
use Rattle.std.specs.List.{flat_map}
use Rattle.lp_definitions.specs.LinearProgram.{LinearProgram, Vector, IsLinearProgram}
use Rattle.lp_laws.proofs.Duality.{best_by_prices}
use Rattle.check_definitions.specs.Steps.{AllHold}
use Rattle.check_definitions.specs.Checks.{equations, reduced_costs, optimal_steps}
use Rattle.check_definitions.proofs.Holding.{checked_hold}
use Rattle.certificate_laws.proofs.Meaning.{optimal_if_held}
use Rattle.parametric_laws.specs.Truth.{IsBestBy}
use Rattle.listing_definitions.specs.declared.Mark.TheVariants.{Optimal}
use Rattle.listing_definitions.specs.Report.{SolutionLines}
use Rattle.question_definitions.specs.Answers.{Sheet, OfSolution}
use Rattle.answer_definitions.specs.Lines.{row_numbers}
use Rattle.walk_definitions.specs.Checkers.{Checker}
use Rattle.walk_definitions.specs.Tests.{says, point_of, prices_of, slacks_of, slack_steps, solution_test}
use Rattle.walk_definitions.specs.Reading.{Right, judged, solution_in}
use Rattle.walk_laws.proofs.Judging.{each_checked, right_is_passed}

pub solved_if_held : (p : LinearProgram) → IsLinearProgram p → (z y : Vector) → AllHold (optimal_steps p z y) → IsBestBy p z y
solved_if_held p lawful z y held =
    let found = optimal_if_held p lawful.is_matrix z y held in
    record { best = best_by_prices p lawful z y found.0 found.1; certificate = found.1 }

pub solution_is_true : (C : Checker) (sheet : Sheet) (rest after : List ℕ) (lines : SolutionLines) → IsLinearProgram sheet.lp →
    judged C (OfSolution Optimal) sheet rest ≡ Right lines after → IsBestBy sheet.lp (point_of sheet lines) (prices_of sheet lines)
solution_is_true C sheet rest after lines lawful e =
    let right = right_is_passed C (solution_test C sheet Optimal) (λ of. solution_in of sheet Optimal) rest lines after e in
    let z : Vector = point_of sheet lines in
    let y : Vector = prices_of sheet lines in
    let each = each_checked (says C (equations sheet.lp 1 z) ∷ says C (reduced_costs sheet.lp y)
    ∷ says C (flat_map (slack_steps sheet z (slacks_of sheet lines)) (row_numbers sheet.lp)) ∷ says C (optimal_steps sheet.lp z y) ∷ []) right.passes in
    solved_if_held sheet.lp lawful z y (checked_hold C.arithmetic (optimal_steps sheet.lp z y) each.1.1.1.0)
