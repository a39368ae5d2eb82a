-- What a statement comes to by its verdict.
use Rattle.std.proofs.Common.{◌≡◌, ℕ, ◌≤◌, List, Option, None, Some, IfSome, refl, subst}
use Rattle.fitting_answers.specs.Real.{linear_programming_of_128_bits}
use Rattle.control_definitions.specs.Cells.{Cells}
use Rattle.listing_definitions.specs.declared.Mark.{Mark}
use Rattle.listing_definitions.specs.declared.Mark.TheVariants.{Optimal, Infeasible, Unbounded}
use Rattle.listing_definitions.specs.Report.{Report}
use Rattle.listing_definitions.specs.Ending as endings
use Rattle.run_definitions.specs.State.{State}
use Rattle.run_definitions.specs.Moves.{Prints, Ends as EndsRun, StatementMove, Gives}
use Rattle.run_definitions.specs.Verbs.{by_verdict, demanded}
use Rattle.run_machine.specs.declared.end.End.{End}
use Rattle.run_machine.specs.declared.end.End.TheVariants as end
use Rattle.run_machine.specs.declared.finding.Finding.TheVariants.{Ended}
use Rattle.setup_verbs.specs.Machines.{Machine}
use Rattle.run_machine.specs.Ends.{end_view}
use Rattle.run_machine.specs.Standing.{AreDemands}
use Rattle.setup_verbs.specs.Standing.{Represents}
use Rattle.setup_verbs.specs.Statements.{Follows}
use Rattle.run_machine.specs.Findings.{demanded_act, act_of}

module _ (card : ℕ) (cards : List (List ℕ)) (machine : Machine) (position executed : ℕ) (move : StatementMove) (report : Report) (then : State)
    (t : Represents cards machine position executed then) where
  demanded_comes : (set : Option ℕ) → IfSome set (λ to. 1 ≤ to) → (end : End) (code : ℕ) → endings.Ended code ≡ end_view end →
      Gives linear_programming_of_128_bits card move (demanded set code report then) →
      Follows linear_programming_of_128_bits card move cards machine position executed (Prints report) (demanded_act set end)
  demanded_comes (Some to) first end code same g = (then, g, t, first)
  demanded_comes None first end code same g =
      subst (λ (ending : endings.Ending). Gives linear_programming_of_128_bits card move (EndsRun (Prints report) ending)) same g

  pub verdict_comes : (cells : Cells) → AreDemands cells → then.cells ≡ cells → (mark : Mark) →
      Gives linear_programming_of_128_bits card move (by_verdict mark report then) →
      Follows linear_programming_of_128_bits card move cards machine position executed (Prints report) (act_of cells card (Ended mark))
  verdict_comes cells demands same Optimal g = (then, g, t)
  verdict_comes cells demands same Infeasible g =
      demanded_comes cells.xdonfs demands.infeasible end.Infeasible 1 refl
      (subst (λ (c : Cells). Gives linear_programming_of_128_bits card move (demanded c.xdonfs 1 report then)) same g)
  verdict_comes cells demands same Unbounded g =
      demanded_comes cells.xdounb demands.unbounded end.Unbounded 2 refl
      (subst (λ (c : Cells). Gives linear_programming_of_128_bits card move (demanded c.xdounb 2 report then)) same g)
