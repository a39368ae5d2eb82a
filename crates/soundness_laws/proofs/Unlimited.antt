-- Without a limit PRIMAL doesn't stop at one.
use Rattle.std.proofs.Common.{◌≡◌, ℕ, inl, inr, sym, subst}
use Rattle.std.specs.Prelude.{Option, None, Some, Result, Ok, Err}
use Rattle.lp_definitions.specs.LinearProgram.{LinearProgram}
use Rattle.problem_definitions.specs.Problem.{Problem}
use Rattle.selection_definitions.specs.declared.SelectionFault.{SelectionFault}
use Rattle.selection_definitions.specs.Choice.{Choice}
use Rattle.selection_definitions.specs.Selection.{selected}
use Rattle.listing_definitions.specs.declared.Mark.{Mark}
use Rattle.listing_definitions.specs.declared.Mark.TheVariants.{Optimal, Infeasible, Unbounded}
use Rattle.listing_definitions.specs.declared.Solver.TheVariants.{Primal as ByPrimal}
use Rattle.listing_definitions.specs.declared.VerbFault.{VerbFault}
use Rattle.listing_definitions.specs.declared.VerbFault.TheVariants.{NoSetup}
use Rattle.listing_definitions.specs.Report.{Report, Solved}
use Rattle.question_definitions.specs.Answers.{Sheet, PathEnd, Reached, PathLimit, PricesWrong}
use Rattle.question_definitions.specs.Solving.{Solving}
use Rattle.answer_definitions.specs.Verdicts.{IsSolved}
use Rattle.answer_definitions.specs.Real.{linear_programming}
use Rattle.run_definitions.specs.State.{Present, present_basis, gone_through, State, choice_of}
use Rattle.run_definitions.specs.Moves.{StatementOutcome, Refusals, StatementMove, Does, MayStop, Gives, or_fault}
use Rattle.run_definitions.specs.Verbs.{or_selection_fault, selects, mark_of, demanded, by_verdict, after_path, solves, verb_move}
use Rattle.soundness_laws.specs.Laws.{IsNoLimitStop, EndsUnlimited}

module _ (S : Solving) (card : ℕ) where
  -- no outcome of a move is a stop at a limit
  record NeverLimited (move : StatementMove) : Type 0 where
    by : (outcome : StatementOutcome) → Gives S card move outcome → IsNoLimitStop outcome

  does : (outcome : StatementOutcome) → IsNoLimitStop outcome → NeverLimited (Does outcome)
  does outcome other = record { by = λ given e. subst IsNoLimitStop (sym e) other }

  may_stop : (refusals : Refusals) (move : StatementMove) → NeverLimited move → NeverLimited (MayStop refusals move)
  may_stop refusals move never = record { by = gives_so }
    where
      gives_so : (given : StatementOutcome) → Gives S card (MayStop refusals move) given → IsNoLimitStop given
      gives_so given (inl gives) = never.by given gives
      gives_so given (inr stop) = subst IsNoLimitStop (sym stop.3) tt

  unless_fault : {X : Type 0} (fault : VerbFault) (o : Option X) (go : X → StatementMove) → ((x : X) → NeverLimited (go x)) →
      NeverLimited (or_fault card fault o go)
  unless_fault fault None go never = does _ tt
  unless_fault fault (Some x) go never = never x

  unless_selection_fault : (r : Result LinearProgram SelectionFault) (go : LinearProgram → StatementMove) → ((lp : LinearProgram) → NeverLimited (go lp)) →
      NeverLimited (or_selection_fault card r go)
  unless_selection_fault (Err fault) go never = does _ tt
  unless_selection_fault (Ok lp) go never = never lp

  selecting : (problem : Problem ℕ) (choice : Choice) (go : LinearProgram → StatementMove) → ((lp : LinearProgram) → NeverLimited (go lp)) →
      NeverLimited (selects card problem choice go)
  selecting problem choice go never = unless_selection_fault (selected problem choice) _ (λ lp. may_stop _ (go lp) (never lp))

demanded_other : (set : Option ℕ) (code : ℕ) (report : Report) (state : State) → IsNoLimitStop (demanded set code report state)
demanded_other None code report state = tt
demanded_other (Some position) code report state = tt

verdict_other : (mark : Mark) (report : Report) (state : State) → IsNoLimitStop (by_verdict mark report state)
verdict_other Optimal report state = tt
verdict_other Infeasible report state = demanded_other state.cells.xdonfs 1 report state
verdict_other Unbounded report state = demanded_other state.cells.xdounb 2 report state

module _ (card : ℕ) (state : State) where
  path_other : (present : Present) (sheet : Sheet) (limit : Option ℕ) → limit ≡ None → (end : PathEnd) → IsSolved sheet (present_basis present) limit end →
      IsNoLimitStop (after_path ByPrimal card present state end)
  path_other present sheet limit none (Reached bases verdict check) solved =
      verdict_other (mark_of verdict) (Solved ByPrimal verdict check)
      (record state { setup = Some (gone_through bases present); mark = Some (mark_of verdict) })
  path_other present sheet None none PathLimit solved = absurd solved
  path_other present sheet (Some most) none PathLimit solved = absurd (cc none)
  path_other present sheet limit none (PricesWrong j) solved = absurd solved

  solves_other : state.cells.xiterlim ≡ None → NeverLimited linear_programming card (solves ByPrimal state.cells.xiterlim card state)
  unfolding linear_programming
  solves_other none =
      unless_fault linear_programming card NoSetup state.setup _ (λ present.
      selecting linear_programming card present.problem (choice_of state.cells present.options) _ (λ lp.
      may_stop linear_programming card _ _ (record {
        by = λ given a. subst IsNoLimitStop (sym a.2) (path_other present (record { problem = present.problem; lp = lp }) state.cells.xiterlim none a.0 a.1);
      })))

pub ends_unlimited : EndsUnlimited linear_programming
unfolding verb_move
ends_unlimited card state outcome none gives = (solves_other card state none).by outcome gives
