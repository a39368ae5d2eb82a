-- What PRIMAL and DUAL find.
--     PathFinds gain finding       the path of a solver from a basis ends so, or is stopped so
--     Finds gain finding           PRIMAL or DUAL finds this with a setup, and has this to print
use Rattle.std.specs.Prelude.{◌≡◌, ℕ, List, [], ◌∷◌, ◌++◌, Option, None, Ok, option_map}
use Rattle.lp_definitions.specs.LinearProgram.{LinearProgram}
use Rattle.lp_definitions.specs.Basis.{Basics}
use Rattle.lp_definitions.specs.declared.Evidence.{Evidence}
use Rattle.problem_definitions.specs.Problem.{Problem}
use Rattle.selection_definitions.specs.Selection.{selected}
use Rattle.listing_definitions.specs.declared.VerbFault.{VerbFault}
use Rattle.listing_definitions.specs.declared.Solver.{Solver}
use Rattle.listing_definitions.specs.Report.{PathVerdict, Check, Solved}
use Rattle.listing_definitions.specs.Ending.{Place}
use Rattle.control_definitions.specs.Cells.{Cells}
use Rattle.question_definitions.specs.Answers.{Basis, Sheet, Reached, PathLimit, PricesWrong}
use Rattle.answer_definitions.specs.Verdicts.{IsSolvedBy}
use Rattle.answer_definitions.specs.Evidence.{OverflowsBy}
use Rattle.fitting_answers.specs.Fitting.{VerdictFits, CheckFits, EvidenceFits}
use Rattle.basis_values.specs.Calls.{LieIn}
use Rattle.run_definitions.specs.State.{choice_of}
use Rattle.run_definitions.specs.Moves.{Gain, Nothing, Prints}
use Rattle.run_definitions.specs.Verbs.{mark_of}
use Rattle.run_machine.specs.declared.end.Place.{Place as OwnPlace}
use Rattle.run_machine.specs.declared.finding.Finding.{Finding}
use Rattle.run_machine.specs.declared.finding.Finding.TheVariants.{Refused, Overflow, WrongPrices, Limit, Ended}
use Rattle.setup_verbs.specs.Kept.{Setup}
use Rattle.run_machine.specs.Choosing.{HasSelectionFault, HasSelectionOverflow}
use Rattle.run_machine.specs.Ends.{place_view}
use Rattle.run_machine.specs.SolvingVerbs.{solver_of, limit_of}
use Rattle.run_machine.specs.declared.solving.SolvingVerb.{SolvingVerb}
use Rattle.solving_verbs.specs.Reaching.{ReachesBy}

-- ---- the path

module _ (solver : Solver) (sheet : Sheet) (s now : Basis) (limit : Option ℕ) (before after : List Basics) where
  -- the path from s goes over these bases to now, and ends there with this verdict
  abbrev pub PathReaches : List Basis → PathVerdict → Check → Type 0
  PathReaches bases verdict check = ReachesBy (IsSolvedBy solver sheet s limit (Reached bases verdict check)) sheet s now before after bases

  -- for every list of bases that ends with s, in which the waypoints lay before, the path from there may stop with this evidence
  abbrev pub PathOverflows : Evidence → Option Place → Type 0
  PathOverflows e place = (earlier : List Basis) →
      LieIn sheet.lp.matrix before (earlier ++ s ∷ []) →
      OverflowsBy solver sheet (earlier ++ s ∷ []) limit e place

  -- its verdict is printed; or a price of s is wrong; or it goes on past the limit; or an operation is refused; the numbers that are
  -- printed fit
  pub data PathFinds : Gain → Finding → Type 0 where
    reached : {bases : List Basis} {verdict : PathVerdict} {check : Check} →
        PathReaches bases verdict check → VerdictFits verdict × CheckFits check →
        PathFinds (Prints (Solved solver verdict check)) (Ended (mark_of verdict))
    wrong_prices : {variable : ℕ} → IsSolvedBy solver sheet s limit (PricesWrong variable) →
        PathFinds Nothing (WrongPrices variable)
    at_limit : IsSolvedBy solver sheet s limit PathLimit → PathFinds Nothing Limit
    overflows : {e : Evidence} {place : Option OwnPlace} →
        PathOverflows e (option_map place_view place) → EvidenceFits e → PathFinds Nothing (Overflow e place)

-- With these cells the selection of a setup's problem is refused; or the path of the verb is followed from the present basis, and the
-- setup keeps where it has come to.
pub data Finds (verb : SolvingVerb) (problem : Problem ℕ) (cells : Cells) (setup new : Setup) : Gain → Finding → Type 0 where
  unselected : {fault : VerbFault} →
      HasSelectionFault problem (choice_of cells setup.options) fault →
      Finds verb problem cells setup new Nothing (Refused fault)
  too_large : {e : Evidence} → HasSelectionOverflow problem (choice_of cells setup.options) e →
      Finds verb problem cells setup new Nothing (Overflow e None)
  solved : {lp : LinearProgram} {gain : Gain} {finding : Finding} →
      selected problem (choice_of cells setup.options) ≡ Ok lp →
      new.name ≡ setup.name → new.options ≡ setup.options →
      PathFinds (solver_of verb) (record { problem = problem; lp = lp }) setup.basis new.basis (limit_of verb cells)
      setup.engine.waypoints new.engine.waypoints gain finding →
      Finds verb problem cells setup new gain finding
