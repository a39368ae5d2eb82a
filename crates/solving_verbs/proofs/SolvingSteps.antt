-- What PRIMAL and DUAL find.
use Rattle.std.proofs.Common.{◌≡◌, ℕ, List, [], ◌∷◌, ◌++◌, Option, None, Some, Result, Ok, Err, length, refl, sym, ap, subst, ◌∙◌}
use Rattle.std.specs.Prelude.{MatchResult, IfOk}
use Rattle.job_devices.specs.States.{SinkState}
use Rattle.job_devices.specs.declared.device.WriteStop.{WriteStop}
use Rattle.job_devices.specs.Text.{Writes}
use Rattle.lp_definitions.specs.LinearProgram.{LinearProgram, IsLinearProgram}
use Rattle.lp_definitions.specs.Basis.{Basics, basics_of, IsOptimalBasis}
use Rattle.lp_definitions.specs.Waypoints.{waypoint}
use Rattle.lp_definitions.specs.declared.Evidence.{Evidence}
use Rattle.simplex_definitions.specs.Path.{PathEnding, EndsOptimal, EndsCrossed, EndsInfeasible, EndsUnbounded, Rule, EndsAt, last_of}
use Rattle.simplex_definitions.specs.DualPath.{HasRightPrices, DualEndsAt}
use Rattle.simplex_definitions.specs.Statements.{SolvingStatement}
use Rattle.simplex_laws.specs.Laws.{IsNonsingularBasis}
use Rattle.simplex_laws.proofs.Ends.{optimal_end}
use Rattle.simplex_laws.proofs.DualTurns.{dual_end}
use Rattle.simplex_laws.proofs.OneDualPath.{path_right}
use Rattle.problem_definitions.specs.Problem.{Problem}
use Rattle.problem_file.specs.Filed.{Filed, filed_under}
use Rattle.control_definitions.specs.Cells.{Cells}
use Rattle.selection_definitions.specs.Selection.{selected}
use Rattle.listing_definitions.specs.declared.Mark.{Mark}
use Rattle.listing_definitions.specs.declared.Mark.TheVariants.{Optimal}
use Rattle.listing_definitions.specs.declared.Solver.{Solver}
use Rattle.listing_definitions.specs.declared.Solver.TheVariants.{Primal, Dual, Paraobj, Pararhs}
use Rattle.listing_definitions.specs.Report.{PathVerdict, Check, Solved}
use Rattle.listing_definitions.specs.Text.{report_text}
use Rattle.listing_definitions.specs.Ending as endings
use Rattle.question_definitions.specs.Answers.{Basis, Sheet, Reached, PathLimit}
use Rattle.answer_definitions.specs.Verdicts.{verdict_of, IsSolvedBy}
use Rattle.answer_definitions.specs.Evidence.{RuleOverflowsOnPath, OverflowsBy}
use Rattle.listing_tables.specs.declared.sheet.Sheet.{Sheet as OwnSheet}
use Rattle.verb_answers.specs.Reports.{sheet_view, RuleOverflowsThere, PassesLimit}
use Rattle.run_definitions.specs.State.{choice_of}
use Rattle.run_definitions.specs.Moves.{Gain, Nothing, Prints}
use Rattle.run_definitions.specs.Verbs.{mark_of}
use Rattle.run_machine.specs.declared.act.Halt.{Halt}
use Rattle.run_machine.specs.declared.act.Halt.TheVariants as halt
use Rattle.run_machine.specs.declared.end.Place.{Place as OwnPlace}
use Rattle.run_machine.specs.declared.finding.Finding.{Finding}
use Rattle.run_machine.specs.declared.finding.Finding.TheVariants.{Ended, Overflow}
use Rattle.fitting_answers.specs.Fitting.{VerdictFits, CheckFits, EvidenceFits}
use Rattle.basis_values.specs.Calls.{HasRates}
use Rattle.lp_model.specs.RatesState.{RatesState}
use Rattle.setup_verbs.specs.Kept.{Setup}
use Rattle.setup_verbs.specs.Standing.{IsReady, IsSolved}
use Rattle.run_machine.specs.declared.selecting.Refusal.{Refusal}
use Rattle.run_machine.specs.declared.selecting.Refusal.TheVariants.{Fault, NoMemory}
use Rattle.run_machine.specs.declared.selecting.Refusal.TheVariants as refusals
use Rattle.run_machine.specs.Choosing.{IsUnselected}
use Rattle.run_machine.specs.Ends.{place_view}
use Rattle.run_machine.specs.Findings.{ReportsFinding, refused_finding, IfEnded}
use Rattle.run_machine.specs.declared.solving.SolvingVerb.{SolvingVerb}
use Rattle.run_machine.specs.SolvingVerbs.{solver_of, limit_of}
use Rattle.solving_verbs.specs.Found.{PathReaches, PathFinds, reached, wrong_prices, at_limit, overflows, Finds, unselected, too_large, solved}
use Rattle.setup_verbs.proofs.Selected.{no_change}
use Rattle.setup_verbs.proofs.Reporting.{tells_more, tells_quietly}
use Rattle.setup_verbs.proofs.Present.{one_problem, now_selected}
use Rattle.solving_verbs.proofs.SelectedAgain.{name_kept, options_kept, basis_kept, engine_kept, now_is, rates_again}

-- ---- the path

module _ (solver : Solver) (sheet : Sheet) (s now : Basis) (limit : Option ℕ) (before after : List Basics) (bases : List Basis) (verdict : PathVerdict)
    (check : Check)
    (r : PathReaches solver sheet s now limit before after bases verdict check) (fit : VerdictFits verdict × CheckFits check) where
  -- its verdict is printed or broken off
  pub verdict_reported : (mark : Mark) {print_old print_new : SinkState} → mark ≡ mark_of verdict →
      Writes {T = Unit {0}} print_old print_new (Ok tt) (report_text (Solved solver verdict check)) →
      ReportsFinding (PathFinds solver sheet s now limit before after) print_old print_new (Ok (Ended mark))
  verdict_reported mark e writes = record {
    gain = Prints (Solved solver verdict check);
    holds = subst (λ (m : Mark). PathFinds solver sheet s now limit before after (Prints (Solved solver verdict check)) (Ended m)) (sym e) (reached r fit);
    writes = writes;
  }

  pub verdict_cut : (stop : WriteStop) {print_old print_new : SinkState} →
      Writes {T = Unit {0}} print_old print_new (Err stop) (report_text (Solved solver verdict check)) →
      ReportsFinding (PathFinds solver sheet s now limit before after) print_old print_new (Err (halt.Print stop))
  verdict_cut stop writes = record { gain = Prints (Solved solver verdict check); finding = Ended (mark_of verdict); holds = reached r fit; writes = writes }

-- only a limit is passed
pub limit_passed : (sheet : OwnSheet) (s now : Basis) (limit : Option ℕ) → PassesLimit sheet s now limit →
    IsSolvedBy Primal (sheet_view sheet) s limit PathLimit
limit_passed sheet s now (Some most) h = h.goes_on
limit_passed sheet s now None h = h

-- a path by a rule stops where the solver may stop
pub path_overflows : (solver : Solver) (rule : Rule) (statement : SolvingStatement) (sheet : OwnSheet) (s now : Basis) (limit : Option ℕ)
    (before after : List Basics) (e : Evidence) →
    ((bases : List Basis) (place : Option endings.Place) → RuleOverflowsOnPath rule statement (sheet_view sheet) bases limit e place →
    OverflowsBy solver (sheet_view sheet) bases limit e place) →
    RuleOverflowsThere rule statement sheet s now limit before after e →
    (place : OwnPlace) → place_view place ≡ record { basis = now; way = waypoint (basics_of now) after e.way } → EvidenceFits e →
    PathFinds solver (sheet_view sheet) s now limit before after Nothing (Overflow e (Some place))
path_overflows solver rule statement sheet s now limit before after e by o place is fit =
    overflows (λ earlier lie. by (earlier ++ s ∷ []) (Some (place_view place))
    (subst (λ (p : endings.Place). RuleOverflowsOnPath rule statement (sheet_view sheet) (earlier ++ s ∷ []) limit e (Some p)) (sym is)
    (o.overflows earlier lie))) fit

-- ---- what is found with a setup

-- a refusal of the selection
refusal_found : (verb : SolvingVerb) (problem : Problem ℕ) (cells : Cells) (setup new : Setup) (refusal : Refusal) →
    IsUnselected problem (choice_of cells setup.options) refusal →
    MatchResult (refused_finding refusal) (Finds verb problem cells setup new Nothing) (λ h. h ≡ halt.NoMemory)
refusal_found verb problem cells setup new (Fault fault) u = unselected u
refusal_found verb problem cells setup new (refusals.Overflow e) u = too_large u
refusal_found verb problem cells setup new NoMemory u = refl

pub refusal_ends : (refusal : Refusal) (Fact : Mark → Type 0) → IfOk (refused_finding refusal) (λ finding. IfEnded finding Fact)
refusal_ends (Fault fault) Fact = tt
refusal_ends (refusals.Overflow e) Fact = tt
refusal_ends NoMemory Fact = tt

-- what an optimal verdict says of the basis that the path has reached
optimal_ending : (p : LinearProgram) (now : Basis) (sheet : Sheet) (steps : ℕ) (ending : PathEnding) → IsLinearProgram p → IsNonsingularBasis p now →
    EndsAt p now ending → mark_of (verdict_of sheet steps ending) ≡ Optimal → IsOptimalBasis p now
optimal_ending p now sheet steps (EndsOptimal z y) lawful at ends is = (optimal_end p now z y lawful at ends).optimal
optimal_ending p now sheet steps (EndsCrossed k) lawful at ends is = absurd (cc is)
optimal_ending p now sheet steps (EndsInfeasible w) lawful at ends is = absurd (cc is)
optimal_ending p now sheet steps (EndsUnbounded z d) lawful at ends is = absurd (cc is)

-- by either verb the path ends where the simplex path does
record IsEnd (sheet : Sheet) (now : Basis) (steps : ℕ) (verdict : PathVerdict) : Type 0 where
  ending : PathEnding
  ends : EndsAt sheet.lp now ending
  is_verdict : verdict ≡ verdict_of sheet steps ending

end_reached : (solver : Solver) (sheet : Sheet) (s now : Basis) (limit : Option ℕ) (bases : List Basis) (verdict : PathVerdict) (check : Check) →
    IsLinearProgram sheet.lp → sheet.lp.change ≡ None →
    IsNonsingularBasis sheet.lp s → IsNonsingularBasis sheet.lp now → last_of s bases ≡ now → IsSolvedBy solver sheet s limit (Reached bases verdict check) →
    IsEnd sheet now (length bases) verdict
end_reached Primal sheet s now limit bases verdict check lawful no_change from at leads r = record {
  ending = r.ending;
  ends = subst (λ (b : Basis). EndsAt sheet.lp b r.ending) leads r.ends.ends;
  is_verdict = r.is_verdict.is_verdict;
}
end_reached Dual sheet s now limit bases verdict check lawful no_change from at leads r = record {
  ending = r.1.ending;
  ends = dual_end sheet.lp now r.1.ending lawful at
      (subst (HasRightPrices sheet.lp) leads (path_right sheet.lp lawful no_change s bases from r.0 r.1.ends.is_path))
      (subst (λ (b : Basis). DualEndsAt sheet.lp b r.1.ending) leads r.1.ends.ends);
  is_verdict = r.1.is_verdict.is_verdict;
}
end_reached Paraobj sheet s now limit bases verdict check lawful no_change from at leads r = absurd r
end_reached Pararhs sheet s now limit bases verdict check lawful no_change from at leads r = absurd r

pub solved_ends : (solver : Solver) (sheet : Sheet) (s now : Basis) (limit : Option ℕ) (before after : List Basics) (gain : Gain) (finding : Finding) →
    IsLinearProgram sheet.lp → sheet.lp.change ≡ None →
    IsNonsingularBasis sheet.lp s → IsNonsingularBasis sheet.lp now → PathFinds solver sheet s now limit before after gain finding →
    (Fact : Mark → Type 0) → ((mark : Mark) → (mark ≡ Optimal → IsOptimalBasis sheet.lp now) → Fact mark) → IfEnded finding Fact
solved_ends solver sheet s now limit before after _ _ lawful no_change from at (reached {bases = bases} {verdict = verdict} {check = check} r fit) Fact gives =
    let end = end_reached solver sheet s now limit bases verdict check lawful no_change from at r.leads r.reaches in
    gives (mark_of verdict)
    (λ is. optimal_ending sheet.lp now sheet (length bases) end.ending lawful at end.ends
    (subst (λ (v : PathVerdict). mark_of v ≡ Optimal) end.is_verdict is))
solved_ends solver sheet s now limit before after _ _ lawful no_change from at (wrong_prices h) Fact gives = tt
solved_ends solver sheet s now limit before after _ _ lawful no_change from at (at_limit h) Fact gives = tt
solved_ends solver sheet s now limit before after _ _ lawful no_change from at (overflows h fit) Fact gives = tt

-- The setup that code has opened, which is the one that is spoken of, and what is left of it.
module _ (verb : SolvingVerb) (cells : Cells) (file : Filed) {setup old : Setup} (is_old : setup ≡ old) (new : Setup) (there : Problem ℕ)
    (is_there : filed_under setup.name file ≡ Some there) where
  at_problem : (print_old print_new : SinkState) (result : Result Finding Halt) → ReportsFinding (Finds verb there cells setup new) print_old print_new result →
      (problem : Problem ℕ) → filed_under old.name file ≡ Some problem → ReportsFinding (Finds verb problem cells old new) print_old print_new result
  at_problem print_old print_new result t problem on_file =
      subst (λ (s : Setup). ReportsFinding (Finds verb problem cells s new) print_old print_new result) is_old
      (subst (λ (q : Problem ℕ). ReportsFinding (Finds verb q cells setup new) print_old print_new result)
      (one_problem file setup there problem is_there (ap (λ (s : Setup). filed_under s.name file) is_old ∙ on_file)) t)

  pub refusal_reported : (print : SinkState) (refusal : Refusal) → IsUnselected there (choice_of cells setup.options) refusal →
      (problem : Problem ℕ) → filed_under old.name file ≡ Some problem → ReportsFinding (Finds verb problem cells old new) print print (refused_finding refusal)
  refusal_reported print refusal u =
      at_problem print print (refused_finding refusal)
      (tells_quietly (Finds verb there cells setup new) print (refused_finding refusal) (refusal_found verb there cells setup new refusal u))

  pub path_reported : (lp : LinearProgram) (limit : Option ℕ) (print_old print_new : SinkState) (result : Result Finding Halt) → limit ≡ limit_of verb cells →
      selected there (choice_of cells setup.options) ≡ Ok lp →
      new.name ≡ setup.name → new.options ≡ setup.options →
      ReportsFinding
      (PathFinds (solver_of verb)
      (record { problem = there; lp = lp }) setup.basis new.basis limit setup.engine.waypoints new.engine.waypoints) print_old print_new result →
      (problem : Problem ℕ) → filed_under old.name file ≡ Some problem → ReportsFinding (Finds verb problem cells old new) print_old print_new result
  path_reported lp limit print_old print_new result within ok same_name same_options t =
      at_problem print_old print_new result
      (tells_more (PathFinds (solver_of verb) (record { problem = there; lp = lp }) setup.basis new.basis limit setup.engine.waypoints new.engine.waypoints)
      (Finds verb there cells setup new) print_old print_new
      (λ gain finding f. solved ok same_name same_options
      (subst (λ (n : Option ℕ). PathFinds (solver_of verb)
      (record { problem = there; lp = lp }) setup.basis new.basis n setup.engine.waypoints new.engine.waypoints gain finding) within f)) result t)

-- The path of a setup of whose problem was selected again.
module _ (verb : SolvingVerb) (cells : Cells) (file : Filed) (setup : Setup) {given mid : Setup} (seen : mid ≡ given)
    (others : given ≡ record setup { objective = given.objective; rhs = given.rhs; lp = given.lp }) (problem : Problem ℕ)
    (on_file : filed_under setup.name file ≡ Some problem)
    (ok : selected problem (choice_of cells setup.options) ≡ Ok given.lp) (new : Setup) (name : new.name ≡ mid.name) (options : new.options ≡ mid.options)
    (print_old print_new : SinkState) (result : Result Finding Halt)
    (t : ReportsFinding
    (PathFinds (solver_of verb) (record { problem = problem; lp = mid.lp }) mid.basis new.basis
    (limit_of verb cells) mid.engine.waypoints new.engine.waypoints) print_old print_new result) where
  pub again_reported : (filed : Problem ℕ) → filed_under setup.name file ≡ Some filed →
      ReportsFinding (Finds verb filed cells setup new) print_old print_new result
  again_reported =
      path_reported verb cells file refl new problem on_file mid.lp (limit_of verb cells) print_old print_new result refl
      (now_is setup seen others file problem cells ok)
      (name ∙ name_kept setup seen others) (options ∙ options_kept setup seen others)
      (subst (λ (b : Basis). ReportsFinding
      (PathFinds (solver_of verb) (record { problem = problem; lp = mid.lp }) b new.basis
      (limit_of verb cells) setup.engine.waypoints new.engine.waypoints) print_old print_new result) (basis_kept setup seen others)
      (subst (λ (e : RatesState). ReportsFinding
      (PathFinds (solver_of verb) (record { problem = problem; lp = mid.lp }) mid.basis new.basis
      (limit_of verb cells) e.waypoints new.engine.waypoints) print_old print_new result) (engine_kept setup seen others) t))

  -- with an optimal verdict the basis is optimal in what is selected
  pub again_solved : IsReady file setup → new.lp ≡ mid.lp → IsLinearProgram mid.lp → HasRates new.engine.matrix new.engine.basics mid.lp new.basis →
      IfOk result (λ finding. IfEnded finding (λ mark. IsSolved mark cells.xobj cells.xrhs file new))
  again_solved ready same_lp lawful has = by result t
    where
      is_now : selected problem (choice_of cells setup.options) ≡ Ok mid.lp
      is_now = now_is setup seen others file problem cells ok

      from : HasRates mid.engine.matrix mid.engine.basics mid.lp mid.basis
      from = rates_again setup seen others file problem cells ok ready on_file

      solved_with : (mark : Mark) → (mark ≡ Optimal → IsOptimalBasis mid.lp new.basis) → IsSolved mark cells.xobj cells.xrhs file new
      solved_with mark optimal = record {
        is_selected =
            now_selected file setup ready problem on_file cells mid.lp is_now new (name ∙ name_kept setup seen others)
            (options ∙ options_kept setup seen others) same_lp;
        optimal = subst (λ (p : LinearProgram). mark ≡ Optimal → IsOptimalBasis p new.basis) (sym same_lp) optimal;
      }

      by : (result : Result Finding Halt) →
          ReportsFinding
          (PathFinds (solver_of verb) (record { problem = problem; lp = mid.lp }) mid.basis new.basis
          (limit_of verb cells) mid.engine.waypoints new.engine.waypoints) print_old print_new result →
          IfOk result (λ finding. IfEnded finding (λ mark. IsSolved mark cells.xobj cells.xrhs file new))
      by (Ok finding) reported =
          solved_ends (solver_of verb) (record { problem = problem; lp = mid.lp }) mid.basis new.basis
          (limit_of verb cells) mid.engine.waypoints new.engine.waypoints reported.gain finding lawful
          (no_change problem (choice_of cells setup.options) mid.lp is_now) (record { is_basis = from.is_basis; nonsingular = from.nonsingular })
          (record { is_basis = has.is_basis; nonsingular = has.nonsingular }) reported.holds
          (λ mark. IsSolved mark cells.xobj cells.xrhs file new) solved_with
      by (Err halted) reported = tt
