-- The path of bases since SETUP or INSERT, and the waypoints that lie in it.
use Rattle.std.proofs.Common.{◌≡◌, ℕ, List, [], ◌∷◌, ◌++◌, Option, Some, refl, sym, ap, subst, ◌∙◌}
use Rattle.std.proofs.lemmas.List.{append_assoc}
use Rattle.lp_definitions.specs.LinearProgram.{Matrix, LinearProgram, IsLinearProgram}
use Rattle.lp_definitions.specs.Basis.{Basics}
use Rattle.simplex_definitions.specs.Path.{PathEnding, Rule, turn, RuleEnd, RulePathEnds, last_of}
use Rattle.simplex_definitions.specs.DualPath.{dual_turn}
use Rattle.simplex_laws.specs.Laws.{IsNonsingularBasis, SameEnds}
use Rattle.simplex_laws.proofs.OnePath.{one_path}
use Rattle.simplex_laws.proofs.OneDualPath.{one_path as one_dual_path}
use Rattle.listing_definitions.specs.declared.Solver.TheVariants as solvers
use Rattle.problem_definitions.specs.Problem.{Problem}
use Rattle.problem_file.specs.Filed.{Filed, filed_under}
use Rattle.selection_definitions.specs.Selection.{matrix_of}
use Rattle.question_definitions.specs.Answers.{Basis}
use Rattle.basis_values.specs.Calls.{HasRates, LieIn}
use Rattle.bounded_primal.specs.Calls.{RuleWaypointsFollow}
use Rattle.listing_tables.specs.declared.sheet.Sheet.{Sheet}
use Rattle.report_text.specs.Verdicts.{verdict_view, check_view}
use Rattle.verb_answers.specs.declared.path.PathReport.{PathReport}
use Rattle.verb_answers.specs.Reports.{sheet_view, RuleIsReached, IsReached, IsDualReached}
use Rattle.run_definitions.specs.State.{Present, gone_through}
use Rattle.setup_verbs.specs.Kept.{Setup}
use Rattle.setup_verbs.specs.Standing.{ShowsSetup}
use Rattle.solving_verbs.specs.Found.{PathReaches}
use Rattle.parametric_laws.proofs.Runs.{last_of-append}
use Rattle.setup_verbs.proofs.Present.{IsPresentOf, present_with}

module _ (problem : Problem ℕ) (setup : Setup) (viewed : Option Present) (p : IsPresentOf problem setup viewed) (lp : LinearProgram)
    (same : matrix_of problem ≡ lp.matrix) where
  -- the present basis after a path
  pub goes_through : (file : Filed) (new : Setup) (bases : List Basis) → filed_under setup.name file ≡ Some problem → new.name ≡ setup.name →
      new.options ≡ setup.options →
      last_of setup.basis bases ≡ new.basis → LieIn lp.matrix new.engine.waypoints (p.initial ++ setup.basis ∷ bases) →
      ShowsSetup file (Some new) (Some (gone_through bases (present_with problem setup.options p.opening p.steps)))
  goes_through file new bases on_file same_name same_options leads lie = (
    gone_through bases (present_with problem setup.options p.opening p.steps),
    refl,
    record {
      on_file = ap (λ name. filed_under name file) same_name ∙ on_file;
      has_options = sym same_options;
      reached = last_of-append p.opening p.steps bases ∙ ap (λ s. last_of s bases) p.reached ∙ leads;
      lie = subst (λ (a : Matrix). LieIn a new.engine.waypoints (p.opening ∷ p.steps ++ bases)) (sym same)
          (subst (λ (bs : List Basis). LieIn lp.matrix new.engine.waypoints bs)
          (sym (append_assoc p.initial (setup.basis ∷ []) bases) ∙ ap (λ bs. bs ++ bases) (sym p.ends)) lie);
    },
  )

-- ---- the path that a verdict ends is the one that the waypoints follow

module _ (rule : Rule) (sheet : Sheet) (s now : Basis) (limit : Option ℕ) (before after : List Basics) (report : PathReport)
    (one : (bases others : List Basis) (ending : PathEnding) → RulePathEnds rule sheet.lp.now s bases ending → RulePathEnds rule sheet.lp.now s others ending →
    SameEnds bases others ending ending)
    (r : RuleIsReached rule sheet s now limit report) (w : RuleWaypointsFollow rule sheet.lp.now s now before after) where
  lie_reached : (earlier : List Basis) → LieIn sheet.lp.now.matrix before (earlier ++ s ∷ []) → LieIn sheet.lp.now.matrix after (earlier ++ s ∷ r.bases)
  lie_reached earlier lie =
      let same =
      one w.bases r.bases r.reaches.ending
      (record {
        is_path = w.is_path;
        ends = subst (λ x. RuleEnd rule sheet.lp.now x r.reaches.ending)
            (r.leads ∙ sym w.reaches) r.reaches.ends.ends;
      }) r.reaches.ends in
      subst (λ (bs : List Basis). LieIn sheet.lp.now.matrix after (earlier ++ s ∷ bs)) same.same_bases (w.lie earlier lie)

module _ (sheet : Sheet) (s now : Basis) (before after : List Basics) (report : PathReport) (a : Matrix) (b : Basics) (lawful : IsLinearProgram sheet.lp.now)
    (has : HasRates a b sheet.lp.now s) where
  begins : IsNonsingularBasis sheet.lp.now s
  begins = record { is_basis = has.is_basis; nonsingular = has.nonsingular }

  pub path_reached : (limit : Option ℕ) (r : IsReached sheet s now limit report) → RuleWaypointsFollow turn sheet.lp.now s now before after →
      PathReaches solvers.Primal (sheet_view sheet) s now limit before after r.bases (verdict_view sheet report.outcome) (check_view report.refused)
  path_reached limit r w = record {
    reaches = r.reaches;
    leads = r.leads;
    lie =
        lie_reached turn sheet s now limit before after report
        (λ bases others ending first second. one_path sheet.lp.now lawful s bases others ending ending begins first second) r w;
  }

  pub dual_reached : (limit : ℕ) (r : IsDualReached sheet s now limit report) → RuleWaypointsFollow dual_turn sheet.lp.now s now before after →
      PathReaches solvers.Dual (sheet_view sheet) s now (Some limit) before after r.1.bases (verdict_view sheet report.outcome) (check_view report.refused)
  dual_reached limit r w = record {
    reaches = (r.0, r.1.reaches);
    leads = r.1.leads;
    lie =
        lie_reached dual_turn sheet s now (Some limit) before after report
        (λ bases others ending first second. one_dual_path sheet.lp.now lawful s bases others ending ending begins first second) r.1 w;
  }
