-- PARAOBJ and PARARHS have an answer wherever they ask: the run has ended within its limit, with its report, or it goes on after it.
use Rattle.std.proofs.Common.{◌≡◌, ◌⊎◌, inl, inr, ◌≤◌, List, map, length, refl}
use Rattle.std.specs.Prelude.{None}
use Rattle.exact_values.specs.Rational.{ℚ}
use Rattle.exact_values.proofs.TestsLaws.{le_from_lt_fails}
use Rattle.lp_definitions.specs.LinearProgram.{LinearProgram, IsLinearProgram}
use Rattle.simplex_definitions.specs.Path.{PathEnding, last_of}
use Rattle.simplex_definitions.specs.Chain.{RunReport, FailedOpening, Chain, IsFailedOpening, IsReport, RunGoesOnFor}
use Rattle.simplex_laws.specs.Laws.{IsNonsingularBasis}
use Rattle.simplex_laws.proofs.OnePath.{path_leads}
use Rattle.parametric_laws.proofs.OneObjective.{lawful_objective}
use Rattle.parametric_laws.proofs.OneRhs.{lawful_rhs}
use Rattle.parametric_laws.proofs.Runs.{objective_keeps, rhs_keeps}
use Rattle.parametric_laws.specs.Families.{KeepsBases}
use Rattle.listing_definitions.specs.Report.{Check}
use Rattle.question_definitions.specs.Answers.{Basis, Sheet, Changing, Row, Set, ParametricRun, ParametricRunEnd, Opening, Chained, ParametricRunLimit}
use Rattle.question_definitions.specs.Answers.{OfParametricRun}
use Rattle.answer_definitions.specs.ParametricRuns.{row_of, shifts_of, family_of, IsFace, sheet_at, interval_of, end_of, IsParametricRun}
use Rattle.answer_definitions.specs.Verdicts.{verdict_of as verdict_at, check_of, found}
use Rattle.answer_definitions.specs.Real.{linear_programming}
use Rattle.soundness_laws.specs.ParametricRuns.{ChangesFreely}
use Rattle.soundness_laws.proofs.ChangeRow.{changes_freely}
use Rattle.parametric_existence_laws.specs.Laws.{EndsRun, HasReports}
use Rattle.parametric_existence_laws.proofs.ObjectiveParts.{objective_reports}
use Rattle.parametric_existence_laws.proofs.RhsParts.{rhs_reports}
use Rattle.one_run_laws.specs.Answers.{HasAnswer}
use Rattle.one_run_laws.proofs.Answering.{end_passes, found_of, lawful_of, unchanged}

-- ---- the family of a run

keeps_bases : (sheet : Sheet) (changing : Changing) → KeepsBases sheet.lp (family_of sheet changing) (IsFace sheet changing)
keeps_bases sheet (Row name) = objective_keeps sheet.lp (row_of sheet.problem name)
keeps_bases sheet (Set name) = rhs_keeps sheet.lp (shifts_of sheet.problem name)

lawful_family : (sheet : Sheet) (changing : Changing) → IsLinearProgram sheet.lp → ChangesFreely sheet changing → (theta : ℚ) →
    IsLinearProgram (family_of sheet changing theta)
lawful_family sheet (Row name) lawful free = lawful_objective sheet.lp (row_of sheet.problem name) lawful free.0 free.1
lawful_family sheet (Set name) lawful free = lawful_rhs sheet.lp (shifts_of sheet.problem name) lawful

reports_of : (sheet : Sheet) (changing : Changing) → IsLinearProgram sheet.lp → sheet.lp.change ≡ None → ChangesFreely sheet changing →
    HasReports sheet.lp (family_of sheet changing) (IsFace sheet changing)
reports_of sheet (Row name) lawful no_change free = objective_reports sheet.lp (row_of sheet.problem name) lawful free.0 free.1
reports_of sheet (Set name) lawful no_change free = rhs_reports sheet.lp (shifts_of sheet.problem name) lawful no_change

-- ---- its end

module _ (sheet : Sheet) (s : Basis) (run : ParametricRun) (lawful : IsLinearProgram sheet.lp) (free : ChangesFreely sheet run.changing)
    (at : IsNonsingularBasis sheet.lp s) where
  abbrev first : LinearProgram
  first = family_of sheet run.changing run.from

  -- the check of a failed opening
  checked_of : (path : List Basis) (ending : PathEnding) → IsFailedOpening (family_of sheet run.changing) (IsFace sheet run.changing) run.from s ending path →
      (check : Check) × (check_of first ending ≡ found check)
  checked_of path ending failed =
      found_of (check_of first ending)
      (end_passes first (lawful_family sheet run.changing lawful free run.from) (last_of s path) ending
      (path_leads first s path ((keeps_bases sheet run.changing).to_family run.from s at) failed.opens.is_path) failed.opens.ends)

  by_report : (report : RunReport) (path : List Basis) → IsReport (family_of sheet run.changing) (IsFace sheet run.changing) run.from run.to s report path →
      length path ≤ run.limit →
      (end : ParametricRunEnd) × IsParametricRun sheet s run end
  by_report (FailedOpening ending) path failed within =
      let check = checked_of path ending failed in (
        Opening path (verdict_at (sheet_at sheet run.changing run.from) (length path) ending) check.0,
        record { ending = ending; opens = failed; within_limit = within; is_verdict = record { is_verdict = refl; is_check = check.1 } },
      )
  by_report (Chain parts end) path is_run within = (
    Chained path (map (interval_of (sheet_at sheet run.changing run.from)) parts) (end_of sheet run.to end),
    record { parts = parts; past = end; is_run = is_run; within_limit = within; are_intervals = refl; is_end = refl },
  )

  end_of_run : (EndsRun (family_of sheet run.changing) (IsFace sheet run.changing) run.from run.to s run.limit ⊎
      RunGoesOnFor (family_of sheet run.changing) (IsFace sheet run.changing) run.from run.to s run.limit) →
      (end : ParametricRunEnd) × IsParametricRun sheet s run end
  end_of_run (inl ended) = by_report ended.report ended.path ended.is_report ended.within
  end_of_run (inr on) = (ParametricRunLimit, on)

pub parametric_runs : (run : ParametricRun) → HasAnswer linear_programming (OfParametricRun run)
unfolding linear_programming
parametric_runs run sheet s asked =
    let lawful = lawful_of (OfParametricRun run) sheet s asked in
    let free = changes_freely sheet asked.choice run.changing asked.is_problem asked.is_selected asked.suits.0 in
    end_of_run sheet s run lawful free asked.is_basis
    (reports_of sheet run.changing lawful (unchanged (OfParametricRun run) sheet s asked) free run.from run.to s run.limit
    (le_from_lt_fails run.to run.from asked.suits.1) asked.is_basis)
