-- What PARAOBJ or PARARHS prints of a basis is one thing.
use Rattle.std.proofs.Common.{◌≡◌, List, map, length, refl, sym, ap, ap₂, ◌∙◌}
use Rattle.lp_definitions.specs.LinearProgram.{IsLinearProgram}
use Rattle.simplex_laws.specs.Laws.{IsNonsingularBasis}
use Rattle.simplex_definitions.specs.Chain.{FailedOpening, Chain}
use Rattle.listing_definitions.specs.Report.{PathVerdict, Check, Checked, Unchecked, ParametricInterval, ChainEnd}
use Rattle.question_definitions.specs.Answers.{Basis, Sheet, Changing, Row, Set, ParametricRun, ParametricRunEnd, Opening, Chained, ParametricRunLimit}
use Rattle.answer_definitions.specs.Verdicts.{verdict_of, check_of, found}
use Rattle.answer_definitions.specs.ParametricRuns.{row_of, shifts_of, family_of, IsFace, sheet_at, interval_of, end_of, FailsToOpen, IsChained}
use Rattle.answer_definitions.specs.ParametricRuns.{IsParametricRun}
use Rattle.parametric_laws.proofs.OneRun.{one_report, objective_faces, rhs_faces}
use Rattle.parametric_laws.specs.Families.{HasOneFace}
use Rattle.parametric_laws.proofs.NotBoth.{not_both}
use Rattle.soundness_laws.specs.ParametricRuns.{ChangesFreely}

pub one_check : (check other : Check) → found check ≡ found other → check ≡ other
one_check Checked Checked e = refl
one_check Checked (Unchecked refused) e = cc
one_check (Unchecked refused) Checked e = cc
one_check (Unchecked refused) (Unchecked other) e = let same : refused ≡ other = cc in ap Unchecked same

faces_of : (sheet : Sheet) (changing : Changing) → IsLinearProgram sheet.lp → ChangesFreely sheet changing →
    HasOneFace sheet.lp (family_of sheet changing) (IsFace sheet changing)
faces_of sheet (Row name) lawful free = objective_faces sheet.lp (row_of sheet.problem name) lawful free.0 free.1
faces_of sheet (Set name) lawful free = rhs_faces sheet.lp (shifts_of sheet.problem name) lawful

module _ (sheet : Sheet) (s : Basis) (parametric_run : ParametricRun) (lawful : IsLinearProgram sheet.lp) (free : ChangesFreely sheet parametric_run.changing)
    (at : IsNonsingularBasis sheet.lp s) where
  one : HasOneFace sheet.lp (family_of sheet parametric_run.changing) (IsFace sheet parametric_run.changing)
  one = faces_of sheet parametric_run.changing lawful free

  abbrev first_sheet : Sheet
  first_sheet = sheet_at sheet parametric_run.changing parametric_run.from

  openings : (bases others : List Basis) (verdict verdict' : PathVerdict) (check check' : Check) → FailsToOpen sheet s parametric_run bases verdict check →
      FailsToOpen sheet s parametric_run others verdict' check' →
      Opening bases verdict check ≡ Opening others verdict' check'
  openings bases others verdict verdict' check check' first second =
      let same =
      one_report sheet.lp (family_of sheet parametric_run.changing) (IsFace sheet parametric_run.changing) one parametric_run.from parametric_run.to s
      (FailedOpening first.ending) (FailedOpening second.ending) bases others at
      first.opens second.opens in
      let reports = same.same_report in
      let ends : first.ending ≡ second.ending = cc in
      let verdicts : verdict ≡ verdict' =
      first.is_verdict.is_verdict ∙ ap₂ (verdict_of first_sheet) (ap length same.same_path) ends ∙ sym second.is_verdict.is_verdict in
      let checks : check ≡ check' =
      one_check check check' (sym first.is_verdict.is_check ∙ ap (check_of first_sheet.lp) ends ∙ second.is_verdict.is_check) in
      λ i. Opening (same.same_path i) (verdicts i) (checks i)

  chains : (bases others : List Basis) (intervals intervals' : List ParametricInterval) (end end' : ChainEnd) →
      IsChained sheet s parametric_run bases intervals end → IsChained sheet s parametric_run others intervals' end' →
      Chained bases intervals end ≡ Chained others intervals' end'
  chains bases others intervals intervals' end end' first second =
      let same =
      one_report sheet.lp (family_of sheet parametric_run.changing) (IsFace sheet parametric_run.changing) one parametric_run.from parametric_run.to s
      (Chain first.parts first.past) (Chain second.parts second.past) bases others at
      first.is_run second.is_run in
      let reports = same.same_report in
      let parts : first.parts ≡ second.parts = cc in
      let pasts : first.past ≡ second.past = cc in
      let printed : intervals ≡ intervals' = first.are_intervals ∙ ap (map (interval_of first_sheet)) parts ∙ sym second.are_intervals in
      let ends : end ≡ end' = first.is_end ∙ ap (end_of sheet parametric_run.to) pasts ∙ sym second.is_end in
      λ i. Chained (same.same_path i) (printed i) (ends i)

  opens_or_chains : (bases others : List Basis) (verdict : PathVerdict) (check : Check) (intervals : List ParametricInterval) (end : ChainEnd) →
      FailsToOpen sheet s parametric_run bases verdict check →
      IsChained sheet s parametric_run others intervals end → ⊥
  opens_or_chains bases others verdict check intervals end first second =
      let reports =
      (one_report sheet.lp (family_of sheet parametric_run.changing) (IsFace sheet parametric_run.changing) one parametric_run.from parametric_run.to s
      (FailedOpening first.ending) (Chain second.parts second.past) bases others at
      first.opens second.is_run).same_report in cc

  pub one_parametric_run_end : (end other : ParametricRunEnd) → IsParametricRun sheet s parametric_run end → IsParametricRun sheet s parametric_run other →
      end ≡ other
  one_parametric_run_end (Opening bases verdict check) (Opening others verdict' check') first second =
      openings bases others verdict verdict' check check' first second
  one_parametric_run_end (Opening bases verdict check) (Chained others intervals end) first second =
      absurd (opens_or_chains bases others verdict check intervals end first second)
  one_parametric_run_end (Opening bases verdict check) ParametricRunLimit first second =
      absurd (not_both sheet.lp (family_of sheet parametric_run.changing) (IsFace sheet parametric_run.changing) one parametric_run.from parametric_run.to s
      (FailedOpening first.ending) bases parametric_run.limit at first.opens first.within_limit second)
  one_parametric_run_end (Chained bases intervals end) (Opening others verdict check) first second =
      absurd (opens_or_chains others bases verdict check intervals end second first)
  one_parametric_run_end (Chained bases intervals end) (Chained others intervals' end') first second =
      chains bases others intervals intervals' end end' first second
  one_parametric_run_end (Chained bases intervals end) ParametricRunLimit first second =
      absurd (not_both sheet.lp (family_of sheet parametric_run.changing) (IsFace sheet parametric_run.changing) one parametric_run.from parametric_run.to s
      (Chain first.parts first.past) bases parametric_run.limit at first.is_run first.within_limit second)
  one_parametric_run_end ParametricRunLimit (Opening others verdict check) first second =
      absurd (not_both sheet.lp (family_of sheet parametric_run.changing) (IsFace sheet parametric_run.changing) one parametric_run.from parametric_run.to s
      (FailedOpening second.ending) others parametric_run.limit at second.opens second.within_limit first)
  one_parametric_run_end ParametricRunLimit (Chained others intervals end) first second =
      absurd (not_both sheet.lp (family_of sheet parametric_run.changing) (IsFace sheet parametric_run.changing) one parametric_run.from parametric_run.to s
      (Chain second.parts second.past) others parametric_run.limit at second.is_run second.within_limit first)
  one_parametric_run_end ParametricRunLimit ParametricRunLimit first second = refl
