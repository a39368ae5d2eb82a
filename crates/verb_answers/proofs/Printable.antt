-- The lists of a run have a place for each variable, so that it can be printed.
use Rattle.std.proofs.Common.{◌≡◌, ℕ, List, [], ◌∷◌, Option, Some, None, length, map, refl, ap, subst, ◌∙◌}
use Rattle.std.specs.Prelude.{Bool}
use Rattle.std.specs.List.{All, AllByRecursion}
use Rattle.std.proofs.lemmas.List.{length-map}
use Rattle.exact_values.specs.Rational.{ℚ}
use Rattle.exact_values.proofs.Order.{le_refl}
use Rattle.lp_definitions.specs.LinearProgram.{Matrix, LinearProgram, Vector, size, variables}
use Rattle.lp_definitions.specs.Basis.{basics_of, Tableau}
use Rattle.lp_definitions.specs.declared.Status.{Status}
use Rattle.lp_laws.proofs.Opening.{length-numbers_from}
use Rattle.lp_model.specs.declared.reports.Outcome.{Outcome}
use Rattle.lp_model.specs.declared.reports.Outcome.TheVariants as outcomes
use Rattle.lp_model.specs.declared.reports.ParaEnd.{ParaEnd}
use Rattle.lp_model.specs.declared.reports.ParaEnd.TheVariants as ends
use Rattle.lp_model.specs.declared.reports.ParaPart.{ParaPart}
use Rattle.lp_model.specs.declared.reports.ParaReport.{ParaReport}
use Rattle.lp_model.specs.declared.reports.ParaReport.TheVariants as reports
use Rattle.simplex_definitions.specs.Moves.{goes_up, blocking_variable}
use Rattle.simplex_definitions.specs.Path.{listed, ray_of, speeds}
use Rattle.simplex_definitions.specs.DualRatio.{cheapest}
use Rattle.simplex_definitions.specs.Chain.{Part, ChainEnd, AtMax, UnboundedPast, InfeasiblePast, FaceTurn, FaceMoves, FaceDone, FaceEnds, IsPart as IsInterval}
use Rattle.simplex_definitions.specs.Chain.{IsChain, at_max, past_breakpoint, goes_on}
use Rattle.simplex_definitions.specs.ObjectiveRun.{objective_family, change_rate, face_entering_variable, face_until, face_by, objective_face, IsObjectiveFace}
use Rattle.simplex_definitions.specs.RhsRun.{rhs_family, leaves_below, leaving, face_exchange, face_at, rhs_face, IsRhsFace}
use Rattle.problem_definitions.proofs.Each.{each-all}
use Rattle.bounded_primal.specs.Outcomes.{IsTrueOutcome}
use Rattle.listing_tables.specs.declared.sheet.Sheet.{Sheet}
use Rattle.listing_tables.specs.Sheets.{IsSheet}
use Rattle.listing_tables.specs.Tables.{IsPart}
use Rattle.report_text.specs.Parametric.{AreEndLists}
use Rattle.report_text.specs.Verdicts.{IsOutcome}
use Rattle.parametric_run.specs.Calls.{part_of, end_of, RunEnds}
use Rattle.parametric_run.specs.Truth.{IsTrueReported}
use Rattle.verb_answers.specs.RunReports.{IsPrintable}

listed_counted : (a : Matrix) (z : Vector) → length (listed a z) ≡ size a
listed_counted a z = length-map (variables a) z ∙ length-numbers_from 1 (size a)

-- ---- intervals and ends with so many places

record HasPlaces (places : ℕ) (part : Part) : Type 0 where
  statuses : length part.statuses ≡ places
  value : length part.value ≡ places
  value_rate : length part.value_rate ≡ places
  price : length part.price ≡ places
  price_rate : length part.price_rate ≡ places

abbrev EndHasPlaces : ℕ → ChainEnd → Type 0
EndHasPlaces places AtMax = Unit {0}
EndHasPlaces places (UnboundedPast past point direction) = (length point ≡ places) × (length direction ≡ places)
EndHasPlaces places (InfeasiblePast past ray) = length ray ≡ places

module _ (p : LinearProgram) (h : ℕ) (theta : ℚ) (s : List Status) (t : Tableau) where
  objective_until : (q : ℕ) (v : Vector) (o : Option ℕ) (end : ChainEnd) → face_until p h theta s t q v o ≡ FaceEnds end → EndHasPlaces (size p.matrix) end
  objective_until q v (Some k) end e = absurd (cc e)
  objective_until q v None end e =
      subst (EndHasPlaces (size p.matrix)) (let same : UnboundedPast theta (listed p.matrix t.point) (listed p.matrix v) ≡ end = cc e in same)
      (listed_counted p.matrix t.point, listed_counted p.matrix v)

  objective_by : (o : Option ℕ) (end : ChainEnd) → face_by p h theta s t o ≡ FaceEnds end → EndHasPlaces (size p.matrix) end
  objective_by (Some q) end e =
      objective_until q (speeds t.rate (goes_up (change_rate p h theta s t) q) q)
      (blocking_variable p t.point (speeds t.rate (goes_up (change_rate p h theta s t) q) q)) end e
  objective_by None end e = absurd (cc e)

  objective_end : (end : ChainEnd) → objective_face p h theta s t ≡ FaceEnds end → EndHasPlaces (size p.matrix) end
  unfolding objective_face
  objective_end end e = objective_by (face_entering_variable p h theta s t) end e

module _ (p : LinearProgram) (shift : List ℚ) (theta : ℚ) (s : List Status) (t : Tableau) (v : Vector) where
  rhs_exchange : (r : ℕ) (below : Bool) (o : Option ℕ) (end : ChainEnd) → face_exchange p shift theta s t v r below o ≡ FaceEnds end →
      EndHasPlaces (size p.matrix) end
  rhs_exchange r below (Some q) end e = absurd (cc e)
  rhs_exchange r below None end e =
      let ray : Vector = ray_of (basics_of s) t.rate r below in
      subst (EndHasPlaces (size p.matrix)) (let same : InfeasiblePast theta (listed p.matrix ray) ≡ end = cc e in same) (listed_counted p.matrix ray)

  rhs_at : (o : Option ℕ) (end : ChainEnd) → face_at p shift theta s t v o ≡ FaceEnds end → EndHasPlaces (size p.matrix) end
  rhs_at (Some r) end e = rhs_exchange r (leaves_below p shift theta s t v r) (cheapest p s t r (leaves_below p shift theta s t v r)) end e
  rhs_at None end e = absurd (cc e)

  rhs_end : (end : ChainEnd) → rhs_face p shift theta s t v ≡ FaceEnds end → EndHasPlaces (size p.matrix) end
  unfolding rhs_face
  rhs_end end e = rhs_at (leaving p shift theta s t v) end e

-- ---- a chain

module _ (family : ℚ → LinearProgram) (Face : ℚ → List Status → FaceTurn → Type 0) (places : ℕ) (counted : (theta : ℚ) → size (family theta).matrix ≡ places)
    (ended : (theta : ℚ) (s : List Status) (end : ChainEnd) → Face theta s (FaceEnds end) → EndHasPlaces places end) (max : ℚ) where
  interval_places : (from : ℚ) (s : List Status) (part : Part) → IsInterval family from max s part → HasPlaces places part
  interval_places from s part is = record {
    statuses = ap length is.statuses ∙ (is.reaches.optimal from (le_refl from) is.reaches.forward).is_basis.counted ∙ counted from;
    value = is.values_counted.value_counted ∙ counted from;
    value_rate = is.values_counted.rate_counted ∙ counted from;
    price = is.prices_counted.value_counted ∙ counted from;
    price_rate = is.prices_counted.rate_counted ∙ counted from;
  }

  chain_places : (from : ℚ) (s : List Status) (parts : List Part) (end : ChainEnd) (path : List (List Status)) → IsChain family Face max from s parts end path →
      AllByRecursion (HasPlaces places) parts × EndHasPlaces places end
  chain_places _ _ _ _ _ (at_max {from} {s} {part} is whole) = ((interval_places from s part is, tt), tt)
  chain_places _ _ _ _ _ (past_breakpoint {from} {s} {part} {end} {path} is faces) = ((interval_places from s part is, tt), ended part.to _ end faces.last)
  chain_places _ _ _ _ _ (goes_on {from} {s} {part} {parts} {end} {bases} {later} is faces chain) =
      let rest = chain_places part.to _ parts end later chain in
      ((interval_places from s part is, rest.0), rest.1)

-- ---- a report

module _ (sheet : Sheet) (named : IsSheet sheet) where
  abbrev places : ℕ
  places = size sheet.lp.now.matrix

  parts_listed : (parts : List ParaPart) → AllByRecursion (HasPlaces places) (map part_of parts) → AllByRecursion (IsPart sheet) parts
  parts_listed [] h = tt
  parts_listed (part ∷ parts) h = (
    record {
      statuses = h.0.statuses;
      value = h.0.value;
      value_rate = h.0.value_rate;
      price = h.0.price;
      price_rate = h.0.price_rate;
    },
    parts_listed parts h.1,
  )

  end_listed : (end : ParaEnd) → EndHasPlaces places (end_of end) → AreEndLists sheet end
  end_listed ends.AtMax h = tt
  end_listed (ends.Unbounded past point direction) h = h
  end_listed (ends.Infeasible past ray) h = h

  opening_listed : (p : LinearProgram) (outcome : Outcome) → size p.matrix ≡ places → IsTrueOutcome p outcome → IsOutcome sheet outcome
  opening_listed p (outcomes.Optimal steps point prices) same h = record { is_sheet = named; full = h.point_places ∙ same }
  opening_listed p (outcomes.Crossed k) same h = record { is_sheet = named; full = tt }
  opening_listed p (outcomes.Infeasible steps ray) same h = record { is_sheet = named; full = h.ray_places ∙ same }
  opening_listed p (outcomes.Unbounded steps point direction) same h = record { is_sheet = named; full = (h.point_places ∙ same, h.direction_places ∙ same) }

  report_listed : (family : ℚ → LinearProgram) (Face : ℚ → List Status → FaceTurn → Type 0) → ((theta : ℚ) → size (family theta).matrix ≡ places) →
      ((theta : ℚ) (s : List Status) (end : ChainEnd) → Face theta s (FaceEnds end) → EndHasPlaces places end) →
      (from max : ℚ) (s now : List Status) (limit : ℕ) (a : Matrix) (before after : List (List Bool)) (report : ParaReport) →
      RunEnds family Face from max s now limit a before after report → IsTrueReported family from max report → IsPrintable sheet report
  report_listed family Face counted ended from max s now limit a before after (reports.Opening outcome) run truth =
      opening_listed (family from) outcome (counted from) truth
  report_listed family Face counted ended from max s now limit a before after (reports.Run reported) run truth =
      let chain =
      chain_places family Face places counted ended max from _ (map part_of reported.parts) (end_of reported.end) run.is_report.faces run.is_report.chain in
      record {
        is_sheet = named;
        parts = each-all (IsPart sheet) reported.parts (parts_listed reported.parts chain.0);
        end = end_listed reported.end chain.1;
      }

  pub objective_printable : (h : ℕ) (from max : ℚ) (s now : List Status) (limit : ℕ) (a : Matrix) (before after : List (List Bool)) (report : ParaReport) →
      RunEnds (objective_family sheet.lp.now h) (IsObjectiveFace sheet.lp.now h) from max s now limit a before after report →
      IsTrueReported (objective_family sheet.lp.now h) from max report → IsPrintable sheet report
  objective_printable h from max s now limit a before after report run truth =
      report_listed (objective_family sheet.lp.now h) (IsObjectiveFace sheet.lp.now h) (λ theta. refl)
      (λ theta s end face. objective_end
      (objective_family sheet.lp.now h theta) h theta s face.0 end face.2) from max s now limit a before after report run truth

  pub rhs_printable : (shift : List ℚ) (from max : ℚ) (s now : List Status) (limit : ℕ) (a : Matrix) (before after : List (List Bool)) (report : ParaReport) →
      RunEnds (rhs_family sheet.lp.now shift) (IsRhsFace sheet.lp.now shift) from max s now limit a before after report →
      IsTrueReported (rhs_family sheet.lp.now shift) from max report → IsPrintable sheet report
  rhs_printable shift from max s now limit a before after report run truth =
      report_listed (rhs_family sheet.lp.now shift) (IsRhsFace sheet.lp.now shift) (λ theta. refl)
      (λ theta s end face. rhs_end
      (rhs_family sheet.lp.now shift theta) shift theta s face.0 face.1 end face.4) from max s now limit a before after report run truth
