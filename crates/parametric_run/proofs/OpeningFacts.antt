-- From the path of the opening to the run.
use Rattle.std.proofs.Common.{◌≡◌, ℕ, ◌+◌, ◌≤◌, ◌-◌, inl, List, [], ◌∷◌, ◌++◌, map, length, Result, refl, sym, ap, subst, ◌∙◌, arith}
use Rattle.std.specs.Prelude.{IfOk, IfErr}
use Rattle.std.proofs.lemmas.List.{length-append}
use Rattle.exact_values.specs.Rational.{ℚ}
use Rattle.lp_definitions.specs.LinearProgram.{Matrix, IsLinearProgram, value_at}
use Rattle.lp_definitions.specs.Basis.{Basics, IsOptimalBasis, IsPointOf}
use Rattle.lp_definitions.specs.declared.Status.{Status}
use Rattle.lp_model.specs.declared.reports.Outcome.{Outcome}
use Rattle.lp_model.specs.declared.reports.Outcome.TheVariants.{Optimal}
use Rattle.lp_model.specs.declared.reports.ParaReport.{ParaReport}
use Rattle.lp_model.specs.declared.reports.ParaReport.TheVariants.{Opening, Run}
use Rattle.lp_model.specs.declared.reports.ParaRun.{ParaRun}
use Rattle.simplex_definitions.specs.Counts.{last_count, counted_steps}
use Rattle.simplex_definitions.specs.Path.{turn, PathEnding, EndsOptimal, EndsCrossed, EndsInfeasible, EndsUnbounded, EndsAt, last_of}
use Rattle.simplex_laws.specs.Laws.{IsNonsingularBasis}
use Rattle.simplex_laws.proofs.Ends.{optimal_end}
use Rattle.simplex_laws.proofs.OnePath.{one_path, path_leads}
use Rattle.simplex_definitions.specs.Chain.{RunReport, InOpening, IsFailure, IsChain, IsRun, Chain as ChainReport}
use Rattle.basis_values.specs.Calls.{LieIn}
use Rattle.bounded_primal.specs.Calls.{CallEnds, RuleWaypointsFollow, outcome_of}
use Rattle.bounded_primal.specs.declared.moves.PrimalStop.{PrimalStop}
use Rattle.bounded_primal.specs.declared.moves.PrimalStop.TheVariants.{Limit, Overflow, NoMemory}
use Rattle.parametric_laws.proofs.NotBoth.{same_path}
use Rattle.parametric_laws.proofs.Runs.{last_of-append}
use Rattle.parametric_run.specs.Calls.{RunStops, RunOverflows, WaypointsFollowRun, part_of, end_of}
use Rattle.parametric_run.specs.Chains.{StandsAt, ChainEnds, OpensFrom, MethodEnds, MethodStops, MethodOverflowFree, Overflows}
use Rattle.parametric_run.specs.Complete.{IsRunOrMemory}
use Rattle.parametric_run.specs.Programs.{ParametricProgram, IsParametric}
use Rattle.parametric_run.specs.Standing.{IsPointAtSome}
use Rattle.parametric_run.specs.Truth.{IsTrueReported}
use Rattle.parametric_run.specs.Walks.{HasRun}
use Rattle.parametric_run.specs.declared.method.Span.{Span}
use Rattle.parametric_run.proofs.Complete.{run_answers}
use Rattle.parametric_run.proofs.Openings.{IsFailed, failure_by}
use Rattle.parametric_run.proofs.Walks.{opening_reaches, opening_run, opens_first}

module _ (m : ParametricProgram) (is_parametric : IsParametric m) (span : Span) (s now : List Status) (before after : List Basics) where
  -- the waypoints lie in the bases of the path, for the matrix of all its programs
  pub opening_follows : RuleWaypointsFollow turn (m.family span.from) s now before after →
      WaypointsFollowRun m.family m.face span.from span.to s now span.limit m.program.matrix before after
  opening_follows h = record {
    place = InOpening (last_of s h.bases);
    path = h.bases;
    ends = [];
    reaches = opening_reaches m.family m.face span.from span.to m.program.matrix s before h.bases h.is_path;
    is_now = h.reaches;
    lie = λ earlier.
        subst (λ (a : Matrix). LieIn a before (earlier ++ s ∷ []) → LieIn a after (earlier ++ s ∷ h.bases)) (is_parametric.same_matrix span.from)
        (h.lie earlier);
  }

  -- a stop of the chain is one of the run
  pub chain_stops : (why : PrimalStop) →
      RunStops m.family m.face span.from span.to s now span.limit
      (RunOverflows m.family m.face span.from span.to s now span.limit (m.statement span.from) m.program.matrix before after) why →
      MethodStops m span s now before after why
  chain_stops Limit h = h
  chain_stops (Overflow e) h = inl h
  chain_stops NoMemory h = h

  pub method_answers : IsNonsingularBasis m.program s → (result : Result ParaReport PrimalStop) → IfOk result (MethodEnds m span s now before after) →
      IfErr result (MethodStops m span s now before after) →
      (report : RunReport) (path : List (List Status)) → MethodOverflowFree m span s before report path → IsRunOrMemory s report path now result
  method_answers at =
      run_answers m.family m.face span.from span.to s m.program is_parametric.one_face at span.limit
      (λ now after e. Overflows m span s now before after e) m.program.matrix now before after

-- ---- where the opening path has ended

module _ (m : ParametricProgram) (is_parametric : IsParametric m) (span : Span) (s now : List Status) (at : IsNonsingularBasis m.program s)
    (before after : List Basics) (outcome : Outcome)
    (ends : CallEnds (m.family span.from) s now span.limit outcome) (follow : RuleWaypointsFollow turn (m.family span.from) s now before after) where
  first_lawful : IsLinearProgram (m.family span.from)
  first_lawful = is_parametric.one_face.lawful span.from

  first_at : IsNonsingularBasis (m.family span.from) s
  first_at = is_parametric.one_face.keeps.to_family span.from s at

  -- the path of the waypoints is that of the end
  same_bases : follow.bases ≡ ends.bases
  same_bases =
      (one_path (m.family span.from) first_lawful s follow.bases ends.bases ends.ending ends.ending first_at
      (record {
        is_path = follow.is_path;
        ends = subst (λ x. EndsAt (m.family span.from) x ends.ending)
            (ends.reaches ∙ sym follow.reaches) ends.ends.ends;
      }) ends.ends).same_bases

  lie_there : (earlier : List (List Status)) → LieIn m.program.matrix before (earlier ++ s ∷ []) → LieIn m.program.matrix after (earlier ++ s ∷ ends.bases)
  lie_there earlier =
      subst (λ (a : Matrix). LieIn a before (earlier ++ s ∷ []) → LieIn a after (earlier ++ s ∷ ends.bases)) (is_parametric.same_matrix span.from)
      (λ lie. subst (λ xs. LieIn (m.family span.from).matrix after (earlier ++ s ∷ xs)) same_bases (follow.lie earlier lie))

  -- an opening that isn't optimal ends the run
  opening_ends : IsFailure ends.ending → MethodEnds m span s now before after (Opening outcome)
  opening_ends failure = record {
    bases = ends.bases;
    is_report = record { ending = ends.ending; opens = record { opens = ends.ends; is_failure = failure }; is_outcome = ends.is_outcome };
    reaches = ends.reaches;
    within = ends.within;
    lie = lie_there;
  }

  pub opening_reported : (other : Outcome) → outcome ≡ other → IsFailed other → MethodEnds m span s now before after (Opening other)
  opening_reported other is failed =
      subst (λ o. MethodEnds m span s now before after (Opening o)) is
      (opening_ends (failure_by (counted_steps (length ends.bases)) ends.ending outcome ends.is_outcome (subst IsFailed (sym is) failed)))

  -- an optimal one is that of a basis that is optimal at the first value
  module _ (small : span.limit ≤ last_count) (steps : ℕ) (point prices : List ℚ) (is : outcome ≡ Optimal steps point prices) where
    record IsOptimalEnd (ending : PathEnding) : Type 0 where
      z : List ℚ
      y : List ℚ
      is_ending : ending ≡ EndsOptimal z y
      is_reported : counted_steps (length ends.bases) ≡ steps
      is_point : z ≡ point

    optimal_by : (ending : PathEnding) → Optimal steps point prices ≡ outcome_of (counted_steps (length ends.bases)) ending → IsOptimalEnd ending
    optimal_by (EndsOptimal z y) e = record { z = z; y = y; is_ending = refl; is_reported = cc; is_point = cc }
    optimal_by (EndsCrossed k) e = cc
    optimal_by (EndsInfeasible w) e = cc
    optimal_by (EndsUnbounded z d) e = cc

    at_end : IsOptimalEnd ends.ending
    at_end = optimal_by ends.ending (sym is ∙ ends.is_outcome)

    -- a count within the limit doesn't stand still
    is_steps : length ends.bases ≡ steps
    is_steps = let reported = at_end.is_reported in let within = ends.within in omega (arith, reported, within, small)

    pub opening_within : steps ≤ span.limit
    opening_within = let same = is_steps in let within = ends.within in omega (arith, same, within)

    ends_now : EndsAt (m.family span.from) now (EndsOptimal at_end.z at_end.y)
    ends_now = subst (λ x. EndsAt (m.family span.from) x (EndsOptimal at_end.z at_end.y)) ends.reaches
        (subst (EndsAt (m.family span.from) (last_of s ends.bases)) at_end.is_ending ends.ends.ends)

    now_at : IsNonsingularBasis (m.family span.from) now
    now_at = subst (IsNonsingularBasis (m.family span.from)) ends.reaches (path_leads (m.family span.from) s ends.bases first_at ends.ends.is_path)

    pub first_optimal : IsOptimalBasis (m.family span.from) now
    first_optimal = (optimal_end (m.family span.from) now at_end.z at_end.y first_lawful now_at ends_now).optimal

    pub first_point : IsPointAtSome m now (value_at point)
    first_point = (
      span.from,
      subst (λ z. IsPointOf (m.family span.from) now (value_at z)) at_end.is_point
          (optimal_end (m.family span.from) now at_end.z at_end.y first_lawful now_at ends_now).point,
    )

    -- the run may open its first interval
    pub first_opens : OpensFrom m span s before now after steps
    first_opens =
        opens_first m.family m.face span.from span.to m.program.matrix s before now after steps at_end.z at_end.y
        (subst (λ n. HasRun m.family m.face span.from span.to m.program.matrix s before (InOpening now) [] after n) is_steps
        (subst (λ x. HasRun m.family m.face span.from span.to m.program.matrix s before (InOpening x) [] after (length ends.bases)) ends.reaches
        (opening_run m.family m.face span.from span.to m.program.matrix s before ends.bases after ends.ends.is_path lie_there)))
        ends_now

    -- and the chain from there, with the steps that are left, is the rest of it
    module _ (left : ℕ) (is_left : left ≡ span.limit - steps) where
      counts : steps + left ≡ span.limit
      counts = let within = opening_within in omega (arith, within, is_left)

      module _ (last : List Status) (later : List Basics) (report : ParaRun) (chain : ChainEnds m span now last left after later report) where
        is_run : IsRun m.family m.face span.from span.to s (map part_of report.parts) (end_of report.end) (ends.bases ++ chain.path)
        is_run = record {
          opening = ends.bases;
          point = at_end.z;
          prices = at_end.y;
          opens = record { is_path = ends.ends.is_path; ends = subst (EndsAt (m.family span.from) (last_of s ends.bases)) at_end.is_ending ends.ends.ends };
          faces = chain.path;
          chain =
              subst (λ x. IsChain m.family m.face span.to span.from x (map part_of report.parts) (end_of report.end) chain.path) (sym ends.reaches) chain.chain;
          whole = refl;
        }

        counted : length (ends.bases ++ chain.path) ≡ steps + length chain.path
        counted = length-append ends.bases chain.path ∙ ap (λ n. n + length chain.path) is_steps

        stood : StandsAt m span s before last later (steps + length chain.path)
        stood = chain.stood s before steps counts first_opens

        same : stood.run_there.path ≡ ends.bases ++ chain.path
        same =
            same_path m.program m.family m.face is_parametric.one_face span.from span.to s (ChainReport (map part_of report.parts) (end_of report.end))
            (ends.bases ++ chain.path) at is_run
            stood.place stood.run_there.path stood.ends stood.run_there.reaches (stood.run_there.taken ∙ sym counted)

        pub run_ends : MethodEnds m span s last before later (Run report)
        run_ends = record {
          bases = ends.bases ++ chain.path;
          is_report = is_run;
          reaches = last_of-append s ends.bases chain.path ∙ ap (λ x. last_of x chain.path) ends.reaches ∙ chain.reaches;
          within = let count = counted in let within = chain.within in let whole = counts in omega (arith, count, within, whole);
          lie = λ earlier lie. subst (λ xs. LieIn m.program.matrix later (earlier ++ s ∷ xs)) same (stood.run_there.lie earlier lie);
        }

        pub run_true : IsTrueReported m.family span.from span.to (Run report)
        run_true = is_parametric.true_runs span.from span.to s (ChainReport (map part_of report.parts) (end_of report.end)) (ends.bases ++ chain.path) at is_run
