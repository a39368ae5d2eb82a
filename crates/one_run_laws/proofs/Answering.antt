-- PRIMAL, DUAL, SOLUTION, RANGE, PUNCH and INSERT have an answer wherever they ask. A path has ended within its limit, or goes on after it;
-- one without a limit ends; and a check of its end never fails, since the end is true.
use Rattle.std.proofs.Common.{◌≡◌, ◌⊎◌, inl, inr, ℕ, List, [], ◌∷◌, length, refl, sym, ap, subst, ◌∙◌}
use Rattle.std.specs.Prelude.{Option, None, Some}
use Rattle.exact_values.specs.Rational.{ℚ}
use Rattle.lp_definitions.specs.LinearProgram.{LinearProgram, IsLinearProgram, value_at, upper_of}
use Rattle.lp_definitions.specs.Basis.{basics_of}
use Rattle.lp_definitions.specs.Solutions.{IsCrossed}
use Rattle.lp_definitions.specs.declared.Status.{Status}
use Rattle.lp_laws.proofs.Duality.{test_of_below}
use Rattle.check_definitions.specs.declared.Verdict.{Verdict}
use Rattle.check_definitions.specs.declared.Verdict.TheVariants.{Checked, Failed, Unchecked}
use Rattle.check_definitions.specs.Steps.{comparison, verdict_of}
use Rattle.check_definitions.specs.Checks.{is_crossed, crossed_check}
use Rattle.certificate_check.proofs.TrueClaims.{never_optimal, never_infeasible, never_unbounded}
use Rattle.simplex_definitions.specs.Path.{PathEnding, EndsOptimal, EndsCrossed, EndsInfeasible, EndsUnbounded, turn, EndsAt, last_of, RulePathEnds, GoesOnFor}
use Rattle.simplex_definitions.specs.Path.{listed}
use Rattle.simplex_definitions.specs.DualPath.{dual_turn, HasRightPrices, IsWrongAt, DualGoesOnFor}
use Rattle.simplex_laws.specs.Laws.{IsNonsingularBasis, HasTableau, RuleEndsWithin}
use Rattle.simplex_laws.proofs.Ends.{optimal_end}
use Rattle.simplex_laws.proofs.UnboundedEnds.{crossed_end, unbounded_end}
use Rattle.simplex_laws.proofs.Rays.{infeasible_end}
use Rattle.simplex_laws.proofs.OnePath.{path_leads}
use Rattle.simplex_laws.proofs.Goes.{ends_or_goes_on}
use Rattle.simplex_laws.proofs.DualTurns.{dual_end}
use Rattle.simplex_laws.proofs.OneDualPath.{dual_path_leads, path_right, right_or_wrong, ends_or_goes_on as dual_ends_or_goes_on}
use Rattle.termination_laws.proofs.Ending.{ends, dual_ends}
use Rattle.existence_laws.proofs.Reaching.{tableau_of, nonsingular_or_dependency}
use Rattle.existence_laws.proofs.Ranges.{ranges_exist}
use Rattle.existence_laws.specs.Bases.{HasDependency}
use Rattle.selection_laws.proofs.Selected.{is_chosen, selected_is_lawful}
use Rattle.listing_definitions.specs.declared.Mark.{Mark}
use Rattle.listing_definitions.specs.declared.Solver.TheVariants.{Primal, Dual}
use Rattle.listing_definitions.specs.Report.{Check}
use Rattle.listing_definitions.specs.Report as reports
use Rattle.question_definitions.specs.Answers.{Basis, Sheet, Question, PathEnd, Reached, PathLimit, PricesWrong, OfPath, OfSolution, OfRanges, OfPunch}
use Rattle.question_definitions.specs.Answers.{OfInstall, InstallEnd, Installed, DependsBy}
use Rattle.answer_definitions.specs.Lines.{ray_lines}
use Rattle.answer_definitions.specs.Bases.{IsInstalled}
use Rattle.answer_definitions.specs.Verdicts.{verdict_of as verdict_at, check_of, found, IsSolved, IsDualSolved}
use Rattle.answer_definitions.specs.Sections.{solution_lines, range_lines}
use Rattle.answer_definitions.specs.Real.{linear_programming}
use Rattle.basis_deck_definitions.specs.Writing.{basis_deck}
use Rattle.determinism_laws.specs.Laws.{IsAsked}
use Rattle.one_run_laws.specs.Answers.{HasAnswer}

-- ---- a check of an end never fails

crossed_holds : (p : LinearProgram) (k : ℕ) → IsCrossed p k → crossed_check p k ≡ Checked
crossed_holds p k h =
    ap (λ (o : Option ℚ). verdict_of (comparison 1 k (is_crossed o (upper_of p k)) ∷ [])) h.lower
    ∙ ap (λ (o : Option ℚ). verdict_of (comparison 1 k (is_crossed (Some h.low) o) ∷ [])) h.upper
    ∙ ap (λ b. verdict_of (comparison 1 k b ∷ [])) (test_of_below h.crossed)

pub record NotFailed (v : Verdict) : Type 0 where
  pub never : (part number : ℕ) → v ≡ Failed part number → ⊥

pub found_of : (v : Verdict) → NotFailed v → (check : Check) × (v ≡ found check)
found_of Checked passes = (reports.Checked, refl)
found_of (Failed part number) passes = absurd (passes.never part number refl)
found_of (Unchecked refused) passes = (reports.Unchecked refused, refl)

module _ (p : LinearProgram) (lawful : IsLinearProgram p) where
  pub end_passes : (s : List Status) (ending : PathEnding) → IsNonsingularBasis p s → EndsAt p s ending → NotFailed (check_of p ending)
  end_passes s (EndsOptimal z y) at end =
      let proved = optimal_end p s z y lawful at end in
      record { never = (never_optimal p lawful.is_matrix (value_at z) (value_at y) proved.best.feasible proved.certificate).never }
  end_passes s (EndsCrossed k) at end = record { never = λ part number e. let both = sym (crossed_holds p k (crossed_end p s k end)) ∙ e in cc both }
  end_passes s (EndsInfeasible w) at end =
      record { never = (never_infeasible p lawful.is_matrix (value_at w) (infeasible_end p s w at.is_basis at.nonsingular end)).never }
  end_passes s (EndsUnbounded z d) at end =
      record { never = (never_unbounded p (value_at z) (value_at d) (unbounded_end p s z d lawful at.is_basis end)).never }

-- ---- paths

module _ (sheet : Sheet) (s : Basis) (lawful : IsLinearProgram sheet.lp) (at : IsNonsingularBasis sheet.lp s) where
  has : HasTableau sheet.lp s
  has = tableau_of sheet.lp s at

  checked_of : (bases : List Basis) (ending : PathEnding) → RulePathEnds turn sheet.lp s bases ending →
      (check : Check) × (check_of sheet.lp ending ≡ found check)
  checked_of bases ending ends =
      found_of (check_of sheet.lp ending) (end_passes sheet.lp lawful (last_of s bases) ending (path_leads sheet.lp s bases at ends.is_path) ends.ends)

  solved : (limit : Option ℕ) → (end : PathEnd) × IsSolved sheet s limit end
  solved None =
      let way = ends sheet.lp lawful s at has in
      let check = checked_of way.bases way.ending way.ends in (
        Reached way.bases (verdict_at sheet (length way.bases) way.ending) check.0,
        record { ending = way.ending; ends = way.ends; within_limit = tt; is_verdict = record { is_verdict = refl; is_check = check.1 } },
      )
  solved (Some most) = by (ends_or_goes_on sheet.lp most s at has)
    where
      by : (RuleEndsWithin turn sheet.lp s most ⊎ GoesOnFor sheet.lp s most) → (end : PathEnd) × IsSolved sheet s (Some most) end
      by (inl way) =
          let check = checked_of way.bases way.ending way.ends in (
            Reached way.bases (verdict_at sheet (length way.bases) way.ending) check.0,
            record { ending = way.ending; ends = way.ends; within_limit = way.within; is_verdict = record { is_verdict = refl; is_check = check.1 } },
          )
      by (inr on) = (PathLimit, on)

  module _ (no_change : sheet.lp.change ≡ None) where
    dual_checked : HasRightPrices sheet.lp s → (bases : List Basis) (ending : PathEnding) → RulePathEnds dual_turn sheet.lp s bases ending →
        (check : Check) × (check_of sheet.lp ending ≡ found check)
    dual_checked right bases ending ends =
        let last = dual_path_leads sheet.lp s bases at ends.is_path in
        found_of (check_of sheet.lp ending) (end_passes sheet.lp lawful (last_of s bases) ending last
        (dual_end sheet.lp (last_of s bases) ending lawful last (path_right sheet.lp lawful no_change s bases at right ends.is_path) ends.ends))

    dual_solved : (limit : Option ℕ) → (HasRightPrices sheet.lp s ⊎ ((j : ℕ) × IsWrongAt sheet.lp s j)) → (end : PathEnd) × IsDualSolved sheet s limit end
    dual_solved limit (inr wrong) = (PricesWrong wrong.0, wrong.1)
    dual_solved None (inl right) =
        let way = dual_ends sheet.lp lawful no_change s at right in
        let check = dual_checked right way.bases way.ending way.ends in (
          Reached way.bases (verdict_at sheet (length way.bases) way.ending) check.0,
          (right, record { ending = way.ending; ends = way.ends; within_limit = tt; is_verdict = record { is_verdict = refl; is_check = check.1 } }),
        )
    dual_solved (Some most) (inl right) = by (dual_ends_or_goes_on sheet.lp most s at has)
      where
        by : (RuleEndsWithin dual_turn sheet.lp s most ⊎ DualGoesOnFor sheet.lp s most) → (end : PathEnd) × IsDualSolved sheet s (Some most) end
        by (inl way) =
            let check = dual_checked right way.bases way.ending way.ends in (
              Reached way.bases (verdict_at sheet (length way.bases) way.ending) check.0,
              (
                right,
                record {
                  ending = way.ending;
                  ends = way.ends;
                  within_limit = way.within;
                  is_verdict = record { is_verdict = refl; is_check = check.1 };
                },
              ),
            )
        by (inr on) = (PathLimit, (right, on))

-- ---- the answers

pub lawful_of : (question : Question) (sheet : Sheet) (s : Basis) → IsAsked question sheet s → IsLinearProgram sheet.lp
lawful_of question sheet s asked = selected_is_lawful sheet.problem asked.choice sheet.lp asked.is_problem asked.is_selected

pub unchanged : (question : Question) (sheet : Sheet) (s : Basis) → IsAsked question sheet s → sheet.lp.change ≡ None
unchanged question sheet s asked = subst (λ (p : LinearProgram). p.change ≡ None) (is_chosen sheet.problem asked.choice sheet.lp asked.is_selected).1 refl

pub paths : (limit : Option ℕ) → HasAnswer linear_programming (OfPath Primal limit)
unfolding linear_programming
paths limit sheet s asked = solved sheet s (lawful_of (OfPath Primal limit) sheet s asked) asked.is_basis limit

pub dual_paths : (limit : Option ℕ) → HasAnswer linear_programming (OfPath Dual limit)
unfolding linear_programming
dual_paths limit sheet s asked =
    dual_solved sheet s (lawful_of (OfPath Dual limit) sheet s asked) asked.is_basis (unchanged (OfPath Dual limit) sheet s asked) limit
    (right_or_wrong sheet.lp s (tableau_of sheet.lp s asked.is_basis))

pub solutions : (mark : Mark) → HasAnswer linear_programming (OfSolution mark)
unfolding linear_programming
solutions mark sheet s asked =
    let has = tableau_of sheet.lp s asked.is_basis in
    (solution_lines sheet s has.tableau, record { tableau = has.tableau; is_tableau = has.is_tableau; are_lines = refl })

pub ranges : HasAnswer linear_programming OfRanges
unfolding linear_programming
ranges sheet s asked =
    let report = ranges_exist sheet.lp s (lawful_of OfRanges sheet s asked) (unchanged OfRanges sheet s asked) asked.suits in
    let has = tableau_of sheet.lp s asked.is_basis in (
      range_lines sheet s has.tableau report.0,
      record {
        tableau = has.tableau;
        is_tableau = has.is_tableau;
        report = report.0;
        is_report = report.1;
        are_lines = refl;
      },
    )

pub punches : HasAnswer linear_programming OfPunch
unfolding linear_programming
punches sheet s asked = (basis_deck sheet.problem sheet.lp s, refl)

installed : (sheet : Sheet) (t : Basis) → (IsNonsingularBasis sheet.lp t ⊎ HasDependency sheet.lp.matrix (basics_of t)) →
    (end : InstallEnd) × IsInstalled sheet t end
installed sheet t (inl one) = (Installed, one.nonsingular)
installed sheet t (inr d) = (DependsBy (ray_lines sheet (listed sheet.lp.matrix d.1)), (d.0, d.1, d.2, refl))

pub installs : (t : Basis) → HasAnswer linear_programming (OfInstall t)
unfolding linear_programming
installs t sheet s asked = installed sheet t (nonsingular_or_dependency sheet.lp t asked.suits)
