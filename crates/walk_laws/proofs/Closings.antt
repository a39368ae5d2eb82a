-- How a parametric run closes is true where it passes its test.
use Rattle.std.proofs.Common.{◌≡◌, ℕ, List, [], ◌∷◌, sym, ◌∙◌, subst, map}
use Rattle.exact_values.specs.Rational.{ℚ, zero_ℚ, ◌+ℚ◌, ◌*ℚ◌, ◌≤ℚ◌, ◌<ℚ◌}
use Rattle.exact_values.specs.Tests.{lt_ℚ, le_ℚ, eq_ℚ}
use Rattle.exact_values.proofs.TestsLaws.{same_from_test, lt_from_test, le_from_test}
use Rattle.lp_definitions.specs.LinearProgram.{LinearProgram, Vector, value_at, IsLinearProgram, for_min}
use Rattle.check_definitions.specs.declared.Verdict.{Verdict}
use Rattle.check_definitions.specs.declared.Verdict.TheVariants.{Checked, Failed}
use Rattle.check_definitions.specs.Steps.{in_turn, sum_steps, sum_of}
use Rattle.check_definitions.specs.Checks.{equations, feasible_point, ray_columns, multiplied, limit_product, ray_limits, free_direction}
use Rattle.check_definitions.proofs.Holding.{checked_hold}
use Rattle.certificate_laws.proofs.Meaning.{keeps_if_held, feasible_if_held, vanishes_if_held, free_if_held, meets_if_held, sum_of_met}
use Rattle.certificate_laws.proofs.Products.{sum_of-all}
use Rattle.simplex_definitions.specs.ObjectiveRun.{objective_family}
use Rattle.simplex_definitions.specs.RhsRun.{rhs_family}
use Rattle.parametric_laws.specs.Truth.{IsUnboundedBy, IsRefutedBy, IsProvedPast, IsTrueEnd}
use Rattle.parametric_laws.proofs.OneRhs.{lawful_rhs}
use Rattle.interval_laws.specs.Laws.{ClosesUnbounded, ClosesInfeasible, PastLaws}
use Rattle.problem_definitions.specs.Names.{Name}
use Rattle.listing_definitions.specs.Report.{Line, ChainEnd, EndsAt, UnboundedPast, InfeasiblePast}
use Rattle.question_definitions.specs.Answers.{Sheet, Changing, Row, Set}
use Rattle.answer_definitions.specs.ParametricRuns.{row_of, shifts_of, family_of}
use Rattle.walk_definitions.specs.Checkers.{Checker}
use Rattle.walk_definitions.specs.Tables.{column_of, multipliers}
use Rattle.walk_definitions.specs.Tests.{says, asked, making_steps, unbounded_past, shift_products, infeasible_past, past_test, close_test}
use Rattle.walk_laws.specs.Views.{past_of}
use Rattle.walk_laws.proofs.Judging.{asked_holds, each_checked}

-- the last end is before the last value, and the proof is checked
record IsPastEnd (max last t : ℚ) (proof : Verdict) : Type 0 where
  at_last : t ≡ last
  before_max : last <ℚ max
  passes : proof ≡ Checked

past_end : (max last t : ℚ) (proof : Verdict) → past_test max last t proof ≡ Checked → IsPastEnd max last t proof
past_end max last t proof e =
    let each = each_checked (asked (eq_ℚ t last) ∷ asked (lt_ℚ t max) ∷ proof ∷ []) e in
    let same = same_from_test t last (asked_holds _ each.0) in
    record { at_last = same; before_max = subst (λ (x : ℚ). x <ℚ max) same (lt_from_test t max (asked_holds _ each.1.0)); passes = each.1.1.0 }

-- the last interval ends at the last value
ends_at : (max last t : ℚ) → in_turn (asked (eq_ℚ t last) ∷ asked (eq_ℚ t max) ∷ []) ≡ Checked → last ≡ max
ends_at max last t e =
    let each = each_checked (asked (eq_ℚ t last) ∷ asked (eq_ℚ t max) ∷ []) e in
    sym (same_from_test t last (asked_holds _ each.0)) ∙ same_from_test t max (asked_holds _ each.1.0)

no_failure : Failed 6 0 ≡ Checked → ⊥
no_failure e = cc

module _ (C : Checker) (sheet : Sheet) where
  closes_unbounded : (changing : Changing) (h : ℕ) (t : ℚ) (z d : Vector) → unbounded_past C sheet changing h t z d ≡ Checked → ClosesUnbounded sheet.lp h t z d
  closes_unbounded changing h t z d e =
      let p : LinearProgram = sheet.lp in
      let each = each_checked (says C (feasible_point p z) ∷ says C (equations p 3 d) ∷ says C (free_direction p d)
      ∷ says C (sum_steps (d p.objective) (record { left = t; right = d h } ∷ []))
      ∷ asked (le_ℚ (for_min p.sense (d p.objective +ℚ t *ℚ d h)) zero_ℚ) ∷ asked (lt_ℚ (for_min p.sense (d h)) zero_ℚ) ∷ []) e in
      let free = free_if_held p d (checked_hold C.arithmetic (free_direction p d) each.1.1.0) in
      record {
        feasible = feasible_if_held p z (checked_hold C.arithmetic (feasible_point p z) each.0);
        keeps = keeps_if_held p 3 d (checked_hold C.arithmetic (equations p 3 d) each.1.0);
        falls = free.falls;
        rises = free.rises;
        not_worse = le_from_test _ _ (asked_holds _ each.1.1.1.1.0);
        improves = lt_from_test _ _ (asked_holds _ each.1.1.1.1.1.0);
      }

  closes_infeasible : (name : Name) (t : ℚ) (w : Vector) → IsLinearProgram sheet.lp
      → infeasible_past C sheet (Set name) (shifts_of sheet.problem name) t w ≡ Checked
      → ClosesInfeasible sheet.lp (shifts_of sheet.problem name) t w
  closes_infeasible name t w lawful e =
      let shift : List ℚ = shifts_of sheet.problem name in
      let p : LinearProgram = rhs_family sheet.lp shift t in
      let each = each_checked (says C (making_steps sheet (Set name) t) ∷ says C (ray_columns p w) ∷ says C (ray_limits p w zero_ℚ (multiplied p w))
      ∷ asked (le_ℚ (sum_of zero_ℚ (map (limit_product p w) (multiplied p w))) zero_ℚ)
      ∷ says C (sum_steps zero_ℚ (shift_products sheet (Set name) shift w)) ∷ asked
      (lt_ℚ (sum_of zero_ℚ (shift_products sheet (Set name) shift w)) zero_ℚ) ∷ []) e in
      let meets = meets_if_held p w (checked_hold C.arithmetic (ray_limits p w zero_ℚ (multiplied p w)) each.1.1.0) in
      record {
        vanishes = vanishes_if_held p (lawful_rhs sheet.lp shift lawful t).is_matrix w (checked_hold C.arithmetic (ray_columns p w) each.1.0);
        meets_upper = meets.meets_upper;
        meets_lower = meets.meets_lower;
        not_positive = subst (λ (s : ℚ). s ≤ℚ zero_ℚ) (sum_of_met p w) (le_from_test _ _ (asked_holds _ each.1.1.1.0));
        falls =
            subst (λ (s : ℚ). s <ℚ zero_ℚ) (sum_of-all (λ i. record { left = w i; right = value_at shift i }) sheet.lp.rows)
            (lt_from_test _ _ (asked_holds _ each.1.1.1.1.1.0));
      }

  unbounded_end : PastLaws → (name : Name) (max last t : ℚ) (lines : List Line)
      → past_test max last t
      (unbounded_past C sheet (Row name) (row_of sheet.problem name) t (value_at (column_of 0 lines)) (value_at (column_of 1 lines))) ≡ Checked
      → IsProvedPast max last t
      (λ theta. IsUnboundedBy (objective_family sheet.lp (row_of sheet.problem name) theta) (value_at (column_of 0 lines)) (value_at (column_of 1 lines)))
  unbounded_end laws name max last t lines e =
      let h : ℕ = row_of sheet.problem name in
      let z : Vector = value_at (column_of 0 lines) in
      let d : Vector = value_at (column_of 1 lines) in
      let past = past_end max last t (unbounded_past C sheet (Row name) h t z d) e in
      let closes = closes_unbounded (Row name) h t z d past.passes in
      record { at_last = past.at_last; before_max = past.before_max; proved = λ theta above. laws.unbounded sheet.lp h t theta z d closes above }

  infeasible_end : PastLaws → (name : Name) (max last t : ℚ) (lines : List Line) → IsLinearProgram sheet.lp
      → past_test max last t (infeasible_past C sheet (Set name) (shifts_of sheet.problem name) t (value_at (multipliers sheet lines))) ≡ Checked
      → IsProvedPast max last t (λ theta. IsRefutedBy (rhs_family sheet.lp (shifts_of sheet.problem name) theta) (value_at (multipliers sheet lines)))
  infeasible_end laws name max last t lines lawful e =
      let w : Vector = value_at (multipliers sheet lines) in
      let past = past_end max last t (infeasible_past C sheet (Set name) (shifts_of sheet.problem name) t w) e in
      let closes = closes_infeasible name t w lawful past.passes in
      record {
        at_last = past.at_last;
        before_max = past.before_max;
        proved = λ theta above. laws.infeasible sheet.lp
            (shifts_of sheet.problem name) t theta w closes above;
      }

  -- how a run closes is proved
  row_closes : PastLaws → (name : Name) (max last : ℚ) (end : ChainEnd) → close_test C sheet (Row name) max last end ≡ Checked →
      IsTrueEnd (family_of sheet (Row name)) max last (past_of sheet end)
  row_closes laws name max last (EndsAt t) e = ends_at max last t e
  row_closes laws name max last (UnboundedPast t lines) e = unbounded_end laws name max last t lines e
  row_closes laws name max last (InfeasiblePast t lines) e = absurd (no_failure e)

  set_closes : PastLaws → (name : Name) (max last : ℚ) (end : ChainEnd) → IsLinearProgram sheet.lp → close_test C sheet (Set name) max last end ≡ Checked
      → IsTrueEnd (family_of sheet (Set name)) max last (past_of sheet end)
  set_closes laws name max last (EndsAt t) lawful e = ends_at max last t e
  set_closes laws name max last (UnboundedPast t lines) lawful e = absurd (no_failure e)
  set_closes laws name max last (InfeasiblePast t lines) lawful e = infeasible_end laws name max last t lines lawful e

  pub close_is_true : PastLaws → (changing : Changing) (max last : ℚ) (end : ChainEnd) → IsLinearProgram sheet.lp
      → close_test C sheet changing max last end ≡ Checked
      → IsTrueEnd (family_of sheet changing) max last (past_of sheet end)
  close_is_true laws (Row name) max last end lawful e = row_closes laws name max last end e
  close_is_true laws (Set name) max last end lawful e = set_closes laws name max last end lawful e
