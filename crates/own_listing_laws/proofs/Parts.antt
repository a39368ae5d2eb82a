-- The tests of an interval and of a close of a parametric run never fail.
--     IsKind changing past         a run of the objective closes unbounded, and one of the right-hand side infeasible
use Rattle.std.proofs.Common.{◌≡◌, ℕ, Bool, true, false, ◌&&◌, ◌||◌, List, [], ◌∷◌, length, Option, Some, None, refl, sym, ap, subst, ◌∙◌, ◌⊎◌, inl, inr}
use Rattle.exact_values.specs.Rational.{ℚ, ◌≤ℚ◌, ◌<ℚ◌}
use Rattle.exact_values.specs.Tests.{lt_ℚ, le_ℚ, eq_ℚ}
use Rattle.exact_values.proofs.Order.{lt_or_le, le_antisymm, le_refl}
use Rattle.exact_values.proofs.TestsLaws.{test_from_same, test_from_le, test_from_lt}
use Rattle.lp_definitions.specs.LinearProgram.{LinearProgram, Vector, value_at, size, variables, IsLinearProgram}
use Rattle.lp_definitions.specs.Solutions.{IsBest}
use Rattle.lp_definitions.specs.Basis.{Tableau}
use Rattle.lp_definitions.specs.declared.Status.{Status}
use Rattle.check_definitions.specs.declared.Verdict.{Verdict}
use Rattle.check_definitions.specs.Steps.{Step, AllHold, sum_steps}
use Rattle.check_definitions.specs.Checks.{optimal_steps}
use Rattle.certificate_laws.proofs.Truth.{sum_holds, all_hold, optimal_holds}
use Rattle.sensitivity_laws.proofs.MovedLimits.{fixed_at}
use Rattle.simplex_definitions.specs.Moves.{blocking_variable}
use Rattle.simplex_definitions.specs.Path.{listed}
use Rattle.simplex_definitions.specs.DualRatio.{cheapest}
use Rattle.simplex_definitions.specs.Chain.{Part, along, ChainEnd as PastBreakpoint, AtMax, UnboundedPast as PastUnbounded, InfeasiblePast as PastInfeasible}
use Rattle.simplex_definitions.specs.Chain.{FaceTurn, FaceEnds, IsPart}
use Rattle.simplex_definitions.specs.ObjectiveRun.{face_entering_variable, face_until, face_by, objective_face}
use Rattle.simplex_definitions.specs.RhsRun.{leaves_below, leaving, face_exchange, face_at, rhs_face}
use Rattle.problem_definitions.specs.Problem.{Problem}
use Rattle.listing_definitions.specs.Report.{Value, Line}
use Rattle.question_definitions.specs.Answers.{Sheet, Changing, Row, Set}
use Rattle.answer_definitions.specs.Lines.{pair_lines, ray_lines}
use Rattle.answer_definitions.specs.ParametricRuns.{row_of, shifts_of, family_of, IsFace, sheet_at, part_values, interval_of, end_of}
use Rattle.soundness_laws.specs.ParametricRuns.{ChangesFreely}
use Rattle.parametric_laws.specs.Truth.{IsTruePart, IsTrueEnd}
use Rattle.parametric_laws.proofs.OneRhs.{lawful_rhs}
use Rattle.walk_definitions.specs.Checkers.{Checker}
use Rattle.walk_definitions.specs.Tables.{column_of, multipliers}
use Rattle.walk_definitions.specs.Tests.{asked, making_steps, along_steps, keeping_steps, end_test, part_test, interval_test, unbounded_past, infeasible_past}
use Rattle.walk_definitions.specs.Tests.{past_test, close_test}
use Rattle.own_listing_laws.proofs.Columns.{column_is, listed_again, numbers_of_ray}
use Rattle.own_listing_laws.proofs.Tests.{Passes, pass_none, pass_then, passes_same, pass_steps, passes_asked}
use Rattle.own_listing_laws.proofs.Openings.{making_holds, lawful_of}
use Rattle.own_listing_laws.proofs.Keeping.{TiesLimits, keeping_holds}
use Rattle.own_listing_laws.proofs.Closing.{unbounded_passes, infeasible_passes}

-- ---- the linear program at each value

pub matrix_of : (sheet : Sheet) (changing : Changing) (theta : ℚ) → (family_of sheet changing theta).matrix ≡ sheet.lp.matrix
matrix_of sheet (Row name) theta = refl
matrix_of sheet (Set name) theta = refl

sense_of : (sheet : Sheet) (changing : Changing) (theta : ℚ) → (family_of sheet changing theta).sense ≡ sheet.lp.sense
sense_of sheet (Row name) theta = refl
sense_of sheet (Set name) theta = refl

ties_of : (sheet : Sheet) (changing : Changing) → TiesLimits (family_of sheet changing) sheet.lp.matrix
ties_of sheet (Row name) theta x k var fixed = (fixed.0, fixed.1, fixed.2)
ties_of sheet (Set name) theta x k var fixed = fixed_at sheet.lp (shifts_of sheet.problem name) theta x k var fixed

-- ---- intervals

module _ (sheet : Sheet) (changing : Changing) (lawful : IsLinearProgram sheet.lp) (free : ChangesFreely sheet changing) where
  along_holds : (theta : ℚ) (value rate : List ℚ) → AllHold (along_steps sheet theta value rate)
  along_holds theta value rate =
      all_hold steps 1 (size sheet.lp.matrix) (λ k low high. sum_holds (value_at value k) (record { left = theta; right = value_at rate k } ∷ []))
    where
      steps : ℕ → List Step
      steps k = sum_steps (value_at value k) (record { left = theta; right = value_at rate k } ∷ [])

  module _ (max : ℚ) (part : Part) (truth : IsTruePart (family_of sheet changing) max part) where
    end_passes : (C : Checker) (theta : ℚ) → part.from ≤ℚ theta → theta ≤ℚ part.to →
        Passes C (end_test C sheet changing theta part.value part.value_rate part.price part.price_rate)
    end_passes C theta low high =
        let solved = truth.solved theta low high in
        (pass_steps C (making_steps sheet changing theta) _ (making_holds sheet changing theta)
        (pass_steps C (along_steps sheet theta part.value part.value_rate) _ (along_holds theta part.value part.value_rate)
        (pass_steps C (along_steps sheet theta part.price part.price_rate) _ (along_holds theta part.price part.price_rate)
        (pass_steps C (optimal_steps (family_of sheet changing theta) (along theta part.value part.value_rate) (along theta part.price part.price_rate)) []
        (optimal_holds (family_of sheet changing theta) (lawful_of sheet changing lawful free theta).is_matrix (along theta part.value part.value_rate)
        (along theta part.price part.price_rate) solved.best.feasible solved.certificate) (pass_none C))))).passes

    forward_holds : (is_first : Bool) → (is_first ≡ true) ⊎ (part.from <ℚ part.to) → (lt_ℚ part.from part.to || (is_first && eq_ℚ part.from part.to)) ≡ true
    forward_holds is_first (inr longer) = ap (λ b. b || (is_first && eq_ℚ part.from part.to)) (test_from_lt part.from part.to longer)
    forward_holds is_first (inl first) = by (lt_or_le part.from part.to)
      where
        or_true : (b : Bool) → (b || true) ≡ true
        or_true true = refl
        or_true false = refl

        by : (part.from <ℚ part.to) ⊎ (part.to ≤ℚ part.from) → (lt_ℚ part.from part.to || (is_first && eq_ℚ part.from part.to)) ≡ true
        by (inl longer) = ap (λ b. b || (is_first && eq_ℚ part.from part.to)) (test_from_lt part.from part.to longer)
        by (inr back) =
            ap (λ b. lt_ℚ part.from part.to || (b && eq_ℚ part.from part.to)) first
            ∙ ap (λ b. lt_ℚ part.from part.to || b) (test_from_same part.from part.to (le_antisymm truth.forward back)) ∙ or_true (lt_ℚ part.from part.to)

    -- the lines have the values of the interval
    module _ (from : ℚ) (s : List Status) (is : IsPart (family_of sheet changing) from max s part) (start : ℚ) where
      first : Sheet
      first = sheet_at sheet changing start

      abbrev lines : List Line
      lines = (interval_of (sheet_at sheet changing start) part).lines

      sizes : size (family_of sheet changing from).matrix ≡ size (family_of sheet changing start).matrix
      sizes = ap size (matrix_of sheet changing from ∙ sym (matrix_of sheet changing start))

      again : (xs : List ℚ) → length xs ≡ size (family_of sheet changing from).matrix → listed (family_of sheet changing start).matrix (value_at xs) ≡ xs
      again xs counted = listed_again (family_of sheet changing start).matrix xs (counted ∙ sizes)

      abbrev values : ℕ → List Value
      values = part_values (family_of sheet changing start) part

      value_is : column_of 1 lines ≡ part.value
      value_is =
          column_is (sheet_at sheet changing start) values 1 (variables (family_of sheet changing start).matrix)
          ∙ again part.value is.values_counted.value_counted

      value_rate_is : column_of 2 lines ≡ part.value_rate
      value_rate_is =
          column_is (sheet_at sheet changing start) values 2 (variables (family_of sheet changing start).matrix)
          ∙ again part.value_rate is.values_counted.rate_counted

      price_is : column_of 3 lines ≡ part.price
      price_is =
          column_is (sheet_at sheet changing start) values 3 (variables (family_of sheet changing start).matrix)
          ∙ again part.price is.prices_counted.value_counted

      price_rate_is : column_of 4 lines ≡ part.price_rate
      price_rate_is =
          column_is (sheet_at sheet changing start) values 4 (variables (family_of sheet changing start).matrix)
          ∙ again part.price_rate is.prices_counted.rate_counted

      pub part_passes : (C : Checker) (is_first : Bool) → (is_first ≡ true) ⊎ (part.from <ℚ part.to) →
          Passes C (interval_test C sheet changing is_first max (interval_of (sheet_at sheet changing start) part))
      part_passes C is_first longer =
          passes_same C (interval_test C sheet changing is_first max (interval_of (sheet_at sheet changing start) part))
          (part_test C sheet changing part.from part.to part.value part.value_rate part.price part.price_rate is_first max)
          (λ i. part_test C sheet changing part.from part.to (value_is i) (value_rate_is i) (price_is i) (price_rate_is i) is_first max)
          (pass_then C (asked (lt_ℚ part.from part.to || (is_first && eq_ℚ part.from part.to))) _ (passes_asked C _ (forward_holds is_first longer))
          (pass_then C (asked (le_ℚ part.to max)) _ (passes_asked C _ (test_from_le part.to max truth.within))
          (pass_then C _ _ (end_passes C part.from (le_refl part.from) truth.forward)
          (pass_then C _ _ (end_passes C part.to truth.forward (le_refl part.to))
          (pass_steps C (keeping_steps sheet changing part.from part.to part.value part.value_rate part.price part.price_rate) []
          (keeping_holds (family_of sheet changing) sheet.lp.matrix sheet.lp.sense (matrix_of sheet changing) (sense_of sheet changing)
          (ties_of sheet changing) from max s part is truth) (pass_none C)))))).passes

-- ---- closes

abbrev pub IsKind : Changing → PastBreakpoint → Type 0
IsKind changing AtMax = Unit {0}
IsKind (Row name) (PastUnbounded past z d) = Unit {0}
IsKind (Set name) (PastInfeasible past w) = Unit {0}
IsKind changing past = ⊥

abbrev IsKindOf : Changing → FaceTurn → Type 0
IsKindOf changing (FaceEnds end) = IsKind changing end
IsKindOf changing _ = Unit {0}

objective_kind : (name : List ℕ) (p : LinearProgram) (h : ℕ) (theta : ℚ) (s : List Status) (t : Tableau) → IsKindOf (Row name) (objective_face p h theta s t)
unfolding objective_face
objective_kind name p h theta s t = by (face_entering_variable p h theta s t)
  where
    until : (q : ℕ) (v : Vector) (o : Option ℕ) → IsKindOf (Row name) (face_until p h theta s t q v o)
    until q v (Some k) = tt
    until q v None = tt

    by : (o : Option ℕ) → IsKindOf (Row name) (face_by p h theta s t o)
    by (Some q) = until q _ (blocking_variable p t.point _)
    by None = tt

rhs_kind : (name : List ℕ) (p : LinearProgram) (shift : List ℚ) (theta : ℚ) (s : List Status) (t : Tableau) (v : Vector) →
    IsKindOf (Set name) (rhs_face p shift theta s t v)
unfolding rhs_face
rhs_kind name p shift theta s t v = by (leaving p shift theta s t v)
  where
    exchange : (r : ℕ) (below : Bool) (o : Option ℕ) → IsKindOf (Set name) (face_exchange p shift theta s t v r below o)
    exchange r below (Some q) = tt
    exchange r below None = tt

    by : (o : Option ℕ) → IsKindOf (Set name) (face_at p shift theta s t v o)
    by (Some r) = exchange r (leaves_below p shift theta s t v r) (cheapest p s t r (leaves_below p shift theta s t v r))
    by None = tt

pub face_kind : (sheet : Sheet) (changing : Changing) (theta : ℚ) (s : List Status) (end : PastBreakpoint) → IsFace sheet changing theta s (FaceEnds end) →
    IsKind changing end
face_kind sheet (Row name) theta s end face = subst (IsKindOf (Row name)) face.2 (objective_kind name _ (row_of sheet.problem name) theta s face.0)
face_kind sheet (Set name) theta s end face = subst (IsKindOf (Set name)) face.4 (rhs_kind name _ (shifts_of sheet.problem name) theta s face.0 face.1)

pub close_passes : (C : Checker) (problem : Problem ℕ) (lp : LinearProgram) (changing : Changing) → IsLinearProgram lp →
    ChangesFreely (record { problem = problem; lp = lp }) changing → (start max last : ℚ) (v : Vector) →
    IsBest (family_of (record { problem = problem; lp = lp }) changing last) v → (past : PastBreakpoint) → IsKind changing past →
    IsTrueEnd (family_of (record { problem = problem; lp = lp }) changing) max last past →
    Passes C (close_test C (record { problem = problem; lp = lp }) changing max last
    (end_of (sheet_at (record { problem = problem; lp = lp }) changing start) max past))
close_passes C problem lp (Row name) lawful free start max last v best AtMax kind is =
    (pass_then C (asked (eq_ℚ max last)) _ (passes_asked C _ (test_from_same max last (sym is)))
    (pass_then C (asked (eq_ℚ max max)) [] (passes_asked C _ (test_from_same max max refl)) (pass_none C))).passes
close_passes C problem lp (Set name) lawful free start max last v best AtMax kind is =
    (pass_then C (asked (eq_ℚ max last)) _ (passes_asked C _ (test_from_same max last (sym is)))
    (pass_then C (asked (eq_ℚ max max)) [] (passes_asked C _ (test_from_same max max refl)) (pass_none C))).passes
close_passes C problem lp (Row name) lawful free start max last v best (PastUnbounded past z d) kind is =
    passes_same C _ (past_test max last past (test z' d')) (λ i. past_test max last past (test (first_is i) (second_is i)))
    (pass_then C (asked (eq_ℚ past last)) _ (passes_asked C _ (test_from_same past last is.at_last))
    (pass_then C (asked (lt_ℚ past max)) _ (passes_asked C _ (test_from_lt past max (subst (λ (x : ℚ). x <ℚ max) (sym is.at_last) is.before_max)))
    (pass_then C (test z' d') []
    (unbounded_passes lp (row_of problem name) lawful free.0 past z d v
    (subst (λ (x : ℚ). IsBest (family_of sheet (Row name) x) v) (sym is.at_last) best) is.proved C problem (Row name)) (pass_none C)))).passes
  where
    sheet : Sheet
    sheet = record { problem = problem; lp = lp }

    test : List ℚ → List ℚ → Verdict
    test xs ys = unbounded_past C (record { problem = problem; lp = lp }) (Row name) (row_of problem name) past (value_at xs) (value_at ys)

    z' : List ℚ
    z' = listed lp.matrix (value_at z)

    d' : List ℚ
    d' = listed lp.matrix (value_at d)

    first_is : column_of 0 (pair_lines (sheet_at (record { problem = problem; lp = lp }) (Row name) start) z d) ≡ listed lp.matrix (value_at z)
    first_is = column_is (sheet_at (record { problem = problem; lp = lp }) (Row name) start) _ 0 (variables lp.matrix)

    second_is : column_of 1 (pair_lines (sheet_at (record { problem = problem; lp = lp }) (Row name) start) z d) ≡ listed lp.matrix (value_at d)
    second_is = column_is (sheet_at (record { problem = problem; lp = lp }) (Row name) start) _ 1 (variables lp.matrix)
close_passes C problem lp (Set name) lawful free start max last v best (PastInfeasible past w) kind is =
    passes_same C _ (past_test max last past (test (listed lp.matrix (value_at w)))) (λ i. past_test max last past (test (ray_is i)))
    (pass_then C (asked (eq_ℚ past last)) _ (passes_asked C _ (test_from_same past last is.at_last))
    (pass_then C (asked (lt_ℚ past max)) _ (passes_asked C _ (test_from_lt past max (subst (λ (x : ℚ). x <ℚ max) (sym is.at_last) is.before_max)))
    (pass_then C (test (listed lp.matrix (value_at w))) [] (infeasible_passes lp (shifts_of problem name) (lawful_rhs lp
    (shifts_of problem name) lawful) past w v
    (subst (λ (x : ℚ). IsBest (family_of (record { problem = problem; lp = lp }) (Set name) x) v)
    (sym is.at_last) best).feasible is.proved C problem name refl) (pass_none C)))).passes
  where
    test : List ℚ → Verdict
    test xs = infeasible_past C (record { problem = problem; lp = lp }) (Set name) (shifts_of problem name) past (value_at xs)

    ray_is : multipliers (record { problem = problem; lp = lp })
        (ray_lines (sheet_at (record { problem = problem; lp = lp }) (Set name) start) w) ≡ listed lp.matrix (value_at w)
    ray_is = numbers_of_ray (record { problem = problem; lp = lp }) w
close_passes C problem lp (Row name) lawful free start max last v best (PastInfeasible past w) kind is = absurd kind
close_passes C problem lp (Set name) lawful free start max last v best (PastUnbounded past z d) kind is = absurd kind
