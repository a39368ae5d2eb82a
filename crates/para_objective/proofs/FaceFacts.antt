-- What is done at a breakpoint, from what the calls there found.
use Rattle.std.proofs.Common.{◌≡◌, ◌≢◌, ℕ, Bool, true, false, List, length, cond, refl, sym, ap, ap₂, subst, ◌∙◌}
use Rattle.std.specs.Prelude.{Option, Some, None, IsTrue, ◌&&◌, ◌||◌, option_map, if◌then◌else◌}
use Rattle.exact_values.specs.Rational.{ℚ, zero_ℚ}
use Rattle.exact_values.specs.Tests.{lt_ℚ}
use Rattle.exact_values.proofs.Order.{le_of_lt, lt_not_le}
use Rattle.exact_values.proofs.TestsLaws.{lt_from_test}
use Rattle.lp_definitions.specs.LinearProgram.{LinearProgram, Vector, size, value_at, IsRow, IsVariable, HasNoLimits, IsLinearProgram, for_min}
use Rattle.lp_definitions.specs.Solutions.{IsFeasible}
use Rattle.lp_definitions.specs.Basis.{basics_of, IsNonbasic, IsDirectionOf, IsOptimalBasis, IsPointOf, Tableau, IsTableau, objective_rate}
use Rattle.lp_definitions.specs.declared.Status.{Status}
use Rattle.lp_definitions.specs.declared.Status.TheVariants.{Ul, Ll}
use Rattle.lp_laws.proofs.Uniqueness.{one_direction}
use Rattle.lp_model.specs.RatesCalls.{IsRowOf}
use Rattle.lp_model.specs.declared.reports.ParaEnd.{ParaEnd}
use Rattle.simplex_definitions.specs.Moves.{may_rise, may_fall, lowers, goes_up, signed, blocking_variable}
use Rattle.simplex_definitions.specs.Path.{after, speeds, stopped_by}
use Rattle.simplex_laws.specs.Laws.{IsNonsingularBasis}
use Rattle.simplex_laws.proofs.Searches.{found_passes}
use Rattle.simplex_laws.proofs.BlockingVariables.{blocking_variable_some}
use Rattle.simplex_definitions.specs.Chain.{FaceMoves, FaceDone, FaceEnds, UnboundedPast}
use Rattle.simplex_definitions.specs.ObjectiveRun.{objective_family, change_rate, face_entering_variable, face_until, face_by, objective_face, IsObjectiveFace}
use Rattle.basis_values.specs.Motions.{may_move, motion}
use Rattle.bounded_primal.specs.Moves.{stop_at, blocking_variable_of, IsStepBy, is_blocking_variable, move_by}
use Rattle.bounded_primal.specs.declared.moves.BlockingVariable.{BlockingVariable}
use Rattle.bounded_primal.proofs.SameChoices.{blocking_variable_same, listed_is}
use Rattle.parametric_run.specs.Calls.{end_of}
use Rattle.std.proofs.lemmas.Bool.{and_parts}
use Rattle.parametric_laws.proofs.Objective.{to_objective}
use Rattle.parametric_laws.proofs.OneObjective.{lawful_objective}
use Rattle.parametric_laws.proofs.Intervals.{point_feasible}
use Rattle.parametric_laws.proofs.ObjectiveEnds.{face_entering_variable_is}
use Rattle.para_objective.specs.Breaks.{IsFaceEnteringVariable}
use Rattle.para_objective.specs.Faces.{face_up, IsUnboundedPast}
use Rattle.para_objective.proofs.Kept.{kept_optimal, pivot}

-- what lowers a quantity rises where its rate is negative, and else falls
may_go : (a b rises falls : Bool) → ((a && rises) || (b && falls)) ≡ true → (a ≡ true → b ≡ true → ⊥) → (if a then rises else falls) ≡ true
may_go true true rises falls e one = absurd (one refl refl)
may_go true false true falls e one = refl
may_go true false false falls e one = cc
may_go false true rises true e one = refl
may_go false true rises false e one = cc
may_go false false rises falls e one = cc

one_sign : (x : ℚ) → lt_ℚ x zero_ℚ ≡ true → lt_ℚ zero_ℚ x ≡ true → ⊥
one_sign x low high = lt_not_le (lt_from_test x zero_ℚ low) (le_of_lt (lt_from_test zero_ℚ x high))

module _ (p : LinearProgram) (h : ℕ) (lawful : IsLinearProgram p) (row : IsRow p.matrix h) (free : HasNoLimits p h) (theta : ℚ) (s : List Status)
    (at : IsNonsingularBasis p s)
    (z : Vector) (point : IsPointOf p s z) (optimal : IsOptimalBasis (objective_family p h theta) s) (change : Vector)
    (changed : IsRowOf p.matrix (basics_of s) h change) where
  abbrev present : LinearProgram
  present = objective_family p h theta

  abbrev t : Tableau
  t = record { point = z; rate = changed.rate }

  tab : IsTableau present s t
  tab = record { is_point = record { keeps = point.keeps; placed = point.placed }; are_rates = changed.are_rates }

  there : IsNonsingularBasis present s
  there = to_objective p h theta s at

  -- nobody moves
  pub face_done : IsFaceEnteringVariable p h theta s None → IsObjectiveFace p h theta s FaceDone
  unfolding objective_face
  face_done found = (t, tab, ap (face_by present h theta s t) (sym (found t tab)))

  pub feasible : IsFeasible p z
  feasible =
      let f = point_feasible present (lawful_objective p h lawful row free theta) s optimal z tab.is_point in record { keeps = f.keeps; within = f.within }

  module _ (q : ℕ) (found : IsFaceEnteringVariable p h theta s (Some q)) where
    found_is : face_entering_variable present h theta s t ≡ Some q
    found_is = sym (found t tab)

    pub nonbasic : IsNonbasic p.matrix (basics_of s) q
    nonbasic = (face_entering_variable_is present h theta s t q there found_is).entering_variable.nonbasic

    zero_rate : objective_rate present t.rate q ≡ zero_ℚ
    zero_rate = (face_entering_variable_is present h theta s t q there found_is).zero_rate

    rate_is : change q ≡ t.rate h q
    rate_is = changed.entries q nonbasic.0 ∙ ap (λ m. cond m zero_ℚ (changed.rate h q)) nonbasic.1

    lowering : lowers present s (change_rate present h theta s t) q ≡ true
    lowering = (and_parts _ _ (found_passes present _ q found_is).1).1

    up_is : face_up p change q ≡ goes_up (change_rate present h theta s t) q
    up_is = ap (λ r. lt_ℚ (for_min p.sense r) zero_ℚ) rate_is

    pub may : IsTrue (may_move p s (face_up p change q) q)
    may = subst (λ b. (if b then may_rise p s q else may_fall p s q) ≡ true) (sym up_is)
        (may_go (lt_ℚ (change_rate present h theta s t q) zero_ℚ) (lt_ℚ zero_ℚ (change_rate present h theta s t q)) (may_rise p s q) (may_fall p s q) lowering
        (one_sign (change_rate present h theta s t q)))

    module _ (d : Vector) (direction : IsDirectionOf p.matrix (basics_of s) q d) (up : Bool) (up_found : up ≡ face_up p change q) where
      abbrev motion_of : Vector
      motion_of = speeds t.rate (goes_up (change_rate present h theta s t) q) q

      speeds_are : (k : ℕ) → IsVariable p.matrix k → motion_of k ≡ motion d up k
      speeds_are k is =
          ap₂ (λ b v. signed b v) (sym (up_found ∙ up_is))
          (one_direction p.matrix (basics_of s) q (λ i. t.rate i q) d at.nonsingular (changed.are_rates q nonbasic) direction k is)

      stops_same : blocking_variable present z motion_of ≡ blocking_variable p z (motion d up)
      stops_same = blocking_variable_same p z motion_of (motion d up) speeds_are

      face_is : (o : Option ℕ) → blocking_variable p z (motion d up) ≡ o → objective_face present h theta s t ≡ face_until present h theta s t q motion_of o
      unfolding objective_face
      face_is o stops = ap (face_by present h theta s t) found_is ∙ ap (face_until present h theta s t q motion_of) (stops_same ∙ stops)

      none_stops : (o : Option ℕ) → option_map (stop_at p z d up) o ≡ None → o ≡ None
      none_stops None e = refl
      none_stops (Some k) e = cc

      some_stops : (by : BlockingVariable) (o : Option ℕ) → option_map (stop_at p z d up) o ≡ Some by → (k : ℕ) × (o ≡ Some k) × (stop_at p z d up k ≡ by)
      some_stops by None e = cc
      some_stops by (Some k) e = (k, refl, cc)

      -- nothing stops q
      pub face_ends : None ≡ blocking_variable_of p z d up → (zs : List ℚ) → length zs ≡ size p.matrix → ((k : ℕ) → IsVariable p.matrix k → value_at zs k
          ≡ z k) →
          (end : ParaEnd) → IsUnboundedPast p theta zs d up end →
          IsObjectiveFace p h theta s (FaceEnds (end_of end))
      face_ends none zs zs_counted zs_are end is = (
        t,
        tab,
        face_is None (none_stops (blocking_variable p z (motion d up)) (sym none))
            ∙ ap₂ (λ xs ys. FaceEnds (UnboundedPast theta xs ys)) (sym (listed_is p.matrix zs z zs_counted zs_are))
            (sym (listed_is p.matrix is.ds motion_of is.counted (λ k var. is.speeds k var ∙ sym (speeds_are k var))))
            ∙ ap (λ e. FaceEnds (end_of e)) (sym is.is_end),
      )

      module _ (by : BlockingVariable) (stops : Some by ≡ blocking_variable_of p z d up) where
        blocking_variable_at : (k : ℕ) × (blocking_variable p z (motion d up) ≡ Some k) × (stop_at p z d up k ≡ by)
        blocking_variable_at = some_stops by (blocking_variable p z (motion d up)) (sym stops)

        k_is : IsVariable p.matrix blocking_variable_at.0
        k_is = (blocking_variable_some p z (motion d up) blocking_variable_at.0 blocking_variable_at.1).0

        move_is : stopped_by q motion_of blocking_variable_at.0 ≡ move_by q by
        move_is =
            ap (λ v. record { enters = q; leaves = blocking_variable_at.0; to = if lt_ℚ zero_ℚ v then Ul else Ll }) (speeds_are blocking_variable_at.0 k_is)
            ∙ ap (move_by q) blocking_variable_at.2

        pub face_moves : IsObjectiveFace p h theta s (FaceMoves (move_by q by))
        face_moves = (t, tab, face_is (Some blocking_variable_at.0) blocking_variable_at.1 ∙ ap FaceMoves move_is)

        pub face_keeps : IsOptimalBasis (objective_family p h theta) (after s (move_by q by))
        face_keeps =
            subst (λ m. IsOptimalBasis (objective_family p h theta) (after s m)) move_is
            (kept_optimal p h lawful row theta s at t tab optimal q nonbasic zero_rate (goes_up (change_rate present h theta s t) q) blocking_variable_at.0
            (stops_same ∙ blocking_variable_at.1))

        pub face_pivot : d by.p ≢ zero_ℚ
        face_pivot zero =
            pivot p h lawful row theta s at t tab optimal q nonbasic zero_rate (goes_up (change_rate present h theta s t) q) blocking_variable_at.0
            (stops_same ∙ blocking_variable_at.1)
            (one_direction p.matrix (basics_of s) q (λ i. t.rate i q) d at.nonsingular (changed.are_rates q nonbasic) direction blocking_variable_at.0 k_is
            ∙ ap (λ (b : BlockingVariable). d b.p) blocking_variable_at.2 ∙ zero)

        pub face_by_blocking_variable : IsStepBy p s z d q by
        face_by_blocking_variable = is_blocking_variable up feasible (subst (λ b. IsTrue (may_move p s b q)) (sym up_found) may) (sym stops)

    -- q is what a step would move
    pub face_enters : (u : Tableau) × IsTableau present s u × (face_entering_variable present h theta s u ≡ Some q)
    face_enters = (t, tab, found_is)
