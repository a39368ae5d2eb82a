-- In a run of the objective the point stays feasible at a breakpoint, and a direction in which nothing stops the change row proves for
-- every greater value that the program is unbounded.
use Rattle.std.proofs.Common.{◌≡◌, ◌≢◌, ℕ, Bool, true, false, List, refl, sym, subst, pos}
use Rattle.std.specs.Prelude.{Option, Some, None, ◌&&◌}
use Rattle.std.proofs.lemmas.Bool.{and_parts}
use Rattle.exact_values.specs.Rational.{ℚ, zero_ℚ, one_ℚ, neg_ℚ, ◌+ℚ◌, ◌-ℚ◌, ◌*ℚ◌, ◌<ℚ◌}
use Rattle.exact_values.specs.Tests.{eq_ℚ, lt_ℚ}
use Rattle.exact_values.proofs.Ring.{by_ring3, by_ring4, same_by_one, ◌⊕◌, ◌⊖◌, ◌⊗◌, ◌≐◌, number, opposite}
use Rattle.exact_values.proofs.Order.{lt_from_le, lt_by_product}
use Rattle.exact_values.proofs.TestsLaws.{lt_from_test, le_from_lt_fails, same_from_test}
use Rattle.exact_values.proofs.Signs.{neg_below}
use Rattle.lp_definitions.specs.LinearProgram.{LinearProgram, Vector, value_at, IsRow, HasNoLimits, IsLinearProgram, for_min, objective_value}
use Rattle.lp_definitions.specs.Solutions.{IsFeasible, ProvesUnbounded}
use Rattle.lp_definitions.specs.Basis.{IsOptimalBasis, Tableau, IsTableau, objective_rate}
use Rattle.lp_definitions.specs.declared.Sense.{Sense}
use Rattle.lp_definitions.specs.declared.Sense.TheVariants.{Min, Max}
use Rattle.lp_definitions.specs.declared.Status.{Status}
use Rattle.lp_laws.proofs.Duality.{unbounded_by_direction}
use Rattle.lp_laws.proofs.Uniqueness.{one_point}
use Rattle.simplex_definitions.specs.Moves.{signed, goes_up, lowers, blocking_variable}
use Rattle.simplex_definitions.specs.Path.{Move, after, listed, speeds, stopped_by}
use Rattle.simplex_laws.specs.Laws.{IsNonsingularBasis}
use Rattle.simplex_laws.proofs.UnboundedEnds.{keeps-signed, motion_proves}
use Rattle.simplex_laws.proofs.Ends.{IsFeasible-same}
use Rattle.simplex_laws.proofs.Searches.{found_passes}
use Rattle.simplex_definitions.specs.Chain.{ChainEnd, UnboundedPast, FaceMoves, FaceEnds}
use Rattle.simplex_definitions.specs.ObjectiveRun.{objective_family, change_rate, face_entering_variable, face_until, face_by, objective_face, IsObjectiveFace}
use Rattle.simplex_laws.proofs.EnteringVariables.{IsEnteringVariable, is_entering_variable}
use Rattle.parametric_laws.proofs.Objective.{to_objective}
use Rattle.parametric_laws.proofs.OneObjective.{lawful_objective}
use Rattle.parametric_laws.specs.Truth.{IsUnboundedBy, IsTrueEnd}
use Rattle.parametric_laws.proofs.Motions.{HasFeasiblePoint, stopped_feasible}

-- ---- what is done at a breakpoint

module _ (p : LinearProgram) (h : ℕ) (theta : ℚ) (s : List Status) (t : Tableau) where
  abbrev motion : ℕ → Vector
  motion q = speeds t.rate (goes_up (change_rate p h theta s t) q) q

  -- q moves until k stops it
  record IsStopped (m : Move) : Type 0 where
    q : ℕ
    k : ℕ
    found : face_entering_variable p h theta s t ≡ Some q
    stops : blocking_variable p t.point (motion q) ≡ Some k
    gives : m ≡ stopped_by q (motion q) k

  -- nothing stops q
  record IsUnboundedEnd (end : ChainEnd) : Type 0 where
    q : ℕ
    found : face_entering_variable p h theta s t ≡ Some q
    stops : blocking_variable p t.point (motion q) ≡ None
    gives : end ≡ UnboundedPast theta (listed p.matrix t.point) (listed p.matrix (motion q))

  stopped_by_one : (m : Move) (q : ℕ) → face_entering_variable p h theta s t ≡ Some q → (o : Option ℕ) → blocking_variable p t.point (motion q) ≡ o →
      face_until p h theta s t q (motion q) o ≡ FaceMoves m → IsStopped m
  stopped_by_one m q found (Some k) stops e =
      record { q = q; k = k; found = found; stops = stops; gives = let same : m ≡ stopped_by q (motion q) k = cc in same }
  stopped_by_one m q found None stops e = cc

  moving : (m : Move) (o : Option ℕ) → face_entering_variable p h theta s t ≡ o → face_by p h theta s t o ≡ FaceMoves m → IsStopped m
  moving m (Some q) found e = stopped_by_one m q found (blocking_variable p t.point (motion q)) refl e
  moving m None found e = cc

  is_stopped : (m : Move) → objective_face p h theta s t ≡ FaceMoves m → IsStopped m
  unfolding objective_face
  is_stopped m e = moving m (face_entering_variable p h theta s t) refl e

  stopped_by_none : (end : ChainEnd) (q : ℕ) → face_entering_variable p h theta s t ≡ Some q → (o : Option ℕ) → blocking_variable p t.point (motion q) ≡ o →
      face_until p h theta s t q (motion q) o ≡ FaceEnds end → IsUnboundedEnd end
  stopped_by_none end q found (Some k) stops e = cc
  stopped_by_none end q found None stops e =
      record {
        q = q;
        found = found;
        stops = stops;
        gives = let same : end ≡ UnboundedPast theta (listed p.matrix t.point)
            (listed p.matrix (motion q)) = cc in same;
      }

  ending : (end : ChainEnd) (o : Option ℕ) → face_entering_variable p h theta s t ≡ o → face_by p h theta s t o ≡ FaceEnds end → IsUnboundedEnd end
  ending end (Some q) found e = stopped_by_none end q found (blocking_variable p t.point (motion q)) refl e
  ending end None found e = cc

  is_unbounded : (end : ChainEnd) → objective_face p h theta s t ≡ FaceEnds end → IsUnboundedEnd end
  unfolding objective_face
  is_unbounded end e = ending end (face_entering_variable p h theta s t) refl e

  -- the combined rate of what moves is 0, and it lowers the change row
  pub record IsFaceEnteringVariable (q : ℕ) : Type 0 where
    pub zero_rate : objective_rate p t.rate q ≡ zero_ℚ
    pub entering_variable : IsEnteringVariable p s (change_rate p h theta s t) q

  pub face_entering_variable_is : (q : ℕ) → IsNonsingularBasis p s → face_entering_variable p h theta s t ≡ Some q → IsFaceEnteringVariable q
  face_entering_variable_is q at found =
      let passes = found_passes p (λ q. eq_ℚ (objective_rate p t.rate q) zero_ℚ && lowers p s (change_rate p h theta s t) q) q found in
      let both = and_parts (eq_ℚ (objective_rate p t.rate q) zero_ℚ) (lowers p s (change_rate p h theta s t) q) passes.1 in
      record { zero_rate = same_from_test _ _ both.0; entering_variable = is_entering_variable p s (change_rate p h theta s t) q at passes.0 both.1 }

-- ---- the point stays feasible

module _ (p : LinearProgram) (h : ℕ) (theta : ℚ) (s : List Status) where
  to_family : HasFeasiblePoint p s → HasFeasiblePoint (objective_family p h theta) s
  to_family have = record {
    point = have.point;
    is_point = record { keeps = have.is_point.keeps; placed = have.is_point.placed };
    feasible = record { keeps = have.feasible.keeps; within = have.feasible.within };
  }

  from_family : HasFeasiblePoint (objective_family p h theta) s → HasFeasiblePoint p s
  from_family have = record {
    point = have.point;
    is_point = record { keeps = have.is_point.keeps; placed = have.is_point.placed };
    feasible = record { keeps = have.feasible.keeps; within = have.feasible.within };
  }

pub objective_known : (p : LinearProgram) (h : ℕ) (theta : ℚ) (s : List Status) → IsOptimalBasis (objective_family p h theta) s → HasFeasiblePoint p s
objective_known p h theta s optimal =
    from_family p h theta s (record { point = optimal.tableau.point; is_point = optimal.is_tableau.is_point; feasible = optimal.feasible })

-- the tableau of the basis has its feasible point
tableau_feasible : (p : LinearProgram) (s : List Status) (t : Tableau) → IsNonsingularBasis p s → IsTableau p s t → (have : HasFeasiblePoint p s) →
    IsFeasible p t.point
tableau_feasible p s t at tab have =
    IsFeasible-same p have.point t.point (one_point p s have.point t.point at.is_basis.counted at.nonsingular have.is_point tab.is_point) have.feasible

moves_kept : (p : LinearProgram) (h : ℕ) (theta : ℚ) (s : List Status) (t : Tableau) (m : Move) → IsNonsingularBasis p s → IsTableau p s t →
    HasFeasiblePoint p s →
    objective_face p h theta s t ≡ FaceMoves m → HasFeasiblePoint p (after s m)
moves_kept p h theta s t m at tab have e =
    let move = is_stopped p h theta s t m e in
    let entering_variable = face_entering_variable_is p h theta s t move.q at move.found in
    subst (λ m. HasFeasiblePoint p (after s m)) (sym move.gives)
    (stopped_feasible p s t at tab (tableau_feasible p s t at tab have) move.q move.k
    (goes_up (change_rate p h theta s t) move.q) entering_variable.entering_variable.nonbasic move.stops)

pub objective_kept : (p : LinearProgram) (h : ℕ) (theta : ℚ) (s : List Status) (m : Move) → IsNonsingularBasis p s → HasFeasiblePoint p s →
    IsObjectiveFace p h theta s (FaceMoves m) → HasFeasiblePoint p (after s m)
objective_kept p h theta s m at have face =
    from_family p h theta (after s m)
    (moves_kept (objective_family p h theta) h theta s face.0 m (to_objective p h theta s at) face.1 (to_family p h theta s have) face.2)

-- ---- a direction without end

-- past theta the objective improves: its rate is 0 at theta, and theta's part improves
value_past : (sense : Sense) (up : Bool) (o h theta x : ℚ) → o +ℚ theta *ℚ h ≡ zero_ℚ →
    for_min sense (signed up o +ℚ x *ℚ signed up h) ≡ (x -ℚ theta) *ℚ signed up (for_min sense h)
value_past Min true o h theta x e =
    same_by_one one_ℚ e (by_ring4 o h theta x (λ o h y x. o ⊕ x ⊗ h ≐ (x ⊖ y) ⊗ h ⊕ number (pos 1) ⊗ (o ⊕ y ⊗ h ⊖ number (pos 0))) refl)
value_past Min false o h theta x e =
    same_by_one (neg_ℚ one_ℚ) e
    (by_ring4 o h theta x (λ o h y x. opposite o ⊕ x ⊗ opposite h ≐ (x ⊖ y) ⊗ opposite h ⊕ opposite (number (pos 1)) ⊗ (o ⊕ y ⊗ h ⊖ number (pos 0))) refl)
value_past Max true o h theta x e =
    same_by_one (neg_ℚ one_ℚ) e
    (by_ring4 o h theta x (λ o h y x. opposite (o ⊕ x ⊗ h) ≐ (x ⊖ y) ⊗ opposite h ⊕ opposite (number (pos 1)) ⊗ (o ⊕ y ⊗ h ⊖ number (pos 0))) refl)
value_past Max false o h theta x e =
    same_by_one one_ℚ e
    (by_ring4 o h theta x
    (λ o h y x. opposite (opposite o ⊕ x ⊗ opposite h) ≐ (x ⊖ y) ⊗ opposite (opposite h) ⊕ number (pos 1) ⊗ (o ⊕ y ⊗ h ⊖ number (pos 0))) refl)

falls_past : (c theta x : ℚ) → theta <ℚ x → c <ℚ zero_ℚ → (x -ℚ theta) *ℚ c <ℚ zero_ℚ
falls_past c theta x past below = lt_by_product past below (by_ring3 c theta x (λ c y x. number (pos 0) ≐ (x ⊖ y) ⊗ c ⊕ (x ⊖ y) ⊗ (number (pos 0) ⊖ c)) refl)

turned_below : (c : ℚ) → c ≢ zero_ℚ → signed (lt_ℚ c zero_ℚ) c <ℚ zero_ℚ
turned_below c apart = by_test (lt_ℚ c zero_ℚ) refl
  where
    by_test : (up : Bool) → lt_ℚ c zero_ℚ ≡ up → signed up c <ℚ zero_ℚ
    by_test true is = lt_from_test c zero_ℚ is
    by_test false is = neg_below c (lt_from_le (le_from_lt_fails c zero_ℚ is) (λ e. apart (sym e)))

module _ (p : LinearProgram) (h : ℕ) (theta : ℚ) (s : List Status) (t : Tableau) (lawful : (x : ℚ) → IsLinearProgram (objective_family p h x))
    (at : IsNonsingularBasis p s)
    (tab : IsTableau (objective_family p h theta) s t) (have : HasFeasiblePoint p s) (q : ℕ)
    (entering_variable : IsFaceEnteringVariable (objective_family p h theta) h theta s t q)
    (stops : blocking_variable (objective_family p h theta) t.point (motion (objective_family p h theta) h theta s t q) ≡ None) (x : ℚ)
    (past : theta <ℚ x) where
  abbrev c : ℚ
  c = change_rate (objective_family p h theta) h theta s t q

  abbrev d : Vector
  d = motion (objective_family p h theta) h theta s t q

  feasible_here : IsFeasible (objective_family p h theta) t.point
  feasible_here = tableau_feasible (objective_family p h theta) s t (to_objective p h theta s at) tab (to_family p h theta s have)

  improves : for_min p.sense (objective_value (objective_family p h x) d) <ℚ zero_ℚ
  improves =
      subst (λ y. y <ℚ zero_ℚ)
      (sym (value_past p.sense (goes_up (change_rate (objective_family p h theta) h theta s t) q) (t.rate p.objective q)
      (t.rate h q) theta x entering_variable.zero_rate))
      (falls_past (signed (lt_ℚ c zero_ℚ) c) theta x past (turned_below c entering_variable.entering_variable.rate_apart))

  pub unbounded_end : IsUnboundedBy (objective_family p h x) (value_at (listed p.matrix t.point)) (value_at (listed p.matrix d))
  unbounded_end =
      record {
        proof = proof;
        unbounded = unbounded_by_direction (objective_family p h x) (value_at (listed p.matrix t.point))
            (value_at (listed p.matrix d)) proof;
      }
    where
      proof : ProvesUnbounded (objective_family p h x) (value_at (listed p.matrix t.point)) (value_at (listed p.matrix d))
      proof = motion_proves (objective_family p h x) t.point d (lawful x) (record { keeps = feasible_here.keeps; within = feasible_here.within })
          (keeps-signed p.matrix (goes_up (change_rate (objective_family p h theta) h theta s t) q) (λ i. t.rate i q)
          (tab.are_rates q entering_variable.entering_variable.nonbasic).keeps) stops improves

pub objective_closes : (p : LinearProgram) (h : ℕ) → IsLinearProgram p → IsRow p.matrix h → HasNoLimits p h →
    (theta max : ℚ) (s : List Status) (end : ChainEnd) → IsNonsingularBasis p s → theta <ℚ max →
    HasFeasiblePoint p s → IsObjectiveFace p h theta s (FaceEnds end) → IsTrueEnd (objective_family p h) max theta end
objective_closes p h lawful row free theta max s end at before have face =
    let last = is_unbounded (objective_family p h theta) h theta s face.0 end face.2 in
    subst (IsTrueEnd (objective_family p h) max theta) (sym last.gives) (record {
      at_last = refl;
      before_max = before;
      proved = λ x past. unbounded_end p h theta s face.0 (lawful_objective p h lawful row free) at face.1 have last.q
          (face_entering_variable_is (objective_family p h theta) h theta s face.0 last.q (to_objective p h theta s at) last.found) last.stops x past;
    })
