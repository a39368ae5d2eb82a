-- In a run of the objective an interval past a breakpoint is longer than a point.
use Rattle.std.proofs.Common.{◌≡◌, ℕ, Bool, true, false, List, refl, sym, ap, ap₂, ◌∙◌, pos, subst}
use Rattle.std.specs.Prelude.{Option, Some, None, ◌&&◌, ◌||◌}
use Rattle.std.proofs.lemmas.Bool.{or_right}
use Rattle.exact_values.specs.Rational.{ℚ, zero_ℚ, neg_ℚ, ◌+ℚ◌, ◌*ℚ◌, ◌<ℚ◌}
use Rattle.exact_values.specs.Tests.{eq_ℚ, lt_ℚ}
use Rattle.exact_values.proofs.Ring.{by_ring1, by_ring3, ◌⊕◌, ◌⊗◌, ◌≐◌, number, opposite}
use Rattle.exact_values.proofs.Order.{le_refl, lt_of_lt_of_le, lt_by_one}
use Rattle.exact_values.proofs.TestsLaws.{test_from_lt, test_from_same}
use Rattle.affine_laws.specs.Conditions.{Condition, EndsAt}
use Rattle.lp_definitions.specs.LinearProgram.{LinearProgram, Vector, size, IsRow, IsVariable, HasNoLimits, IsLinearProgram, for_min}
use Rattle.lp_definitions.specs.Basis.{IsOptimalBasis, Tableau, IsTableau, objective_rate}
use Rattle.lp_definitions.specs.declared.Sense.{Sense}
use Rattle.lp_definitions.specs.declared.Sense.TheVariants.{Min, Max}
use Rattle.lp_definitions.specs.declared.Status.{Status}
use Rattle.lp_laws.proofs.Values.{clash}
use Rattle.simplex_definitions.specs.Moves.{may_rise, may_fall, lowers, blocking_variable, goes_up}
use Rattle.simplex_definitions.specs.Path.{speeds}
use Rattle.simplex_laws.specs.Laws.{IsNonsingularBasis}
use Rattle.simplex_laws.proofs.Searches.{none_passes}
use Rattle.sensitivity_laws.specs.Changes.{Sides, condition, condition_if, rate_sides, RatesStay, worths, slopes}
use Rattle.sensitivity_laws.specs.Laws.{IsFeasibleBasis}
use Rattle.sensitivity_laws.proofs.Rows.{objective}
use Rattle.sensitivity_laws.proofs.Signs.{for_min-add}
use Rattle.simplex_definitions.specs.Chain.{Part, FaceDone, IsPart}
use Rattle.simplex_definitions.specs.ObjectiveRun.{objective_family, change_rate, face_entering_variable, face_until, face_by, objective_face, IsObjectiveFace}
use Rattle.parametric_laws.proofs.OneObjective.{lawful_objective}
use Rattle.parametric_laws.proofs.Intervals.{point_feasible}
use Rattle.parametric_laws.proofs.Spans.{SideEnds, first_ends, second_ends, IsSpan, span}

-- ---- where nothing is left to do, no variable moves

module _ (p : LinearProgram) (h : ℕ) (theta : ℚ) (s : List Status) (t : Tableau) where
  goes_or_ends : (q : ℕ) (v : Vector) (o : Option ℕ) → face_until p h theta s t q v o ≡ FaceDone → ⊥
  goes_or_ends q v (Some k) e = cc
  goes_or_ends q v None e = cc

  by_entering_variable : (o : Option ℕ) → face_entering_variable p h theta s t ≡ o → face_by p h theta s t o ≡ FaceDone →
      face_entering_variable p h theta s t ≡ None
  by_entering_variable (Some q) is e =
      let v : Vector = speeds t.rate (goes_up (change_rate p h theta s t) q) q in
      absurd (goes_or_ends q v (blocking_variable p t.point v) e)
  by_entering_variable None is e = is

  done_entering_variable : objective_face p h theta s t ≡ FaceDone → face_entering_variable p h theta s t ≡ None
  unfolding objective_face
  done_entering_variable e = by_entering_variable (face_entering_variable p h theta s t) refl e

-- ---- a condition that ends

for_min_zero : (sense : Sense) (v : ℚ) → for_min sense v ≡ zero_ℚ → v ≡ zero_ℚ
for_min_zero Min v e = e
for_min_zero Max v e = by_ring1 v (λ v. v ≐ opposite (opposite v)) refl ∙ ap neg_ℚ e ∙ by_ring1 v (λ v. opposite (number (pos 0)) ≐ number (pos 0)) refl

-- the rate w + x v is 0, and v has the sign by which the variable lowers the change row
record IsStill (w v x : ℚ) (rises falls : Bool) : Type 0 where
  zero_rate : w +ℚ x *ℚ v ≡ zero_ℚ
  moves : ((lt_ℚ v zero_ℚ && rises) || (lt_ℚ zero_ℚ v && falls)) ≡ true

if_there : (may : Bool) (a b : ℚ) (c : Condition) → condition_if may a b ≡ Some c → (may ≡ true) × (condition a b ≡ c)
if_there true a b c e = let same : condition a b ≡ c = cc in (refl, same)
if_there false a b c e = cc

still_first : (w v x : ℚ) (rises falls : Bool) → rises ≡ true → EndsAt x (condition w v) → IsStill w v x rises falls
still_first w v x rises falls may ends = record { zero_rate = ends.is_zero; moves = rw (test_from_lt v zero_ℚ ends.falls, may) refl }

still_second : (w v x : ℚ) (rises falls : Bool) → falls ≡ true → EndsAt x (condition (neg_ℚ w) (neg_ℚ v)) → IsStill w v x rises falls
still_second w v x rises falls may ends = record {
  zero_rate =
      by_ring3 w x v (λ w x v. w ⊕ x ⊗ v ≐ opposite (opposite w ⊕ x ⊗ opposite v)) refl ∙ ap neg_ℚ ends.is_zero
      ∙ by_ring1 v (λ v. opposite (number (pos 0)) ≐ number (pos 0)) refl;
  moves = rw (test_from_lt zero_ℚ v above, may) (or_right (lt_ℚ v zero_ℚ && rises) true refl);
}
  where
    above : zero_ℚ <ℚ v
    above = lt_by_one ends.falls (by_ring1 v (λ v. v ≐ number (pos 0) ⊕ (number (pos 0) ⊕ opposite (opposite v))) refl)

module _ (p : LinearProgram) (h : ℕ) (lawful : IsLinearProgram p) (row : IsRow p.matrix h) (free : HasNoLimits p h)
    (theta max : ℚ) (s : List Status) (part : Part) (at : IsNonsingularBasis p s) (before : theta <ℚ max) (is : IsPart (objective_family p h) theta max s part)
    (t : Tableau) (tab : IsTableau (objective_family p h theta) s t) (done : objective_face (objective_family p h theta) h theta s t ≡ FaceDone) where
  optimal : IsOptimalBasis (objective_family p h theta) s
  optimal = is.reaches.optimal theta (le_refl theta) is.reaches.forward

  feasible : IsFeasibleBasis p s t
  feasible =
      let there = point_feasible (objective_family p h theta) (lawful_objective p h lawful row free theta) s optimal t.point tab.is_point in
      record {
        is_basis = at.is_basis;
        nonsingular = at.nonsingular;
        objective_row = lawful.objective_row;
        is_tableau = record { is_point = record { keeps = tab.is_point.keeps; placed = tab.is_point.placed }; are_rates = tab.are_rates };
        feasible = record { keeps = there.keeps; within = there.within };
      }

  abbrev sides : ℕ → Sides
  sides = rate_sides p s (worths p t) (slopes p t h)

  hold : RatesStay p s (worths p t) (slopes p t h) theta
  hold = (objective p s t feasible h row theta).0 optimal

  -- a nonbasic whose combined rate is 0 doesn't lower the change row
  no_entering_variable : (k : ℕ) → IsVariable p.matrix k → IsStill (worths p t k) (slopes p t h k) theta (may_rise p s k) (may_fall p s k) → ⊥
  no_entering_variable k is_k still =
      let zero_rate : objective_rate (objective_family p h theta) t.rate k ≡ zero_ℚ =
      for_min_zero p.sense _ (for_min-add p.sense (t.rate p.objective k) theta (t.rate h k) ∙ still.zero_rate) in
      let fails = none_passes (objective_family p h theta)
      (λ q. eq_ℚ (objective_rate (objective_family p h theta) t.rate q) zero_ℚ && lowers (objective_family p h theta) s
      (change_rate (objective_family p h theta) h theta s t) q)
      (done_entering_variable (objective_family p h theta) h theta s t done) k is_k in
      clash (sym (ap₂ (λ a b. a && b) (test_from_same _ zero_ℚ zero_rate) still.moves) ∙ fails)

  none_ends : (k : ℕ) → IsVariable p.matrix k → SideEnds (sides k) theta → ⊥
  none_ends k is_k (first_ends c is_c ends) =
      let there = if_there (may_rise p s k) (worths p t k) (slopes p t h k) c is_c in
      no_entering_variable k is_k
      (still_first (worths p t k) (slopes p t h k) theta (may_rise p s k) (may_fall p s k) there.0 (subst (EndsAt theta) (sym there.1) ends))
  none_ends k is_k (second_ends c is_c ends) =
      let there = if_there (may_fall p s k) (neg_ℚ (worths p t k)) (neg_ℚ (slopes p t h k)) c is_c in
      no_entering_variable k is_k
      (still_second (worths p t k) (slopes p t h k) theta (may_rise p s k) (may_fall p s k) there.0 (subst (EndsAt theta) (sym there.1) ends))

  spans : IsSpan sides (size p.matrix) theta max
  spans = span sides (size p.matrix) theta max before (λ k low high. hold k (low, high)) (λ k low high. none_ends k (low, high))

  grown : theta <ℚ part.to
  grown = lt_of_lt_of_le spans.past
      (is.reaches.greatest spans.to spans.within (λ x after up_to. (objective p s t feasible h row x).1 (λ k is_k. spans.holds x after up_to k is_k.0 is_k.1)))

pub objective_grows : (p : LinearProgram) (h : ℕ) → IsLinearProgram p → IsRow p.matrix h → HasNoLimits p h → (theta max : ℚ) (s : List Status) (part : Part) →
    IsNonsingularBasis p s → theta <ℚ max →
    IsObjectiveFace p h theta s FaceDone → IsPart (objective_family p h) theta max s part → theta <ℚ part.to
objective_grows p h lawful row free theta max s part at before face is = grown p h lawful row free theta max s part at before is face.0 face.1 face.2
