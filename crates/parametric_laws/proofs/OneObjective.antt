-- What is done at a breakpoint of a parametric run of the objective is one thing.
use Rattle.std.proofs.Common.{◌≡◌, ℕ, Bool, true, false, List, refl, sym, ap, ap₂, ◌∙◌, arith}
use Rattle.std.specs.Prelude.{Option, Some, None, ◌&&◌, if◌then◌else◌}
use Rattle.std.proofs.lemmas.Bool.{and_parts, and_right}
use Rattle.exact_values.specs.Rational.{ℚ, zero_ℚ}
use Rattle.exact_values.specs.Tests.{eq_ℚ, lt_ℚ}
use Rattle.lp_definitions.specs.LinearProgram.{LinearProgram, Vector, size, IsRow, IsVariable, HasNoLimits, IsLinearProgram, for_min}
use Rattle.lp_definitions.specs.Basis.{is_in, basics_of, IsNonbasic, Tableau, objective_rate}
use Rattle.lp_definitions.specs.declared.Status.{Status}
use Rattle.lp_definitions.specs.declared.Status.TheVariants.{Ul, Ll}
use Rattle.simplex_definitions.specs.Moves.{goes_up, lowers, signed, blocking_variable}
use Rattle.simplex_definitions.specs.Path.{speeds}
use Rattle.simplex_laws.specs.Laws.{IsNonsingularBasis}
use Rattle.simplex_laws.proofs.Numbered.{find_same}
use Rattle.simplex_laws.proofs.UnboundedEnds.{objective_value-same}
use Rattle.simplex_laws.proofs.OneTurn.{SameTableau}
use Rattle.simplex_laws.proofs.Searches.{found_passes}
use Rattle.simplex_definitions.specs.Chain.{FaceTurn, FaceMoves, FaceEnds, UnboundedPast}
use Rattle.simplex_definitions.specs.ObjectiveRun.{objective_family, change_rate, face_entering_variable, face_until, face_by, objective_face, IsObjectiveFace}
use Rattle.simplex_laws.proofs.EnteringVariables.{is_entering_variable}
use Rattle.parametric_laws.proofs.Objective.{to_objective}
use Rattle.simplex_laws.proofs.OneTurn.{listed_same, lowers_idle, lowers_same, blocking_variable_same}
use Rattle.simplex_laws.proofs.OnePath.{same_tableau}

-- a row without limits is added to the objective
pub lawful_objective : (p : LinearProgram) (h : ℕ) → IsLinearProgram p → IsRow p.matrix h → HasNoLimits p h → (theta : ℚ) →
    IsLinearProgram (objective_family p h theta)
lawful_objective p h lawful row free theta = record {
  is_matrix = lawful.is_matrix;
  lower_counted = lawful.lower_counted;
  upper_counted = lawful.upper_counted;
  rhs_counted = lawful.rhs_counted;
  objective_row = lawful.objective_row;
  objective_free = lawful.objective_free;
  change_free = (row, free);
}

module _ (p : LinearProgram) (h : ℕ) (theta : ℚ) (s : List Status) (t u : Tableau) (lawful : IsLinearProgram p) (row : IsRow p.matrix h)
    (at : IsNonsingularBasis p s) (same : SameTableau p s t u) where
  rate_same : (q : ℕ) → IsNonbasic p.matrix (basics_of s) q → objective_rate p t.rate q ≡ objective_rate p u.rate q
  rate_same q out = objective_value-same p (λ i. t.rate i q) (λ i. u.rate i q) lawful (λ i is. same.rates i q is out)

  change_same : (q : ℕ) → IsNonbasic p.matrix (basics_of s) q → change_rate p h theta s t q ≡ change_rate p h theta s u q
  change_same q out = ap (for_min p.sense) (same.rates h q (row.0, omega (arith, row.1)) out)

  abbrev moves : Tableau → ℕ → Bool
  moves t q = eq_ℚ (objective_rate p t.rate q) zero_ℚ && lowers p s (change_rate p h theta s t) q

  moves_same : (q : ℕ) → IsVariable p.matrix q → moves t q ≡ moves u q
  moves_same q is = by_mark (is_in (basics_of s) q) refl
    where
      by_mark : (mark : Bool) → is_in (basics_of s) q ≡ mark → moves t q ≡ moves u q
      by_mark true mark =
          and_right (eq_ℚ (objective_rate p t.rate q) zero_ℚ) (lowers p s (change_rate p h theta s t) q)
          (lowers_idle p s at.is_basis (change_rate p h theta s t) q is mark)
          ∙ sym (and_right (eq_ℚ (objective_rate p u.rate q) zero_ℚ) (lowers p s (change_rate p h theta s u) q)
          (lowers_idle p s at.is_basis (change_rate p h theta s u) q is mark))
      by_mark false mark =
          ap₂ (λ r b. eq_ℚ r zero_ℚ && b) (rate_same q (is, mark))
          (lowers_same p s at.is_basis (change_rate p h theta s t) (change_rate p h theta s u) q is (change_same q))

  entering_variable_same : face_entering_variable p h theta s t ≡ face_entering_variable p h theta s u
  entering_variable_same = find_same (moves t) (moves u) (size p.matrix) 1 (λ k low high. moves_same k (low, omega (arith, high)))

  abbrev motion : Tableau → ℕ → Vector
  motion t q = speeds t.rate (goes_up (change_rate p h theta s t) q) q

  motion_same : (q : ℕ) → IsNonbasic p.matrix (basics_of s) q → (k : ℕ) → IsVariable p.matrix k → motion t q k ≡ motion u q k
  motion_same q out k is = ap₂ (λ r v. signed (lt_ℚ r zero_ℚ) v) (change_same q out) (same.rates k q is out)

  until_same : (q : ℕ) (v w : Vector) → ((k : ℕ) → IsVariable p.matrix k → v k ≡ w k) → (o : Option ℕ) → ((k : ℕ) → o ≡ Some k → IsVariable p.matrix k) →
      face_until p h theta s t q v o ≡ face_until p h theta s u q w o
  until_same q v w h (Some k) found = ap (λ x. FaceMoves (record { enters = q; leaves = k; to = if lt_ℚ zero_ℚ x then Ul else Ll })) (h k (found k refl))
  until_same q v w h None found =
      ap₂ (λ xs ys. FaceEnds (UnboundedPast theta xs ys)) (listed_same p.matrix t.point u.point same.points) (listed_same p.matrix v w h)

  by_same : (o : Option ℕ) → ((q : ℕ) → o ≡ Some q → IsNonbasic p.matrix (basics_of s) q) → face_by p h theta s t o ≡ face_by p h theta s u o
  by_same (Some q) out =
      let same_motion = motion_same q (out q refl) in
      ap (face_until p h theta s t q (motion t q)) (blocking_variable_same p t.point u.point (motion t q) (motion u q) same.points same_motion)
      ∙ until_same q (motion t q) (motion u q) same_motion (blocking_variable p u.point (motion u q)) (λ k e. (found_passes p _ k e).0)
  by_same None out = refl

  moves_nonbasic : (q : ℕ) → face_entering_variable p h theta s t ≡ Some q → IsNonbasic p.matrix (basics_of s) q
  moves_nonbasic q e =
      let found = found_passes p (moves t) q e in
      (is_entering_variable p s (change_rate p h theta s t) q at found.0
      (and_parts (eq_ℚ (objective_rate p t.rate q) zero_ℚ) (lowers p s (change_rate p h theta s t) q) found.1).1).nonbasic

  face_same : objective_face p h theta s t ≡ objective_face p h theta s u
  unfolding objective_face
  face_same = by_same (face_entering_variable p h theta s t) moves_nonbasic ∙ ap (face_by p h theta s u) entering_variable_same

pub one_objective_face : (p : LinearProgram) (h : ℕ) → IsLinearProgram p → IsRow p.matrix h → HasNoLimits p h →
    (theta : ℚ) (s : List Status) (turn other : FaceTurn) → IsNonsingularBasis p s →
    IsObjectiveFace p h theta s turn → IsObjectiveFace p h theta s other → turn ≡ other
one_objective_face p h lawful row free theta s turn other at first second =
    let there = to_objective p h theta s at in
    sym first.2
    ∙ face_same (objective_family p h theta) h theta s first.0 second.0 (lawful_objective p h lawful row free theta) row there
    (same_tableau (objective_family p h theta) s there first.0 second.0 first.1 second.1)
    ∙ second.2
