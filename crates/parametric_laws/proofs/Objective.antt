-- A face step of a parametric run of the objective leads from a nonsingular basis to a nonsingular basis.
use Rattle.std.proofs.Common.{◌≡◌, ℕ, List, refl, sym, subst}
use Rattle.std.specs.Prelude.{Option, Some, None, ◌&&◌}
use Rattle.std.proofs.lemmas.Bool.{and_parts}
use Rattle.exact_values.specs.Rational.{ℚ, zero_ℚ}
use Rattle.exact_values.specs.Tests.{eq_ℚ}
use Rattle.lp_definitions.specs.LinearProgram.{LinearProgram, Vector}
use Rattle.lp_definitions.specs.Basis.{Tableau, IsTableau, objective_rate}
use Rattle.lp_definitions.specs.declared.Status.{Status}
use Rattle.simplex_definitions.specs.Moves.{goes_up, lowers, blocking_variable}
use Rattle.simplex_definitions.specs.Path.{Move, after, speeds, stopped_by}
use Rattle.simplex_laws.specs.Laws.{IsNonsingularBasis}
use Rattle.simplex_laws.proofs.Searches.{found_passes}
use Rattle.simplex_definitions.specs.Chain.{FaceMoves}
use Rattle.simplex_definitions.specs.ObjectiveRun.{objective_family, change_rate, face_entering_variable, face_until, face_by, objective_face, IsObjectiveFace}
use Rattle.simplex_laws.proofs.EnteringVariables.{is_entering_variable}
use Rattle.parametric_laws.proofs.Leads.{stopped_leads}

-- the change row is added to the objective; matrix and limits are as they were
pub to_objective : (p : LinearProgram) (h : ℕ) (theta : ℚ) (s : List Status) → IsNonsingularBasis p s → IsNonsingularBasis (objective_family p h theta) s
to_objective p h theta s at = record {
  is_basis = record { counted = at.is_basis.counted; m_basics = at.is_basis.m_basics; free_rows = at.is_basis.free_rows; allowed = at.is_basis.allowed };
  nonsingular = at.nonsingular;
}

pub from_objective : (p : LinearProgram) (h : ℕ) (theta : ℚ) (s : List Status) → IsNonsingularBasis (objective_family p h theta) s → IsNonsingularBasis p s
from_objective p h theta s at = record {
  is_basis = record { counted = at.is_basis.counted; m_basics = at.is_basis.m_basics; free_rows = at.is_basis.free_rows; allowed = at.is_basis.allowed };
  nonsingular = at.nonsingular;
}

module _ (p : LinearProgram) (h : ℕ) (theta : ℚ) (s : List Status) (t : Tableau) where
  abbrev motion : ℕ → Vector
  motion q = speeds t.rate (goes_up (change_rate p h theta s t) q) q

  -- q moves until k stops it
  record IsFaceMove (m : Move) (q k : ℕ) : Type 0 where
    found : face_entering_variable p h theta s t ≡ Some q
    stops : blocking_variable p t.point (motion q) ≡ Some k
    gives : m ≡ stopped_by q (motion q) k

  stopped_move : (m : Move) (q : ℕ) → face_entering_variable p h theta s t ≡ Some q → (o : Option ℕ) → blocking_variable p t.point (motion q) ≡ o →
      face_until p h theta s t q (motion q) o ≡ FaceMoves m → (q : ℕ) × (k : ℕ) × IsFaceMove m q k
  stopped_move m q found (Some k) stops e = (q, k, record { found = found; stops = stops; gives = let same : m ≡ stopped_by q (motion q) k = cc in same })
  stopped_move m q found None stops e = cc

  found_move : (m : Move) (o : Option ℕ) → face_entering_variable p h theta s t ≡ o → face_by p h theta s t o ≡ FaceMoves m →
      (q : ℕ) × (k : ℕ) × IsFaceMove m q k
  found_move m (Some q) found e = stopped_move m q found (blocking_variable p t.point (motion q)) refl e
  found_move m None found e = cc

  face_move : (m : Move) → objective_face p h theta s t ≡ FaceMoves m → (q : ℕ) × (k : ℕ) × IsFaceMove m q k
  unfolding objective_face
  face_move m e = found_move m (face_entering_variable p h theta s t) refl e

  move_leads : (m : Move) → IsNonsingularBasis p s → IsTableau p s t → objective_face p h theta s t ≡ FaceMoves m → IsNonsingularBasis p (after s m)
  move_leads m at tab e = by_move (face_move m e)
    where
      by_move : (q : ℕ) × (k : ℕ) × IsFaceMove m q k → IsNonsingularBasis p (after s m)
      by_move (q, k, move) =
          let found = found_passes p (λ q. eq_ℚ (objective_rate p t.rate q) zero_ℚ && lowers p s (change_rate p h theta s t) q) q move.found in
          let lowering = (and_parts (eq_ℚ (objective_rate p t.rate q) zero_ℚ) (lowers p s (change_rate p h theta s t) q) found.1).1 in
          let entering_variable = is_entering_variable p s (change_rate p h theta s t) q at found.0 lowering in
          subst (λ m. IsNonsingularBasis p (after s m)) (sym move.gives)
          (stopped_leads p s t at tab q k (goes_up (change_rate p h theta s t) q) entering_variable.nonbasic move.stops)

pub objective_leads : (p : LinearProgram) (h : ℕ) (theta : ℚ) (s : List Status) (m : Move) → IsNonsingularBasis p s →
    IsObjectiveFace p h theta s (FaceMoves m) → IsNonsingularBasis p (after s m)
objective_leads p h theta s m at face =
    from_objective p h theta (after s m) (move_leads (objective_family p h theta) h theta s face.0 m (to_objective p h theta s at) face.1 face.2)
