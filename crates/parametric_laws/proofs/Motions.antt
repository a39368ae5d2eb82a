-- A nonbasic moves from a feasible point until a variable stops it: the basis after that has a feasible point too.
use Rattle.std.proofs.Common.{◌≡◌, ℕ, Bool, List}
use Rattle.std.specs.Prelude.{Some}
use Rattle.lp_definitions.specs.LinearProgram.{LinearProgram, Vector}
use Rattle.lp_definitions.specs.Solutions.{IsFeasible}
use Rattle.lp_definitions.specs.Basis.{basics_of, IsPointOf, IsNonbasic, Tableau, IsTableau}
use Rattle.lp_definitions.specs.declared.Status.{Status}
use Rattle.lp_laws.specs.Vectors.{along}
use Rattle.simplex_definitions.specs.Moves.{blocking_variable}
use Rattle.simplex_definitions.specs.Path.{after, speeds, stopped_by}
use Rattle.simplex_laws.specs.Laws.{IsNonsingularBasis}
use Rattle.simplex_laws.proofs.Motions.{length_of, moved_point, moved_feasible}

pub record HasFeasiblePoint (p : LinearProgram) (s : List Status) : Type 0 where
  pub point : Vector
  pub is_point : IsPointOf p s point
  pub feasible : IsFeasible p point

pub stopped_feasible : (p : LinearProgram) (s : List Status) (t : Tableau) → IsNonsingularBasis p s → IsTableau p s t → IsFeasible p t.point →
    (q k : ℕ) (up : Bool) → IsNonbasic p.matrix (basics_of s) q → blocking_variable p t.point (speeds t.rate up q) ≡ Some k →
    HasFeasiblePoint p (after s (stopped_by q (speeds t.rate up q) k))
stopped_feasible p s t at tab feasible q k up enters stops = record {
  point = along t.point (length_of p t q k up stops).0 (speeds t.rate up q);
  is_point = moved_point p t q k up stops feasible s at tab enters;
  feasible = moved_feasible p t q k up stops feasible s at tab enters;
}
