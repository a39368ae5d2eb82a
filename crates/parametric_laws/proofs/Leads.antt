-- How a move leads from a nonsingular basis to a nonsingular basis, whatever quantity the variable that moves lowers.
use Rattle.std.proofs.Common.{◌≡◌, ℕ, Bool, List}
use Rattle.std.specs.Prelude.{Some}
use Rattle.lp_definitions.specs.LinearProgram.{LinearProgram}
use Rattle.lp_definitions.specs.Basis.{basics_of, IsNonbasic, Tableau, IsTableau}
use Rattle.lp_definitions.specs.declared.Status.{Status}
use Rattle.simplex_definitions.specs.Moves.{blocking_variable}
use Rattle.simplex_definitions.specs.Path.{after, speeds, stopped_by}
use Rattle.simplex_laws.specs.Laws.{IsNonsingularBasis}
use Rattle.simplex_laws.proofs.Steps.{motion_leads}

-- a nonbasic q rises or falls until k stops it
pub stopped_leads : (p : LinearProgram) (s : List Status) (t : Tableau) → IsNonsingularBasis p s → IsTableau p s t → (q k : ℕ) (up : Bool) →
    IsNonbasic p.matrix (basics_of s) q → blocking_variable p t.point (speeds t.rate up q) ≡ Some k →
    IsNonsingularBasis p (after s (stopped_by q (speeds t.rate up q) k))
stopped_leads p s t at tab q k up enters stops = (motion_leads p s t at.is_basis at.nonsingular tab q k up enters stops).at
