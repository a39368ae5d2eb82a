-- Who leaves its limits at a breakpoint, variable by variable.
--     stands_at theta ..           the value at theta is the limit there
--     leaving_side .. k            the limit at which k stands at theta and which it would break beyond, if there is one
--     IsLeaverOf                   the least-numbered variable with such a limit
--     IsFaceLeaver                 the same, by each tableau and slope of the basis at theta
use Rattle.std.specs.Prelude.{◌≡◌, ℕ, Bool, true, false, not, List, Option, Some, None, if◌then◌else◌}
use Rattle.exact_values.specs.Rational.{ℚ, ◌+ℚ◌, ◌*ℚ◌}
use Rattle.exact_values.specs.Tests.{eq_ℚ}
use Rattle.lp_definitions.specs.Basis.{Tableau, IsTableau}
use Rattle.lp_definitions.specs.LinearProgram.{LinearProgram, Vector}
use Rattle.lp_definitions.specs.declared.Status.{Status}
use Rattle.simplex_definitions.specs.Moves.{least, on_limit}
use Rattle.simplex_definitions.specs.RhsRun.{shift_of, rhs_family, IsSlope, leaving, leaves_below}
use Rattle.para_rhs.specs.Limits.{limit_on, is_upper}
use Rattle.para_rhs.specs.Reach.{side_ahead}
use Rattle.para_rhs.specs.declared.breaks.Leaver.{Leaver}
use Rattle.para_rhs.specs.declared.limits.Side.{Side}

abbrev pub stands_at : ℚ → ℚ → ℚ → ℚ → ℚ → Bool
stands_at theta value slope by limit = eq_ℚ (value +ℚ theta *ℚ slope) (limit +ℚ theta *ℚ by)

abbrev pub leaving_on : LinearProgram → ℚ → ℚ → ℚ → ℚ → ℕ → Option Side → Option Side
leaving_on p theta value slope by k None = None
leaving_on p theta value slope by k (Some side) =
    if on_limit (stands_at theta value slope by) (limit_on p side k) then Some side else None

abbrev pub leaving_side : LinearProgram → List ℚ → ℚ → Vector → Vector → ℕ → Option Side
leaving_side p shift theta z v k =
    leaving_on p theta (z k) (v k) (shift_of p.matrix shift k) k (side_ahead (v k) (shift_of p.matrix shift k))

abbrev pub is_there : Option Side → Bool
is_there None = false
is_there (Some side) = true

abbrev pub leaves : LinearProgram → List ℚ → ℚ → Vector → Vector → ℕ → Bool
leaves p shift theta z v k = is_there (leaving_side p shift theta z v k)

abbrev pub IsLeaverOf : LinearProgram → List ℚ → ℚ → Vector → Vector → Option Leaver → Type 0
IsLeaverOf p shift theta z v None = least p (leaves p shift theta z v) ≡ None
IsLeaverOf p shift theta z v (Some l) = (least p (leaves p shift theta z v) ≡ Some l.r) × (leaving_side p shift theta z v l.r ≡ Some l.side)

abbrev pub IsLeaverAt : LinearProgram → List ℚ → ℚ → List Status → Tableau → Vector → Option Leaver → Type 0
IsLeaverAt p shift theta s t v None = leaving p shift theta s t v ≡ None
IsLeaverAt p shift theta s t v (Some l) = (leaving p shift theta s t v ≡ Some l.r) × (leaves_below p shift theta s t v l.r ≡ not (is_upper l.side))

abbrev pub IsFaceLeaver : LinearProgram → List ℚ → ℚ → List Status → Option Leaver → Type 0
IsFaceLeaver p shift theta s found =
    (t : Tableau) (v : Vector) → IsTableau (rhs_family p shift theta) s t → IsSlope (rhs_family p shift theta) s shift v →
    IsLeaverAt (rhs_family p shift theta) shift theta s t v found
