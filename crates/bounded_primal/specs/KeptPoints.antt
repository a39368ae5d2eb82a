-- The values of a basis's point that a path keeps. No step needs the value of a variable without limits.
--     all_kept, all_needed         the values of all variables are kept, and each is needed
--     has_limit p k                k has a lower or an upper limit
--     AgreesAtLimits p z w         z and w have the same value of each variable that has a limit
--     AgreesWithPoint p s z        z agrees so with the point of the basis
use Rattle.std.specs.Prelude.{◌≡◌, ℕ, Bool, true, false, ◌||◌, List, is_some, IsTrue}
use Rattle.lp_definitions.specs.LinearProgram.{LinearProgram, Vector, IsVariable, lower_of, upper_of}
use Rattle.lp_definitions.specs.Basis.{IsPointOf}
use Rattle.lp_definitions.specs.declared.Status.{Status}
use Rattle.bounded_primal.specs.declared.kept.Kept.{Kept}
use Rattle.bounded_primal.specs.declared.kept.Kept.TheVariants.{All, AllSoFar, Limited}

abbrev pub all_kept : Kept → Bool
all_kept All = true
all_kept AllSoFar = true
all_kept Limited = false

abbrev pub all_needed : Kept → Bool
all_needed All = true
all_needed AllSoFar = false
all_needed Limited = false

abbrev pub has_limit : LinearProgram → ℕ → Bool
has_limit p k = is_some (lower_of p k) || is_some (upper_of p k)

abbrev pub AgreesAtLimits : LinearProgram → Vector → Vector → Type 0
AgreesAtLimits p z w = (k : ℕ) → IsVariable p.matrix k → IsTrue (has_limit p k) → z k ≡ w k

abbrev pub AgreesWithPoint : LinearProgram → List Status → Vector → Type 0
AgreesWithPoint p s z = (w : Vector) → IsPointOf p s w → AgreesAtLimits p z w
