-- Which rates let a nonbasic lower a quantity: it rises where its rate is negative, and falls where it is positive.
--     want_of p s k                the sign of the rate that lets k lower it
--     AreWants p s ws              these signs, for each variable
--     AreWantsBut p s u v ws       the same of all variables but u and v
use Rattle.std.specs.Prelude.{◌≡◌, ◌≢◌, ℕ, List, length, if◌then◌else◌}
use Rattle.lp_definitions.specs.LinearProgram.{LinearProgram, size, IsVariable}
use Rattle.lp_definitions.specs.Basis.{status_of}
use Rattle.lp_definitions.specs.declared.Status.{Status}
use Rattle.lp_definitions.specs.declared.Status.TheVariants.{Bs, Ll, Ul, Fr}
use Rattle.lp_model.specs.Wanted.{wanted_at}
use Rattle.lp_model.specs.declared.wanted.Wanted.{Wanted}
use Rattle.lp_model.specs.declared.wanted.Wanted.TheVariants.{Nothing, Below, Above, Apart}
use Rattle.simplex_definitions.specs.Moves.{is_fixed}

-- a variable may rise from its lower limit, fall from its upper one, and do either where it is free
abbrev pub want_from : Status → Wanted
want_from Bs = Nothing
want_from Ll = Below
want_from Ul = Above
want_from Fr = Apart

abbrev pub want_of : LinearProgram → List Status → ℕ → Wanted
want_of p s k = if is_fixed p k then Nothing else want_from (status_of s k)

pub record AreWants (p : LinearProgram) (s : List Status) (ws : List Wanted) : Type 0 where
  pub places : length ws ≡ size p.matrix
  pub each : (k : ℕ) → IsVariable p.matrix k → wanted_at ws k ≡ want_of p s k

pub record AreWantsBut (p : LinearProgram) (s : List Status) (u v : ℕ) (ws : List Wanted) : Type 0 where
  pub places : length ws ≡ size p.matrix
  pub each : (k : ℕ) → IsVariable p.matrix k → k ≢ u → k ≢ v → wanted_at ws k ≡ want_of p s k
