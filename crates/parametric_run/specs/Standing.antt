-- Where the code of a parametric method stands: at a basis, with its vectors.
--     AreSized n w                 each vector has n places
--     IsWorkspaceOf m s w          the vectors of the basis s: its point at 0, its prices, and how it moves with the parameter
--     IsPointAtSome m s z          the point of s at some value
--     IsReady p s w q by           the step of q by what stops it can be made; w has the direction of q
--     RefusedAt m s .. e           evidence of a call at s, for a run from any value, whatever bases led there
use Rattle.std.specs.Prelude.{◌≡◌, ◌≢◌, ℕ, List, length, Option}
use Rattle.exact_values.specs.Rational.{ℚ, zero_ℚ}
use Rattle.lp_definitions.specs.LinearProgram.{LinearProgram, Vector, size, value_at}
use Rattle.lp_definitions.specs.Basis.{Basics, basics_of, IsNonbasic, IsDirectionOf, ArePricesOf, IsPointOf}
use Rattle.lp_definitions.specs.declared.Evidence.{Evidence}
use Rattle.lp_definitions.specs.declared.Status.{Status}
use Rattle.bounded_primal.specs.Calls.{EvidenceHere}
use Rattle.bounded_primal.specs.Moves.{IsStepBy}
use Rattle.bounded_primal.specs.declared.moves.BlockingVariable.{BlockingVariable}
use Rattle.parametric_run.specs.Programs.{ParametricProgram}
use Rattle.parametric_run.specs.declared.workspace.Workspace.{Workspace}

pub record AreSized (n : ℕ) (w : Workspace) : Type 0 where
  pub point : length w.point.items ≡ n
  pub prices : length w.prices.items ≡ n
  pub change : length w.change.items ≡ n
  pub row : length w.row.items ≡ n
  pub direction : length w.direction ≡ n

pub record IsWorkspaceOf (m : ParametricProgram) (s : List Status) (w : Workspace) : Type 0 where
  pub sized : AreSized (size m.program.matrix) w
  pub point : IsPointOf m.program s (value_at w.point.items)
  pub prices : ArePricesOf m.program s (value_at w.prices.items)
  pub change : m.is_change s (value_at w.change.items)

abbrev pub IsPointAtSome : ParametricProgram → List Status → Vector → Type 0
IsPointAtSome m s z = (theta : ℚ) × IsPointOf (m.family theta) s z

pub record IsReady (p : LinearProgram) (s : List Status) (w : Workspace) (q : ℕ) (by : BlockingVariable) : Type 0 where
  pub nonbasic : IsNonbasic p.matrix (basics_of s) q
  pub direction : IsDirectionOf p.matrix (basics_of s) q (value_at w.direction)
  pub pivot : value_at w.direction by.p ≢ zero_ℚ
  pub step : IsStepBy p s (value_at w.point.items) (value_at w.direction) q by

-- with any number of steps left, at a breakpoint or where an interval begins; before and after are the waypoints of the call
abbrev pub RefusedAt : ParametricProgram → List Status → List Basics → List Basics → Evidence → Type 0
RefusedAt m s before after e =
    (from : ℚ) (breakpoint : Option ℚ) (left : ℕ) → EvidenceHere (m.statement from) m.program.matrix breakpoint left s before after e
