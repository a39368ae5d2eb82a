-- A parametric run of the right-hand side: theta times its shift is added to every limit of a row.
--     rhs_family p shift           the linear program at each theta
--     IsSlope p s shift v          how fast the basis's point moves with theta
--     rhs_face                     what is done at a breakpoint
--     IsRhsFace                    the same as a relation, by the tableau and the slope of the basis
use Rattle.std.specs.Prelude.{◌≡◌, ℕ, Bool, ◌&&◌, ◌||◌, List, map, Option, Some, None, if◌then◌else◌, nat_le, option_map}
use Rattle.exact_values.specs.Rational.{ℚ, zero_ℚ, ◌+ℚ◌, ◌*ℚ◌}
use Rattle.exact_values.specs.Tests.{eq_ℚ, lt_ℚ}
use Rattle.lp_definitions.specs.LinearProgram.{Matrix, LinearProgram, Vector, value_at, variables, lower_of, upper_of, KeepsEquations, with_limits}
use Rattle.lp_definitions.specs.Basis.{basics_of, is_in, IsNonbasic, Tableau, IsTableau}
use Rattle.lp_definitions.specs.declared.Status.{Status}
use Rattle.lp_definitions.specs.declared.Status.TheVariants.{Ll, Ul}
use Rattle.simplex_definitions.specs.Moves.{least, on_limit}
use Rattle.simplex_definitions.specs.Path.{listed, ray_of}
use Rattle.simplex_definitions.specs.DualRatio.{cheapest}
use Rattle.simplex_definitions.specs.Chain.{FaceTurn, FaceMoves, FaceDone, FaceEnds, InfeasiblePast}

-- a row has its value in the change set, and a column 0
abbrev pub shift_of : Matrix → List ℚ → Vector
shift_of a shift k = if nat_le k a.rows then value_at shift k else zero_ℚ

abbrev pub shifted : Matrix → List ℚ → ℚ → (ℕ → Option ℚ) → List (Option ℚ)
shifted a shift theta limit = map (λ k. option_map (λ l. l +ℚ theta *ℚ shift_of a shift k) (limit k)) (variables a)

abbrev pub rhs_family : LinearProgram → List ℚ → ℚ → LinearProgram
rhs_family p shift theta = with_limits p (shifted p.matrix shift theta (lower_of p)) (shifted p.matrix shift theta (upper_of p))

-- the vector that keeps the equations and has its shift at each nonbasic
pub record IsSlope (p : LinearProgram) (s : List Status) (shift : List ℚ) (v : Vector) : Type 0 where
  pub keeps : KeepsEquations p.matrix v
  pub placed : (k : ℕ) → IsNonbasic p.matrix (basics_of s) k → v k ≡ shift_of p.matrix shift k

-- p is the linear program at theta, shift its rows' values in the change set, and v the slope
module _ (p : LinearProgram) (shift : List ℚ) (theta : ℚ) (s : List Status) (t : Tableau) (v : Vector) where
  -- at its lower limit, which rises faster than it does; at its upper limit, which rises slower
  abbrev pub leaves_below : ℕ → Bool
  leaves_below k = on_limit (λ l. eq_ℚ (t.point k) l) (lower_of p k) && lt_ℚ (v k) (shift_of p.matrix shift k)

  abbrev pub leaves_above : ℕ → Bool
  leaves_above k = on_limit (λ u. eq_ℚ (t.point k) u) (upper_of p k) && lt_ℚ (shift_of p.matrix shift k) (v k)

  -- the least-numbered basic that leaves its limits as theta grows
  abbrev pub leaving : Option ℕ
  leaving = least p (λ k. is_in (basics_of s) k && (leaves_below k || leaves_above k))

  -- r goes to the limit that it would break
  abbrev pub face_exchange : ℕ → Bool → Option ℕ → FaceTurn
  face_exchange r below (Some q) = FaceMoves (record { enters = q; leaves = r; to = if below then Ll else Ul })
  face_exchange r below None = FaceEnds (InfeasiblePast theta (listed p.matrix (ray_of (basics_of s) t.rate r below)))

  abbrev pub face_at : Option ℕ → FaceTurn
  face_at (Some r) = face_exchange r (leaves_below r) (cheapest p s t r (leaves_below r))
  face_at None = FaceDone

  unfoldable pub rhs_face : FaceTurn
  rhs_face = face_at leaving

abbrev pub IsRhsFace : LinearProgram → List ℚ → ℚ → List Status → FaceTurn → Type 0
IsRhsFace p shift theta s turn =
    let q : LinearProgram = rhs_family p shift theta in
    (t : Tableau) × (v : Vector) × IsTableau q s t × IsSlope q s shift v × (rhs_face q shift theta s t v ≡ turn)
