-- A parametric run of the objective: theta times a change row is added to it.
--     objective_family p h         the linear program at each theta
--     objective_face               what is done at a breakpoint
--     IsObjectiveFace              the same as a relation, by the tableau of the basis
use Rattle.std.specs.Prelude.{◌≡◌, ℕ, ◌&&◌, List, Option, Some, None}
use Rattle.exact_values.specs.Rational.{ℚ, zero_ℚ}
use Rattle.exact_values.specs.Tests.{eq_ℚ}
use Rattle.lp_definitions.specs.LinearProgram.{LinearProgram, Vector, for_min, with_change}
use Rattle.lp_definitions.specs.Basis.{Tableau, IsTableau, objective_rate}
use Rattle.lp_definitions.specs.declared.Status.{Status}
use Rattle.simplex_definitions.specs.Moves.{least, goes_up, lowers, blocking_variable}
use Rattle.simplex_definitions.specs.Path.{listed, speeds, stopped_by}
use Rattle.simplex_definitions.specs.Chain.{FaceTurn, FaceMoves, FaceDone, FaceEnds, UnboundedPast}

abbrev pub objective_family : LinearProgram → ℕ → ℚ → LinearProgram
objective_family p h theta = with_change p (record { row = h; theta = theta })

-- p is the linear program at theta, and h the change row
module _ (p : LinearProgram) (h : ℕ) (theta : ℚ) (s : List Status) (t : Tableau) where
  -- how the change row's activity, or its negative for MAX, grows with each nonbasic
  abbrev pub change_rate : Vector
  change_rate q = for_min p.sense (t.rate h q)

  -- the least-numbered nonbasic whose combined rate is 0 and which may move so as to improve the change row's activity
  abbrev pub face_entering_variable : Option ℕ
  face_entering_variable = least p (λ q. eq_ℚ (objective_rate p t.rate q) zero_ℚ && lowers p s change_rate q)

  -- it moves as on a path until a variable stops it
  abbrev pub face_until : ℕ → Vector → Option ℕ → FaceTurn
  face_until q v (Some k) = FaceMoves (stopped_by q v k)
  face_until q v None = FaceEnds (UnboundedPast theta (listed p.matrix t.point) (listed p.matrix v))

  abbrev pub face_run : ℕ → Vector → FaceTurn
  face_run q v = face_until q v (blocking_variable p t.point v)

  abbrev pub face_by : Option ℕ → FaceTurn
  face_by (Some q) = face_run q (speeds t.rate (goes_up change_rate q) q)
  face_by None = FaceDone

  unfoldable pub objective_face : FaceTurn
  objective_face = face_by face_entering_variable

abbrev pub IsObjectiveFace : LinearProgram → ℕ → ℚ → List Status → FaceTurn → Type 0
IsObjectiveFace p h theta s turn =
    let q : LinearProgram = objective_family p h theta in
    (t : Tableau) × IsTableau q s t × (objective_face q h theta s t ≡ turn)
