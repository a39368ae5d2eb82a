-- Evidence of the calls at a breakpoint is evidence of the run.
use Rattle.std.proofs.Common.{◌≡◌, ◌≢◌, ℕ, ◌≤◌, List, true, refl, sym, arith}
use Rattle.std.specs.Prelude.{Some, None, not, ◌&&◌, ◌||◌, nat_eq}
use Rattle.exact_values.specs.Rational.{ℚ, zero_ℚ}
use Rattle.simplex_definitions.specs.Statements.{Pararhs, is_between}
use Rattle.lp_definitions.specs.Basis.{Basics, basics_of, IsBasic, IsNonbasic, IsDirectionOf, ArePricesOf, IsPointOf}
use Rattle.lp_definitions.specs.LinearProgram.{LinearProgram, Vector, IsLinearProgram}
use Rattle.lp_definitions.specs.Waypoints.{KeepsWaypoints}
use Rattle.lp_definitions.specs.declared.Evidence.{Evidence}
use Rattle.lp_definitions.specs.declared.Status.{Status}
use Rattle.lp_definitions.specs.declared.Status.TheVariants.{Bs}
use Rattle.lp_model.specs.RatesCalls.{IsRowOf, IfOverflow}
use Rattle.lp_model.specs.declared.Stop.{Stop}
use Rattle.lp_model.specs.declared.Stop.TheVariants as stop
use Rattle.simplex_laws.specs.Laws.{IsNonsingularBasis}
use Rattle.simplex_definitions.specs.Chain.{FaceMoves}
use Rattle.simplex_definitions.specs.RhsRun.{rhs_family, IsSlope, IsRhsFace}
use Rattle.basis_values.proofs.Covered.{point_refused_later}
use Rattle.bounded_primal.specs.Moves.{StepRefused, move_by}
use Rattle.bounded_primal.specs.Stops.{primal_stop_of}
use Rattle.bounded_primal.specs.Turns.{ReturnStops, by_column, by_return}
use Rattle.bounded_primal.specs.declared.moves.BlockingVariable.{BlockingVariable}
use Rattle.bounded_primal.specs.Calls.{EvidenceHere}
use Rattle.parametric_run.specs.Walks.{FaceStops}
use Rattle.dual_step.specs.Cheapest.{SomeRatioRefused}
use Rattle.dual_step.proofs.StepEvidence.{IsOwn}
use Rattle.dual_step.proofs.StepEvidence as own
use Rattle.para_rhs.specs.Breaks.{IsFaceLeaver}
use Rattle.para_rhs.specs.Limits.{is_upper}
use Rattle.para_rhs.specs.Turns.{EntryRefused, by_row, by_ratio}
use Rattle.para_rhs.specs.declared.breaks.Leaver.{Leaver}
use Rattle.para_rhs.proofs.FaceFacts.{basic, face_brings}
use Rattle.para_rhs.proofs.Families.{family_at_zero}
use Rattle.para_rhs.proofs.RunEvidence.{of_point}

face_number : (n term : ℕ) → (is_between 1 14 n && (not (nat_eq n 6) || not (nat_eq term 3))) ≡ true →
    ((is_between 1 14 n || nat_eq n 18) && (not (nat_eq n 6) || not (nat_eq term 3))) ≡ true
face_number n term h = grind arith

-- a run of the right-hand side at a breakpoint
face_own : (p : LinearProgram) (shift : List ℚ) (theta from : ℚ) (s : List Status) → IsLinearProgram p → p.change ≡ None →
    IsOwn p (Pararhs p shift from) (Some theta) s
face_own p shift theta from s lawful no_change = record {
  no_change = no_change;
  at_zero = λ x none. family_at_zero p shift lawful x none;
  is_theta = λ x ends none. (0, omega arith, sym none);
  belongs_to = λ e h. face_number e.formula e.term h;
  enters = λ m moves. (m, moves, refl);
  steps = λ m moves. tt;
  goes_to = λ e to leaver. leaver;
}

module _ (p : LinearProgram) (shift : List ℚ) (lawful : IsLinearProgram p) (no_change : p.change ≡ None) (theta : ℚ) (s : List Status)
    (at : IsNonsingularBasis p s)
    (z v : Vector) (point : IsPointOf p s z) (slope : IsSlope p s shift v) (from : ℚ) (left : ℕ) (before now : List Basics) (e : Evidence) where
  abbrev statement_own : IsOwn p (Pararhs p shift from) (Some theta) s
  statement_own = face_own p shift theta from s lawful no_change

  -- a ratio
  pub of_ratio : (l : Leaver) (found : IsFaceLeaver p shift theta s (Some l)) (prices row : Vector) → ArePricesOf p s prices →
      IsRowOf p.matrix (basics_of s) l.r row →
      SomeRatioRefused p s prices row l.r (not (is_upper l.side)) e → EvidenceHere (Pararhs p shift from) p.matrix (Some theta) left s before now e
  of_ratio l found prices row priced rowed h =
      own.of_ratio p (Pararhs p shift from) (Some theta) s statement_own left before now e lawful at z point l.r (not (is_upper l.side))
      (basic p shift lawful no_change theta s at z v point slope l found) prices row priced rowed h
      (face_brings p shift lawful no_change theta s at z v point slope l found prices row priced rowed h.j h.is_variable h.restores_feasibility)

  -- the way back of a basic
  pub of_return : (mid : List Basics) → KeepsWaypoints p.matrix (basics_of s) before (basics_of s) mid → (q r : ℕ) (to : Status) →
      IsBasic p.matrix (basics_of s) r → IsNonbasic p.matrix (basics_of s) q →
      IsRhsFace p shift theta s (FaceMoves (record { enters = q; leaves = r; to = to })) →
      ((d : Vector) → IsDirectionOf p.matrix (basics_of s) q d → d r ≢ zero_ℚ) → ReturnStops p s z q r to mid now e →
      EvidenceHere (Pararhs p shift from) p.matrix (Some theta) left s before now e
  of_return mid keeps q r to is out moves pivot (by_column h) =
      of_point p shift lawful no_change s before now e (point_refused_later p before mid now s e keeps h) from (Some theta) left
  of_return mid keeps q r to is out moves pivot (by_return d direction h) =
      own.of_return p (Pararhs p shift from) (Some theta) s statement_own left before now e lawful at z point q r to is out moves d direction
      (pivot d direction) h

  -- the step of q, with the basis that it leads to ahead
  pub of_step : (q : ℕ) (by : BlockingVariable) → IsRhsFace p shift theta s (FaceMoves (move_by q by)) → by.to ≢ Bs → 1 ≤ left → StepRefused p before s q by
      now e →
      EvidenceHere (Pararhs p shift from) p.matrix (Some theta) left s before now e
  of_step q by moves apart one_left h = own.of_step p (Pararhs p shift from) (Some theta) s statement_own left before now e q by moves apart one_left h

-- ---- stops of calls at a breakpoint

module _ (p : LinearProgram) (shift : List ℚ) (lawful : IsLinearProgram p) (no_change : p.change ≡ None) (theta : ℚ) (s : List Status) (from : ℚ) (left : ℕ)
    (before now : List Basics) where
  module _ (at : IsNonsingularBasis p s) (z v : Vector) (point : IsPointOf p s z) (slope : IsSlope p s shift v) where
    pub return_stops : (mid : List Basics) → KeepsWaypoints p.matrix (basics_of s) before (basics_of s) mid → (q r : ℕ) (to : Status) →
        IsBasic p.matrix (basics_of s) r → IsNonbasic p.matrix (basics_of s) q →
        IsRhsFace p shift theta s (FaceMoves (record { enters = q; leaves = r; to = to })) →
        ((d : Vector) → IsDirectionOf p.matrix (basics_of s) q d → d r ≢ zero_ℚ) →
        (why : Stop) → IfOverflow why (ReturnStops p s z q r to mid now) →
        FaceStops (rhs_family p shift) (IsRhsFace p shift) (Pararhs p shift from) p.matrix theta s left before now (primal_stop_of why)
    return_stops mid keeps q r to is out moves pivot (stop.Overflow e) h =
        of_return p shift lawful no_change theta s at z v point slope from left before now e mid keeps q r to is out moves pivot h
    return_stops mid keeps q r to is out moves pivot stop.NoMemory h = tt

-- who brings the leaver back
pub entry_stops : (p : LinearProgram) (shift : List ℚ) (lawful : IsLinearProgram p) (no_change : p.change ≡ None) (theta : ℚ) (s : List Status)
    (at : IsNonsingularBasis p s)
    (z v : Vector) (point : IsPointOf p s z) (slope : IsSlope p s shift v) (from : ℚ) (left : ℕ) (before now : List Basics) (l : Leaver)
    (found : IsFaceLeaver p shift theta s (Some l)) (y : Vector) → ArePricesOf p s y →
    (why : Stop) → IfOverflow why (EntryRefused p s y l before now) →
    FaceStops (rhs_family p shift) (IsRhsFace p shift) (Pararhs p shift from) p.matrix theta s left before now (primal_stop_of why)
entry_stops p shift lawful no_change theta s at z v point slope from left before now l found y priced (stop.Overflow e) (by_row r) =
    of_point p shift lawful no_change s before now e r from (Some theta) left
entry_stops p shift lawful no_change theta s at z v point slope from left before now l found y priced (stop.Overflow e) (by_ratio row rowed r) =
    of_ratio p shift lawful no_change theta s at z v point slope from left before now e l found y row priced rowed r
entry_stops p shift lawful no_change theta s at z v point slope from left before now l found y priced stop.NoMemory h = tt
