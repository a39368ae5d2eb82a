-- A parametric run goes over nonsingular bases alone, where the face steps of its family lead from one to another.
use Rattle.std.proofs.Common.{◌≡◌, ℕ, List, [], ◌∷◌, ◌++◌, refl, sym, subst}
use Rattle.exact_values.specs.Rational.{ℚ}
use Rattle.lp_definitions.specs.LinearProgram.{LinearProgram}
use Rattle.lp_definitions.specs.declared.Status.{Status}
use Rattle.simplex_definitions.specs.Path.{last_of, PathEnding, EndsOptimal, PathEnds}
use Rattle.simplex_laws.specs.Laws.{IsNonsingularBasis}
use Rattle.simplex_laws.proofs.Steps.{step_leads}
use Rattle.simplex_laws.proofs.OnePath.{path_leads}
use Rattle.simplex_definitions.specs.Chain.{Part, ChainEnd, RunReport, FailedOpening, Chain, FaceTurn, IsFaceStep, IsFacePath, IsChain, at_max, past_breakpoint}
use Rattle.simplex_definitions.specs.Chain.{goes_on, IsRun, IsReport, RunPlace, InOpening, AtBreakpoint, basis_of, Reaches, begins, path_step, first_breakpoint}
use Rattle.simplex_definitions.specs.Chain.{face_step, next_breakpoint}
use Rattle.simplex_definitions.specs.ObjectiveRun.{objective_family, IsObjectiveFace}
use Rattle.simplex_definitions.specs.RhsRun.{rhs_family, IsRhsFace}
use Rattle.parametric_laws.specs.Laws.{LeadsToBases}
use Rattle.parametric_laws.proofs.Objective.{to_objective, from_objective, objective_leads}
use Rattle.parametric_laws.proofs.Rhs.{to_rhs, from_rhs, rhs_leads}
use Rattle.parametric_laws.specs.Families.{KeepsBases}

pub last_of-append : (s : List Status) (first second : List (List Status)) → last_of s (first ++ second) ≡ last_of (last_of s first) second
last_of-append s [] second = refl
last_of-append s (next ∷ first) second = last_of-append next first second

module _ (p : LinearProgram) (family : ℚ → LinearProgram) (Face : ℚ → List Status → FaceTurn → Type 0) (keeps : KeepsBases p family Face) where
  pub face_step_leads : (theta : ℚ) (s next : List Status) → IsNonsingularBasis p s → IsFaceStep family Face theta s next → IsNonsingularBasis p next
  face_step_leads theta s next at step = subst (IsNonsingularBasis p) (sym step.2) (keeps.face_leads theta s step.0 at step.1)

  pub face_path_leads : (theta : ℚ) (s : List Status) (bases : List (List Status)) → IsNonsingularBasis p s → IsFacePath family Face theta s bases →
      IsNonsingularBasis p (last_of s bases)
  face_path_leads theta s [] at path = at
  face_path_leads theta s (next ∷ bases) at path = face_path_leads theta next bases (face_step_leads theta s next at path.0) path.1

  module _ (from max : ℚ) (s : List Status) (at : IsNonsingularBasis p s) where
    pub reached_leads : (place : RunPlace) (path : List (List Status)) (ends : List ℚ) → Reaches family Face from max s place path ends →
        IsNonsingularBasis p (basis_of place)
    reached_leads _ _ _ begins = at
    reached_leads _ _ _ (path_step {now} {next} {path} before step) =
        keeps.from_family from next (step_leads (family from) now next (keeps.to_family from now (reached_leads (InOpening now) path [] before)) step)
    reached_leads _ _ _ (first_breakpoint {now} {path} point prices before ends reaches within) = reached_leads (InOpening now) path [] before
    reached_leads _ _ _ (face_step {theta} {now} {next} {path} {ends} before step) =
        face_step_leads theta now next (reached_leads (AtBreakpoint theta now) path ends before) step
    reached_leads _ _ _ (next_breakpoint {theta} {now} {path} {ends} before done reaches within) = reached_leads (AtBreakpoint theta now) path ends before

  chain_leads : (max from : ℚ) (s : List Status) (parts : List Part) (end : ChainEnd) (path : List (List Status)) → IsNonsingularBasis p s →
      IsChain family Face max from s parts end path → IsNonsingularBasis p (last_of s path)
  chain_leads max _ _ _ _ _ at (at_max part is) = at
  chain_leads max _ _ _ _ _ at (past_breakpoint {s} {part} {path} is faces) = face_path_leads part.to s path at faces.face_path
  chain_leads max _ _ _ _ _ at (goes_on {s} {part} {parts} {end} {bases} {later} is faces chain) =
      subst (IsNonsingularBasis p) (sym (last_of-append s bases later))
      (chain_leads max part.to (last_of s bases) parts end later (face_path_leads part.to s bases at faces.face_path) chain)

  pub opening_leads : (from : ℚ) (s : List Status) (bases : List (List Status)) (ending : PathEnding) → IsNonsingularBasis p s →
      PathEnds (family from) s bases ending → IsNonsingularBasis p (last_of s bases)
  opening_leads from s bases ending at ends =
      keeps.from_family from (last_of s bases) (path_leads (family from) s bases (keeps.to_family from s at) ends.is_path)

  run_leads : (from max : ℚ) (s : List Status) (parts : List Part) (end : ChainEnd) (path : List (List Status)) → IsNonsingularBasis p s →
      IsRun family Face from max s parts end path → IsNonsingularBasis p (last_of s path)
  run_leads from max s parts end path at run =
      subst (λ bases. IsNonsingularBasis p (last_of s bases)) (sym run.whole)
      (subst (IsNonsingularBasis p) (sym (last_of-append s run.opening run.faces))
      (chain_leads max from (last_of s run.opening) parts end run.faces
      (opening_leads from s run.opening (EndsOptimal run.point run.prices) at run.opens) run.chain))

  report_leads : (from max : ℚ) (s : List Status) (report : RunReport) (path : List (List Status)) → IsNonsingularBasis p s →
      IsReport family Face from max s report path → IsNonsingularBasis p (last_of s path)
  report_leads from max s (FailedOpening ending) path at failed = opening_leads from s path ending at failed.opens
  report_leads from max s (Chain parts end) path at run = run_leads from max s parts end path at run

  pub leads_to_bases : LeadsToBases p family Face
  leads_to_bases = record { each = λ from max s place path ends at. reached_leads from max s at place path ends; last = report_leads }

-- ---- the two families

pub objective_keeps : (p : LinearProgram) (h : ℕ) → KeepsBases p (objective_family p h) (IsObjectiveFace p h)
objective_keeps p h = record { to_family = to_objective p h; from_family = from_objective p h; face_leads = objective_leads p h }

pub rhs_keeps : (p : LinearProgram) (shift : List ℚ) → KeepsBases p (rhs_family p shift) (IsRhsFace p shift)
rhs_keeps p shift = record { to_family = to_rhs p shift; from_family = from_rhs p shift; face_leads = rhs_leads p shift }

pub objective_runs : (p : LinearProgram) (h : ℕ) → LeadsToBases p (objective_family p h) (IsObjectiveFace p h)
objective_runs p h = leads_to_bases p (objective_family p h) (IsObjectiveFace p h) (objective_keeps p h)

pub rhs_runs : (p : LinearProgram) (shift : List ℚ) → LeadsToBases p (rhs_family p shift) (IsRhsFace p shift)
rhs_runs p shift = leads_to_bases p (rhs_family p shift) (IsRhsFace p shift) (rhs_keeps p shift)
