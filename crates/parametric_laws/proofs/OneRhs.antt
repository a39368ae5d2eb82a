-- What is done at a breakpoint of a parametric run of the right-hand side is one thing.
use Rattle.std.proofs.Common.{◌≡◌, ℕ, Bool, List, length, refl, sym, ap, ap₂, ◌∙◌, arith}
use Rattle.std.specs.Prelude.{Option, Some, None, ◌&&◌, ◌||◌}
use Rattle.std.proofs.lemmas.List.{length-map}
use Rattle.exact_values.specs.Rational.{ℚ}
use Rattle.exact_values.specs.Tests.{eq_ℚ, lt_ℚ}
use Rattle.lp_definitions.specs.LinearProgram.{Matrix, LinearProgram, Vector, size, IsVariable, IsLinearProgram, ChangeIsFree, lower_of, upper_of}
use Rattle.lp_definitions.specs.Basis.{is_in, basics_of, Tableau}
use Rattle.lp_definitions.specs.declared.Change.{Change}
use Rattle.lp_definitions.specs.declared.Status.{Status}
use Rattle.lp_laws.proofs.Opening.{length-numbers_from}
use Rattle.lp_laws.proofs.Uniqueness.{same_from_nonbasics}
use Rattle.simplex_definitions.specs.Moves.{on_limit}
use Rattle.simplex_definitions.specs.Path.{ray_of}
use Rattle.simplex_laws.specs.Laws.{IsNonsingularBasis}
use Rattle.simplex_laws.proofs.Numbered.{find_same}
use Rattle.simplex_laws.proofs.OnePath.{same_tableau}
use Rattle.simplex_laws.proofs.OneTurn.{SameTableau, listed_same, ray_same}
use Rattle.simplex_laws.proofs.Searches.{found_passes}
use Rattle.simplex_definitions.specs.Chain.{FaceTurn, FaceEnds, InfeasiblePast}
use Rattle.simplex_definitions.specs.DualRatio.{cheapest}
use Rattle.simplex_definitions.specs.RhsRun.{shift_of, shifted, rhs_family, IsSlope, leaves_below, leaves_above, leaving, face_exchange, face_at, rhs_face}
use Rattle.simplex_definitions.specs.RhsRun.{IsRhsFace}
use Rattle.sensitivity_laws.proofs.MovedLimits.{free_to}
use Rattle.simplex_laws.proofs.OneRatio.{cheapest_same}
use Rattle.parametric_laws.proofs.Rhs.{to_rhs}

-- ---- each program of the family is one

shifted_counted : (a : Matrix) (shift : List ℚ) (theta : ℚ) (limit : ℕ → Option ℚ) → length (shifted a shift theta limit) ≡ size a
shifted_counted a shift theta limit = rw length-map (length-numbers_from 1 (size a))

pub lawful_rhs : (p : LinearProgram) (shift : List ℚ) → IsLinearProgram p → (theta : ℚ) → IsLinearProgram (rhs_family p shift theta)
lawful_rhs p shift lawful theta = record {
  is_matrix = lawful.is_matrix;
  lower_counted = shifted_counted p.matrix shift theta (lower_of p);
  upper_counted = shifted_counted p.matrix shift theta (upper_of p);
  rhs_counted = lawful.rhs_counted;
  objective_row = lawful.objective_row;
  objective_free = free_to p shift theta p.objective lawful.objective_row lawful.objective_free;
  change_free = change_free p.change lawful.change_free;
}
  where
    change_free : (change : Option Change) → ChangeIsFree p change → ChangeIsFree (rhs_family p shift theta) change
    change_free None free = tt
    change_free (Some c) free = (free.0, free_to p shift theta c.row free.0 free.1)

-- ---- one face

module _ (p : LinearProgram) (shift : List ℚ) (theta : ℚ) (s : List Status) (t u : Tableau) (v w : Vector) (lawful : IsLinearProgram p)
    (at : IsNonsingularBasis p s)
    (same : SameTableau p s t u) (slopes : (k : ℕ) → IsVariable p.matrix k → v k ≡ w k) where
  below_same : (r : ℕ) → IsVariable p.matrix r → leaves_below p shift theta s t v r ≡ leaves_below p shift theta s u w r
  below_same r is = ap₂ (λ z x. on_limit (λ l. eq_ℚ z l) (lower_of p r) && lt_ℚ x (shift_of p.matrix shift r)) (same.points r is) (slopes r is)

  above_same : (r : ℕ) → IsVariable p.matrix r → leaves_above p shift theta s t v r ≡ leaves_above p shift theta s u w r
  above_same r is = ap₂ (λ z x. on_limit (λ l. eq_ℚ z l) (upper_of p r) && lt_ℚ (shift_of p.matrix shift r) x) (same.points r is) (slopes r is)

  leaving_same : leaving p shift theta s t v ≡ leaving p shift theta s u w
  leaving_same =
      find_same (λ k. is_in (basics_of s) k && (leaves_below p shift theta s t v k || leaves_above p shift theta s t v k))
      (λ k. is_in (basics_of s) k && (leaves_below p shift theta s u w k || leaves_above p shift theta s u w k)) (size p.matrix) 1
      (λ k low high. let is : IsVariable p.matrix k = (low, omega (arith, high)) in ap₂ (λ a b. is_in (basics_of s) k && (a || b)) (below_same k is)
      (above_same k is))

  -- the basic r, with the side on which it leaves
  exchange_same : (r : ℕ) → IsVariable p.matrix r → (below : Bool) (o : Option ℕ) →
      face_exchange p shift theta s t v r below o ≡ face_exchange p shift theta s u w r below o
  exchange_same r is_r below (Some q) = refl
  exchange_same r is_r below None =
      ap (λ xs. FaceEnds (InfeasiblePast theta xs))
      (listed_same p.matrix (ray_of (basics_of s) t.rate r below) (ray_of (basics_of s) u.rate r below)
      (ray_same p s t u lawful at.is_basis same r is_r below))

  at_same : (o : Option ℕ) → ((r : ℕ) → o ≡ Some r → IsVariable p.matrix r) → face_at p shift theta s t v o ≡ face_at p shift theta s u w o
  at_same (Some r) found =
      ap (λ b. face_exchange p shift theta s t v r b (cheapest p s t r b)) (below_same r (found r refl))
      ∙ ap (face_exchange p shift theta s t v r (leaves_below p shift theta s u w r))
      (cheapest_same p s t u lawful at.is_basis same r (found r refl) (leaves_below p shift theta s u w r))
      ∙ exchange_same r (found r refl) (leaves_below p shift theta s u w r) (cheapest p s u r (leaves_below p shift theta s u w r))
  at_same None found = refl

  face_same : rhs_face p shift theta s t v ≡ rhs_face p shift theta s u w
  unfolding rhs_face
  face_same = at_same (leaving p shift theta s t v) (λ r e. (found_passes p _ r e).0) ∙ ap (face_at p shift theta s u w) leaving_same

-- a basis has one slope
one_slope : (p : LinearProgram) (s : List Status) (shift : List ℚ) (v w : Vector) → IsNonsingularBasis p s → IsSlope p s shift v → IsSlope p s shift w →
    (k : ℕ) → IsVariable p.matrix k → v k ≡ w k
one_slope p s shift v w at first second =
    same_from_nonbasics p.matrix (basics_of s) v w at.nonsingular first.keeps second.keeps (λ k out. first.placed k out ∙ sym (second.placed k out))

pub one_rhs_face : (p : LinearProgram) (shift : List ℚ) → IsLinearProgram p → (theta : ℚ) (s : List Status) (turn other : FaceTurn) → IsNonsingularBasis p s →
    IsRhsFace p shift theta s turn → IsRhsFace p shift theta s other → turn ≡ other
one_rhs_face p shift lawful theta s turn other at first second =
    let there = to_rhs p shift theta s at in
    sym first.4
    ∙ face_same (rhs_family p shift theta) shift theta s first.0 second.0 first.1 second.1 (lawful_rhs p shift lawful theta) there
    (same_tableau (rhs_family p shift theta) s there first.0 second.0 first.2 second.2)
    (one_slope (rhs_family p shift theta) s shift first.1 second.1 there first.3 second.3)
    ∙ second.4
