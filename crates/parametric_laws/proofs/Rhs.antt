-- A face step of a parametric run of the right-hand side leads from a nonsingular basis to a nonsingular basis.
use Rattle.std.proofs.Common.{◌≡◌, ◌≢◌, ℕ, Bool, true, false, List, refl, sym, ap, subst, ◌∙◌}
use Rattle.std.specs.Prelude.{Option, Some, None, not, ◌&&◌, ◌||◌, if◌then◌else◌}
use Rattle.std.proofs.lemmas.Bool.{and_parts}
use Rattle.exact_values.specs.Rational.{ℚ, zero_ℚ}
use Rattle.exact_values.specs.Tests.{eq_ℚ, lt_ℚ}
use Rattle.lp_definitions.specs.LinearProgram.{LinearProgram, Vector, IsVariable, lower_of, upper_of}
use Rattle.lp_definitions.specs.Basis.{is_in, basics_of, IsAllowed, Tableau, IsTableau}
use Rattle.lp_definitions.specs.declared.Status.{Status}
use Rattle.lp_definitions.specs.declared.Status.TheVariants.{Bs, Ll, Ul, Fr}
use Rattle.simplex_definitions.specs.Moves.{on_limit, signed}
use Rattle.simplex_definitions.specs.Path.{Move, after, excess_rate}
use Rattle.simplex_laws.specs.Laws.{IsNonsingularBasis}
use Rattle.simplex_laws.proofs.Searches.{found_passes}
use Rattle.simplex_definitions.specs.Chain.{FaceMoves}
use Rattle.simplex_definitions.specs.DualRatio.{restores_feasibility, is_cheapest, cheapest}
use Rattle.simplex_definitions.specs.RhsRun.{shift_of, rhs_family, leaves_below, leaves_above, leaving, face_exchange, face_at, rhs_face, IsRhsFace}
use Rattle.sensitivity_laws.proofs.MovedLimits.{basis_to, basis_from}
use Rattle.simplex_laws.proofs.Steps.{MayStand, signed_zero, lower_apart, upper_apart, exchange_leads}
use Rattle.simplex_laws.proofs.EnteringVariables.{IsEnteringVariable, is_entering_variable}

-- the programs have the same nonsingular bases
module _ (p : LinearProgram) (shift : List ℚ) (theta : ℚ) (s : List Status) where
  pub to_rhs : IsNonsingularBasis p s → IsNonsingularBasis (rhs_family p shift theta) s
  to_rhs at = record { is_basis = basis_to p shift theta s at.is_basis; nonsingular = at.nonsingular }

  pub from_rhs : IsNonsingularBasis (rhs_family p shift theta) s → IsNonsingularBasis p s
  from_rhs at = record { is_basis = basis_from p shift theta s at.is_basis; nonsingular = at.nonsingular }

-- ---- a face step

-- what leaves stands at the limit to which it goes
stands_at : (low high : Option ℚ) (at_low at_high : ℚ → Bool) (c d below : Bool) → (on_limit at_low low && c) ≡ below →
    (below || (on_limit at_high high && d)) ≡ true →
    IsAllowed (if below then Ll else Ul) low high
stands_at None high at_low at_high c d true is e = cc
stands_at (Some l) high at_low at_high c d true is e = refl
stands_at low None at_low at_high c d false is e = cc
stands_at low (Some u) at_low at_high c d false is e = refl

goes_apart : (below : Bool) → ((if below then Ll else Ul) ≢ Bs) × ((if below then Ll else Ul) ≢ Fr)
goes_apart true = lower_apart
goes_apart false = upper_apart

module _ (p : LinearProgram) (shift : List ℚ) (theta : ℚ) (s : List Status) (t : Tableau) (v : Vector) where
  abbrev below : ℕ → Bool
  below r = leaves_below p shift theta s t v r

  -- q brings r back to the limit that it would break
  record IsFaceExchange (m : Move) (r q : ℕ) : Type 0 where
    leaves : leaving p shift theta s t v ≡ Some r
    enters : cheapest p s t r (below r) ≡ Some q
    gives : m ≡ record { enters = q; leaves = r; to = if below r then Ll else Ul }

  entered_move : (m : Move) (r : ℕ) → leaving p shift theta s t v ≡ Some r → (o : Option ℕ) → cheapest p s t r (below r) ≡ o →
      face_exchange p shift theta s t v r (below r) o ≡ FaceMoves m → (r : ℕ) × (q : ℕ) × IsFaceExchange m r q
  entered_move m r leaves (Some q) enters e =
      let same : m ≡ record { enters = q; leaves = r; to = if below r then Ll else Ul } = cc in
      (r, q, record { leaves = leaves; enters = enters; gives = same })
  entered_move m r leaves None enters e = cc

  found_move : (m : Move) (o : Option ℕ) → leaving p shift theta s t v ≡ o → face_at p shift theta s t v o ≡ FaceMoves m →
      (r : ℕ) × (q : ℕ) × IsFaceExchange m r q
  found_move m (Some r) leaves e = entered_move m r leaves (cheapest p s t r (below r)) refl e
  found_move m None leaves e = cc

  face_move : (m : Move) → rhs_face p shift theta s t v ≡ FaceMoves m → (r : ℕ) × (q : ℕ) × IsFaceExchange m r q
  unfolding rhs_face
  face_move m e = found_move m (leaving p shift theta s t v) refl e

  module _ (at : IsNonsingularBasis p s) (tab : IsTableau p s t) (m : Move) (r q : ℕ) (move : IsFaceExchange m r q) where
    found : IsVariable p.matrix r × ((is_in (basics_of s) r && (below r || leaves_above p shift theta s t v r)) ≡ true)
    found = found_passes p (λ k. is_in (basics_of s) k && (leaves_below p shift theta s t v k || leaves_above p shift theta s t v k)) r move.leaves

    tests : (is_in (basics_of s) r ≡ true) × ((below r || leaves_above p shift theta s t v r) ≡ true)
    tests = and_parts (is_in (basics_of s) r) (below r || leaves_above p shift theta s t v r) found.1

    stands : MayStand p r (if below r then Ll else Ul)
    stands = record {
      nonbasic = (goes_apart (below r)).0;
      limited = (goes_apart (below r)).1;
      allowed =
          stands_at (lower_of p r) (upper_of p r) (λ l. eq_ℚ (t.point r) l) (λ u. eq_ℚ (t.point r) u) (lt_ℚ (v r) (shift_of p.matrix shift r))
          (lt_ℚ (shift_of p.matrix shift r) (v r))
          (below r) refl tests.1;
    }

    entered : IsVariable p.matrix q × ((restores_feasibility p s t r (below r) q && is_cheapest p s t r (below r) q) ≡ true)
    entered = found_passes p (λ q. restores_feasibility p s t r (below r) q && is_cheapest p s t r (below r) q) q move.enters

    entering_variable : IsEnteringVariable p s (excess_rate t.rate r (below r)) q
    entering_variable = is_entering_variable p s (excess_rate t.rate r (below r)) q at entered.0
        (and_parts (restores_feasibility p s t r (below r) q) (is_cheapest p s t r (below r) q) entered.1).0

    pivot : t.rate r q ≢ zero_ℚ
    pivot zero = entering_variable.rate_apart (ap (signed (not (below r))) zero ∙ signed_zero (not (below r)))

    exchange_is : IsNonsingularBasis p (after s m)
    exchange_is = subst (λ m. IsNonsingularBasis p (after s m)) (sym move.gives)
        (exchange_leads p s t at.is_basis at.nonsingular tab r q (if below r then Ll else Ul) (found.0, tests.0) entering_variable.nonbasic stands pivot).at

  move_leads : (m : Move) → IsNonsingularBasis p s → IsTableau p s t → rhs_face p shift theta s t v ≡ FaceMoves m → IsNonsingularBasis p (after s m)
  move_leads m at tab e = let move = face_move m e in exchange_is at tab m move.0 move.1 move.2

pub rhs_leads : (p : LinearProgram) (shift : List ℚ) (theta : ℚ) (s : List Status) (m : Move) → IsNonsingularBasis p s →
    IsRhsFace p shift theta s (FaceMoves m) → IsNonsingularBasis p (after s m)
rhs_leads p shift theta s m at face =
    from_rhs p shift theta (after s m) (move_leads (rhs_family p shift theta) shift theta s face.0 face.1 m (to_rhs p shift theta s at) face.2 face.4)
