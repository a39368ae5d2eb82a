-- A step from a basis whose point is feasible keeps that, and never makes the objective worse.
use Rattle.std.proofs.Common.{◌≡◌, ℕ, Bool, List, [], ◌∷◌, refl, sym, subst, pos}
use Rattle.exact_values.specs.Rational.{ℚ, ◌≤ℚ◌}
use Rattle.exact_values.proofs.Ring.{by_ring3, ◌⊕◌, ◌⊖◌, ◌⊗◌, ◌≐◌, number}
use Rattle.exact_values.proofs.Order.{lt_not_le, le_refl, le_trans, le_of_lt, le_by_product}
use Rattle.lp_definitions.specs.LinearProgram.{LinearProgram, Vector, IsVariable, IsLinearProgram, lower_of, upper_of, for_min, objective_value}
use Rattle.lp_definitions.specs.Solutions.{IsFeasible}
use Rattle.lp_definitions.specs.Basis.{IsPointOf, Tableau, IsTableau}
use Rattle.lp_definitions.specs.declared.Status.{Status}
use Rattle.lp_laws.specs.Vectors.{along}
use Rattle.lp_laws.proofs.Duality.{for_min-along}
use Rattle.lp_laws.proofs.Uniqueness.{one_point}
use Rattle.simplex_definitions.specs.Moves.{is_below, goes_up, reached}
use Rattle.simplex_definitions.specs.Path.{Move, Moves, after, IsStep, IsPath, last_of, worth_rate}
use Rattle.simplex_laws.specs.Laws.{IsNonsingularBasis, IsNoWorse}
use Rattle.simplex_laws.proofs.Motions.{length_of, comes, moved_feasible, moved_point}
use Rattle.simplex_laws.proofs.Turns.{IsStoppedTurn, MovingRule, brings, stops, improving, moving_turn, rule_of}
use Rattle.simplex_laws.proofs.Ends.{feasible, low_of, high_of, IsFeasible-same}
use Rattle.simplex_laws.proofs.UnboundedEnds.{IsEntering, enters, improving_improves, objective_value-same}
use Rattle.simplex_laws.proofs.Steps.{step_leads}
use Rattle.simplex_laws.proofs.Rays.{Breaks, breaks_lower, breaks_upper, broken_basic, broken_limit}

-- ---- a step of the second phase

-- a variable within its limits breaks none
never_broken : (p : LinearProgram) (z : Vector) (r : ℕ) (below : Bool) → IsVariable p.matrix r → IsFeasible p z →
    Breaks (lower_of p r) (upper_of p r) (z r) below → ⊥
never_broken p z r below is feasible (breaks_lower l e limit broken) = lt_not_le broken (low_of (lower_of p r) (z r) l (feasible.within r is).0 limit)
never_broken p z r below is feasible (breaks_upper u e limit broken) = lt_not_le broken (high_of (upper_of p r) (z r) u (feasible.within r is).1 limit)

module _ (p : LinearProgram) (s : List Status) (t : Tableau) (at : IsNonsingularBasis p s) (tab : IsTableau p s t) (m : Move) (q k : ℕ)
    (turn : IsStoppedTurn p s t (Moves m) q k) where
  entered : IsEntering p s (worth_rate p s t) q
  entered = enters p s (worth_rate p s t) q at.is_basis turn.moves

  from_feasible : IsFeasible p t.point
  from_feasible = feasible p s t at.is_basis tab turn.phase

  abbrev up : Bool
  up = goes_up (worth_rate p s t) q

  abbrev length : ℚ
  length = (length_of p t q k (goes_up (worth_rate p s t) q) turn.stops).0

  abbrev moved : Vector
  moved = along t.point length (improving p s t q)

  no_worse : for_min p.sense (objective_value p moved) ≤ℚ for_min p.sense (objective_value p t.point)
  no_worse =
      subst (λ y. y ≤ℚ for_min p.sense (objective_value p t.point)) (sym (for_min-along p t.point length (improving p s t q)))
      (le_by_product (comes p t q k up turn.stops from_feasible).forward (le_of_lt (improving_improves p s t at.is_basis tab q entered))
      (by_ring3 (for_min p.sense (objective_value p t.point)) length (for_min p.sense (objective_value p (improving p s t q)))
      (λ z x d. z ≐ (z ⊕ x ⊗ d) ⊕ (x ⊖ number (pos 0)) ⊗ (number (pos 0) ⊖ d)) refl))

  stopped_step : IsLinearProgram p → (z : Vector) → ((i : ℕ) → IsVariable p.matrix i → t.point i ≡ z i) → (w : Vector) × IsNoWorse p (after s m) z w
  stopped_step lawful z same =
      let e = turn.gives in
      let is : m ≡ record { enters = q; leaves = k; to = reached (improving p s t q) k } = cc in (
        moved,
        record {
          point = subst (λ n. IsPointOf p (after s n) moved) (sym is) (moved_point p t q k up turn.stops from_feasible s at tab entered.nonbasic);
          feasible = moved_feasible p t q k up turn.stops from_feasible s at tab entered.nonbasic;
          no_worse = subst (λ y. for_min p.sense (objective_value p moved) ≤ℚ for_min p.sense y) (objective_value-same p t.point z lawful same) no_worse;
        },
      )

-- a step from a basis with a feasible point
pub feasible_step : (p : LinearProgram) (s next : List Status) (z : Vector) → IsLinearProgram p → IsNonsingularBasis p s → IsStep p s next → IsPointOf p s z →
    IsFeasible p z → (w : Vector) × IsNoWorse p next z w
feasible_step p s next z lawful at step point feasible_z =
    subst (λ n. (w : Vector) × IsNoWorse p n z w) (sym step.is_next)
    (by_phase (moving_turn p s step.tableau step.move (rule_of p s step.tableau (Moves step.move) step.turns)))
  where
    same : (i : ℕ) → IsVariable p.matrix i → step.tableau.point i ≡ z i
    same = one_point p s step.tableau.point z at.is_basis.counted at.nonsingular step.is_tableau.is_point point

    by_phase : MovingRule p s step.tableau step.move → (w : Vector) × IsNoWorse p (after s step.move) z w
    by_phase (brings r q h) =
        absurd (never_broken p step.tableau.point r (is_below p step.tableau.point r) (broken_basic p s step.tableau r h.phase).0
        (IsFeasible-same p z step.tableau.point (λ i is. sym (same i is)) feasible_z) (broken_limit p s step.tableau r h.phase))
    by_phase (stops q k h) = stopped_step p s step.tableau at step.is_tableau step.move q k h lawful z same

-- and a path from there
pub feasible_path : (p : LinearProgram) (s : List Status) (bases : List (List Status)) (z : Vector) → IsLinearProgram p → IsNonsingularBasis p s →
    IsPath p s bases → IsPointOf p s z → IsFeasible p z → (w : Vector) × IsNoWorse p (last_of s bases) z w
feasible_path p s [] z lawful at path point feasible_z =
    (z, record { point = point; feasible = feasible_z; no_worse = le_refl (for_min p.sense (objective_value p z)) })
feasible_path p s (next ∷ bases) z lawful at path point feasible_z =
    let first = feasible_step p s next z lawful at path.0 point feasible_z in
    let rest = feasible_path p next bases first.0 lawful (step_leads p s next at path.0) path.1 first.1.point first.1.feasible in
    (rest.0, record { point = rest.1.point; feasible = rest.1.feasible; no_worse = le_trans rest.1.no_worse first.1.no_worse })
