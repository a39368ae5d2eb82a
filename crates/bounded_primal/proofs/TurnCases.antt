-- What each exit of a turn gives, from what the calls before it gave.
use Rattle.std.proofs.Common.{◌≡◌, ◌≤◌, ◌≢◌, ℕ, List, length, Bool, refl, sym, ap, subst, ◌∙◌}
use Rattle.std.specs.Prelude.{Some, None, IsSome, IsTrue, not, if◌then◌else◌}
use Rattle.exact_values.specs.Rational.{ℚ, zero_ℚ}
use Rattle.lp_definitions.specs.LinearProgram.{Matrix, LinearProgram, Vector, size, value_at, IsVariable}
use Rattle.lp_definitions.specs.Solutions.{IsFeasible, IsWithinLimits}
use Rattle.lp_definitions.specs.Basis.{Basics, basics_of, IsNonbasic, IsDirectionOf, IsPointOf, ArePricesOf}
use Rattle.lp_definitions.specs.Waypoints.{KeepsWaypoints}
use Rattle.lp_definitions.specs.declared.Evidence.{Evidence}
use Rattle.lp_definitions.specs.declared.Status.{Status}
use Rattle.lp_definitions.specs.declared.Status.TheVariants.{Ll, Ul}
use Rattle.lp_model.specs.RatesCalls.{IsRowOf, IfOverflow}
use Rattle.lp_model.specs.declared.Stop.{Stop}
use Rattle.lp_model.specs.declared.reports.Outcome.{Outcome}
use Rattle.lp_model.specs.declared.reports.Outcome.TheVariants.{Optimal, Infeasible}
use Rattle.simplex_definitions.specs.Moves.{is_below, entering}
use Rattle.simplex_definitions.specs.Formulas.{limit_numbered, number_of_limit}
use Rattle.basis_values.specs.Calls.{HasRates, PointRefused}
use Rattle.basis_values.specs.Motions.{may_move, motion}
use Rattle.bounded_primal.specs.KeptPoints.{AgreesWithPoint}
use Rattle.bounded_primal.specs.Moves.{blocking_variable_of, return_by, move_by}
use Rattle.bounded_primal.specs.Stops.{primal_stop_of}
use Rattle.bounded_primal.specs.Turns.{IsUncrossed, least_outside, ray_from, entering_variable_by, Improves, IsUnboundedEnd, ReturnStops, by_column, by_return}
use Rattle.bounded_primal.specs.Turns.{RunStopsAtPoint, EndsHere, MovesOn, TurnStops}
use Rattle.bounded_primal.specs.declared.moves.PrimalStop.TheVariants.{Limit}
use Rattle.bounded_primal.specs.declared.moves.BlockingVariable.{BlockingVariable}
use Rattle.bounded_primal.specs.declared.turns.EnteringVariable.{EnteringVariable}
use Rattle.bounded_primal.proofs.Agreement.{basis_point, outside_same, below_same, within_same, blocking_variable_of_same, return_same, return_refused}
use Rattle.bounded_primal.proofs.TurnEvidence.{of_point, turn_stops}
use Rattle.bounded_primal.proofs.TurnCalls.{step_of, outside_basic, stops_later, return_evidence, run_evidence}
use Rattle.bounded_primal.proofs.TurnChoices.{infeasible_ends, limit_some, return_move, restoring_nonbasic, return_pivot, return_on, point_feasible, best_ends}
use Rattle.bounded_primal.proofs.TurnChoices.{improve_nonbasic, improve_may, unbounded_ends, run_move, run_on}

-- a stop of the rates, of a point or of prices
pub point_stops : (p : LinearProgram) (s : List Status) (left : ℕ) (before now : List Basics) (why : Stop) → IfOverflow why (PointRefused p before s now) →
    TurnStops p s left before now (primal_stop_of why)
point_stops p s left before now why h = turn_stops p s left before now why (PointRefused p before s now) (of_point p s left before now) h

-- the same after other calls at the basis
pub point_stops_later : (p : LinearProgram) (s : List Status) (left : ℕ) (before mid now : List Basics) (why : Stop) →
    KeepsWaypoints p.matrix (basics_of s) before (basics_of s) mid → IfOverflow why (PointRefused p mid s now) →
    TurnStops p s left before now (primal_stop_of why)
point_stops_later p s left before mid now why keeps h = stops_later p s before mid now keeps left (primal_stop_of why) (point_stops p s left mid now why h)

module _ (p : LinearProgram) (s : List Status) (v : Vector) (a : Matrix) (b : Basics) (has : HasRates a b p s) (agrees : AgreesWithPoint p s v)
    (uncrossed : IsUncrossed p) where
  abbrev z : Vector
  z = (basis_point p s has.is_basis has.nonsingular).0

  point : IsPointOf p s z
  point = (basis_point p s has.is_basis has.nonsingular).1

  -- ---- the first phase, where below says which limit is broken

  module _ (r : ℕ) (found_outside : least_outside p s v ≡ Some r) (xs : Vector) (row : IsRowOf p.matrix (basics_of s) r xs) (below : Bool)
      (found_below : below ≡ is_below p v r) where
    broken : least_outside p s z ≡ Some r
    broken = sym (outside_same p v z (agrees z point) s) ∙ found_outside

    is_variable : IsVariable p.matrix r
    is_variable = (outside_basic p s v r found_outside).0

    mark : below ≡ is_below p z r
    mark = found_below ∙ below_same p v z (agrees z point) r is_variable

    pub first_ends : (ray : List ℚ) (steps : ℕ) → None ≡ entering p s (motion xs (not below)) → length ray ≡ size p.matrix →
        ((k : ℕ) → IsVariable p.matrix k → value_at ray k ≡ ray_from xs r below k) → EndsHere p s steps (Infeasible steps ray)
    first_ends ray steps none counted values =
        infeasible_ends p s z has.is_basis has.nonsingular point uncrossed r xs row broken ray steps
        (none ∙ ap (λ (m : Bool). entering p s (motion xs (not m))) mark) counted
        (λ k is. values k is ∙ ap (λ (m : Bool). ray_from xs r m k) mark)

    module _ (q : ℕ) (found : Some q ≡ entering p s (motion xs (not below))) where
      found_is : Some q ≡ entering p s (motion xs (not (is_below p z r)))
      found_is = found ∙ ap (λ (m : Bool). entering p s (motion xs (not m))) mark

      pub first_nonbasic : IsNonbasic p.matrix (basics_of s) q
      first_nonbasic = restoring_nonbasic p s z has.is_basis has.nonsingular point uncrossed r xs row broken q found_is

      pub first_pivot : (d : ℕ → ℚ) → IsDirectionOf p.matrix (basics_of s) q d → d r ≢ zero_ℚ
      first_pivot d direction = return_pivot p s z has.is_basis has.nonsingular point uncrossed r xs row broken q found_is d direction

      pub first_at_limit : (left : ℕ) (before now : List Basics) → left ≡ 0 → TurnStops p s left before now Limit
      first_at_limit left before now none = (
        none,
        step_of p s (record { enters = q; leaves = r; to = if is_below p z r then Ll else Ul })
            (return_move p s z has.is_basis has.nonsingular point uncrossed r xs row broken q found_is),
      )

      module _ (to : Status) (to_is : to ≡ (if below then Ll else Ul)) where
        limit_is : (if is_below p z r then Ll else Ul) ≡ to
        limit_is = sym (to_is ∙ ap (λ (m : Bool). if m then Ll else Ul) mark)

        pub first_limit : IsSome (limit_numbered p r (number_of_limit to))
        first_limit =
            subst (λ (x : Status). IsSome (limit_numbered p r (number_of_limit x))) limit_is
            (limit_some p s z has.is_basis has.nonsingular point uncrossed r xs row broken)

        return_stops : {mid now : List Basics} (e : Evidence) → ReturnStops p s v q r to mid now e → ReturnStops p s z q r to mid now e
        return_stops e (by_column h) = by_column h
        return_stops e (by_return d direction h) = by_return d direction (return_refused p v z (agrees z point) d q r to e is_variable h)

        pub first_stops : (left : ℕ) (before mid now : List Basics) (why : Stop) → KeepsWaypoints p.matrix (basics_of s) before (basics_of s) mid →
            IfOverflow why (ReturnStops p s v q r to mid now) → TurnStops p s left before now (primal_stop_of why)
        first_stops left before mid now why keeps h =
            stops_later p s before mid now keeps left (primal_stop_of why) (turn_stops p s left mid now why (ReturnStops p s v q r to mid now)
            (λ e x. return_evidence p s z has.is_basis has.nonsingular point uncrossed left mid now e r xs row broken q found_is
            (subst (λ (t : Status). ReturnStops p s z q r t mid now e) (sym limit_is) (return_stops e x))) h)

        pub first_moves : (d : Vector) → IsDirectionOf p.matrix (basics_of s) q d → (by : BlockingVariable) → by ≡ return_by p v d r to → (left : ℕ) →
            1 ≤ left →
            MovesOn p s d q by left
        first_moves d direction by by_is left was_left =
            subst (λ (x : BlockingVariable). MovesOn p s d q x left)
            (ap (λ (t : Status). return_by p z d r t) limit_is ∙ sym (by_is ∙ return_same p v z (agrees z point) d r to is_variable first_limit))
            (return_on p s z has.is_basis has.nonsingular point uncrossed r xs row broken q found_is d direction left was_left)

  -- ---- the second phase

  module _ (found_none : least_outside p s v ≡ None) where
    inside_of : (w : Vector) → IsPointOf p s w → least_outside p s w ≡ None
    inside_of w is = sym (outside_same p v w (agrees w is) s) ∙ found_none

    inside : least_outside p s z ≡ None
    inside = inside_of z point

    pub second_ends : (y : Vector) → ArePricesOf p s y → (zs ys : List ℚ) (steps : ℕ) → None ≡ entering_variable_by p s y → length zs ≡ size p.matrix →
        IsPointOf p s (value_at zs) →
        length ys ≡ size p.matrix → ((k : ℕ) → IsVariable p.matrix k → value_at ys k ≡ y k) → (outcome : Outcome) → outcome ≡ Optimal steps zs ys →
        EndsHere p s steps outcome
    second_ends y prices zs ys steps none zs_counted zs_are ys_counted ys_are outcome is =
        subst (EndsHere p s steps) (sym is)
        (best_ends p s (value_at zs) has.is_basis has.nonsingular zs_are uncrossed y prices (inside_of (value_at zs) zs_are) zs ys steps none zs_counted
        (λ k is. refl) ys_counted ys_are)

    module _ (m : EnteringVariable) (moves : Improves p s m) where
      feasible : IsFeasible p z
      feasible = point_feasible p s z has.is_basis has.nonsingular point uncrossed moves.price moves.prices inside

      pub run_within : IsWithinLimits p v
      run_within = within_same p v z (agrees z point) feasible.within

      pub run_nonbasic : IsNonbasic p.matrix (basics_of s) m.q
      run_nonbasic = improve_nonbasic p s z has.is_basis has.nonsingular point uncrossed moves.price moves.prices inside m moves.chosen

      pub run_may : IsTrue (may_move p s m.up m.q)
      run_may = improve_may p s z has.is_basis has.nonsingular point uncrossed moves.price moves.prices inside m moves.chosen

      pub run_stops : (left : ℕ) (before now : List Basics) (why : Stop) → IfOverflow why (RunStopsAtPoint p s m.q m.up before now) →
          TurnStops p s left before now (primal_stop_of why)
      run_stops left before now why h =
          turn_stops p s left before now why (RunStopsAtPoint p s m.q m.up before now)
          (λ e x. run_evidence p s z has.is_basis has.nonsingular point uncrossed left before now e moves.price moves.prices inside m moves.chosen
          (x z point)) h

      module _ (d : Vector) (direction : IsDirectionOf p.matrix (basics_of s) m.q d) where
        same : blocking_variable_of p v d m.up ≡ blocking_variable_of p z d m.up
        same = blocking_variable_of_same p v z (agrees z point) d m.up

        pub run_ends : (zs : List ℚ) (steps : ℕ) (outcome : Outcome) → None ≡ blocking_variable_of p v d m.up → length zs ≡ size p.matrix →
            IsPointOf p s (value_at zs) →
            IsUnboundedEnd p zs d m.up steps outcome → EndsHere p s steps outcome
        run_ends zs steps outcome none counted are h =
            unbounded_ends p s (value_at zs) has.is_basis has.nonsingular are uncrossed moves.price moves.prices
            (inside_of (value_at zs) are) m moves.chosen d direction zs steps outcome
            (none ∙ blocking_variable_of_same p v (value_at zs) (agrees (value_at zs) are) d m.up) counted (λ k is. refl) h

        pub run_at_limit : (left : ℕ) (before now : List Basics) (by : BlockingVariable) → Some by ≡ blocking_variable_of p v d m.up → left ≡ 0 →
            TurnStops p s left before now Limit
        run_at_limit left before now by stops none = (
          none,
          step_of p s (move_by m.q by)
              (run_move p s z has.is_basis has.nonsingular point uncrossed moves.price moves.prices inside m moves.chosen d direction by (stops ∙ same)),
        )

        pub run_moves : (by : BlockingVariable) (left : ℕ) → Some by ≡ blocking_variable_of p v d m.up → 1 ≤ left → MovesOn p s d m.q by left
        run_moves by left stops was_left =
            run_on p s z has.is_basis has.nonsingular point uncrossed moves.price moves.prices inside m moves.chosen d direction by left (stops ∙ same) was_left
