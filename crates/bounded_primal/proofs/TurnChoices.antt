-- Which turn the path makes at a basis, from the point, the rates of a row, the prices and a direction.
use Rattle.std.proofs.Common.{◌≡◌, ◌≤◌, ◌≢◌, ℕ, List, length, Bool, true, false, refl, sym, ap, ap₂, ◌∙◌, subst, arith}
use Rattle.std.specs.Prelude.{Option, Some, None, IsSome, IsTrue, not, ◌&&◌, ◌||◌, option_map, unwrap_or, if◌then◌else◌}
use Rattle.exact_values.specs.Rational.{ℚ, zero_ℚ, ◌-ℚ◌, ◌/ℚ◌, ◌<ℚ◌}
use Rattle.exact_values.specs.Tests.{lt_ℚ}
use Rattle.exact_values.proofs.Order.{lt_irrefl, lt_not_le, le_of_lt}
use Rattle.exact_values.proofs.TestsLaws.{lt_from_test}
use Rattle.lp_definitions.specs.LinearProgram.{LinearProgram, Vector, size, value_at, IsVariable, lower_of, upper_of, for_min}
use Rattle.lp_definitions.specs.Solutions.{IsFeasible}
use Rattle.lp_definitions.specs.Basis.{basics_of, is_in, IsBasis, IsBasic, IsNonbasic, IsNonsingular, IsDirectionOf, AreRates, IsPointOf, ArePricesOf, Tableau}
use Rattle.lp_definitions.specs.Basis.{IsTableau, objective_rate, price_at}
use Rattle.lp_definitions.specs.declared.Status.{Status}
use Rattle.lp_definitions.specs.declared.Status.TheVariants.{Ll, Ul}
use Rattle.lp_model.specs.RatesCalls.{IsRowOf}
use Rattle.lp_model.specs.declared.reports.Outcome.{Outcome}
use Rattle.lp_model.specs.declared.reports.Outcome.TheVariants.{Optimal, Crossed, Infeasible, Unbounded}
use Rattle.lp_laws.proofs.Uniqueness.{one_direction}
use Rattle.lp_laws.proofs.Values.{clash}
use Rattle.simplex_definitions.specs.Moves.{least, is_crossed, is_below, signed, goes_up, lowers, may_rise, may_fall, entering, limit_ahead, step_length}
use Rattle.simplex_definitions.specs.Moves.{blocking_variable}
use Rattle.simplex_definitions.specs.Path.{Move, Moves, EndsOptimal, EndsCrossed, EndsInfeasible, EndsUnbounded, listed, ray_of, excess_rate, outside}
use Rattle.simplex_definitions.specs.Path.{worth_rate, entering_variable, restore_feasibility, run_until, improve, turn_for, turn}
use Rattle.simplex_laws.proofs.Numbered.{find_some}
use Rattle.simplex_laws.proofs.BlockingVariables.{blocking_variable_some, reaches_limit}
use Rattle.simplex_laws.proofs.Turns.{IsFirstPhase, IsSecondPhase, improving}
use Rattle.simplex_laws.proofs.Ends.{feasible}
use Rattle.simplex_laws.proofs.UnboundedEnds.{IsEntering, enters}
use Rattle.simplex_laws.proofs.Rays.{Breaks, breaks_lower, breaks_upper, broken_basic, broken_limit}
use Rattle.simplex_laws.proofs.Steps.{rate_apart, signed_zero}
use Rattle.simplex_definitions.specs.Formulas.{limit_numbered, number_of_limit}
use Rattle.simplex_definitions.specs.Statements.{PathMoves, PathEnters}
use Rattle.basis_values.specs.Motions.{may_move, motion}
use Rattle.basis_values.specs.Prices.{worth_by}
use Rattle.bounded_primal.specs.Moves.{stop_at, blocking_variable_of, return_by, IsStepBy, is_blocking_variable, brings, StepsFromPoint, move_by}
use Rattle.bounded_primal.specs.Turns.{IsUncrossed, least_outside, ray_from, moved_by, entering_variable_by, IsUnboundedEnd, EndsHere, MovesOn}
use Rattle.bounded_primal.specs.declared.turns.EnteringVariable.{EnteringVariable}
use Rattle.bounded_primal.specs.declared.moves.BlockingVariable.{BlockingVariable}
use Rattle.basis_values.proofs.Existence.{rates_exist}
use Rattle.basis_values.proofs.RatesStops.{tableau_of, IsTableau-of}
use Rattle.bounded_primal.proofs.SameChoices.{entering_same, blocking_variable_same, listed_is, row_ray}

-- a variable is crossed
pub crossed_ends : (p : LinearProgram) (s : List Status) (k steps : ℕ) → IsBasis p s → IsNonsingular p.matrix (basics_of s) → Some k ≡ least p (is_crossed p) →
    EndsHere p s steps (Crossed k)
unfolding turn
crossed_ends p s k steps basis nonsingular found =
    record {
      ending = EndsCrossed k;
      ends = record {
        tableau = tableau_of p s basis nonsingular rates.0;
        is_tableau = IsTableau-of p s basis nonsingular
            rates.0 rates.1;
        turns = ap (λ (o : Option ℕ). turn_for p s (tableau_of p s basis nonsingular rates.0) o
            (outside p s (tableau_of p s basis nonsingular rates.0))) (sym found);
      };
      is_outcome = refl;
    }
  where
    rates : (rate : ℕ → ℕ → ℚ) × AreRates p.matrix (basics_of s) rate
    rates = rates_exist p.matrix (basics_of s) nonsingular

module _ (p : LinearProgram) (s : List Status) (z : Vector) (basis : IsBasis p s) (nonsingular : IsNonsingular p.matrix (basics_of s)) (point : IsPointOf p s z)
    (uncrossed : IsUncrossed p) where
  -- ---- the first phase

  module _ (r : ℕ) (xs : Vector) (row : IsRowOf p.matrix (basics_of s) r xs) (broken : least_outside p s z ≡ Some r) where
    abbrev t : Tableau
    t = record { point = z; rate = row.rate }

    abbrev below : Bool
    below = is_below p z r

    is_t : IsTableau p s t
    is_t = record { is_point = point; are_rates = row.are_rates }

    phase : IsFirstPhase p s t r
    phase = record { uncrossed = uncrossed; broken = broken }

    first_turn : (o : Option ℕ) → entering_variable p s t (Some r) ≡ o → turn p s t ≡ restore_feasibility p s t r o
    unfolding turn
    first_turn o moves = ap₂ (turn_for p s t) uncrossed broken ∙ ap (restore_feasibility p s t r) moves

    entry : (k : ℕ) → IsVariable p.matrix k → (mark : Bool) → is_in (basics_of s) k ≡ mark → xs k ≡ (if mark then zero_ℚ else row.rate r k)
    entry k is mark e = row.entries k is ∙ ap (λ m. if m then zero_ℚ else row.rate r k) e

    entering_variable_is : entering_variable p s t (Some r) ≡ entering p s (motion xs (not below))
    entering_variable_is =
        entering_same p s basis (excess_rate row.rate r below) (motion xs (not below)) (λ k out. ap (signed (not below)) (sym (entry k out.0 false out.1)))

    -- nothing brings r back
    pub infeasible_ends : (ray : List ℚ) (steps : ℕ) → None ≡ entering p s (motion xs (not below)) → length ray ≡ size p.matrix →
        ((k : ℕ) → IsVariable p.matrix k → value_at ray k ≡ ray_from xs r below k) → EndsHere p s steps (Infeasible steps ray)
    infeasible_ends ray steps none counted values = record {
      ending = EndsInfeasible (listed p.matrix (ray_of (basics_of s) row.rate r below));
      ends = record { tableau = t; is_tableau = is_t; turns = first_turn None (entering_variable_is ∙ sym none) };
      is_outcome =
          ap (Infeasible steps)
          (listed_is p.matrix ray (ray_of (basics_of s) row.rate r below) counted (λ k is. values k is ∙ row_ray p s r xs row below k is));
    }

    -- the basic r, and its limit that is broken
    pub restoring_basic : IsBasic p.matrix (basics_of s) r
    restoring_basic = broken_basic p s t r phase

    abbrev to_limit : Status
    to_limit = if below then Ll else Ul

    limit_there : (l : ℚ) × (limit_numbered p r (number_of_limit to_limit) ≡ Some l)
    limit_there = by_mark below (broken_limit p s t r phase)
      where
        by_mark : (b : Bool) → Breaks (lower_of p r) (upper_of p r) (z r) b → (l : ℚ) × (limit_numbered p r (number_of_limit (if b then Ll else Ul)) ≡ Some l)
        by_mark true (breaks_lower l is limit past) = (l, limit)
        by_mark true (breaks_upper u is limit past) = absurd (clash is)
        by_mark false (breaks_lower l is limit past) = absurd (clash (sym is))
        by_mark false (breaks_upper u is limit past) = (u, limit)

    pub limit_some : IsSome (limit_numbered p r (number_of_limit to_limit))
    limit_some = subst (λ (o : Option ℚ). IsSome o) (sym limit_there.1) refl

    -- whatever brings it back, brings it to that limit
    pub return_step : (q : ℕ) (d : Vector) → StepsFromPoint p s d q (return_by p z d r to_limit)
    return_step q d =
        record {
          point = z;
          is_point = point;
          is_step = brings limit_there.0 restoring_basic limit_there.1
              (ap (λ o. (unwrap_or o zero_ℚ -ℚ z r) /ℚ d r) limit_there.1);
        }

    module _ (q : ℕ) (found : Some q ≡ entering p s (motion xs (not below))) where
      moves : entering_variable p s t (Some r) ≡ Some q
      moves = entering_variable_is ∙ sym found

      pub return_move : PathMoves p s (record { enters = q; leaves = r; to = to_limit })
      return_move = (t, is_t, first_turn (Some q) moves)

      pub return_enters : PathEnters p s q
      return_enters = (t, is_t, uncrossed, ap (entering_variable p s t) broken ∙ moves)

      entered : IsEntering p s (excess_rate row.rate r below) q
      entered = enters p s (excess_rate row.rate r below) q basis moves

      pub restoring_nonbasic : IsNonbasic p.matrix (basics_of s) q
      restoring_nonbasic = entered.nonbasic

      module _ (d : Vector) (direction : IsDirectionOf p.matrix (basics_of s) q d) where
        pub return_pivot : d r ≢ zero_ℚ
        return_pivot vanishes =
            rate_apart p s (excess_rate row.rate r below) q entered
            (ap (signed (not below))
            (one_direction p.matrix (basics_of s) q (λ i. row.rate i q) d nonsingular (row.are_rates q entered.nonbasic) direction r restoring_basic.0
            ∙ vanishes) ∙ signed_zero (not below))

        pub return_on : (left : ℕ) → 1 ≤ left → MovesOn p s d q (return_by p z d r to_limit) left
        return_on left was_left = record {
          enters = return_enters;
          moves = return_move;
          nonbasic = restoring_nonbasic;
          direction = direction;
          pivot = return_pivot;
          step = return_step q d;
          was_left = was_left;
        }

  -- ---- the second phase

  module _ (y : Vector) (prices : ArePricesOf p s y) (inside : least_outside p s z ≡ None) where
    abbrev u : Tableau
    u = record { point = z; rate = prices.rate }

    is_u : IsTableau p s u
    is_u = record { is_point = point; are_rates = prices.are_rates }

    second : IsSecondPhase p s u
    second = record { uncrossed = uncrossed; unbroken = inside }

    second_turn : (o : Option ℕ) → entering_variable p s u None ≡ o → turn p s u ≡ improve p s u o
    unfolding turn
    second_turn o moves = ap₂ (turn_for p s u) uncrossed inside ∙ ap (improve p s u) moves

    worth_is : (k : ℕ) → IsNonbasic p.matrix (basics_of s) k → worth_rate p s u k ≡ worth_by p y k
    worth_is k out = ap (for_min p.sense) (sym (prices.prices k out.0 ∙ ap (λ m. if m then zero_ℚ else objective_rate p prices.rate k) out.1))

    improve_is : entering_variable p s u None ≡ entering p s (worth_by p y)
    improve_is = entering_same p s basis (worth_rate p s u) (worth_by p y) worth_is

    pub point_feasible : IsFeasible p z
    point_feasible = feasible p s u basis is_u second

    none_moves : (o : Option ℕ) → None ≡ option_map (moved_by p y) o → o ≡ None
    none_moves None e = refl
    none_moves (Some q) e = cc

    -- nothing improves the objective
    pub best_ends : (zs ys : List ℚ) (steps : ℕ) → None ≡ entering_variable_by p s y → length zs ≡ size p.matrix →
        ((k : ℕ) → IsVariable p.matrix k → value_at zs k ≡ z k) →
        length ys ≡ size p.matrix → ((k : ℕ) → IsVariable p.matrix k → value_at ys k ≡ y k) → EndsHere p s steps (Optimal steps zs ys)
    best_ends zs ys steps none zs_counted zs_are ys_counted ys_are = record {
      ending = EndsOptimal (listed p.matrix z) (listed p.matrix (price_at p (basics_of s) prices.rate));
      ends = record { tableau = u; is_tableau = is_u; turns = second_turn None (improve_is ∙ none_moves (entering p s (worth_by p y)) none) };
      is_outcome =
          ap₂ (Optimal steps) (listed_is p.matrix zs z zs_counted zs_are)
          (listed_is p.matrix ys (price_at p (basics_of s) prices.rate) ys_counted (λ k is. ys_are k is ∙ prices.prices k is));
    }

    some_moves : (m : EnteringVariable) (o : Option ℕ) → Some m ≡ option_map (moved_by p y) o → (o ≡ Some m.q) × (m.up ≡ goes_up (worth_by p y) m.q)
    some_moves m None e = cc
    some_moves m (Some q) e =
        let same : moved_by p y q ≡ m = cc in (
          ap (λ (x : EnteringVariable). Some x.q) same,
          sym (ap (λ (x : EnteringVariable). x.up) same)
              ∙ ap (λ (x : EnteringVariable). goes_up (worth_by p y) x.q) same,
        )

    module _ (m : EnteringVariable) (chosen : Some m ≡ entering_variable_by p s y) where
      found : entering p s (worth_by p y) ≡ Some m.q
      found = (some_moves m (entering p s (worth_by p y)) chosen).0

      up_is : m.up ≡ lt_ℚ (worth_by p y m.q) zero_ℚ
      up_is = (some_moves m (entering p s (worth_by p y)) chosen).1

      improves : entering_variable p s u None ≡ Some m.q
      improves = improve_is ∙ found

      pub improve_enters : PathEnters p s m.q
      improve_enters = (u, is_u, uncrossed, ap (entering_variable p s u) inside ∙ improves)

      entering_one : IsEntering p s (worth_by p y) m.q
      entering_one = enters p s (worth_by p y) m.q basis found

      pub improve_nonbasic : IsNonbasic p.matrix (basics_of s) m.q
      improve_nonbasic = entering_one.nonbasic

      -- q may move the way in which it improves the objective
      pub improve_may : IsTrue (may_move p s m.up m.q)
      improve_may =
          subst (λ (b : Bool). may_move p s b m.q ≡ true) (sym up_is)
          (way (lt_ℚ (worth_by p y m.q) zero_ℚ) (lt_ℚ zero_ℚ (worth_by p y m.q)) (may_rise p s m.q) (may_fall p s m.q)
          (find_some (lowers p s (worth_by p y)) (size p.matrix) 1 m.q found).passes one_way)
        where
          way : (a b x w : Bool) → ((a && x) || (b && w)) ≡ true → (a ≡ true → b ≡ true → ⊥) → (if a then x else w) ≡ true
          way true true x w e one = absurd (one refl refl)
          way true false true w e one = refl
          way true false false w e one = cc
          way false true x true e one = refl
          way false true x false e one = cc
          way false false x w e one = cc

          one_way : lt_ℚ (worth_by p y m.q) zero_ℚ ≡ true → lt_ℚ zero_ℚ (worth_by p y m.q) ≡ true → ⊥
          one_way low high = lt_not_le (lt_from_test (worth_by p y m.q) zero_ℚ low) (le_of_lt (lt_from_test zero_ℚ (worth_by p y m.q) high))

      module _ (d : Vector) (direction : IsDirectionOf p.matrix (basics_of s) m.q d) where
        speeds_are : (k : ℕ) → IsVariable p.matrix k → improving p s u m.q k ≡ motion d m.up k
        speeds_are k is =
            ap₂ (λ b v. signed b v) (ap (λ w. lt_ℚ w zero_ℚ) (worth_is m.q improve_nonbasic) ∙ sym up_is)
            (one_direction p.matrix (basics_of s) m.q (λ i. prices.rate i m.q) d nonsingular (prices.are_rates m.q improve_nonbasic) direction k is)

        run_turn : (o : Option ℕ) → blocking_variable p z (motion d m.up) ≡ o → turn p s u ≡ run_until p s u m.q (improving p s u m.q) o
        run_turn o stops =
            second_turn (Some m.q) improves
            ∙ ap (run_until p s u m.q (improving p s u m.q)) (blocking_variable_same p z (improving p s u m.q) (motion d m.up) speeds_are ∙ stops)

        none_stops : (o : Option ℕ) → option_map (stop_at p z d m.up) o ≡ None → o ≡ None
        none_stops None e = refl
        none_stops (Some k) e = cc

        -- nothing stops q
        pub unbounded_ends : (zs : List ℚ) (steps : ℕ) (outcome : Outcome) → None ≡ blocking_variable_of p z d m.up → length zs ≡ size p.matrix →
            ((k : ℕ) → IsVariable p.matrix k → value_at zs k ≡ z k) →
            IsUnboundedEnd p zs d m.up steps outcome → EndsHere p s steps outcome
        unbounded_ends zs steps outcome none zs_counted zs_are h = record {
          ending = EndsUnbounded (listed p.matrix z) (listed p.matrix (improving p s u m.q));
          ends = record { tableau = u; is_tableau = is_u; turns = run_turn None (none_stops (blocking_variable p z (motion d m.up)) (sym none)) };
          is_outcome =
              h.is_outcome
              ∙ ap₂ (Unbounded steps) (listed_is p.matrix zs z zs_counted zs_are)
              (listed_is p.matrix h.ds (improving p s u m.q) h.counted (λ k is. h.speeds k is ∙ sym (speeds_are k is)));
        }

        some_stops : (by : BlockingVariable) (o : Option ℕ) → option_map (stop_at p z d m.up) o ≡ Some by → (k : ℕ) × (o ≡ Some k) × (stop_at p z d m.up k ≡ by)
        some_stops by None e = cc
        some_stops by (Some k) e = (k, refl, cc)

        -- something does
        pub run_move : (by : BlockingVariable) → Some by ≡ blocking_variable_of p z d m.up → PathMoves p s (move_by m.q by)
        run_move by stops =
            let at = some_stops by (blocking_variable p z (motion d m.up)) (sym stops) in
            let is = (blocking_variable_some p z (motion d m.up) at.0 at.1).0 in
            subst (λ (b : BlockingVariable). PathMoves p s (move_by m.q b)) at.2 (
              u,
              is_u,
              run_turn (Some at.0) at.1
                  ∙ ap (λ v. Moves (record { enters = m.q; leaves = at.0; to = if lt_ℚ zero_ℚ v then Ul else Ll })) (speeds_are at.0 is),
            )

        pub run_some : IsSome (blocking_variable_of p z d m.up) → (n : Move) × PathMoves p s n
        run_some some = by_value (blocking_variable_of p z d m.up) refl some
          where
            by_value : (o : Option BlockingVariable) → blocking_variable_of p z d m.up ≡ o → IsSome o → (n : Move) × PathMoves p s n
            by_value None e some = cc
            by_value (Some by) e some = (move_by m.q by, run_move by (sym e))

        pub run_step : (by : BlockingVariable) → Some by ≡ blocking_variable_of p z d m.up → IsStepBy p s z d m.q by
        run_step by stops = is_blocking_variable m.up point_feasible improve_may (sym stops)

        moves_ahead : (low high : Option ℚ) (v l : ℚ) (a b : Bool) → lt_ℚ zero_ℚ v ≡ a → lt_ℚ v zero_ℚ ≡ b →
            (if a then high else (if b then low else None)) ≡ Some l → v ≢ zero_ℚ
        moves_ahead low high v l true b a_is b_is e = λ vanishes. lt_irrefl (subst (λ x. zero_ℚ <ℚ x) vanishes (lt_from_test zero_ℚ v a_is))
        moves_ahead low high v l false true a_is b_is e = λ vanishes. lt_irrefl (subst (λ x. x <ℚ zero_ℚ) vanishes (lt_from_test v zero_ℚ b_is))
        moves_ahead low high v l false false a_is b_is e = λ vanishes. cc

        limit_of : (o : Option ℚ) (w v x : ℚ) → option_map (λ l. (l -ℚ w) /ℚ v) o ≡ Some x → (l : ℚ) × (o ≡ Some l)
        limit_of None w v x e = cc
        limit_of (Some l) w v x e = (l, refl)

        pub run_pivot : (by : BlockingVariable) → Some by ≡ blocking_variable_of p z d m.up → d by.p ≢ zero_ℚ
        run_pivot by stops vanishes =
            let at = some_stops by (blocking_variable p z (motion d m.up)) (sym stops) in
            let first = blocking_variable_some p z (motion d m.up) at.0 at.1 in
            let reach = reaches_limit (step_length p z (motion d m.up) at.0) (step_length p z (motion d m.up) at.0) (first.1 at.0 first.0) in
            let there = limit_of (limit_ahead p (motion d m.up) at.0) (z at.0) (motion d m.up at.0) reach.0 reach.1 in
            let same : d at.0 ≡ zero_ℚ = ap (λ (b : BlockingVariable). d b.p) at.2 ∙ vanishes in
            moves_ahead (lower_of p at.0) (upper_of p at.0) (motion d m.up at.0) there.0 (lt_ℚ zero_ℚ (motion d m.up at.0))
            (lt_ℚ (motion d m.up at.0) zero_ℚ) refl refl there.1
            (ap (signed m.up) same ∙ signed_zero m.up)

        pub run_on : (by : BlockingVariable) (left : ℕ) → Some by ≡ blocking_variable_of p z d m.up → 1 ≤ left → MovesOn p s d m.q by left
        run_on by left stops was_left = record {
          enters = improve_enters;
          moves = run_move by stops;
          nonbasic = improve_nonbasic;
          direction = direction;
          pivot = run_pivot by stops;
          step = record { point = z; is_point = point; is_step = run_step by stops };
          was_left = was_left;
        }

-- what is found to lower a quantity is a variable
pub entering_within : (p : LinearProgram) (s : List Status) (f : Vector) (q : ℕ) → Some q ≡ entering p s f → IsVariable p.matrix q
entering_within p s f q e = let found = find_some (lowers p s f) (size p.matrix) 1 q (sym e) in (found.low, omega (arith, found.high))

-- the variable whose price is wrong, with the way in which it moves
pub some_improves : (p : LinearProgram) (s : List Status) (y : Vector) (q : ℕ) (m : EnteringVariable) → Some q ≡ entering p s (worth_by p y) →
    m ≡ moved_by p y q → Some m ≡ entering_variable_by p s y
some_improves p s y q m found is = ap (λ (x : EnteringVariable). Some x) is ∙ ap (option_map (moved_by p y)) found

-- how the price of q says which way it moves
pub moved_at : (p : LinearProgram) (y : Vector) (min up : Bool) (q : ℕ) → ((v : ℚ) → for_min p.sense v ≡ signed min v) → up ≡ lt_ℚ (signed min (y q)) zero_ℚ →
    moved_by p y q ≡ record { q = q; up = up }
moved_at p y min up q is up_is = ap (λ (b : Bool). record { q = q; up = b }) (ap (λ x. lt_ℚ x zero_ℚ) (is (y q)) ∙ sym up_is)
