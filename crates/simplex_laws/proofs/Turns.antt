-- What is done at a basis, by the rule that does it.
use Rattle.std.proofs.Common.{◌≡◌, ℕ, refl, sym, ap, subst, ◌∙◌, List}
use Rattle.std.specs.Prelude.{Option, Some, None, if◌then◌else◌}
use Rattle.exact_values.specs.Rational.{ℚ}
use Rattle.lp_definitions.specs.LinearProgram.{LinearProgram, Vector}
use Rattle.lp_definitions.specs.Basis.{Tableau, basics_of, price_at}
use Rattle.lp_definitions.specs.declared.Status.{Status}
use Rattle.lp_definitions.specs.declared.Status.TheVariants.{Ll, Ul}
use Rattle.simplex_definitions.specs.Moves.{is_below, goes_up, blocking_variable}
use Rattle.simplex_definitions.specs.Path.{Move, Turn, Moves, Ends, EndsOptimal, EndsCrossed, EndsInfeasible, EndsUnbounded, listed, ray_of, speeds, stopped_by}
use Rattle.simplex_definitions.specs.Path.{crossed, outside, worth_rate, entering_variable, restore_feasibility, run_until, improve, turn_for, turn}

module _ (p : LinearProgram) (s : List Status) (t : Tableau) where
  -- the speeds at which q improves the objective
  abbrev pub improving : ℕ → Vector
  improving q = speeds t.rate (goes_up (worth_rate p s t) q) q

  pub record IsCrossedTurn (u : Turn) (k : ℕ) : Type 0 where
    pub found : crossed p s t ≡ Some k
    pub gives : u ≡ Ends (EndsCrossed k)

  -- the basic r is outside its limits
  pub record IsFirstPhase (r : ℕ) : Type 0 where
    pub uncrossed : crossed p s t ≡ None
    pub broken : outside p s t ≡ Some r

  pub record IsBroughtTurn (u : Turn) (r q : ℕ) : Type 0 where
    pub phase : IsFirstPhase r
    pub moves : entering_variable p s t (Some r) ≡ Some q
    pub gives : u ≡ Moves (record { enters = q; leaves = r; to = if is_below p t.point r then Ll else Ul })

  pub record IsInfeasibleTurn (u : Turn) (r : ℕ) : Type 0 where
    pub phase : IsFirstPhase r
    pub moves : entering_variable p s t (Some r) ≡ None
    pub gives : u ≡ Ends (EndsInfeasible (listed p.matrix (ray_of (basics_of s) t.rate r (is_below p t.point r))))

  -- no basic is outside its limits
  pub record IsSecondPhase : Type 0 where
    pub uncrossed : crossed p s t ≡ None
    pub unbroken : outside p s t ≡ None

  pub record IsStoppedTurn (u : Turn) (q k : ℕ) : Type 0 where
    pub phase : IsSecondPhase
    pub moves : entering_variable p s t None ≡ Some q
    pub stops : blocking_variable p t.point (improving q) ≡ Some k
    pub gives : u ≡ Moves (stopped_by q (improving q) k)

  pub record IsUnboundedTurn (u : Turn) (q : ℕ) : Type 0 where
    pub phase : IsSecondPhase
    pub moves : entering_variable p s t None ≡ Some q
    pub stops : blocking_variable p t.point (improving q) ≡ None
    pub gives : u ≡ Ends (EndsUnbounded (listed p.matrix t.point) (listed p.matrix (improving q)))

  pub record IsOptimalTurn (u : Turn) : Type 0 where
    pub phase : IsSecondPhase
    pub moves : entering_variable p s t None ≡ None
    pub gives : u ≡ Ends (EndsOptimal (listed p.matrix t.point) (listed p.matrix (price_at p (basics_of s) t.rate)))

  pub data Rule (u : Turn) : Type 0 where
    by_crossed : (k : ℕ) → IsCrossedTurn u k → Rule u
    by_brought : (r q : ℕ) → IsBroughtTurn u r q → Rule u
    by_infeasible : (r : ℕ) → IsInfeasibleTurn u r → Rule u
    by_stopped : (q k : ℕ) → IsStoppedTurn u q k → Rule u
    by_unbounded : (q : ℕ) → IsUnboundedTurn u q → Rule u
    by_optimal : IsOptimalTurn u → Rule u

  of_run : (q : ℕ) → IsSecondPhase → entering_variable p s t None ≡ Some q → (o : Option ℕ) → blocking_variable p t.point (improving q) ≡ o →
      Rule (run_until p s t q (improving q) o)
  of_run q phase moves (Some k) stops = by_stopped q k (record { phase = phase; moves = moves; stops = stops; gives = refl })
  of_run q phase moves None stops = by_unbounded q (record { phase = phase; moves = moves; stops = stops; gives = refl })

  of_improve : IsSecondPhase → (o : Option ℕ) → entering_variable p s t None ≡ o → Rule (improve p s t o)
  of_improve phase (Some q) moves = of_run q phase moves (blocking_variable p t.point (improving q)) refl
  of_improve phase None moves = by_optimal (record { phase = phase; moves = moves; gives = refl })

  of_back : (r : ℕ) → IsFirstPhase r → (o : Option ℕ) → entering_variable p s t (Some r) ≡ o → Rule (restore_feasibility p s t r o)
  of_back r phase (Some q) moves = by_brought r q (record { phase = phase; moves = moves; gives = refl })
  of_back r phase None moves = by_infeasible r (record { phase = phase; moves = moves; gives = refl })

  of_turn : (c o : Option ℕ) → crossed p s t ≡ c → outside p s t ≡ o → Rule (turn_for p s t c o)
  of_turn (Some k) o found broken = by_crossed k (record { found = found; gives = refl })
  of_turn None (Some r) found broken = of_back r (record { uncrossed = found; broken = broken }) (entering_variable p s t (Some r)) refl
  of_turn None None found broken = of_improve (record { uncrossed = found; unbroken = broken }) (entering_variable p s t None) refl

  pub rule : Rule (turn p s t)
  unfolding turn
  rule = of_turn (crossed p s t) (outside p s t) refl refl

  pub rule_of : (u : Turn) → turn p s t ≡ u → Rule u
  rule_of u e = subst Rule e rule

  -- the ends, each by the only rule that gives it
  pub crossed_turn : (k : ℕ) → Rule (Ends (EndsCrossed k)) → crossed p s t ≡ Some k
  crossed_turn k (by_crossed j h) = let same : k ≡ j = (let e = h.gives in cc) in h.found ∙ ap (λ n. Some n) (sym same)
  crossed_turn k (by_brought r q h) = let e = h.gives in cc
  crossed_turn k (by_infeasible r h) = let e = h.gives in cc
  crossed_turn k (by_stopped q j h) = let e = h.gives in cc
  crossed_turn k (by_unbounded q h) = let e = h.gives in cc
  crossed_turn k (by_optimal h) = let e = h.gives in cc

  pub infeasible_turn : (w : List ℚ) → Rule (Ends (EndsInfeasible w)) → (r : ℕ) × IsInfeasibleTurn (Ends (EndsInfeasible w)) r
  infeasible_turn w (by_crossed j h) = let e = h.gives in cc
  infeasible_turn w (by_brought r q h) = let e = h.gives in cc
  infeasible_turn w (by_infeasible r h) = (r, h)
  infeasible_turn w (by_stopped q j h) = let e = h.gives in cc
  infeasible_turn w (by_unbounded q h) = let e = h.gives in cc
  infeasible_turn w (by_optimal h) = let e = h.gives in cc

  pub unbounded_turn : (z d : List ℚ) → Rule (Ends (EndsUnbounded z d)) → (q : ℕ) × IsUnboundedTurn (Ends (EndsUnbounded z d)) q
  unbounded_turn z d (by_crossed j h) = let e = h.gives in cc
  unbounded_turn z d (by_brought r q h) = let e = h.gives in cc
  unbounded_turn z d (by_infeasible r h) = let e = h.gives in cc
  unbounded_turn z d (by_stopped q j h) = let e = h.gives in cc
  unbounded_turn z d (by_unbounded q h) = (q, h)
  unbounded_turn z d (by_optimal h) = let e = h.gives in cc

  pub optimal_turn : (z y : List ℚ) → Rule (Ends (EndsOptimal z y)) → IsOptimalTurn (Ends (EndsOptimal z y))
  optimal_turn z y (by_crossed j h) = let e = h.gives in cc
  optimal_turn z y (by_brought r q h) = let e = h.gives in cc
  optimal_turn z y (by_infeasible r h) = let e = h.gives in cc
  optimal_turn z y (by_stopped q j h) = let e = h.gives in cc
  optimal_turn z y (by_unbounded q h) = let e = h.gives in cc
  optimal_turn z y (by_optimal h) = h

  -- a move, by the phase that makes it
  pub data MovingRule (m : Move) : Type 0 where
    brings : (r q : ℕ) → IsBroughtTurn (Moves m) r q → MovingRule m
    stops : (q k : ℕ) → IsStoppedTurn (Moves m) q k → MovingRule m

  pub moving_turn : (m : Move) → Rule (Moves m) → MovingRule m
  moving_turn m (by_crossed j h) = let e = h.gives in cc
  moving_turn m (by_brought r q h) = brings r q h
  moving_turn m (by_infeasible r h) = let e = h.gives in cc
  moving_turn m (by_stopped q j h) = stops q j h
  moving_turn m (by_unbounded q h) = let e = h.gives in cc
  moving_turn m (by_optimal h) = let e = h.gives in cc
