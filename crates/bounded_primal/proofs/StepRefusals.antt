-- From a refused operation of a step to evidence of the call.
use Rattle.std.proofs.Common.{◌≡◌, ◌≢◌, ℕ, inl, List, ◌∷◌, true, false, refl, sym, ◌∙◌, ap, subst, arith}
use Rattle.std.specs.Prelude.{Option, Some, None, Bool, IsTrue, ◌||◌}
use Rattle.exact_values.specs.Rational.{ℚ, zero_ℚ, ◌-ℚ◌, ◌*ℚ◌, ◌/ℚ◌}
use Rattle.lp_definitions.specs.LinearProgram.{Matrix, LinearProgram, Vector, IsVariable, with_change}
use Rattle.lp_definitions.specs.Basis.{Basics, basics_of, exchanged, IsBasis, IsNonbasic, IsNonsingular, IsDirectionOf, IsPointOf, Tableau, IsTableau}
use Rattle.lp_definitions.specs.Waypoints.{KeepsWaypoints, waypoint}
use Rattle.lp_definitions.specs.RatesEvidence.{Refuses, ExchangeRefused, ExchangeFormula, f1, f2, f3, f4, f5}
use Rattle.lp_definitions.specs.declared.Change.{Change}
use Rattle.lp_definitions.specs.declared.Evidence.{Evidence}
use Rattle.lp_definitions.specs.declared.Status.{Status}
use Rattle.frac128.specs.declared.Op.TheVariants.{Mul, Add}
use Rattle.lp_model.specs.RatesCalls.{IfOverflow}
use Rattle.lp_model.specs.declared.Stop.{Stop}
use Rattle.lp_model.proofs.Stops.{IfOverflow-map}
use Rattle.lp_laws.proofs.Values.{clash}
use Rattle.lp_laws.proofs.WaypointLaws.{Covers-insert, kept_within, within_itself}
use Rattle.lp_laws.proofs.Uniqueness.{one_direction}
use Rattle.simplex_definitions.specs.Formulas.{MoveFormula, f8, f9, IsStepTo}
use Rattle.simplex_definitions.specs.Statements.{Primal, belongs, is_between}
use Rattle.simplex_definitions.specs.Evidence.{ShowsRefusal, by_move, names_waypoint}
use Rattle.basis_values.specs.Calls.{HasRates, StopsAt, job_of}
use Rattle.bounded_primal.specs.KeptPoints.{has_limit}
use Rattle.bounded_primal.specs.Moves.{IsStepBy, StepRefused}
use Rattle.bounded_primal.specs.Steps.{MovedRefused, of_product, of_sum, SomeMovedRefused}
use Rattle.bounded_primal.specs.declared.moves.BlockingVariable.{BlockingVariable}
use Rattle.basis_values.proofs.Existence.{rates_exist}
use Rattle.basis_values.proofs.Refusals.{IsTableau-changed, no_parameter}
use Rattle.basis_values.proofs.RatesStops.{stops_by_exchange, keeps_at}
use Rattle.bounded_primal.proofs.StepFacts.{ReachesLimit, reaches}

-- the formulas of a move name no waypoint, and know of no change row
module _ (p : LinearProgram) (s : List Status) (t : Tableau) (to : Status) (e : Evidence) where
  IsStepTo-changed : (c : Change) (r q : ℕ) (step : ℚ) → IsStepTo p s t r q to step → IsStepTo (with_change p c) s t r q to step
  IsStepTo-changed c r q step h = record {
    limit = h.limit;
    is_limit = h.is_limit;
    is_variable = h.is_variable;
    is_nonbasic = h.is_nonbasic;
    moves = h.moves;
    is_step = h.is_step;
  }

  MoveFormula-changed : (c : Change) → MoveFormula p s t to e → MoveFormula (with_change p c) s t to e
  MoveFormula-changed c (f8 r q i step names step_to is refused) = f8 r q i step names (IsStepTo-changed c r q step step_to) is refused
  MoveFormula-changed c (f9 r q i step names step_to is refused) = f9 r q i step names (IsStepTo-changed c r q step step_to) is refused

  move_names : MoveFormula p s t to e → names_waypoint e.formula ≡ false
  move_names (f8 r q i step names step_to is refused) = ap names_waypoint names.is_formula
  move_names (f9 r q i step names step_to is refused) = ap names_waypoint names.is_formula

  module _ (is_t : IsTableau p s t) (nonsingular : IsNonsingular p.matrix (basics_of s)) where
    shows_move : (o : Option Change) (Goes : Status → Type 0) (around : List Basics) → Goes to → e.way ≡ 0 → MoveFormula p s t to e →
        ShowsRefusal (job_of p o) Goes (basics_of s ∷ around) s (basics_of s) e
    shows_move None Goes around goes no_way formula = record {
      tableau = t;
      is_tableau = is_t;
      way_rate = t.rate;
      are_way_rates = is_t.are_rates;
      formula = by_move to goes formula;
      is_way = (nonsingular, inl (within_itself p.matrix (basics_of s)));
      reaches = λ h. absurd (clash (sym h ∙ move_names formula));
      no_way = λ h. (no_way, refl);
    }
    shows_move (Some c) Goes around goes no_way formula = record {
      tableau = t;
      is_tableau = IsTableau-changed p s t is_t nonsingular (record { row = c.row; theta = e.theta });
      way_rate = t.rate;
      are_way_rates = is_t.are_rates;
      formula = by_move to goes (MoveFormula-changed (record { row = c.row; theta = e.theta }) formula);
      is_way = (nonsingular, inl (within_itself p.matrix (basics_of s)));
      reaches = λ h. absurd (clash (sym h ∙ move_names formula));
      no_way = λ h. (no_way, refl);
    }

    stops_by_move : (Goes : Status → Type 0) (around after : List Basics) → Goes to → e.way ≡ 0 → e.theta ≡ zero_ℚ → MoveFormula p s t to e →
        StopsAt Goes p (basics_of s ∷ around) s after e
    stops_by_move Goes around after goes no_way no_theta formula = record {
      is_way = omega (arith, no_way);
      is_theta = no_parameter p p.change e.theta no_theta;
      shows =
          subst (λ (w : Basics). ShowsRefusal (job_of p p.change) Goes (basics_of s ∷ around) s w e) (sym (ap (waypoint (basics_of s) after) no_way))
          (shows_move p.change Goes around goes no_way formula);
    }

-- formula 8 or 9 of the step
module _ (p : LinearProgram) (s : List Status) (z d : Vector) (q : ℕ) (by : BlockingVariable) (basis : IsBasis p s) (nonsingular : IsNonsingular p.matrix
    (basics_of s))
    (out : IsNonbasic p.matrix (basics_of s) q)
    (direction : IsDirectionOf p.matrix (basics_of s) q d) (moves : d by.p ≢ zero_ℚ) (step : IsStepBy p s z d q by) (point : IsPointOf p s z)
    (e : Evidence) where
  tableau : Tableau
  tableau = record { point = z; rate = (rates_exist p.matrix (basics_of s) nonsingular).0 }

  at_q : (k : ℕ) → IsVariable p.matrix k → (rates_exist p.matrix (basics_of s) nonsingular).0 k q ≡ d k
  at_q k is =
      one_direction p.matrix (basics_of s) q (λ i. (rates_exist p.matrix (basics_of s) nonsingular).0 i q) d nonsingular
      ((rates_exist p.matrix (basics_of s) nonsingular).1 q out) direction k is

  there : ReachesLimit p z d by
  there = reaches p s z d q by basis nonsingular out direction moves step

  is_step_to : IsStepTo p s tableau by.p q by.to by.step
  unfolding tableau
  is_step_to = record {
    limit = there.limit;
    is_limit = there.is_limit;
    is_variable = there.is_variable;
    is_nonbasic = out;
    moves = λ vanishes. moves (sym (at_q by.p there.is_variable) ∙ vanishes);
    is_step = there.is_step ∙ ap (λ x. (there.limit -ℚ z by.p) /ℚ x) (sym (at_q by.p there.is_variable));
  }

  -- the evidence has a number of the step, and tells of no waypoint and no parameter
  record IsOfStep : Type 0 where
    no_way : e.way ≡ 0
    no_theta : e.theta ≡ zero_ℚ
    formula : MoveFormula p s tableau by.to e
    belongs_to : belongs (Primal p) e ≡ true
    is_p : e.p ≡ by.p
    is_q : e.q ≡ q

  of_step : (i : ℕ) → IsVariable p.matrix i → MovedRefused by.step (d i) (z i) by.p q i e → IsOfStep
  unfolding tableau
  of_step i is (of_product h) = record {
    no_way = h.no_way;
    no_theta = h.is_theta;
    formula = f8 by.p q i by.step h.names is_step_to is (subst (λ (x : ℚ). Refuses e Mul by.step x) (sym (at_q i is)) h.refuses);
    belongs_to = rw h.names.is_formula refl;
    is_p = h.names.is_p;
    is_q = h.names.is_q;
  }
  of_step i is (of_sum h) = record {
    no_way = h.no_way;
    no_theta = h.is_theta;
    formula = f9 by.p q i by.step h.names is_step_to is (subst (λ (x : ℚ). Refuses e Add (z i) (by.step *ℚ x)) (sym (at_q i is)) h.refuses);
    belongs_to = rw h.names.is_formula refl;
    is_p = h.names.is_p;
    is_q = h.names.is_q;
  }

  -- for a vector v that has the point's values where they are needed
  pub move_refused : (v : Vector) (all : Bool) → ((k : ℕ) → IsVariable p.matrix k → IsTrue (all || has_limit p k) → v k ≡ z k) → (before after : List Basics) →
      SomeMovedRefused p all by d v q e → StepRefused p before s q by after e
  unfolding tableau
  move_refused v all same before after some =
      let h = of_step some.i some.is (subst (λ (x : ℚ). MovedRefused by.step (d some.i) x by.p q some.i e) (same some.i some.is some.needed) some.refused) in
      record {
        of_call = h.belongs_to;
        enters = λ _. h.is_q;
        leaves = λ _. h.is_p;
        stops =
            stops_by_move p s tableau by.to e (record { is_point = point; are_rates = (rates_exist p.matrix (basics_of s) nonsingular).1 }) nonsingular
            (λ to. to ≡ by.to) (exchanged (basics_of s) by.p q ∷ before) after refl h.no_way h.no_theta h.formula;
      }

-- the numbers of the formulas of an exchange
module _ (a : Matrix) (w : Basics) (rate : ℕ → ℕ → ℚ) (e : Evidence) where
  record IsExchangeNumber : Type 0 where
    belongs_to : (p : LinearProgram) → belongs (Primal p) e ≡ true
    no_move : is_between 7 9 e.formula ≡ false
    no_step : is_between 8 9 e.formula ≡ false

  exchange_number : ExchangeFormula a w rate e → IsExchangeNumber
  exchange_number (f1 p q j names ex out refused) =
      record { belongs_to = λ p. rw names.is_formula refl; no_move = rw names.is_formula refl; no_step = rw names.is_formula refl }
  exchange_number (f2 p q i j names ex basic other out refused) =
      record { belongs_to = λ p. rw names.is_formula refl; no_move = rw names.is_formula refl; no_step = rw names.is_formula refl }
  exchange_number (f3 p q i j names ex basic other out refused) =
      record { belongs_to = λ p. rw names.is_formula refl; no_move = rw names.is_formula refl; no_step = rw names.is_formula refl }
  exchange_number (f4 p q names ex refused) =
      record { belongs_to = λ p. rw names.is_formula refl; no_move = rw names.is_formula refl; no_step = rw names.is_formula refl }
  exchange_number (f5 p q i names ex basic other refused) =
      record { belongs_to = λ p. rw names.is_formula refl; no_move = rw names.is_formula refl; no_step = rw names.is_formula refl }

-- a refused exchange
module _ (p : LinearProgram) (s : List Status) (q : ℕ) (by : BlockingVariable) (basis : IsBasis p s) (nonsingular : IsNonsingular p.matrix (basics_of s))
    (before after : List Basics) (keeps : KeepsWaypoints p.matrix (basics_of s) before (basics_of s) after) (e : Evidence) where
  exchange_stops : ExchangeRefused p.matrix (basics_of s ∷ exchanged (basics_of s) by.p q ∷ before) (basics_of s) after e → StepRefused p before s q by after e
  exchange_stops h =
      let number = exchange_number p.matrix h.way h.rate e h.formula in
      record {
        of_call = number.belongs_to p;
        enters = λ is. absurd (clash (sym is ∙ number.no_move));
        leaves = λ is. absurd (clash (sym is ∙ number.no_step));
        stops =
            stops_by_exchange p s basis nonsingular (λ to. to ≡ by.to) (basics_of s ∷ exchanged (basics_of s) by.p q ∷ before) after
            (inl (within_itself p.matrix (basics_of s)))
            (Covers-insert p.matrix after (basics_of s) (exchanged (basics_of s) by.p q) before (kept_within p.matrix (basics_of s) before after keeps)) e h;
      }

pub exchange_refused : (p : LinearProgram) (s : List Status) (q : ℕ) (by : BlockingVariable) (a : Matrix) (b c : Basics) (before after : List Basics)
    (stop : Stop) →
    HasRates a b p s → c ≡ b → KeepsWaypoints a b before c after →
    IfOverflow stop (ExchangeRefused a (b ∷ exchanged b by.p q ∷ before) b after) → IfOverflow stop (StepRefused p before s q by after)
exchange_refused p s q by a b c before after stop has same keeps h =
    IfOverflow-map stop (λ e x. exchange_stops p s q by has.is_basis has.nonsingular before after (keeps_at p s a b c before after has same keeps) e x)
    (rw (has.same_matrix, has.same_basics) at h)

pub keeps_to : (p : LinearProgram) (s next : List Status) (a : Matrix) (b c : Basics) (ways now : List Basics) → HasRates a b p s → c ≡ basics_of next →
    KeepsWaypoints a b ways c now → KeepsWaypoints p.matrix (basics_of s) ways (basics_of next) now
keeps_to p s next a b c ways now has is keeps = rw (is, has.same_matrix, has.same_basics) at keeps
