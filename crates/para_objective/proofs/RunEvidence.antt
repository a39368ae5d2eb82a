-- Evidence of the calls at a basis is evidence of the run.
use Rattle.std.proofs.Common.{zero, suc, ◌≡◌, ◌≢◌, ℕ, ◌≤◌, inl, List, [], ◌∷◌, Bool, true, false, refl, sym, ◌∙◌, ap, subst, arith}
use Rattle.std.specs.Prelude.{Option, Some, None, IsTrue, not, ◌&&◌, ◌||◌, nat_eq, Contains}
use Rattle.exact_values.specs.Rational.{ℚ, zero_ℚ}
use Rattle.lp_definitions.specs.LinearProgram.{LinearProgram, Vector}
use Rattle.lp_definitions.specs.Basis.{Basics, basics_of}
use Rattle.lp_definitions.specs.Waypoints.{waypoint}
use Rattle.lp_definitions.specs.declared.Change.{Change}
use Rattle.lp_definitions.specs.declared.Evidence.{Evidence}
use Rattle.lp_definitions.specs.declared.Status.{Status}
use Rattle.lp_definitions.specs.declared.Status.TheVariants.{Bs}
use Rattle.lp_laws.proofs.Values.{clash}
use Rattle.lp_laws.proofs.Statuses.{basics_of-replaced}
use Rattle.lp_laws.proofs.WaypointLaws.{within_itself}
use Rattle.simplex_definitions.specs.Statements.{Paraobj, is_between, thetas_of, EntersAt, MovesAt}
use Rattle.simplex_definitions.specs.Evidence.{ShowsRefusal}
use Rattle.basis_values.specs.Calls.{StopsAt, job_of, is_of_point, PointRefused}
use Rattle.bounded_primal.specs.Moves.{BlockingVariableRefused, StepRefused, move_by}
use Rattle.bounded_primal.specs.declared.moves.BlockingVariable.{BlockingVariable}
use Rattle.bounded_primal.proofs.TurnEvidence.{step_brings_not}
use Rattle.basis_values.proofs.Covered.{stops_covered}
use Rattle.bounded_primal.specs.Calls.{EvidenceHere}
use Rattle.bounded_primal.proofs.StatementEvidence.{evidence_here, evidence_ahead, evidence_own, step_number, step_moves}
use Rattle.para_objective.specs.Reach.{EndRefused}

-- ---- the numbers of formulas

module _ (n term : ℕ) where
  point_number : (is_between 1 5 n || is_between 10 12 n) ≡ true → is_between 1 12 n ≡ true
  point_number h = grind arith

  point_moves_not : (is_between 1 5 n || is_between 10 12 n) ≡ true → is_between 7 9 n ≡ false
  point_moves_not h = grind arith

  point_brings_not : (is_between 1 5 n || is_between 10 12 n) ≡ true → nat_eq n 14 ≡ false
  point_brings_not h = grind arith

  point_belongs : (is_between 1 5 n || is_between 10 12 n) ≡ true →
      ((is_between 1 13 n || is_between 16 17 n) && (not (nat_eq n 6) || not (nat_eq term 3))) ≡ true
  point_belongs h = grind arith

  blocking_variable_number : ((nat_eq n 6 && not (nat_eq term 3)) || nat_eq n 7) ≡ true → is_between 1 12 n ≡ true
  blocking_variable_number h = grind arith

  blocking_variable_moves : ((nat_eq n 6 && not (nat_eq term 3)) || nat_eq n 7) ≡ true → is_between 7 9 n ≡ true → nat_eq n 7 ≡ true
  blocking_variable_moves h is = grind arith

  blocking_variable_brings_not : ((nat_eq n 6 && not (nat_eq term 3)) || nat_eq n 7) ≡ true → nat_eq n 14 ≡ false
  blocking_variable_brings_not h = grind arith

  blocking_variable_belongs : ((nat_eq n 6 && not (nat_eq term 3)) || nat_eq n 7) ≡ true →
      ((is_between 1 13 n || is_between 16 17 n) && (not (nat_eq n 6) || not (nat_eq term 3))) ≡ true
  blocking_variable_belongs h = grind arith

  step_belongs : (is_between 1 12 n && (not (nat_eq n 6) || not (nat_eq term 3))) ≡ true →
      ((is_between 1 13 n || is_between 16 17 n) && (not (nat_eq n 6) || not (nat_eq term 3))) ≡ true
  step_belongs h = grind arith

-- ---- a call on p, which has no change row, in a run that changes row h

module _ (p : LinearProgram) (h : ℕ) (from : ℚ) (no_change : p.change ≡ None) (s : List Status) (left : ℕ) (before now : List Basics) (e : Evidence) where
  -- the evidence names the value 0
  zero_theta : (Goes : Status → Type 0) (around : List Basics) → StopsAt Goes p around s now e → (ends : List ℚ) →
      Contains (thetas_of (Paraobj p h from) ends) e.theta
  zero_theta Goes around stops ends = first (subst (λ (c : Option Change). Contains (thetas_of (job_of p c) []) e.theta) no_change stops.is_theta)
    where
      first : Contains (zero_ℚ ∷ []) e.theta → Contains (zero_ℚ ∷ from ∷ ends) e.theta
      first (zero, below, is) = (0, omega arith, is)
      first (suc k, below, is) = absurd (omega (arith, below))

  -- a point, prices, and the rates of a row or a column
  pub of_point : (breakpoint : Option ℚ) → PointRefused p before s now e → EvidenceHere (Paraobj p h from) p.matrix breakpoint left s before now e
  of_point breakpoint r =
      let number : (is_between 1 5 e.formula || is_between 10 12 e.formula) ≡ true =
      subst (λ (c : Option Change). IsTrue (is_of_point c e.formula)) no_change r.of_call in
      evidence_here p (Some (record { row = h; theta = e.theta })) (Paraobj p h from) s e refl
      (point_number e.formula e.term number) no_change breakpoint left before now
      (zero_theta (λ to. ⊥) (basics_of s ∷ before) r.stops)
      (record {
        enters = λ is. absurd (clash (sym is ∙ point_moves_not e.formula e.term number));
        brings = λ is. absurd (clash (sym is ∙ point_brings_not e.formula e.term number));
        steps = λ is. tt;
      })
      (point_belongs e.formula e.term number) (λ to. ⊥) (λ to none is. absurd none) r.stops

  -- an end of an interval
  pub of_end : (breakpoint : Option ℚ) → EndRefused p h s e → EvidenceHere (Paraobj p h from) p.matrix breakpoint left s before now e
  of_end breakpoint r =
      evidence_own (Paraobj p h from) p.matrix s e breakpoint left before now (λ ends. (0, omega arith, sym r.no_theta))
      (record {
        enters = λ is. absurd (clash (sym is ∙ ap (is_between 7 9) r.number));
        brings = λ is. absurd (clash (sym is ∙ ap (λ n. nat_eq n 14) r.number));
        steps = λ is. tt;
      })
      (r.of_run from) r.no_way (r.shows from)

  module _ (theta : ℚ) (q : ℕ) (enters : EntersAt (Paraobj p h from) (Some theta) s q) where
    -- the search for what stops q
    pub of_blocking_variable : (z d : Vector) (up : Bool) → BlockingVariableRefused p s z d q up e → EvidenceHere (Paraobj p h from) p.matrix (Some theta)
        left s before now e
    of_blocking_variable z d up r =
        let bound : e.way ≤ 0 = r.stops.is_way in
        let no_way : e.way ≡ 0 = omega (arith, bound) in
        let stops : StopsAt (λ to. ⊥) p (basics_of s ∷ []) s now e = record {
          is_way = omega (arith, no_way);
          is_theta = r.stops.is_theta;
          shows =
              subst (λ (w : Basics). ShowsRefusal (job_of p p.change) (λ to. ⊥) (basics_of s ∷ []) s w e)
              (ap (waypoint (basics_of s) []) no_way ∙ sym (ap (waypoint (basics_of s) now) no_way)) r.stops.shows;
        } in
        let wider = stops_covered (λ to. ⊥) p (basics_of s ∷ []) (basics_of s ∷ before) s now e (inl (within_itself p.matrix (basics_of s)), tt) stops in
        evidence_here p (Some (record { row = h; theta = e.theta })) (Paraobj p h from) s e refl (blocking_variable_number e.formula e.term r.of_call) no_change
        (Some theta) left before now
        (zero_theta (λ to. ⊥) (basics_of s ∷ before) wider)
        (record {
          enters = λ is. subst (EntersAt (Paraobj p h from) (Some theta) s) (sym (r.enters (blocking_variable_moves e.formula e.term r.of_call is))) enters;
          brings = λ is. absurd (clash (sym is ∙ blocking_variable_brings_not e.formula e.term r.of_call));
          steps = λ is. tt;
        })
        (blocking_variable_belongs e.formula e.term r.of_call) (λ to. ⊥) (λ to none is. absurd none) wider

    -- the step of q by what stops it, with the basis that it leads to ahead
    pub of_step : (by : BlockingVariable) → MovesAt (Paraobj p h from) (Some theta) s (move_by q by) → by.to ≢ Bs → 1 ≤ left → StepRefused p before s q by now
        e →
        EvidenceHere (Paraobj p h from) p.matrix (Some theta) left s before now e
    of_step by moves apart one_left r =
        evidence_ahead p (Some (record { row = h; theta = e.theta })) (Paraobj p h from) s e refl (step_number e.formula e.term r.of_call) no_change
        (Some theta) left before now
        (zero_theta (λ to. to ≡ by.to) (basics_of s ∷ _ ∷ before) r.stops)
        (record {
          enters = λ is. subst (EntersAt (Paraobj p h from) (Some theta) s) (sym (r.enters is)) enters;
          brings = λ is. absurd (clash (sym is ∙ step_brings_not e.formula e.term r.of_call));
          steps = λ is. tt;
        })
        (step_belongs e.formula e.term r.of_call) (λ to. to ≡ by.to)
        (λ to same is. record {
          move = move_by q by;
          moves = moves;
          enters = sym (r.enters (step_moves e.formula is));
          leaves = sym
              (r.leaves is);
          goes_to = sym same;
        })
        (move_by q by) moves (basics_of-replaced s by.p q by.to apart) one_left r.stops
