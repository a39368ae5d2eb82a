-- No closed walk goes over visits of the path.
use Rattle.std.proofs.Common.{◌≡◌, ◌≢◌, ℕ, ◌<◌, ◌⊎◌, inl, inr, Bool, List, [], ◌∷◌, pos, refl, sym, ap, subst, ◌∙◌, arith}
use Rattle.std.specs.Prelude.{Some}
use Rattle.exact_values.specs.Rational.{ℚ, zero_ℚ, ◌+ℚ◌, ◌*ℚ◌, ◌≤ℚ◌}
use Rattle.exact_values.proofs.Ring.{by_ring2, ◌⊕◌, ◌⊗◌, ◌≐◌, number}
use Rattle.exact_values.proofs.Order.{le_of_eq, le_trans, lt_not_le}
use Rattle.lp_definitions.specs.LinearProgram.{LinearProgram, Vector, size, IsVariable, IsLinearProgram, lower_of, upper_of, for_min, objective_value}
use Rattle.lp_definitions.specs.Solutions.{IsFeasible}
use Rattle.lp_definitions.specs.Basis.{status_of, IsPointOf}
use Rattle.lp_definitions.specs.declared.Status.{Status}
use Rattle.lp_definitions.specs.declared.Status.TheVariants.{Bs}
use Rattle.lp_laws.specs.Vectors.{along}
use Rattle.lp_laws.proofs.Uniqueness.{one_point}
use Rattle.simplex_definitions.specs.Moves.{is_below, lowers, step_length}
use Rattle.simplex_definitions.specs.Path.{Moves, after, IsStep, stopped_by, excess_rate, turn}
use Rattle.simplex_laws.specs.Laws.{IsNonsingularBasis, IsNoWorse}
use Rattle.simplex_laws.proofs.Numbered.{find_some}
use Rattle.simplex_laws.proofs.Turns.{IsBroughtTurn, IsStoppedTurn, MovingRule, brings, stops, improving, moving_turn, rule_of}
use Rattle.simplex_laws.proofs.Ends.{feasible, IsFeasible-same, low_of, high_of}
use Rattle.simplex_laws.proofs.UnboundedEnds.{objective_value-same}
use Rattle.simplex_laws.proofs.Rays.{Breaks, breaks_lower, breaks_upper, broken_basic, broken_limit}
use Rattle.simplex_laws.proofs.Steps.{step_leads}
use Rattle.simplex_laws.proofs.Second.{feasible_step}
use Rattle.termination_laws.proofs.Walks.{Visit, In, IsWalk, Turned, turn_to, IsVisitBy, visit_step}
use Rattle.termination_laws.proofs.Fickle.{Exchanges, FicklePair, fickle_pair}
use Rattle.termination_laws.proofs.Runs.{IsRun, run_of, move_is, entered, k_is, run_no_worse, no_length, stopped_leaves, entering_variable_enters}
use Rattle.termination_laws.proofs.Runs.{reached_apart}
use Rattle.termination_laws.proofs.Numbers.{find_before}
use Rattle.termination_laws.proofs.Returns.{IsReturning, no_return_cycle}
use Rattle.termination_laws.proofs.SecondClash.{second_clash}

-- the path makes this move at this basis
abbrev pub IsVisit : LinearProgram → Visit → Type 0
IsVisit p = IsVisitBy turn p (IsNonsingularBasis p)

-- it brings r back by q, or it improves the objective by q until k stops that
record IsFirst (p : LinearProgram) (v : Visit) : Type 0 where
  r : ℕ
  q : ℕ
  turn : IsBroughtTurn p v.basis v.tableau (Moves v.move) r q

record IsSecond (p : LinearProgram) (v : Visit) : Type 0 where
  q : ℕ
  k : ℕ
  turn : IsStoppedTurn p v.basis v.tableau (Moves v.move) q k

phase_of : (p : LinearProgram) (v : Visit) → IsVisit p v → IsFirst p v ⊎ IsSecond p v
phase_of p v h = by_rule (moving_turn p v.basis v.tableau v.move (rule_of p v.basis v.tableau (Moves v.move) h.turns))
  where
    by_rule : MovingRule p v.basis v.tableau v.move → IsFirst p v ⊎ IsSecond p v
    by_rule (brings r q t) = inl (record { r = r; q = q; turn = t })
    by_rule (stops q k t) = inr (record { q = q; k = k; turn = t })

step_of : (p : LinearProgram) (v : Visit) → IsVisit p v → IsStep p v.basis (after v.basis v.move)
step_of p = visit_step turn p (IsNonsingularBasis p)

-- ---- the first phase

returning : (p : LinearProgram) (v : Visit) → IsVisit p v → IsFirst p v → IsReturning p v
returning p v h first =
    let e = first.turn.gives in
    let found =
    find_some (lowers p v.basis (excess_rate v.tableau.rate first.r (is_below p v.tableau.point first.r))) (size p.matrix) 1 first.q first.turn.moves in
    record {
      at = h.at;
      is_tableau = h.is_tableau;
      r = first.r;
      q = first.q;
      phase = first.turn.phase;
      is_q = (found.low, omega (arith, found.high));
      lowers_it = found.passes;
      gives = cc;
    }

no_first_cycle : (p : LinearProgram) (s : List Status) (v : Visit) (vs : List Visit) → IsWalk s (v ∷ vs) s → ((x : Visit) → In x (v ∷ vs) → IsVisit p x) →
    ((x : Visit) → In x (v ∷ vs) → IsFirst p x) → ⊥
unfolding returning
no_first_cycle p s v vs walk visits firsts =
    no_return_cycle p s v vs walk (λ x i. returning p x (visits x i) (firsts x i))
    (λ x y i j k is before out. inl
    (find_before (lowers p x.basis (excess_rate x.tableau.rate (firsts x i).r (is_below p x.tableau.point (firsts x i).r))) (size p.matrix) 1 (firsts x i).q
    (firsts x i).turn.moves k is.0 before))

-- ---- the second phase

module _ (p : LinearProgram) (v : Visit) (h : IsVisit p v) (second : IsSecond p v) where
  run : IsRun p v.basis v.tableau second.q second.k (after v.basis v.move)
  run = run_of p v.basis v.tableau h.at h.is_tableau v.move second.q second.k second.turn

  second_exchanges : run.length ≡ zero_ℚ → Exchanges p v
  second_exchanges none = record {
    basis = h.at.is_basis;
    enters_is =
        subst (λ m. IsVariable p.matrix m.enters) (sym is) (entered p v.basis v.tableau h.at h.is_tableau v.move second.q second.k second.turn).is_variable;
    leaves_is = subst (λ m. IsVariable p.matrix m.leaves) (sym is) (k_is p v.basis v.tableau h.at h.is_tableau v.move second.q second.k second.turn);
    enters =
        subst (λ m. status_of v.basis m.enters ≢ Bs) (sym is)
        (entering_variable_enters p v.basis v.tableau h.at h.is_tableau v.move second.q second.k second.turn at_once);
    leaves =
        subst (λ m. status_of v.basis m.leaves ≡ Bs) (sym is)
        (stopped_leaves p v.basis v.tableau h.at h.is_tableau v.move second.q second.k second.turn at_once);
    stands = subst (λ m. m.to ≢ Bs) (sym is) (reached_apart (improving p v.basis v.tableau second.q) second.k);
  }
    where
      is : v.move ≡ stopped_by second.q (improving p v.basis v.tableau second.q) second.k
      is = move_is p v.basis v.tableau h.at h.is_tableau v.move second.q second.k second.turn

      at_once : step_length p v.tableau.point (improving p v.basis v.tableau second.q) second.k ≡ Some zero_ℚ
      at_once = run.is_step_length ∙ ap (λ x. Some x) none

module _ (p : LinearProgram) (lawful : IsLinearProgram p) where
  abbrev worth : Vector → ℚ
  worth z = for_min p.sense (objective_value p z)

  same_worth : (s : List Status) → IsNonsingularBasis p s → (z w : Vector) → IsPointOf p s z → IsPointOf p s w → worth z ≡ worth w
  same_worth s at z w first second =
      ap (for_min p.sense) (objective_value-same p z w lawful (one_point p s z w at.is_basis.counted at.nonsingular first second))

  -- the visit's own point is that of any other tableau of its basis
  here : (s : List Status) (v : Visit) → v.basis ≡ s → IsVisit p v → IsPointOf p s v.tableau.point
  here s v is h = subst (λ b. IsPointOf p b v.tableau.point) is h.is_tableau.is_point

  leads : (v : Visit) → IsVisit p v → IsNonsingularBasis p (after v.basis v.move)
  leads v h = step_leads p v.basis (after v.basis v.move) h.at (step_of p v h)

  -- over steps of the second phase the objective is never made worse
  never_worse : (s end : List Status) (vs : List Visit) → IsNonsingularBasis p s → IsWalk s vs end → ((x : Visit) → In x vs → IsVisit p x) →
      ((x : Visit) → In x vs → IsSecond p x) →
      (z w : Vector) → IsPointOf p s z → IsPointOf p end w → worth w ≤ℚ worth z
  never_worse s end [] at walk visits seconds z w first last = le_of_eq (same_worth s at w z (subst (λ b. IsPointOf p b w) (sym walk) last) first)
  never_worse s end (v ∷ vs) at walk visits seconds z w first last =
      le_trans (never_worse (after v.basis v.move) end vs (leads v h) walk.1 (λ x i. visits x (inr i)) (λ x i. seconds x (inr i)) moved w r.point last)
      (le_trans (run_no_worse p v.basis v.tableau h.at h.is_tableau v.move second.q second.k second.turn r.length r.forward)
      (le_of_eq (same_worth s at v.tableau.point z (here s v walk.0 h) first)))
    where
      h : IsVisit p v
      h = visits v (inl refl)

      second : IsSecond p v
      second = seconds v (inl refl)

      r : IsRun p v.basis v.tableau second.q second.k (after v.basis v.move)
      r = run p v h second

      moved : Vector
      moved = along v.tableau.point r.length (improving p v.basis v.tableau second.q)

  -- so on a closed walk no step has a length
  still : (s : List Status) (vs : List Visit) → IsWalk s vs s → (visits : (x : Visit) → In x vs → IsVisit p x) →
      (seconds : (x : Visit) → In x vs → IsSecond p x) →
      (v : Visit) → (i : In v vs) → (run p v (visits v i) (seconds v i)).length ≡ zero_ℚ
  still s vs walk visits seconds v i =
      no_length p v.basis v.tableau h.at h.is_tableau v.move second.q second.k second.turn r.length r.forward
      (never_worse (after v.basis v.move) v.basis turned.others (leads v h) turned.walk (λ x j. visits x (turned.was_in x (inr j)))
      (λ x j. seconds x (turned.was_in x (inr j))) moved v.tableau.point r.point h.is_tableau.is_point)
    where
      h : IsVisit p v
      h = visits v i

      second : IsSecond p v
      second = seconds v i

      r : IsRun p v.basis v.tableau second.q second.k (after v.basis v.move)
      r = run p v h second

      moved : Vector
      moved = along v.tableau.point r.length (improving p v.basis v.tableau second.q)

      turned : Turned v vs
      turned = turn_to s v vs walk i

  -- and the point is the same throughout
  one_place_throughout : (s end : List Status) (vs : List Visit) → IsNonsingularBasis p s → IsWalk s vs end → (visits : (x : Visit) → In x vs → IsVisit p x) →
      (seconds : (x : Visit) → In x vs → IsSecond p x) →
      ((x : Visit) → (i : In x vs) → (run p x (visits x i) (seconds x i)).length ≡ zero_ℚ) → (z : Vector) → IsPointOf p s z →
      (x : Visit) → In x vs → (k : ℕ) → IsVariable p.matrix k → x.tableau.point k ≡ z k
  one_place_throughout s end [] at walk visits seconds none z point x i = absurd i
  one_place_throughout s end (v ∷ vs) at walk visits seconds none z point x i =
      first (one_place_throughout (after v.basis v.move) end vs (leads v h) walk.1 (λ x i. visits x (inr i)) (λ x i. seconds x (inr i))
      (λ x i. none x (inr i)) moved r.point) x i
    where
      h : IsVisit p v
      h = visits v (inl refl)

      second : IsSecond p v
      second = seconds v (inl refl)

      r : IsRun p v.basis v.tableau second.q second.k (after v.basis v.move)
      r = run p v h second

      moved : Vector
      moved = along v.tableau.point r.length (improving p v.basis v.tableau second.q)

      own : (k : ℕ) → IsVariable p.matrix k → v.tableau.point k ≡ z k
      own = one_point p s v.tableau.point z at.is_basis.counted at.nonsingular (here s v walk.0 h) point

      unmoved : (k : ℕ) → moved k ≡ v.tableau.point k
      unmoved k =
          ap (λ t. v.tableau.point k +ℚ t *ℚ improving p v.basis v.tableau second.q k) (none v (inl refl))
          ∙ by_ring2 (v.tableau.point k) (improving p v.basis v.tableau second.q k) (λ z d. z ⊕ number (pos 0) ⊗ d ≐ z) refl

      first : ((x : Visit) → In x vs → (k : ℕ) → IsVariable p.matrix k → x.tableau.point k ≡ moved k) → (x : Visit) → ((x ≡ v) ⊎ In x vs) → (k : ℕ) →
          IsVariable p.matrix k → x.tableau.point k ≡ z k
      first later x (inl e) k is = ap (λ y. y.tableau.point k) e ∙ own k is
      first later x (inr i) k is = later x i k is ∙ unmoved k ∙ own k is

  no_second_cycle : (s : List Status) (v : Visit) (vs : List Visit) → IsWalk s (v ∷ vs) s → ((x : Visit) → In x (v ∷ vs) → IsVisit p x) →
      ((x : Visit) → In x (v ∷ vs) → IsSecond p x) → ⊥
  no_second_cycle s v vs walk visits seconds =
      second_clash p lawful e.basis w.basis e.tableau w.tableau (visits e pair.is_entering).at (visits w pair.is_leaving).at
      (visits e pair.is_entering).is_tableau (visits w pair.is_leaving).is_tableau
      (λ k is. points e pair.is_entering k is ∙ sym (points w pair.is_leaving k is)) pair.t at_w.q (at_e.turn.moves ∙ ap (λ j. Some j) q_is) at_w.turn.moves
      (at_w.turn.stops ∙ ap (λ j. Some j) k_at)
      (subst (λ j. step_length p w.tableau.point (improving p w.basis w.tableau at_w.q) j ≡ Some zero_ℚ) k_at at_once) pair.past q_before
    where
      none : (x : Visit) → (i : In x (v ∷ vs)) → (run p x (visits x i) (seconds x i)).length ≡ zero_ℚ
      none = still s (v ∷ vs) walk visits seconds

      pair : FicklePair p (v ∷ vs)
      pair = fickle_pair p s v vs walk (λ x i. second_exchanges p x (visits x i) (seconds x i) (none x i))

      at_s : IsNonsingularBasis p s
      at_s = subst (IsNonsingularBasis p) walk.0 (visits v (inl refl)).at

      points : (x : Visit) → In x (v ∷ vs) → (k : ℕ) → IsVariable p.matrix k → x.tableau.point k ≡ v.tableau.point k
      points = one_place_throughout s s (v ∷ vs) at_s walk visits seconds none v.tableau.point (here s v walk.0 (visits v (inl refl)))

      e : Visit
      e = pair.entering

      w : Visit
      w = pair.leaving

      at_e : IsSecond p e
      at_e = seconds e pair.is_entering

      at_w : IsSecond p w
      at_w = seconds w pair.is_leaving

      e_is : e.move ≡ stopped_by at_e.q (improving p e.basis e.tableau at_e.q) at_e.k
      e_is = let h = visits e pair.is_entering in move_is p e.basis e.tableau h.at h.is_tableau e.move at_e.q at_e.k at_e.turn

      w_is : w.move ≡ stopped_by at_w.q (improving p w.basis w.tableau at_w.q) at_w.k
      w_is = let h = visits w pair.is_leaving in move_is p w.basis w.tableau h.at h.is_tableau w.move at_w.q at_w.k at_w.turn

      q_is : at_e.q ≡ pair.t
      q_is = sym (ap (λ m. m.enters) e_is) ∙ pair.enters

      k_at : at_w.k ≡ pair.t
      k_at = sym (ap (λ m. m.leaves) w_is) ∙ pair.leaves

      q_before : at_w.q < pair.t
      q_before = subst (λ m. m.enters < pair.t) w_is pair.enters_before

      at_once : step_length p w.tableau.point (improving p w.basis w.tableau at_w.q) at_w.k ≡ Some zero_ℚ
      at_once = (run p w (visits w pair.is_leaving) at_w).is_step_length ∙ ap (λ x. Some x) (none w pair.is_leaving)

  -- ---- both phases

  -- from a feasible point all steps are of the second phase
  all_second : (s end : List Status) (vs : List Visit) → IsWalk s vs end → ((x : Visit) → In x vs → IsVisit p x) → (z : Vector) → IsPointOf p s z →
      IsFeasible p z → (x : Visit) → In x vs → IsSecond p x
  all_second s end [] walk visits z point feasible_z x i = absurd i
  all_second s end (v ∷ vs) walk visits z point feasible_z x i =
      first (all_second (after v.basis v.move) end vs walk.1 (λ x i. visits x (inr i)) next.0 next.1.point next.1.feasible) x i
    where
      h : IsVisit p v
      h = visits v (inl refl)

      point_v : IsPointOf p v.basis z
      point_v = subst (λ b. IsPointOf p b z) (sym walk.0) point

      own : IsFeasible p v.tableau.point
      own =
          IsFeasible-same p z v.tableau.point
          (one_point p v.basis z v.tableau.point h.at.is_basis.counted h.at.nonsingular point_v h.is_tableau.is_point) feasible_z

      unbroken : (r : ℕ) (below : Bool) → IsVariable p.matrix r → Breaks (lower_of p r) (upper_of p r) (v.tableau.point r) below → ⊥
      unbroken r below is (breaks_lower l at_low limit broken) = lt_not_le broken (low_of (lower_of p r) (v.tableau.point r) l (own.within r is).0 limit)
      unbroken r below is (breaks_upper u at_high limit broken) = lt_not_le broken (high_of (upper_of p r) (v.tableau.point r) u (own.within r is).1 limit)

      by_phase : (IsFirst p v ⊎ IsSecond p v) → IsSecond p v
      by_phase (inl f) =
          absurd (unbroken f.r (is_below p v.tableau.point f.r) (broken_basic p v.basis v.tableau f.r f.turn.phase).0
          (broken_limit p v.basis v.tableau f.r f.turn.phase))
      by_phase (inr second) = second

      next : (w : Vector) × IsNoWorse p (after v.basis v.move) z w
      next = feasible_step p v.basis (after v.basis v.move) z lawful h.at (step_of p v h) point_v feasible_z

      first : ((x : Visit) → In x vs → IsSecond p x) → (x : Visit) → ((x ≡ v) ⊎ In x vs) → IsSecond p x
      first later x (inl e) = subst (IsSecond p) (sym e) (by_phase (phase_of p v h))
      first later x (inr i) = later x i

  record SecondIn (vs : List Visit) : Type 0 where
    visit : Visit
    is_there : In visit vs
    second : IsSecond p visit

  some_second : (vs : List Visit) → ((x : Visit) → In x vs → IsVisit p x) → ((x : Visit) → In x vs → IsFirst p x) ⊎ SecondIn vs
  some_second [] visits = inl (λ x i. absurd i)
  some_second (v ∷ vs) visits = by_phases (phase_of p v (visits v (inl refl))) (some_second vs (λ x i. visits x (inr i)))
    where
      by_phases : (IsFirst p v ⊎ IsSecond p v) → (((x : Visit) → In x vs → IsFirst p x) ⊎ SecondIn vs) →
          ((x : Visit) → ((x ≡ v) ⊎ In x vs) → IsFirst p x) ⊎ SecondIn (v ∷ vs)
      by_phases (inr second) rest = inr (record { visit = v; is_there = inl refl; second = second })
      by_phases (inl f) (inr found) = inr (record { visit = found.visit; is_there = inr found.is_there; second = found.second })
      by_phases (inl f) (inl rest) = inl all_first
        where
          all_first : (x : Visit) → ((x ≡ v) ⊎ In x vs) → IsFirst p x
          all_first x (inl e) = subst (IsFirst p) (sym e) f
          all_first x (inr i) = rest x i

  pub no_cycle : (s : List Status) (v : Visit) (vs : List Visit) → IsWalk s (v ∷ vs) s → ((x : Visit) → In x (v ∷ vs) → IsVisit p x) → ⊥
  no_cycle s v vs walk visits = by_phase (some_second (v ∷ vs) visits)
    where
      second_cycle : SecondIn (v ∷ vs) → ⊥
      second_cycle found =
          no_second_cycle found.visit.basis found.visit turned.others (refl, turned.walk) at
          (all_second found.visit.basis found.visit.basis (found.visit ∷ turned.others) (refl, turned.walk) at found.visit.tableau.point
          (at found.visit (inl refl)).is_tableau.is_point
          (feasible p found.visit.basis found.visit.tableau (at found.visit (inl refl)).at.is_basis
          (at found.visit (inl refl)).is_tableau found.second.turn.phase))
        where
          turned : Turned found.visit (v ∷ vs)
          turned = turn_to s found.visit (v ∷ vs) walk found.is_there

          at : (x : Visit) → In x (found.visit ∷ turned.others) → IsVisit p x
          at x i = visits x (turned.was_in x i)

      by_phase : (((x : Visit) → In x (v ∷ vs) → IsFirst p x) ⊎ SecondIn (v ∷ vs)) → ⊥
      by_phase (inl firsts) = no_first_cycle p s v vs walk visits firsts
      by_phase (inr found) = second_cycle found
