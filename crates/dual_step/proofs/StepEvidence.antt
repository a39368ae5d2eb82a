-- Evidence of the calls that bring a basic back by the ratio test, as evidence of a statement whose program at 0 is the one at hand.
use Rattle.std.proofs.Common.{◌≡◌, ◌≢◌, ℕ, zero, suc, ◌<◌, ◌≤◌, inl, List, [], ◌∷◌, true, false, Bool, refl, sym, ◌∙◌, ap, subst, subst₂, arith}
use Rattle.std.specs.Prelude.{Option, None, IsTrue, Contains, slice_index_or, not, ◌&&◌, ◌||◌, nat_eq}
use Rattle.exact_values.specs.Rational.{ℚ, zero_ℚ, ◌-ℚ◌}
use Rattle.frac128.specs.declared.Op.TheVariants.{Div}
use Rattle.lp_definitions.specs.Basis.{Basics, basics_of, exchanged, IsBasic, IsNonbasic, IsDirectionOf, AreRates, ArePricesOf, IsPointOf, IsTableau}
use Rattle.lp_definitions.specs.LinearProgram.{LinearProgram, Vector, IsLinearProgram}
use Rattle.lp_definitions.specs.RatesEvidence.{Refuses}
use Rattle.lp_definitions.specs.Waypoints.{IsWaypoint}
use Rattle.lp_definitions.specs.declared.Change.{Change}
use Rattle.lp_definitions.specs.declared.Evidence.{Evidence}
use Rattle.lp_definitions.specs.declared.Status.{Status}
use Rattle.lp_definitions.specs.declared.Status.TheVariants.{Bs, Ll, Ul, Fr}
use Rattle.lp_laws.proofs.Statuses.{basics_of-replaced}
use Rattle.lp_laws.proofs.Uniqueness.{one_direction}
use Rattle.lp_laws.proofs.Values.{clash}
use Rattle.lp_laws.proofs.WaypointLaws.{within_itself}
use Rattle.lp_model.specs.RatesCalls.{IsRowOf}
use Rattle.simplex_definitions.specs.Evidence.{by_ratio, names_waypoint, IsLeaver, GoesTo, TakesStep, IsOfMove}
use Rattle.simplex_definitions.specs.Formulas.{PointFormula, f6, f7, RatioFormula, f14, number_of_limit}
use Rattle.simplex_definitions.specs.Moves.{signed}
use Rattle.simplex_definitions.specs.Path.{Move}
use Rattle.simplex_definitions.specs.Statements.{SolvingStatement, is_between, belongs, thetas_of, program_at, MovesAt, EntersAt, BringsAt}
use Rattle.simplex_laws.specs.Laws.{IsNonsingularBasis}
use Rattle.basis_values.specs.Calls.{StopsAt, job_of, is_of_point, PointRefused}
use Rattle.basis_values.proofs.Existence.{rates_exist}
use Rattle.basis_values.proofs.Refusals.{stops_at_basis}
use Rattle.bounded_primal.specs.Calls.{EvidenceHere}
use Rattle.bounded_primal.specs.Moves.{StepRefused, move_by}
use Rattle.bounded_primal.specs.Steps.{ReturnRefused, of_distance, of_quotient}
use Rattle.bounded_primal.specs.declared.moves.BlockingVariable.{BlockingVariable}
use Rattle.bounded_primal.proofs.StatementEvidence.{evidence_here, evidence_ahead, evidence_own, step_number, step_moves}
use Rattle.bounded_primal.proofs.TurnEvidence.{step_brings_not}
use Rattle.simplex_laws.proofs.EnteringVariables.{is_entering_variable}
use Rattle.dual_step.specs.Cheapest.{SomeRatioRefused}
use Rattle.dual_step.proofs.BestRatio.{brings_apart}
use Rattle.dual_step.proofs.RatioChoice.{row_at, price_at}

not_three : (to : Status) → nat_eq (number_of_limit to) 3 ≡ false
not_three Bs = refl
not_three Ll = refl
not_three Ul = refl
not_three Fr = refl

-- a formula of a point or of prices names nothing of a move
point_number : (n : ℕ) → (is_between 1 5 n || is_between 10 12 n) ≡ true → is_between 1 12 n ≡ true
point_number n h = grind arith

point_quiet : (n : ℕ) → (is_between 1 5 n || is_between 10 12 n) ≡ true → (is_between 7 9 n ≡ false) × (nat_eq n 14 ≡ false) × (nat_eq n 6 ≡ false)
point_quiet n h = (grind arith, grind arith, grind arith)

point_own : (n term : ℕ) → (is_between 1 5 n || is_between 10 12 n) ≡ true → (is_between 1 14 n && (not (nat_eq n 6) || not (nat_eq term 3))) ≡ true
point_own n term h = grind arith

step_own : (n term : ℕ) → (is_between 1 12 n && (not (nat_eq n 6) || not (nat_eq term 3))) ≡ true →
    (is_between 1 14 n && (not (nat_eq n 6) || not (nat_eq term 3))) ≡ true
step_own n term h = grind arith

-- what is asked of a statement: its program at 0 is p, it may stop by the formulas up to 14, and a step of it moves what it says
pub record IsOwn (p : LinearProgram) (statement : SolvingStatement) (breakpoint : Option ℚ) (s : List Status) : Type 0 where
  pub no_change : p.change ≡ None
  pub at_zero : (theta : ℚ) → theta ≡ zero_ℚ → p ≡ program_at statement theta
  pub is_theta : (theta : ℚ) (ends : List ℚ) → theta ≡ zero_ℚ → Contains (thetas_of statement ends) theta
  pub belongs_to : (e : Evidence) → (is_between 1 14 e.formula && (not (nat_eq e.formula 6) || not (nat_eq e.term 3))) ≡ true → IsTrue (belongs statement e)
  pub enters : (m : Move) → MovesAt statement breakpoint s m → EntersAt statement breakpoint s m.enters
  pub steps : (m : Move) → MovesAt statement breakpoint s m → TakesStep statement breakpoint s
  pub goes_to : (e : Evidence) (to : Status) → IsLeaver statement breakpoint s e to → GoesTo statement breakpoint s e to

module _ (p : LinearProgram) (statement : SolvingStatement) (breakpoint : Option ℚ) (s : List Status) (own : IsOwn p statement breakpoint s) (left : ℕ)
    (before now : List Basics) (e : Evidence) where
  is_at_zero : e.theta ≡ zero_ℚ → record p { change = None } ≡ program_at statement e.theta
  is_at_zero none = ap (λ (o : Option Change). record p { change = o }) (sym own.no_change) ∙ own.at_zero e.theta none

  only_zero : Contains (zero_ℚ ∷ []) e.theta → e.theta ≡ zero_ℚ
  only_zero h = first h.0 h.1 h.2
    where
      first : (i : ℕ) → i < 1 → slice_index_or (zero_ℚ ∷ []) i e.theta ≡ e.theta → e.theta ≡ zero_ℚ
      first zero low same = sym same
      first (suc i) low same = absurd (omega (arith, low))

  no_theta : (Goes : Status → Type 0) (around : List Basics) → StopsAt Goes p around s now e → e.theta ≡ zero_ℚ
  no_theta Goes around stops = only_zero (subst (λ (o : Option Change). Contains (thetas_of (job_of p o) []) e.theta) own.no_change stops.is_theta)

  of_stops : is_between 1 12 e.formula ≡ true → IsOfMove statement breakpoint s e → IsTrue (belongs statement e) →
      StopsAt (λ to. ⊥) p (basics_of s ∷ before) s now e → EvidenceHere statement p.matrix breakpoint left s before now e
  of_stops number of_move of_statement stops =
      let none = no_theta (λ to. ⊥) (basics_of s ∷ before) stops in
      evidence_here p None statement s e (is_at_zero none) number own.no_change breakpoint left before now
      (λ ends. own.is_theta e.theta ends none) of_move of_statement (λ to. ⊥) (λ to goes is. absurd goes) stops

  -- a point, prices, and the rates of a row or a column
  pub of_point : PointRefused p before s now e → EvidenceHere statement p.matrix breakpoint left s before now e
  of_point r =
      let number : (is_between 1 5 e.formula || is_between 10 12 e.formula) ≡ true =
      subst (λ (o : Option Change). IsTrue (is_of_point o e.formula)) own.no_change r.of_call in
      let quiet = point_quiet e.formula number in
      of_stops (point_number e.formula number)
      (record {
        enters = λ is. absurd (clash (sym is ∙ quiet.0));
        brings = λ is. absurd (clash (sym is ∙ quiet.1));
        steps = λ is. absurd (clash (sym is ∙ quiet.2));
      })
      (own.belongs_to e (point_own e.formula e.term number)) r.stops

  module _ (lawful : IsLinearProgram p) (at : IsNonsingularBasis p s) (z : Vector) (point : IsPointOf p s z) where
    -- a ratio of the basic r
    pub of_ratio : (r : ℕ) (below : Bool) → IsBasic p.matrix (basics_of s) r → (prices row : Vector) → ArePricesOf p s prices →
        IsRowOf p.matrix (basics_of s) r row →
        (h : SomeRatioRefused p s prices row r below e) → BringsAt statement breakpoint s r h.j → EvidenceHere statement p.matrix breakpoint left s before now e
    of_ratio r below basic prices row priced rowed h may =
        evidence_own statement p.matrix s e breakpoint left before now (λ ends. own.is_theta e.theta ends h.refused.is_theta)
        (record {
          enters = λ is. absurd (clash (sym is ∙ ap (is_between 7 9) h.refused.names.is_formula));
          brings = λ is. subst₂ (λ i j. BringsAt statement breakpoint s i j) (sym h.refused.names.is_i) (sym h.refused.names.is_j) may;
          steps = λ is. absurd (clash (sym is ∙ ap (λ n. nat_eq n 6) h.refused.names.is_formula));
        })
        (own.belongs_to e (rw h.refused.names.is_formula refl)) h.refused.no_way
        (record {
          tableau = record { point = z; rate = rowed.rate };
          is_tableau =
              subst (λ (q : LinearProgram). IsTableau q s (record { point = z; rate = rowed.rate })) there
              (record { is_point = point; are_rates = rowed.are_rates });
          way_rate = rowed.rate;
          are_way_rates = subst (λ (q : LinearProgram). AreRates q.matrix (basics_of s) rowed.rate) there rowed.are_rates;
          formula = by_ratio (subst (λ (q : LinearProgram). RatioFormula q s (record { point = z; rate = rowed.rate }) e) there ratio);
          is_way =
              subst (λ (q : LinearProgram). IsWaypoint q.matrix (basics_of s ∷ []) (basics_of s)) there
              (at.nonsingular, inl (within_itself p.matrix (basics_of s)));
          reaches = λ names. absurd (clash (sym names ∙ ap names_waypoint h.refused.names.is_formula));
          no_way = λ _. (h.refused.no_way, refl);
        })
      where
        there : p ≡ program_at statement e.theta
        there = own.at_zero e.theta h.refused.is_theta

        out : IsNonbasic p.matrix (basics_of s) h.j
        out = (is_entering_variable p s (λ k. signed (not below) (row k)) h.j at h.is_variable h.restores_feasibility).nonbasic

        at_row : row h.j ≡ rowed.rate r h.j
        at_row = row_at p s lawful own.no_change at prices row priced r basic.0 rowed below z h.j out

        at_price : prices h.j ≡ rowed.rate p.objective h.j
        at_price = price_at p s lawful own.no_change at prices row priced r basic.0 rowed below z h.j out

        ratio : RatioFormula p s (record { point = z; rate = rowed.rate }) e
        ratio =
            f14 r h.j h.refused.names basic out (λ zero. brings_apart p s prices row below h.j h.restores_feasibility (at_row ∙ zero))
            (subst₂ (λ (a b : ℚ). Refuses e Div a b) at_price at_row h.refused.refuses)

    -- the way back of a basic
    pub of_return : (q r : ℕ) (to : Status) → IsBasic p.matrix (basics_of s) r → IsNonbasic p.matrix (basics_of s) q →
        MovesAt statement breakpoint s (record { enters = q; leaves = r; to = to }) →
        (d : Vector) → IsDirectionOf p.matrix (basics_of s) q d → d r ≢ zero_ℚ → ReturnRefused p z d q r to e →
        EvidenceHere statement p.matrix breakpoint left s before now e
    of_return q r to basic out moves d direction pivot h = by_kind h
      where
        rates : (rate : ℕ → ℕ → ℚ) × AreRates p.matrix (basics_of s) rate
        rates = rates_exist p.matrix (basics_of s) at.nonsingular

        at_q : (rates_exist p.matrix (basics_of s) at.nonsingular).0 r q ≡ d r
        at_q =
            one_direction p.matrix (basics_of s) q (λ i. (rates_exist p.matrix (basics_of s) at.nonsingular).0 i q) d at.nonsingular
            ((rates_exist p.matrix (basics_of s) at.nonsingular).1 q out) direction r basic.0

        stops : e.way ≡ 0 → e.theta ≡ zero_ℚ → PointFormula p s (record { point = z; rate = (rates_exist p.matrix (basics_of s) at.nonsingular).0 }) e →
            StopsAt (λ to. ⊥) p (basics_of s ∷ before) s now e
        stops no_way none formula =
            stops_at_basis p s (record { point = z; rate = (rates_exist p.matrix (basics_of s) at.nonsingular).0 })
            (record { is_point = point; are_rates = (rates_exist p.matrix (basics_of s) at.nonsingular).1 }) at.nonsingular
            (λ to. ⊥) before now e no_way none formula

        by_kind : ReturnRefused p z d q r to e → EvidenceHere statement p.matrix breakpoint left s before now e
        by_kind (of_distance l limit f) =
            of_stops (rw f.names.is_formula refl)
            (record {
              enters = λ is. absurd (clash (sym is ∙ ap (is_between 7 9) f.names.is_formula));
              brings = λ is. absurd (clash (sym is ∙ ap (λ n. nat_eq n 14) f.names.is_formula));
              steps = λ is. own.steps (record { enters = q; leaves = r; to = to }) moves;
            })
            (own.belongs_to e (rw (f.names.is_formula, f.names.is_term, not_three to) refl))
            (stops f.no_way f.is_theta (f6 r (number_of_limit to) l f.names basic.0 limit f.refuses))
        by_kind (of_quotient l limit other f) =
            of_stops (rw f.names.is_formula refl)
            (record {
              enters = λ is. subst (EntersAt statement breakpoint s) (sym f.names.is_q) (own.enters (record { enters = q; leaves = r; to = to }) moves);
              brings = λ is. absurd (clash (sym is ∙ ap (λ n. nat_eq n 14) f.names.is_formula));
              steps = λ is. absurd (clash (sym is ∙ ap (λ n. nat_eq n 6) f.names.is_formula));
            })
            (own.belongs_to e (rw f.names.is_formula refl))
            (stops f.no_way f.is_theta
            (f7 q r (number_of_limit to) l f.names basic out limit (λ vanishes. pivot (sym at_q ∙ vanishes))
            (subst (λ (x : ℚ). Refuses e Div (l -ℚ z r) x) (sym at_q) f.refuses)))

  -- the step of q, with the basis that it leads to ahead
  pub of_step : (q : ℕ) (by : BlockingVariable) → MovesAt statement breakpoint s (move_by q by) → by.to ≢ Bs → 1 ≤ left → StepRefused p before s q by now e →
      EvidenceHere statement p.matrix breakpoint left s before now e
  of_step q by moves apart one_left h =
      let none = no_theta (λ to. to ≡ by.to) (basics_of s ∷ exchanged (basics_of s) by.p q ∷ before) h.stops in
      evidence_ahead p None statement s e (is_at_zero none) (step_number e.formula e.term h.of_call) own.no_change breakpoint left before now
      (λ ends. own.is_theta e.theta ends none)
      (record {
        enters = λ is. subst (EntersAt statement breakpoint s) (sym (h.enters is)) (own.enters (move_by q by) moves);
        brings = λ is. absurd (clash (sym is ∙ step_brings_not e.formula e.term h.of_call));
        steps = λ is. own.steps (move_by q by) moves;
      })
      (own.belongs_to e (step_own e.formula e.term h.of_call)) (λ to. to ≡ by.to)
      (λ to same is. own.goes_to e to
      (record { move = move_by q by; moves = moves; enters = sym (h.enters (step_moves e.formula is)); leaves = sym (h.leaves is); goes_to = sym same }))
      (move_by q by) moves (basics_of-replaced s by.p q by.to apart) one_left h.stops
