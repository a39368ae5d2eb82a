-- From the path of the opening to the run.
use Rattle.std.proofs.Common.{◌≡◌, ℕ, ◌-◌, inl, inr, true, List, [], ◌∷◌, ◌++◌, map, length, refl, sym, ap, subst, ◌∙◌, arith}
use Rattle.std.specs.Prelude.{Option, Some, None, not, ◌&&◌, ◌||◌, nat_eq}
use Rattle.exact_values.specs.Rational.{ℚ}
use Rattle.frac128.specs.declared.Op.{Op}
use Rattle.lp_definitions.specs.LinearProgram.{LinearProgram, Matrix, Vector, IsLinearProgram}
use Rattle.lp_definitions.specs.Basis.{Basics, basics_of, Tableau}
use Rattle.lp_definitions.specs.Waypoints.{waypoint}
use Rattle.lp_definitions.specs.RatesEvidence.{Names, Refuses, ExchangeFormula, f1, f2, f3, f4, f5, EntryFormula, f11_product, f11_sum, CarriedFormula}
use Rattle.lp_definitions.specs.RatesEvidence.{f12_product, f12_sum, f12_quotient}
use Rattle.lp_definitions.specs.declared.Change.{Change}
use Rattle.lp_definitions.specs.declared.Evidence.{Evidence}
use Rattle.lp_definitions.specs.declared.Status.{Status}
use Rattle.lp_model.specs.RatesCalls.{IfOverflow}
use Rattle.lp_model.specs.declared.Stop.{Stop}
use Rattle.lp_model.specs.declared.Stop.TheVariants as stop
use Rattle.lp_laws.proofs.Values.{clash}
use Rattle.simplex_definitions.specs.Chain.{InOpening, begins}
use Rattle.simplex_definitions.specs.Statements.{Primal, Pararhs, is_between, shift_at}
use Rattle.simplex_definitions.specs.Formulas.{PointFormula, f6, f7, f10_product, f10_sum, SlackFormula, f6_slack, MoveFormula, f8, f9, RatioFormula, f14}
use Rattle.simplex_definitions.specs.Formulas.{RangeFormula, f15_limit, f15_nonbasic, f15_basic, ObjectiveFormula, f16, f17_product, f17_sum, SlopeFormula}
use Rattle.simplex_definitions.specs.Formulas.{f18_product, f18_sum, f18_difference, f18_quotient}
use Rattle.simplex_definitions.specs.Evidence.{Formula, by_exchange, by_entry, by_carried, by_point, by_slack, by_move, by_ratio, by_range, by_objective}
use Rattle.simplex_definitions.specs.Evidence.{by_slope, ShowsRefusal, GoesTo, IsAhead, with_ahead, EvidenceHolds, ShiftHolds}
use Rattle.basis_values.specs.Calls.{HasRates, job_of}
use Rattle.bounded_primal.specs.Stops.{PrimalStopsAlong, primal_stop_of}
use Rattle.bounded_primal.specs.declared.moves.PrimalStop.{PrimalStop}
use Rattle.bounded_primal.specs.declared.moves.PrimalStop.TheVariants.{Limit, Overflow, NoMemory}
use Rattle.bounded_primal.proofs.TurnEvidence.{step_brings_not}
use Rattle.bounded_primal.proofs.StatementEvidence.{step_number}
use Rattle.parametric_laws.proofs.OneRun.{rhs_faces}
use Rattle.parametric_laws.proofs.Rhs.{to_rhs, from_rhs}
use Rattle.parametric_laws.proofs.TrueRuns.{rhs_runs}
use Rattle.parametric_laws.proofs.RhsGrowth.{rhs_grows}
use Rattle.parametric_run.specs.Chains.{MethodStops}
use Rattle.parametric_run.specs.Programs.{IsParametric}
use Rattle.parametric_run.specs.declared.method.Span.{Span}
use Rattle.parametric_run.proofs.Openings.{opening_goes_on, opening_stands}
use Rattle.simplex_definitions.specs.RhsRun.{rhs_family, IsRhsFace}
use Rattle.para_rhs.specs.Method.{rhs_problem}
use Rattle.para_rhs.specs.Runs.{reported_at}

step_belongs : (n term : ℕ) → (is_between 1 12 n && (not (nat_eq n 6) || not (nat_eq term 3))) ≡ true →
    ((is_between 1 14 n || nat_eq n 18) && (not (nat_eq n 6) || not (nat_eq term 3))) ≡ true
step_belongs n term h = grind arith

-- ---- evidence of the path of the linear program at theta, as evidence at theta

module _ (e : Evidence) (theta : ℚ) where
  names : (f p q i j term : ℕ) → Names e f p q i j term → Names (record e { theta = theta }) f p q i j term
  names f p q i j term n = record { is_formula = n.is_formula; is_p = n.is_p; is_q = n.is_q; is_i = n.is_i; is_j = n.is_j; is_term = n.is_term }

  refuses_too : (op : Op) (x y : ℚ) → Refuses e op x y → Refuses (record e { theta = theta }) op x y
  refuses_too op x y r = record { is_op = r.is_op; is_left = r.is_left; is_right = r.is_right; refused = r.refused }

  exchange_too : (a : Matrix) (w : Basics) (rate : ℕ → ℕ → ℚ) → ExchangeFormula a w rate e → ExchangeFormula a w rate (record e { theta = theta })
  exchange_too a w rate (f1 p q j n x out r) = f1 p q j (names _ _ _ _ _ _ n) x out (refuses_too _ _ _ r)
  exchange_too a w rate (f2 p q i j n x is apart out r) = f2 p q i j (names _ _ _ _ _ _ n) x is apart out (refuses_too _ _ _ r)
  exchange_too a w rate (f3 p q i j n x is apart out r) = f3 p q i j (names _ _ _ _ _ _ n) x is apart out (refuses_too _ _ _ r)
  exchange_too a w rate (f4 p q n x r) = f4 p q (names _ _ _ _ _ _ n) x (refuses_too _ _ _ r)
  exchange_too a w rate (f5 p q i n x is apart r) = f5 p q i (names _ _ _ _ _ _ n) x is apart (refuses_too _ _ _ r)

  entry_too : (a : Matrix) (b : Basics) (rate : ℕ → ℕ → ℚ) → EntryFormula a b rate e → EntryFormula a b rate (record e { theta = theta })
  entry_too a b rate (f11_product i j term x n is col at r) = f11_product i j term x (names _ _ _ _ _ _ n) is col at (refuses_too _ _ _ r)
  entry_too a b rate (f11_sum i j term x n is col at r) = f11_sum i j term x (names _ _ _ _ _ _ n) is col at (refuses_too _ _ _ r)

  carried_too : (a : Matrix) (b : Basics) (rate : ℕ → ℕ → ℚ) (w : Basics) (way_rate : ℕ → ℕ → ℚ) → CarriedFormula a b rate w way_rate e →
      CarriedFormula a b rate w way_rate (record e { theta = theta })
  carried_too a b rate w way_rate (f12_product p q i j term n is x at r) = f12_product p q i j term (names _ _ _ _ _ _ n) is x at (refuses_too _ _ _ r)
  carried_too a b rate w way_rate (f12_sum p q i j term n is x at r) = f12_sum p q i j term (names _ _ _ _ _ _ n) is x at (refuses_too _ _ _ r)
  carried_too a b rate w way_rate (f12_quotient p q j n is x r) = f12_quotient p q j (names _ _ _ _ _ _ n) is x (refuses_too _ _ _ r)

  module _ (lp : LinearProgram) (s : List Status) (t : Tableau) where
    point_too : PointFormula lp s t e → PointFormula lp s t (record e { theta = theta })
    point_too (f6 i which l n is at r) = f6 i which l (names _ _ _ _ _ _ n) is at (refuses_too _ _ _ r)
    point_too (f7 q i which l n is out at apart r) = f7 q i which l (names _ _ _ _ _ _ n) is out at apart (refuses_too _ _ _ r)
    point_too (f10_product i j term n is at r) = f10_product i j term (names _ _ _ _ _ _ n) is at (refuses_too _ _ _ r)
    point_too (f10_sum i j term n is at r) = f10_sum i j term (names _ _ _ _ _ _ n) is at (refuses_too _ _ _ r)

    slack_too : SlackFormula lp s t e → SlackFormula lp s t (record e { theta = theta })
    slack_too (f6_slack i n is r) = f6_slack i (names _ _ _ _ _ _ n) is (refuses_too _ _ _ r)

    move_too : (to : Status) → MoveFormula lp s t to e → MoveFormula lp s t to (record e { theta = theta })
    move_too to (f8 r q i step n is var refused) = f8 r q i step (names _ _ _ _ _ _ n) is var (refuses_too _ _ _ refused)
    move_too to (f9 r q i step n is var refused) = f9 r q i step (names _ _ _ _ _ _ n) is var (refuses_too _ _ _ refused)

-- a path stops by none of these
no_ratio : (lp : LinearProgram) (s : List Status) (t : Tableau) (e : Evidence) → is_between 1 12 e.formula ≡ true → RatioFormula lp s t e → ⊥
no_ratio lp s t e number (f14 i j n is out apart r) = clash (sym number ∙ ap (is_between 1 12) n.is_formula)

no_range : (lp : LinearProgram) (s : List Status) (t : Tableau) (e : Evidence) → is_between 1 12 e.formula ≡ true → RangeFormula lp s t e → ⊥
no_range lp s t e number (f15_limit i j which stands l n is out at_j at_i apart r) = clash (sym number ∙ ap (is_between 1 12) n.is_formula)
no_range lp s t e number (f15_nonbasic j n out past r) = clash (sym number ∙ ap (is_between 1 12) n.is_formula)
no_range lp s t e number (f15_basic i j n is past out apart r) = clash (sym number ∙ ap (is_between 1 12) n.is_formula)

no_objective : (lp : LinearProgram) (s : List Status) (t : Tableau) (h : ℕ) (e : Evidence) → is_between 1 12 e.formula ≡ true → ObjectiveFormula lp s t h e → ⊥
no_objective lp s t h e number (f16 j n out apart r) = clash (sym number ∙ ap (is_between 1 12) n.is_formula)
no_objective lp s t h e number (f17_product j n out r) = clash (sym number ∙ ap (is_between 1 12) n.is_formula)
no_objective lp s t h e number (f17_sum j n out r) = clash (sym number ∙ ap (is_between 1 12) n.is_formula)

no_slope : (lp : LinearProgram) (s : List Status) (t : Tableau) (shift : Vector) (e : Evidence) → is_between 1 12 e.formula ≡ true →
    SlopeFormula lp s t shift e → ⊥
no_slope lp s t shift e number (f18_product i j term n is at r) = clash (sym number ∙ ap (is_between 1 12) n.is_formula)
no_slope lp s t shift e number (f18_sum i j term n is at r) = clash (sym number ∙ ap (is_between 1 12) n.is_formula)
no_slope lp s t shift e number (f18_difference i n is r) = clash (sym number ∙ ap (is_between 1 12) n.is_formula)
no_slope lp s t shift e number (f18_quotient i which l n is at apart r) = clash (sym number ∙ ap (is_between 1 12) n.is_formula)

module _ (p : LinearProgram) (shift : List ℚ) (from : ℚ) (Goes Other : Status → Type 0) (s : List Status) (e : Evidence)
    (number : is_between 1 12 e.formula ≡ true)
    (goes : (to : Status) → Goes to → Other to) where
  formula_of : (t : Tableau) (w : Basics) (rate : ℕ → ℕ → ℚ) → Formula (Primal (rhs_family p shift from)) Goes s t w rate e →
      Formula (Pararhs p shift from) Other s t w rate (record e { theta = from })
  formula_of t w rate (by_exchange f) = by_exchange (exchange_too e from p.matrix w rate f)
  formula_of t w rate (by_entry f) = by_entry (entry_too e from p.matrix (basics_of s) t.rate f)
  formula_of t w rate (by_carried f) = by_carried (carried_too e from p.matrix (basics_of s) t.rate w rate f)
  formula_of t w rate (by_point f) = by_point (point_too e from (rhs_family p shift from) s t f)
  formula_of t w rate (by_slack f) = by_slack (slack_too e from (rhs_family p shift from) s t f)
  formula_of t w rate (by_move to may f) = by_move to (goes to may) (move_too e from (rhs_family p shift from) s t to f)
  formula_of t w rate (by_ratio f) = absurd (no_ratio (rhs_family p shift from) s t e number f)
  formula_of t w rate (by_range f) = absurd (no_range (rhs_family p shift from) s t e number f)
  formula_of t w rate (by_objective f) = absurd (no_objective (rhs_family p shift from) s t 0 e number f)
  formula_of t w rate (by_slope u is f) = absurd (no_slope (rhs_family p shift from) s u (shift_at (Primal (rhs_family p shift from))) e number f)

  shows_of : (around : List Basics) (w : Basics) → ShowsRefusal (Primal (rhs_family p shift from)) Goes around s w e →
      ShowsRefusal (Pararhs p shift from) Other around s w (record e { theta = from })
  shows_of around w r = record {
    tableau = r.tableau;
    is_tableau = r.is_tableau;
    way_rate = r.way_rate;
    are_way_rates = r.are_way_rates;
    formula = formula_of r.tableau w r.way_rate r.formula;
    is_way = r.is_way;
    reaches = r.reaches;
    no_way = r.no_way;
  }

holds_of : (p : LinearProgram) (shift : List ℚ) (from : ℚ) (left : ℕ) (bases : List (List Status)) (s : List Status) (w : Basics) (e : Evidence) →
    EvidenceHolds (Primal (rhs_family p shift from)) None left bases [] s w e →
    EvidenceHolds (Pararhs p shift from) None left bases [] s w (record e { theta = from })
holds_of p shift from left bases s w e r = record {
  before = r.before;
  reached = r.reached;
  ahead = r.ahead;
  is_ahead = is_ahead r.ahead r.is_ahead;
  shows =
      shows_of p shift from (GoesTo (Primal (rhs_family p shift from)) None s e) (GoesTo (Pararhs p shift from) None s (record e { theta = from })) s e
      (step_number e.formula e.term r.of_statement)
      (λ to l. record { move = l.move; moves = l.moves; enters = l.enters; leaves = l.leaves; goes_to = l.goes_to })
      (map basics_of (with_ahead bases r.ahead)) w r.shows;
  is_theta = (1, omega arith, refl);
  of_move = record { enters = r.of_move.enters; brings = λ is. absurd (clash (sym is ∙ step_brings_not e.formula e.term r.of_statement)); steps = λ _. tt };
  of_statement = step_belongs e.formula e.term r.of_statement;
}
  where
    is_ahead : (o : Option (List Status)) → IsAhead (Primal (rhs_family p shift from)) None left s o → IsAhead (Pararhs p shift from) None left s o
    is_ahead None a = a
    is_ahead (Some next) a = a

-- ---- a basis of the linear program at the first value

module _ (p : LinearProgram) (shift : List ℚ) (from : ℚ) (a : Matrix) (b : Basics) (s : List Status) where
  pub to_first : HasRates a b p s → HasRates a b (rhs_family p shift from) s
  to_first h = record {
    is_basis = (to_rhs p shift from s (record { is_basis = h.is_basis; nonsingular = h.nonsingular })).is_basis;
    nonsingular = h.nonsingular;
    same_matrix = h.same_matrix;
    same_basics = h.same_basics;
  }

  pub from_first : HasRates a b (rhs_family p shift from) s → HasRates a b p s
  from_first h = record {
    is_basis = (from_rhs p shift from s (record { is_basis = h.is_basis; nonsingular = h.nonsingular })).is_basis;
    nonsingular = h.nonsingular;
    same_matrix = h.same_matrix;
    same_basics = h.same_basics;
  }

-- ---- the opening path

module _ (p : LinearProgram) (shift : List ℚ) (span : Span) (s now : List Status) (before after : List Basics) where
  pub opening_stops : p.change ≡ None → (why : PrimalStop) → PrimalStopsAlong (rhs_family p shift span.from) s now span.limit before after why →
      MethodStops (rhs_problem p shift) span s now before after (reported_at span.from why)
  opening_stops no_change Limit h = opening_goes_on (rhs_family p shift) (IsRhsFace p shift) span.from span.to p.matrix s before now span.limit h
  opening_stops no_change (Overflow e) h = inl (record {
    stands = opening_stands (rhs_family p shift) (IsRhsFace p shift) span.from span.to p.matrix s before now span.limit h.bases h.is_path h.reaches h.within;
    is_way = h.is_way;
    shows = λ earlier lie.
        holds_of p shift span.from (span.limit - length h.bases) (earlier ++ s ∷ h.bases) now (waypoint (basics_of now) after e.way) e
        (subst (λ (o : Option Change). EvidenceHolds (job_of (rhs_family p shift span.from) o) None (span.limit - length h.bases)
        (earlier ++ s ∷ h.bases) [] now (waypoint (basics_of now) after e.way) e) no_change
        (h.shows earlier lie));
  })
  opening_stops no_change NoMemory h =
      opening_stands (rhs_family p shift) (IsRhsFace p shift) span.from span.to p.matrix s before now span.limit h.0 h.1.0 h.1.1 h.2

  -- nothing is done yet
  pub no_opening : s ≡ now → (why : Stop) → IfOverflow why (ShiftHolds (Pararhs p shift span.from) []) →
      MethodStops (rhs_problem p shift) span s now before after (primal_stop_of why)
  no_opening same (stop.Overflow e) h = inr (record { place = InOpening s; path = []; ends = []; reaches = begins; is_now = same; within = omega arith }, h)
  no_opening same stop.NoMemory h = record { place = InOpening s; path = []; ends = []; reaches = begins; is_now = same; within = omega arith }

-- ---- what is asked of the family

pub rhs_parametric : (p : LinearProgram) (shift : List ℚ) → IsLinearProgram p → IsParametric (rhs_problem p shift)
rhs_parametric p shift lawful =
    record { same_matrix = λ theta. refl; one_face = rhs_faces p shift lawful; grows = rhs_grows p shift lawful; true_runs = rhs_runs p shift lawful }
