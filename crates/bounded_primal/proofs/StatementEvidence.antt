-- Evidence of a call on a linear program without a change row is evidence of another statement, whose program at the value that the
-- evidence names differs in the change row alone.
use Rattle.std.proofs.Common.{arith, ◌≡◌, ℕ, ◌≤◌, inl, inr, List, [], ◌∷◌, ◌++◌, map, true, false, refl, sym, ◌∙◌, ap, subst, not, ◌&&◌, ◌||◌}
use Rattle.std.specs.Prelude.{nat_eq, Option, Some, None, IsTrue, Contains}
use Rattle.exact_values.specs.Rational.{ℚ}
use Rattle.lp_definitions.specs.LinearProgram.{Matrix, LinearProgram}
use Rattle.lp_definitions.specs.Basis.{Basics, basics_of, exchanged, AreRates, Tableau, IsTableau}
use Rattle.lp_definitions.specs.RatesEvidence.{ExchangeFormula, EntryFormula, CarriedFormula}
use Rattle.lp_definitions.specs.Waypoints.{IsWithinOne, IsWaypoint, waypoint}
use Rattle.lp_definitions.specs.declared.Change.{Change}
use Rattle.lp_definitions.specs.declared.Evidence.{Evidence}
use Rattle.lp_definitions.specs.declared.Status.{Status}
use Rattle.lp_laws.proofs.Values.{clash}
use Rattle.lp_laws.proofs.WaypointLaws.{Covers, Covers-all, covered}
use Rattle.simplex_definitions.specs.Path.{Move, after}
use Rattle.simplex_definitions.specs.Formulas.{PointFormula, f6, f7, f10_product, f10_sum, SlackFormula, f6_slack, MoveFormula, f8, f9, IsStepTo, RatioFormula}
use Rattle.simplex_definitions.specs.Formulas.{f14, RangeFormula, f15_limit, f15_nonbasic, f15_basic, ObjectiveFormula, f16, f17_product, f17_sum, SlopeFormula}
use Rattle.simplex_definitions.specs.Formulas.{f18_product, f18_sum, f18_difference, f18_quotient}
use Rattle.simplex_definitions.specs.Statements.{SolvingStatement, Primal, is_between, belongs, program_at, change_row, shift_at, thetas_of, MovesAt}
use Rattle.simplex_definitions.specs.Evidence.{Formula, by_exchange, by_entry, by_carried, by_point, by_slack, by_move, by_ratio, by_range, by_objective}
use Rattle.simplex_definitions.specs.Evidence.{by_slope, ShowsRefusal, GoesTo, IsOfMove}
use Rattle.basis_values.specs.Calls.{StopsAt, job_of}
use Rattle.bounded_primal.specs.Calls.{EvidenceHere}
use Rattle.bounded_primal.proofs.TurnEvidence.{formula_goes}
use Rattle.bounded_primal.proofs.Within.{within_last, covers_ahead}

-- ---- the numbers of formulas that a call at a step may show

pub step_number : (n term : ℕ) → (is_between 1 12 n && (not (nat_eq n 6) || not (nat_eq term 3))) ≡ true → is_between 1 12 n ≡ true
step_number n term h = grind arith

pub step_moves : (n : ℕ) → is_between 8 9 n ≡ true → is_between 7 9 n ≡ true
step_moves n h = grind arith

-- ---- formulas of a point and of a move know of no change row

-- p with any change row, or none
abbrev changed : LinearProgram → Option Change → LinearProgram
changed p o = record p { change = o }

module _ (p : LinearProgram) (o : Option Change) (s : List Status) (t : Tableau) (e : Evidence) where
  point_as : PointFormula p s t e → PointFormula (changed p o) s t e
  point_as (f6 i which l names is limit refused) = f6 i which l names is limit refused
  point_as (f7 q i which l names is out limit rate refused) = f7 q i which l names is out limit rate refused
  point_as (f10_product i j term names is at refused) = f10_product i j term names is at refused
  point_as (f10_sum i j term names is at refused) = f10_sum i j term names is at refused

  slack_as : SlackFormula p s t e → SlackFormula (changed p o) s t e
  slack_as (f6_slack i names is refused) = f6_slack i names is refused

  step_as : (r q : ℕ) (to : Status) (step : ℚ) → IsStepTo p s t r q to step → IsStepTo (changed p o) s t r q to step
  step_as r q to step h =
      record { limit = h.limit; is_limit = h.is_limit; is_variable = h.is_variable; is_nonbasic = h.is_nonbasic; moves = h.moves; is_step = h.is_step }

  move_as : (to : Status) → MoveFormula p s t to e → MoveFormula (changed p o) s t to e
  move_as to (f8 r q i step names step_to is refused) = f8 r q i step names (step_as r q to step step_to) is refused
  move_as to (f9 r q i step names step_to is refused) = f9 r q i step names (step_as r q to step step_to) is refused

  move_number : (to : Status) → MoveFormula p s t to e → is_between 8 9 e.formula ≡ true
  move_number to (f8 r q i step names step_to is refused) = ap (is_between 8 9) names.is_formula
  move_number to (f9 r q i step names step_to is refused) = ap (is_between 8 9) names.is_formula

  -- the other formulas have greater numbers
  ratio_number : RatioFormula p s t e → is_between 1 12 e.formula ≡ false
  ratio_number (f14 i j names is out moves refused) = ap (is_between 1 12) names.is_formula

  range_number : RangeFormula p s t e → is_between 1 12 e.formula ≡ false
  range_number (f15_limit i j which stands l names is out at limit moves refused) = ap (is_between 1 12) names.is_formula
  range_number (f15_nonbasic j names out column refused) = ap (is_between 1 12) names.is_formula
  range_number (f15_basic i j names is column out moves refused) = ap (is_between 1 12) names.is_formula

  objective_number : (h : ℕ) → ObjectiveFormula p s t h e → is_between 1 12 e.formula ≡ false
  objective_number h (f16 j names out moves refused) = ap (is_between 1 12) names.is_formula
  objective_number h (f17_product j names out refused) = ap (is_between 1 12) names.is_formula
  objective_number h (f17_sum j names out refused) = ap (is_between 1 12) names.is_formula

  slope_number : (f : ℕ → ℚ) → SlopeFormula p s t f e → is_between 1 12 e.formula ≡ false
  slope_number f (f18_product i j term names is at refused) = ap (is_between 1 12) names.is_formula
  slope_number f (f18_sum i j term names is at refused) = ap (is_between 1 12) names.is_formula
  slope_number f (f18_difference i names is refused) = ap (is_between 1 12) names.is_formula
  slope_number f (f18_quotient i which l names is limit closing refused) = ap (is_between 1 12) names.is_formula

-- ---- a refusal, shown for the other statement

module _ (p : LinearProgram) (o : Option Change) (other : SolvingStatement) (s : List Status) (e : Evidence) (is : changed p o ≡ program_at other e.theta)
    (number : is_between 1 12 e.formula ≡ true) where
  module _ (Goes Other : Status → Type 0) (goes : (to : Status) → Goes to → is_between 8 9 e.formula ≡ true → Other to) where
    formula_as : (t : Tableau) (w : Basics) (rate : ℕ → ℕ → ℚ) → Formula (Primal p) Goes s t w rate e → Formula other Other s t w rate e
    formula_as t w rate (by_exchange f) = by_exchange (subst (λ (q : LinearProgram). ExchangeFormula q.matrix w rate e) is f)
    formula_as t w rate (by_entry f) = by_entry (subst (λ (q : LinearProgram). EntryFormula q.matrix (basics_of s) t.rate e) is f)
    formula_as t w rate (by_carried f) = by_carried (subst (λ (q : LinearProgram). CarriedFormula q.matrix (basics_of s) t.rate w rate e) is f)
    formula_as t w rate (by_point f) = by_point (subst (λ (q : LinearProgram). PointFormula q s t e) is (point_as p o s t e f))
    formula_as t w rate (by_slack f) = by_slack (subst (λ (q : LinearProgram). SlackFormula q s t e) is (slack_as p o s t e f))
    formula_as t w rate (by_move to may f) =
        by_move to (goes to may (move_number p o s t e to f)) (subst (λ (q : LinearProgram). MoveFormula q s t to e) is (move_as p o s t e to f))
    formula_as t w rate (by_ratio f) = absurd (clash (sym number ∙ ratio_number p o s t e f))
    formula_as t w rate (by_range f) = absurd (clash (sym number ∙ range_number p o s t e f))
    formula_as t w rate (by_objective f) = absurd (clash (sym number ∙ objective_number p o s t e (change_row (Primal p)) f))
    formula_as t w rate (by_slope u is_u f) = absurd (clash (sym number ∙ slope_number p o s u e (shift_at (Primal p)) f))

    -- and with waypoints in wider sets
    pub shows_as : (around wider : List Basics) (w : Basics) → Covers p.matrix around wider → ShowsRefusal (Primal p) Goes around s w e →
        ShowsRefusal other Other wider s w e
    shows_as around wider w cover h = record {
      tableau = h.tableau;
      is_tableau = subst (λ (q : LinearProgram). IsTableau q s h.tableau) is
          (record { is_point = record { keeps = h.is_tableau.is_point.keeps; placed = h.is_tableau.is_point.placed }; are_rates = h.is_tableau.are_rates });
      way_rate = h.way_rate;
      are_way_rates = subst (λ (q : LinearProgram). AreRates q.matrix w h.way_rate) is h.are_way_rates;
      formula = formula_as h.tableau w h.way_rate h.formula;
      is_way = subst (λ (q : LinearProgram). IsWaypoint q.matrix wider w) is (h.is_way.0, covered p.matrix w around wider cover h.is_way.1);
      reaches = λ names. subst (λ (q : LinearProgram). IsWaypoint q.matrix wider (exchanged w e.p e.q)) is
          (let there = h.reaches names in (there.0, covered p.matrix (exchanged w e.p e.q) around wider cover there.1));
      no_way = h.no_way;
    }

  -- ---- at the basis s, in a run

  module _ (no_change : p.change ≡ None) (breakpoint : Option ℚ) (left : ℕ) (before now : List Basics)
      (is_theta : (ends : List ℚ) → Contains (thetas_of other ends) e.theta) (of_move : IsOfMove other breakpoint s e)
      (of_statement : IsTrue (belongs other e)) where
    module _ (Goes : Status → Type 0) (goes : (to : Status) → Goes to → is_between 8 9 e.formula ≡ true → GoesTo other breakpoint s e to) where
      viewed : (around : List Basics) → StopsAt Goes p around s now e → ShowsRefusal (Primal p) Goes around s (waypoint (basics_of s) now e.way) e
      viewed around h = subst (λ (c : Option Change). ShowsRefusal (job_of p c) Goes around s (waypoint (basics_of s) now e.way) e) no_change h.shows

      -- with no other basis ahead
      pub evidence_here : StopsAt Goes p (basics_of s ∷ before) s now e → EvidenceHere other p.matrix breakpoint left s before now e
      evidence_here h = record {
        is_way = h.is_way;
        shows = λ ends earlier lie. record {
          before = earlier;
          reached = refl;
          ahead = None;
          is_ahead = tt;
          shows = shows_as Goes (GoesTo other breakpoint s e) goes (basics_of s ∷ before) (map basics_of (earlier ++ s ∷ [])) (waypoint (basics_of s) now e.way)
              (within_last p.matrix earlier s, Covers-all p.matrix before (map basics_of (earlier ++ s ∷ [])) lie) (viewed (basics_of s ∷ before) h);
          is_theta = is_theta ends;
          of_move = of_move;
          of_statement = of_statement;
        };
      }

      -- with the basis ahead to which the move m leads
      pub evidence_ahead : (m : Move) → MovesAt other breakpoint s m → basics_of (after s m) ≡ exchanged (basics_of s) m.leaves m.enters → 1 ≤ left →
          StopsAt Goes p (basics_of s ∷ exchanged (basics_of s) m.leaves m.enters ∷ before) s now e → EvidenceHere other p.matrix breakpoint left s before now e
      evidence_ahead m moves leads one_left h = record {
        is_way = h.is_way;
        shows = λ ends earlier lie. record {
          before = earlier;
          reached = refl;
          ahead = Some (after s m);
          is_ahead = (one_left, (m, moves, refl));
          shows = shows_as Goes (GoesTo other breakpoint s e) goes (basics_of s ∷ exchanged (basics_of s) m.leaves m.enters ∷ before)
              (map basics_of ((earlier ++ s ∷ []) ++ after s m ∷ [])) (waypoint (basics_of s) now e.way)
              (covers_ahead p.matrix earlier s (after s m) (exchanged (basics_of s) m.leaves m.enters) before leads lie)
              (viewed (basics_of s ∷ exchanged (basics_of s) m.leaves m.enters ∷ before) h);
          is_theta = is_theta ends;
          of_move = of_move;
          of_statement = of_statement;
        };
      }

-- ---- a refusal of the statement's own formulas, which speak of no move

module _ (statement : SolvingStatement) (a : Matrix) (s : List Status) (e : Evidence) (breakpoint : Option ℚ) (left : ℕ) (before now : List Basics)
    (is_theta : (ends : List ℚ) → Contains (thetas_of statement ends) e.theta) (of_move : IsOfMove statement breakpoint s e)
    (of_statement : IsTrue (belongs statement e)) where
  in_last : (b : Matrix) (w : Basics) → IsWithinOne b w (basics_of s ∷ []) → (xs : List (List Status)) → IsWithinOne b w (map basics_of (xs ++ s ∷ []))
  in_last b w (inl h) [] = inl h
  in_last b w (inr h) [] = inr h
  in_last b w h (x ∷ xs) = inr (in_last b w h xs)

  -- at the basis itself
  pub evidence_own : e.way ≡ 0 → ShowsRefusal statement (λ to. ⊥) (basics_of s ∷ []) s (basics_of s) e → EvidenceHere statement a breakpoint left s before now e
  evidence_own no_way h = record {
    is_way = omega (arith, no_way);
    shows = λ ends earlier lie. record {
      before = earlier;
      reached = refl;
      ahead = None;
      is_ahead = tt;
      shows = subst (λ (w : Basics). ShowsRefusal statement (GoesTo statement breakpoint s e) (map basics_of (earlier ++ s ∷ [])) s w e)
          (sym (ap (waypoint (basics_of s) now) no_way)) (record {
            tableau = h.tableau;
            is_tableau = h.is_tableau;
            way_rate = h.way_rate;
            are_way_rates = h.are_way_rates;
            formula =
                formula_goes statement (λ to. ⊥) (GoesTo statement breakpoint s e) s e (λ to none number. absurd none) h.tableau (basics_of s) h.way_rate
                h.formula;
            is_way = (h.is_way.0, in_last (program_at statement e.theta).matrix (basics_of s) h.is_way.1 earlier);
            reaches =
                λ names. let there = h.reaches names in (there.0, in_last (program_at statement e.theta).matrix (exchanged (basics_of s) e.p e.q) there.1 earlier);
            no_way = h.no_way;
          });
      is_theta = is_theta ends;
      of_move = of_move;
      of_statement = of_statement;
    };
  }
