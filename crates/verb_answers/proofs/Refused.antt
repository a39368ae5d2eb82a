-- From the evidence of a point, of prices and of a slack to evidence of SOLUTION on every path that led to the basis.
use Rattle.std.proofs.Common.{◌≡◌, ℕ, List, [], ◌∷◌, ◌++◌, map, true, false, refl, sym, ◌∙◌, ap, subst, arith}
use Rattle.std.specs.Prelude.{Option, None, IsTrue, not, ◌&&◌, ◌||◌, nat_eq, Contains}
use Rattle.exact_values.specs.Rational.{ℚ}
use Rattle.lp_definitions.specs.LinearProgram.{Matrix, LinearProgram, Vector}
use Rattle.lp_definitions.specs.Basis.{Basics, basics_of, exchanged, AreRates, IsPointOf, ArePricesOf, IsNonsingular, Tableau}
use Rattle.lp_definitions.specs.Waypoints.{IsWithinOne, waypoint, KeepsWaypoints}
use Rattle.lp_definitions.specs.declared.Change.{Change}
use Rattle.lp_definitions.specs.declared.Evidence.{Evidence}
use Rattle.lp_definitions.specs.declared.Status.{Status}
use Rattle.lp_laws.proofs.Values.{clash}
use Rattle.lp_laws.proofs.WaypointLaws.{Covers, Covers-all, covered, kept_within}
use Rattle.lp_model.specs.RatesCalls.{IfOverflow}
use Rattle.lp_model.specs.declared.Stop.{Stop}
use Rattle.lp_model.proofs.Stops.{IfOverflow-map}
use Rattle.simplex_definitions.specs.Formulas.{f6_slack}
use Rattle.simplex_definitions.specs.Statements.{Primal, Solution, is_between, belongs, thetas_of}
use Rattle.simplex_definitions.specs.Evidence.{Formula, by_exchange, by_entry, by_carried, by_point, by_slack, by_move, by_ratio, by_range, by_objective}
use Rattle.simplex_definitions.specs.Evidence.{by_slope, ShowsRefusal, GoesTo, names_waypoint}
use Rattle.basis_values.specs.Calls.{job_of, is_of_point, PointRefused}
use Rattle.verb_answers.specs.Slack.{SomeSlackRefused}
use Rattle.verb_answers.specs.Stops.{SolutionRefused}
use Rattle.bounded_primal.proofs.Within.{within_last}

-- ---- the numbers of the formulas of a point

record IsPointNumber (e : Evidence) : Type 0 where
  no_move : is_between 7 9 e.formula ≡ false
  no_ratio : nat_eq e.formula 14 ≡ false
  belongs_to : (p : LinearProgram) → IsTrue (belongs (Solution p) e)

of_number : (n term : ℕ) → (is_between 1 5 n || is_between 10 12 n) ≡ true →
    (is_between 7 9 n ≡ false) × (nat_eq n 14 ≡ false) × (((is_between 1 6 n || is_between 10 12 n) && (not (nat_eq n 6) || nat_eq term 3)) ≡ true)
of_number n term h = (grind arith, grind arith, grind arith)

point_number : (e : Evidence) → IsTrue (is_of_point None e.formula) → IsPointNumber e
point_number e h = let n = of_number e.formula e.term h in record { no_move = n.0; no_ratio = n.1; belongs_to = λ p. n.2 }

-- ---- the bases in which waypoints lie

module _ (a : Matrix) where
  pub covers_trans : (xs ys zs : List Basics) → Covers a xs ys → Covers a ys zs → Covers a xs zs
  covers_trans [] ys zs first second = tt
  covers_trans (x ∷ xs) ys zs first second = (covered a x ys zs second first.0, covers_trans xs ys zs first.1 second)

-- ---- a point, and prices

-- what shows that a path stops, without a move, shows it of SOLUTION
module _ (p : LinearProgram) (Other : Status → Type 0) (s : List Status) (e : Evidence) where
  formula_view : (t : Tableau) (w : Basics) (rate : ℕ → ℕ → ℚ) → Formula (Primal p) (λ to. ⊥) s t w rate e → Formula (Solution p) Other s t w rate e
  formula_view t w rate (by_exchange f) = by_exchange f
  formula_view t w rate (by_entry f) = by_entry f
  formula_view t w rate (by_carried f) = by_carried f
  formula_view t w rate (by_point f) = by_point f
  formula_view t w rate (by_slack f) = by_slack f
  formula_view t w rate (by_move to goes f) = absurd goes
  formula_view t w rate (by_ratio f) = by_ratio f
  formula_view t w rate (by_range f) = by_range f
  formula_view t w rate (by_objective f) = by_objective f
  formula_view t w rate (by_slope u is f) = by_slope u is f

  refusal_view : (around wider : List Basics) (w : Basics) → Covers p.matrix around wider → ShowsRefusal (Primal p) (λ to. ⊥) around s w e →
      ShowsRefusal (Solution p) Other wider s w e
  refusal_view around wider w cover r = record {
    tableau = r.tableau;
    is_tableau = r.is_tableau;
    way_rate = r.way_rate;
    are_way_rates = r.are_way_rates;
    formula = formula_view r.tableau w r.way_rate r.formula;
    is_way = (r.is_way.0, covered p.matrix w around wider cover r.is_way.1);
    reaches = λ is. ((r.reaches is).0, covered p.matrix (exchanged w e.p e.q) around wider cover (r.reaches is).1);
    no_way = r.no_way;
  }

-- of a call that comes after others at the same basis
module _ (p : LinearProgram) (no_change : p.change ≡ None) (before mid : List Basics) (s : List Status) (after : List Basics)
    (keeps : KeepsWaypoints p.matrix (basics_of s) before (basics_of s) mid) (e : Evidence) where
  pub of_point : PointRefused p mid s after e → SolutionRefused p before s after e
  of_point h =
      let number = point_number e (subst (λ (o : Option Change). IsTrue (is_of_point o e.formula)) no_change h.of_call) in
      record {
        is_way = h.stops.is_way;
        shows = λ earlier lie.
            let last : IsWithinOne p.matrix (basics_of s) (map basics_of (earlier ++ s ∷ [])) = within_last p.matrix earlier s in
            let cover : Covers p.matrix (basics_of s ∷ mid) (map basics_of (earlier ++ s ∷ [])) = (
              last,
              covers_trans p.matrix mid (basics_of s ∷ before) (map basics_of (earlier ++ s ∷ [])) (kept_within p.matrix (basics_of s) before mid keeps)
                  (last, Covers-all p.matrix before (map basics_of (earlier ++ s ∷ [])) lie),
            ) in
            record {
              basis = s;
              way = waypoint (basics_of s) after e.way;
              holds = record {
                before = earlier;
                reached = refl;
                ahead = None;
                is_ahead = tt;
                shows =
                    refusal_view p (GoesTo (Solution p) None s e) s e (basics_of s ∷ mid) (map basics_of (earlier ++ s ∷ []))
                    (waypoint (basics_of s) after e.way) cover
                    (subst (λ (o : Option Change). ShowsRefusal (job_of p o) (λ to. ⊥) (basics_of s ∷ mid) s
                    (waypoint (basics_of s) after e.way) e) no_change h.stops.shows);
                is_theta = subst (λ (o : Option Change). Contains (thetas_of (job_of p o) []) e.theta) no_change h.stops.is_theta;
                of_move =
                    record {
                      enters = λ is. absurd (clash (sym is ∙ number.no_move));
                      brings = λ is. absurd
                          (clash (sym is ∙ number.no_ratio));
                      steps = λ is. tt;
                    };
                of_statement = number.belongs_to p;
              };
              is_place = refl;
            };
      }

-- ---- a slack

module _ (p : LinearProgram) (s : List Status) (z : Vector) (rate : ℕ → ℕ → ℚ) (point : IsPointOf p s z) (rates : AreRates p.matrix (basics_of s) rate)
    (nonsingular : IsNonsingular p.matrix (basics_of s)) (before after : List Basics) (e : Evidence) where
  slack_view : (Goes : Status → Type 0) (around : List Basics) → IsWithinOne p.matrix (basics_of s) around → SomeSlackRefused p z e →
      ShowsRefusal (Solution p) Goes around s (basics_of s) e
  slack_view Goes around own (i, is, h) = record {
    tableau = record { point = z; rate = rate };
    is_tableau = record { is_point = point; are_rates = rates };
    way_rate = rate;
    are_way_rates = rates;
    formula = by_slack (f6_slack i h.names is h.refuses);
    is_way = (nonsingular, own);
    reaches = λ names. absurd (clash (sym names ∙ ap names_waypoint h.names.is_formula));
    no_way = λ _. (h.no_way, refl);
  }

  pub of_slack : SomeSlackRefused p z e → SolutionRefused p before s after e
  of_slack some =
      let h = some.2 in
      record {
        is_way = omega (arith, h.no_way);
        shows = λ earlier lie. record {
          basis = s;
          way = waypoint (basics_of s) after e.way;
          holds = record {
            before = earlier;
            reached = refl;
            ahead = None;
            is_ahead = tt;
            shows =
                subst (λ (w : Basics). ShowsRefusal (Solution p) (GoesTo (Solution p) None s e) (map basics_of (earlier ++ s ∷ [])) s w e)
                (sym (ap (waypoint (basics_of s) after) h.no_way))
                (slack_view (GoesTo (Solution p) None s e) (map basics_of (earlier ++ s ∷ [])) (within_last p.matrix earlier s) some);
            is_theta = (0, omega arith, sym h.is_theta);
            of_move = record {
              enters = λ is. absurd (clash (sym is ∙ ap (is_between 7 9) h.names.is_formula));
              brings = λ is. absurd (clash (sym is ∙ ap (λ n. nat_eq n 14) h.names.is_formula));
              steps = λ is. tt;
            };
            of_statement = rw (h.names.is_formula, h.names.is_term) refl;
          };
          is_place = refl;
        };
      }

-- ---- the stops of the calls

pub point_stops : (p : LinearProgram) → p.change ≡ None → (before mid : List Basics) (s : List Status) (after : List Basics) →
    KeepsWaypoints p.matrix (basics_of s) before (basics_of s) mid →
    (stop : Stop) → IfOverflow stop (PointRefused p mid s after) → IfOverflow stop (SolutionRefused p before s after)
point_stops p no_change before mid s after keeps stop h = IfOverflow-map stop (λ e x. of_point p no_change before mid s after keeps e x) h

pub slack_stops : (p : LinearProgram) (s : List Status) (z y : Vector) → IsPointOf p s z → (prices : ArePricesOf p s y) → IsNonsingular p.matrix (basics_of s) →
    (before after : List Basics) →
    (stop : Stop) → IfOverflow stop (SomeSlackRefused p z) → IfOverflow stop (SolutionRefused p before s after)
slack_stops p s z y point prices nonsingular before after stop h =
    IfOverflow-map stop (λ e x. of_slack p s z prices.rate point prices.are_rates nonsingular before after e x) h
