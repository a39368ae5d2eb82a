-- From the evidence of a point and of a report of intervals to evidence of RANGE on every path that led to the basis.
use Rattle.std.proofs.Common.{◌≡◌, ℕ, List, [], ◌∷◌, ◌++◌, map, refl, subst}
use Rattle.std.specs.Prelude.{Option, None, IsTrue, Contains}
use Rattle.exact_values.specs.Rational.{ℚ}
use Rattle.lp_definitions.specs.LinearProgram.{LinearProgram}
use Rattle.lp_definitions.specs.Basis.{Basics, basics_of, exchanged, Tableau}
use Rattle.lp_definitions.specs.Waypoints.{IsWithinOne, waypoint, KeepsWaypoints}
use Rattle.lp_definitions.specs.declared.Change.{Change}
use Rattle.lp_definitions.specs.declared.Evidence.{Evidence}
use Rattle.lp_definitions.specs.declared.Status.{Status}
use Rattle.lp_laws.proofs.WaypointLaws.{Covers, Covers-all, covered, kept_within}
use Rattle.lp_model.specs.RatesCalls.{IfOverflow}
use Rattle.lp_model.specs.declared.Stop.{Stop}
use Rattle.lp_model.proofs.Stops.{IfOverflow-map}
use Rattle.simplex_definitions.specs.Statements.{Primal, Range, belongs, thetas_of}
use Rattle.simplex_definitions.specs.Evidence.{Formula, by_exchange, by_entry, by_carried, by_point, by_slack, by_move, by_ratio, by_range, by_objective}
use Rattle.simplex_definitions.specs.Evidence.{by_slope, ShowsRefusal}
use Rattle.basis_values.specs.Calls.{job_of, is_of_point, StopsAt, PointRefused, RangeRefused}
use Rattle.verb_answers.specs.Stops.{RangesRefused}
use Rattle.bounded_primal.proofs.Within.{within_last}
use Rattle.verb_answers.proofs.Refused.{covers_trans}
use Rattle.ranging.proofs.Views.{of_number}

-- what shows that a path stops shows it of RANGE
module _ (p : LinearProgram) (Goes : Status → Type 0) (s : List Status) (e : Evidence) where
  formula_ranged : (t : Tableau) (w : Basics) (rate : ℕ → ℕ → ℚ) → Formula (Primal p) Goes s t w rate e → Formula (Range p) (λ to. Unit {0}) s t w rate e
  formula_ranged t w rate (by_exchange f) = by_exchange f
  formula_ranged t w rate (by_entry f) = by_entry f
  formula_ranged t w rate (by_carried f) = by_carried f
  formula_ranged t w rate (by_point f) = by_point f
  formula_ranged t w rate (by_slack f) = by_slack f
  formula_ranged t w rate (by_move to goes f) = by_move to tt f
  formula_ranged t w rate (by_ratio f) = by_ratio f
  formula_ranged t w rate (by_range f) = by_range f
  formula_ranged t w rate (by_objective f) = by_objective f
  formula_ranged t w rate (by_slope u is f) = by_slope u is f

  refusal_ranged : (around wider : List Basics) (w : Basics) → Covers p.matrix around wider → ShowsRefusal (Primal p) Goes around s w e →
      ShowsRefusal (Range p) (λ to. Unit {0}) wider s w e
  refusal_ranged around wider w cover r = record {
    tableau = r.tableau;
    is_tableau = r.is_tableau;
    way_rate = r.way_rate;
    are_way_rates = r.are_way_rates;
    formula = formula_ranged r.tableau w r.way_rate r.formula;
    is_way = (r.is_way.0, covered p.matrix w around wider cover r.is_way.1);
    reaches = λ is. ((r.reaches is).0, covered p.matrix (exchanged w e.p e.q) around wider cover (r.reaches is).1);
    no_way = r.no_way;
  }

-- of a call that comes after others at the same basis
module _ (p : LinearProgram) (no_change : p.change ≡ None) (before mid : List Basics) (s : List Status) (after : List Basics)
    (keeps : KeepsWaypoints p.matrix (basics_of s) before (basics_of s) mid) (e : Evidence) where
  of_stop : (Goes : Status → Type 0) → IsTrue (belongs (Range p) e) → StopsAt Goes p (basics_of s ∷ mid) s after e → RangesRefused p before s after e
  of_stop Goes of_statement stop = record {
    is_way = stop.is_way;
    shows = λ earlier lie.
        let last : IsWithinOne p.matrix (basics_of s) (map basics_of (earlier ++ s ∷ [])) = within_last p.matrix earlier s in
        let cover : Covers p.matrix (basics_of s ∷ mid) (map basics_of (earlier ++ s ∷ [])) = (
          last,
          covers_trans p.matrix mid (basics_of s ∷ before) (map basics_of (earlier ++ s ∷ [])) (kept_within p.matrix (basics_of s) before mid keeps)
              (last, Covers-all p.matrix before (map basics_of (earlier ++ s ∷ [])) lie),
        ) in
        record {
          basis = s;
          way = waypoint (basics_of s) after e.way;
          holds = record {
            before = earlier;
            reached = refl;
            ahead = None;
            is_ahead = tt;
            shows = refusal_ranged p Goes s e (basics_of s ∷ mid) (map basics_of (earlier ++ s ∷ [])) (waypoint (basics_of s) after e.way) cover
                (subst (λ (o : Option Change). ShowsRefusal (job_of p o) Goes (basics_of s ∷ mid) s
                (waypoint (basics_of s) after e.way) e) no_change stop.shows);
            is_theta = subst (λ (o : Option Change). Contains (thetas_of (job_of p o) []) e.theta) no_change stop.is_theta;
            of_move = record { enters = λ is. tt; brings = λ is. tt; steps = λ is. tt };
            of_statement = of_statement;
          };
          is_place = refl;
        };
  }

  of_point : PointRefused p mid s after e → RangesRefused p before s after e
  of_point h = of_stop (λ to. ⊥) (of_number e.formula e.term (subst (λ (o : Option Change). IsTrue (is_of_point o e.formula)) no_change h.of_call)) h.stops

  of_report : RangeRefused p mid s after e → RangesRefused p before s after e
  of_report h = of_stop (λ to. Unit {0}) h.of_call h.stops

module _ (p : LinearProgram) (no_change : p.change ≡ None) (before mid : List Basics) (s : List Status) (after : List Basics)
    (keeps : KeepsWaypoints p.matrix (basics_of s) before (basics_of s) mid) (stop : Stop) where
  pub point_stops : IfOverflow stop (PointRefused p mid s after) → IfOverflow stop (RangesRefused p before s after)
  point_stops h = IfOverflow-map stop (λ e x. of_point p no_change before mid s after keeps e x) h

  pub report_stops : IfOverflow stop (RangeRefused p mid s after) → IfOverflow stop (RangesRefused p before s after)
  report_stops h = IfOverflow-map stop (λ e x. of_report p no_change before mid s after keeps e x) h
