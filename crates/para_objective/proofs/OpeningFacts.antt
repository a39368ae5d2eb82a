-- From the path of the opening to the run.
use Rattle.std.proofs.Common.{ℕ, ◌-◌, inl, List, [], ◌∷◌, ◌++◌, map, length, refl}
use Rattle.std.specs.Prelude.{Option, Some, None}
use Rattle.exact_values.specs.Rational.{ℚ}
use Rattle.lp_definitions.specs.LinearProgram.{LinearProgram}
use Rattle.lp_definitions.specs.Basis.{Basics, basics_of, Tableau}
use Rattle.lp_definitions.specs.Waypoints.{waypoint}
use Rattle.lp_definitions.specs.declared.Evidence.{Evidence}
use Rattle.lp_definitions.specs.declared.Status.{Status}
use Rattle.simplex_definitions.specs.ObjectiveRun.{objective_family, IsObjectiveFace}
use Rattle.simplex_definitions.specs.Statements.{Paraobj}
use Rattle.simplex_definitions.specs.Evidence.{Formula, by_exchange, by_entry, by_carried, by_point, by_slack, by_move, by_ratio, by_range, by_objective}
use Rattle.simplex_definitions.specs.Evidence.{by_slope, ShowsRefusal, GoesTo, IsAhead, with_ahead, EvidenceHolds}
use Rattle.bounded_primal.specs.Stops.{PrimalStopsAlong}
use Rattle.bounded_primal.specs.declared.moves.PrimalStop.{PrimalStop}
use Rattle.bounded_primal.specs.declared.moves.PrimalStop.TheVariants.{Limit, Overflow, NoMemory}
use Rattle.parametric_laws.proofs.ObjectiveGrowth.{objective_grows}
use Rattle.parametric_laws.proofs.OneRun.{objective_faces}
use Rattle.parametric_laws.proofs.TrueRuns.{objective_runs}
use Rattle.parametric_run.specs.Chains.{MethodStops}
use Rattle.parametric_run.specs.Programs.{IsParametric}
use Rattle.parametric_run.specs.declared.method.Span.{Span}
use Rattle.parametric_run.proofs.Openings.{opening_goes_on, opening_stands}
use Rattle.para_objective.specs.Method.{objective_problem, FitsObjective}

-- ---- evidence of a run is evidence of the linear program with any multiple of the change row, or none

module _ (p : LinearProgram) (h : ℕ) (x from : ℚ) (Goes Other : Status → Type 0) (s : List Status) (e : Evidence)
    (goes : (to : Status) → Goes to → Other to) where
  formula_of : (t : Tableau) (w : Basics) (rate : ℕ → ℕ → ℚ) → Formula (Paraobj (objective_family p h x) h from) Goes s t w rate e →
      Formula (Paraobj p h from) Other s t w rate e
  formula_of t w rate (by_exchange f) = by_exchange f
  formula_of t w rate (by_entry f) = by_entry f
  formula_of t w rate (by_carried f) = by_carried f
  formula_of t w rate (by_point f) = by_point f
  formula_of t w rate (by_slack f) = by_slack f
  formula_of t w rate (by_move to may f) = by_move to (goes to may) f
  formula_of t w rate (by_ratio f) = by_ratio f
  formula_of t w rate (by_range f) = by_range f
  formula_of t w rate (by_objective f) = by_objective f
  formula_of t w rate (by_slope u is f) = by_slope u is f

  shows_of : (around : List Basics) (w : Basics) → ShowsRefusal (Paraobj (objective_family p h x) h from) Goes around s w e →
      ShowsRefusal (Paraobj p h from) Other around s w e
  shows_of around w r = record {
    tableau = r.tableau;
    is_tableau = r.is_tableau;
    way_rate = r.way_rate;
    are_way_rates = r.are_way_rates;
    formula = formula_of r.tableau w r.way_rate r.formula;
    is_way = r.is_way;
    reaches = r.reaches;
    no_way = r.no_way;
  }

holds_of : (p : LinearProgram) (h : ℕ) (x from : ℚ) (left : ℕ) (bases : List (List Status)) (s : List Status) (w : Basics) (e : Evidence) →
    EvidenceHolds (Paraobj (objective_family p h x) h from) None left bases [] s w e → EvidenceHolds (Paraobj p h from) None left bases [] s w e
holds_of p h x from left bases s w e r = record {
  before = r.before;
  reached = r.reached;
  ahead = r.ahead;
  is_ahead = is_ahead r.ahead r.is_ahead;
  shows = shows_of p h x from (GoesTo (Paraobj (objective_family p h x) h from) None s e) (GoesTo (Paraobj p h from) None s e) s e
      (λ to l. record { move = l.move; moves = l.moves; enters = l.enters; leaves = l.leaves; goes_to = l.goes_to })
      (map basics_of (with_ahead bases r.ahead)) w r.shows;
  is_theta = r.is_theta;
  of_move = record { enters = r.of_move.enters; brings = r.of_move.brings; steps = λ _. tt };
  of_statement = r.of_statement;
}
  where
    is_ahead : (o : Option (List Status)) → IsAhead (Paraobj (objective_family p h x) h from) None left s o → IsAhead (Paraobj p h from) None left s o
    is_ahead None a = a
    is_ahead (Some next) a = a

-- ---- the opening path

module _ (p : LinearProgram) (h : ℕ) (span : Span) (s now : List Status) (before after : List Basics) where
  pub opening_stops : (why : PrimalStop) → PrimalStopsAlong (objective_family p h span.from) s now span.limit before after why →
      MethodStops (objective_problem p h) span s now before after why
  opening_stops Limit t = opening_goes_on (objective_family p h) (IsObjectiveFace p h) span.from span.to p.matrix s before now span.limit t
  opening_stops (Overflow e) t = inl (record {
    stands =
        opening_stands (objective_family p h) (IsObjectiveFace p h) span.from span.to p.matrix s before now span.limit t.bases t.is_path t.reaches t.within;
    is_way = t.is_way;
    shows =
        λ earlier lie. holds_of p h span.from span.from (span.limit - length t.bases) (earlier ++ s ∷ t.bases) now (waypoint (basics_of now) after e.way) e
        (t.shows earlier lie);
  })
  opening_stops NoMemory t = opening_stands (objective_family p h) (IsObjectiveFace p h) span.from span.to p.matrix s before now span.limit t.0 t.1.0 t.1.1 t.2

-- ---- what is asked of the family

pub objective_parametric : (p : LinearProgram) (h : ℕ) → FitsObjective p h → IsParametric (objective_problem p h)
objective_parametric p h fits = record {
  same_matrix = λ theta. refl;
  one_face = objective_faces p h fits.lawful fits.row fits.free;
  grows = objective_grows p h fits.lawful fits.row fits.free;
  true_runs = objective_runs p h fits.lawful fits.row fits.free;
}
