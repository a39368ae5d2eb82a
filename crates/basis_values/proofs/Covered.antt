-- Evidence with waypoints in some sets is evidence with waypoints in sets that these lie in.
use Rattle.std.proofs.Common.{◌≡◌, List, ◌∷◌, inl, refl, sym, subst}
use Rattle.std.specs.Prelude.{Option, Some, None}
use Rattle.exact_values.specs.Rational.{ℚ}
use Rattle.lp_definitions.specs.LinearProgram.{Matrix, LinearProgram}
use Rattle.lp_definitions.specs.Basis.{Basics, basics_of, exchanged}
use Rattle.lp_definitions.specs.Waypoints.{KeepsWaypoints, waypoint}
use Rattle.lp_definitions.specs.declared.Change.{Change}
use Rattle.lp_definitions.specs.declared.Evidence.{Evidence}
use Rattle.lp_definitions.specs.declared.Status.{Status}
use Rattle.lp_laws.proofs.WaypointLaws.{Covers, covered, kept_within, within_itself}
use Rattle.simplex_definitions.specs.Statements.{SolvingStatement, program_at}
use Rattle.simplex_definitions.specs.Evidence.{ShowsRefusal}
use Rattle.basis_values.specs.Calls.{StopsAt, job_of, PointRefused}

-- a change of the objective leaves the matrix
same_matrix : (p : LinearProgram) (o : Option Change) (theta : ℚ) → (program_at (job_of p o) theta).matrix ≡ p.matrix
same_matrix p None theta = refl
same_matrix p (Some c) theta = refl

shows_covered : (statement : SolvingStatement) (Goes : Status → Type 0) (around wider : List Basics) (s : List Status) (w : Basics) (e : Evidence)
    → Covers (program_at statement e.theta).matrix around wider
    → ShowsRefusal statement Goes around s w e → ShowsRefusal statement Goes wider s w e
shows_covered statement Goes around wider s w e cover h = record {
  tableau = h.tableau;
  is_tableau = h.is_tableau;
  way_rate = h.way_rate;
  are_way_rates = h.are_way_rates;
  formula = h.formula;
  is_way = (h.is_way.0, covered (program_at statement e.theta).matrix w around wider cover h.is_way.1);
  reaches = λ is. ((h.reaches is).0, covered (program_at statement e.theta).matrix (exchanged w e.p e.q) around wider cover (h.reaches is).1);
  no_way = h.no_way;
}

pub stops_covered : (Goes : Status → Type 0) (p : LinearProgram) (around wider : List Basics) (s : List Status) (after : List Basics) (e : Evidence) →
    Covers p.matrix around wider → StopsAt Goes p around s after e → StopsAt Goes p wider s after e
stops_covered Goes p around wider s after e cover h = record {
  is_way = h.is_way;
  is_theta = h.is_theta;
  shows =
      shows_covered (job_of p p.change) Goes around wider s (waypoint (basics_of s) after e.way) e
      (subst (λ (a : Matrix). Covers a around wider) (sym (same_matrix p p.change e.theta)) cover) h.shows;
}

-- a call that comes after others at the same basis
pub point_refused_later : (p : LinearProgram) (before mid after : List Basics) (s : List Status) (e : Evidence) →
    KeepsWaypoints p.matrix (basics_of s) before (basics_of s) mid → PointRefused p mid s after e → PointRefused p before s after e
point_refused_later p before mid after s e keeps h = record {
  of_call = h.of_call;
  stops =
      stops_covered (λ to. ⊥) p (basics_of s ∷ mid) (basics_of s ∷ before) s after e
      (inl (within_itself p.matrix (basics_of s)), kept_within p.matrix (basics_of s) before mid keeps) h.stops;
}
