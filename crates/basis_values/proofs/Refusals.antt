-- From a refused distance, or that over a rate, to evidence of the call.
use Rattle.std.proofs.Common.{◌≡◌, inl, List, [], ◌∷◌, false, refl, sym, ◌∙◌, ap, subst, arith}
use Rattle.std.specs.Prelude.{Option, Some, None, Contains}
use Rattle.exact_values.specs.Rational.{ℚ, zero_ℚ}
use Rattle.lp_definitions.specs.LinearProgram.{LinearProgram, with_change}
use Rattle.lp_definitions.specs.Basis.{Basics, basics_of, IsNonsingular, Tableau, IsTableau}
use Rattle.lp_definitions.specs.Waypoints.{waypoint}
use Rattle.lp_definitions.specs.declared.Change.{Change}
use Rattle.lp_definitions.specs.declared.Evidence.{Evidence}
use Rattle.lp_definitions.specs.declared.Status.{Status}
use Rattle.lp_laws.proofs.Values.{clash}
use Rattle.lp_laws.proofs.WaypointLaws.{within_itself}
use Rattle.simplex_definitions.specs.Formulas.{PointFormula, f6, f7, f10_product, f10_sum}
use Rattle.simplex_definitions.specs.Statements.{thetas_of}
use Rattle.simplex_definitions.specs.Evidence.{ShowsRefusal, by_point, names_waypoint}
use Rattle.basis_values.specs.Calls.{StopsAt, job_of}

-- the formulas of a point name no waypoint
module _ (p : LinearProgram) (s : List Status) (t : Tableau) (e : Evidence) where
  pub no_waypoint : PointFormula p s t e → names_waypoint e.formula ≡ false
  no_waypoint (f6 i which l names is limit refused) = ap names_waypoint names.is_formula
  no_waypoint (f7 q i which l names is out limit rate refused) = ap names_waypoint names.is_formula
  no_waypoint (f10_product i j term names is at refused) = ap names_waypoint names.is_formula
  no_waypoint (f10_sum i j term names is at refused) = ap names_waypoint names.is_formula

  -- and know of no change row
  pub PointFormula-changed : (c : Change) → PointFormula p s t e → PointFormula (with_change p c) s t e
  PointFormula-changed c (f6 i which l names is limit refused) = f6 i which l names is limit refused
  PointFormula-changed c (f7 q i which l names is out limit rate refused) = f7 q i which l names is out limit rate refused
  PointFormula-changed c (f10_product i j term names is at refused) = f10_product i j term names is at refused
  PointFormula-changed c (f10_sum i j term names is at refused) = f10_sum i j term names is at refused

module _ (p : LinearProgram) (s : List Status) (t : Tableau) (is_t : IsTableau p s t) (nonsingular : IsNonsingular p.matrix (basics_of s)) where
  pub IsTableau-changed : (c : Change) → IsTableau (with_change p c) s t
  IsTableau-changed c = record { is_point = record { keeps = is_t.is_point.keeps; placed = is_t.is_point.placed }; are_rates = is_t.are_rates }

  -- evidence of a formula at the basis itself, whatever the job is
  pub shows_at_basis : (o : Option Change) (Goes : Status → Type 0) (around : List Basics) (e : Evidence) → e.way ≡ 0 → PointFormula p s t e →
      ShowsRefusal (job_of p o) Goes (basics_of s ∷ around) s (basics_of s) e
  shows_at_basis None Goes around e no_way formula = record {
    tableau = t;
    is_tableau = is_t;
    way_rate = t.rate;
    are_way_rates = is_t.are_rates;
    formula = by_point formula;
    is_way = (nonsingular, inl (within_itself p.matrix (basics_of s)));
    reaches = λ h. absurd (clash (sym h ∙ no_waypoint p s t e formula));
    no_way = λ h. (no_way, refl);
  }
  shows_at_basis (Some c) Goes around e no_way formula = record {
    tableau = t;
    is_tableau = IsTableau-changed (record { row = c.row; theta = e.theta });
    way_rate = t.rate;
    are_way_rates = is_t.are_rates;
    formula = by_point (PointFormula-changed p s t e (record { row = c.row; theta = e.theta }) formula);
    is_way = (nonsingular, inl (within_itself p.matrix (basics_of s)));
    reaches = λ h. absurd (clash (sym h ∙ no_waypoint p s t e formula));
    no_way = λ h. (no_way, refl);
  }

pub no_parameter : (p : LinearProgram) (o : Option Change) (theta : ℚ) → theta ≡ zero_ℚ → Contains (thetas_of (job_of p o) []) theta
no_parameter p None theta is = (0, omega arith, sym is)
no_parameter p (Some c) theta is = (0, omega arith, sym is)

pub stops_at_basis : (p : LinearProgram) (s : List Status) (t : Tableau) → IsTableau p s t → IsNonsingular p.matrix (basics_of s) →
    (Goes : Status → Type 0) (around after : List Basics) (e : Evidence) →
    e.way ≡ 0 → e.theta ≡ zero_ℚ → PointFormula p s t e → StopsAt Goes p (basics_of s ∷ around) s after e
stops_at_basis p s t is_t nonsingular Goes around after e no_way no_theta formula = record {
  is_way = omega (arith, no_way);
  is_theta = no_parameter p p.change e.theta no_theta;
  shows =
      subst (λ (w : Basics). ShowsRefusal (job_of p p.change) Goes (basics_of s ∷ around) s w e) (sym (ap (waypoint (basics_of s) after) no_way))
      (shows_at_basis p s t is_t nonsingular p.change Goes around e no_way formula);
}
