-- From a refused operation at the basis to evidence of the call.
use Rattle.std.proofs.Common.{◌≡◌, ◌≢◌, ℕ, ◌-◌, ◌<◌, inl, List, ◌∷◌, true, false, refl, sym, ◌∙◌, ap, subst, arith}
use Rattle.std.specs.Prelude.{Option, Some, None, not, ◌||◌, ◌&&◌, nat_eq, IsTrue}
use Rattle.exact_values.specs.Rational.{ℚ, zero_ℚ, ◌-ℚ◌, ◌/ℚ◌}
use Rattle.frac128.specs.declared.Op.TheVariants.{Add, Sub, Div}
use Rattle.lp_definitions.specs.LinearProgram.{LinearProgram, IsVariable, cost}
use Rattle.lp_definitions.specs.Basis.{Basics, basics_of, status_of, IsNonsingular, IsBasic, IsNonbasic, Tableau, IsTableau}
use Rattle.lp_definitions.specs.Waypoints.{KeepsWaypoints, waypoint}
use Rattle.lp_definitions.specs.declared.Change.{Change}
use Rattle.lp_definitions.specs.declared.Evidence.{Evidence}
use Rattle.lp_definitions.specs.declared.Status.{Status}
use Rattle.lp_laws.proofs.Values.{clash}
use Rattle.lp_laws.proofs.WaypointLaws.{within_itself, kept_within}
use Rattle.simplex_definitions.specs.Formulas.{f6, f7, f14, f15_limit, f15_nonbasic, f15_basic, limit_numbered, number_of_limit}
use Rattle.simplex_definitions.specs.Statements.{SolvingStatement, Primal, Range, is_between, belongs}
use Rattle.simplex_definitions.specs.Evidence.{Formula, ShowsRefusal, by_exchange, by_entry, by_carried, by_point, by_slack, by_move, by_ratio, by_range}
use Rattle.simplex_definitions.specs.Evidence.{by_objective, by_slope, names_waypoint}
use Rattle.basis_values.specs.Calls.{job_of, is_of_point, PointRefused, RangeRefused}
use Rattle.basis_values.proofs.Refusals.{no_parameter}
use Rattle.basis_values.proofs.Covered.{stops_covered}
use Rattle.basis_values.specs.Formulas.{IsRefusal}
use Rattle.basis_values.specs.Reach.{reach_formula}
use Rattle.ranging.specs.Formulas.{end_formula, ratio_formula}

-- ---- a point, prices, and rows

any_move : (statement : SolvingStatement) (s : List Status) (t : Tableau) (w : Basics) (rate : ℕ → ℕ → ℚ) (e : Evidence) →
    Formula statement (λ to. ⊥) s t w rate e → Formula statement (λ to. Unit {0}) s t w rate e
any_move statement s t w rate e (by_exchange f) = by_exchange f
any_move statement s t w rate e (by_entry f) = by_entry f
any_move statement s t w rate e (by_carried f) = by_carried f
any_move statement s t w rate e (by_point f) = by_point f
any_move statement s t w rate e (by_slack f) = by_slack f
any_move statement s t w rate e (by_move to goes f) = absurd goes
any_move statement s t w rate e (by_ratio f) = by_ratio f
any_move statement s t w rate e (by_range f) = by_range f
any_move statement s t w rate e (by_objective f) = by_objective f
any_move statement s t w rate e (by_slope u is f) = by_slope u is f

pub of_number : (n term : ℕ) → (is_between 1 5 n || is_between 10 12 n) ≡ true →
    ((is_between 1 12 n || is_between 14 15 n) && (not (nat_eq n 6) || not (nat_eq term 3))) ≡ true
of_number n term h = grind arith

pub range_by_point : (p : LinearProgram) (before after : List Basics) (s : List Status) (e : Evidence) → p.change ≡ None → PointRefused p before s after e →
    RangeRefused p before s after e
range_by_point p before after s e none h = record {
  of_call = of_number e.formula e.term (subst (λ (o : Option Change). IsTrue (is_of_point o e.formula)) none h.of_call);
  stops = record {
    is_way = h.stops.is_way;
    is_theta = h.stops.is_theta;
    shows =
        let f = h.stops.shows in
        record {
          tableau = f.tableau;
          is_tableau = f.is_tableau;
          way_rate = f.way_rate;
          are_way_rates = f.are_way_rates;
          formula = any_move (job_of p p.change) s f.tableau (waypoint (basics_of s) after e.way) f.way_rate e f.formula;
          is_way = f.is_way;
          reaches = f.reaches;
          no_way = f.no_way;
        };
  };
}

pub range_refused_later : (p : LinearProgram) (before mid after : List Basics) (s : List Status) (e : Evidence) →
    KeepsWaypoints p.matrix (basics_of s) before (basics_of s) mid → RangeRefused p mid s after e → RangeRefused p before s after e
range_refused_later p before mid after s e keeps h = record {
  of_call = h.of_call;
  stops =
      stops_covered (λ to. Unit {0}) p (basics_of s ∷ mid) (basics_of s ∷ before) s after e
      (inl (within_itself p.matrix (basics_of s)), kept_within p.matrix (basics_of s) before mid keeps) h.stops;
}

-- ---- the formulas of the call itself

module _ (p : LinearProgram) (s : List Status) (no_change : p.change ≡ None) (nonsingular : IsNonsingular p.matrix (basics_of s)) (t : Tableau)
    (is_t : IsTableau p s t) (before after : List Basics) (e : Evidence) where
  reported_here : e.way ≡ 0 → names_waypoint e.formula ≡ false → Formula (Primal p) (λ to. Unit {0}) s t (basics_of s) t.rate e →
      ShowsRefusal (Primal p) (λ to. Unit {0}) (basics_of s ∷ before) s (basics_of s) e
  reported_here no_way names formula = record {
    tableau = t;
    is_tableau = is_t;
    way_rate = t.rate;
    are_way_rates = is_t.are_rates;
    formula = formula;
    is_way = (nonsingular, inl (within_itself p.matrix (basics_of s)));
    reaches = λ h. absurd (clash (sym h ∙ names));
    no_way = λ h. (no_way, refl);
  }

  here : e.way ≡ 0 → e.theta ≡ zero_ℚ → names_waypoint e.formula ≡ false → belongs (Range p) e ≡ true →
      Formula (Primal p) (λ to. Unit {0}) s t (basics_of s) t.rate e → RangeRefused p before s after e
  here no_way no_theta names of_call formula = record {
    of_call = of_call;
    stops = record {
      is_way = omega (arith, no_way);
      is_theta = no_parameter p p.change e.theta no_theta;
      shows =
          subst (λ (o : Option Change). ShowsRefusal (job_of p o) (λ to. Unit {0}) (basics_of s ∷ before) s (waypoint (basics_of s) after e.way) e)
          (sym no_change)
          (subst (λ (w : Basics). ShowsRefusal (Primal p) (λ to. Unit {0}) (basics_of s ∷ before) s w e) (sym (ap (waypoint (basics_of s) after) no_way))
          (reported_here no_way names formula));
    };
  }

  pub distance_view : (i which : ℕ) (l : ℚ) → which < 3 → IsVariable p.matrix i → limit_numbered p i which ≡ Some l →
      IsRefusal (reach_formula 6 0 i which) Sub l (t.point i) e → RangeRefused p before s after e
  distance_view i which l small is limit h =
      let other : nat_eq which 3 ≡ false = grind arith in
      here h.no_way h.is_theta (ap names_waypoint h.names.is_formula) (rw (h.names.is_formula, h.names.is_term, other) refl)
      (by_point (f6 i which l h.names is limit h.refuses))

  pub rate_view : (q i which : ℕ) (l : ℚ) → IsBasic p.matrix (basics_of s) i → IsNonbasic p.matrix (basics_of s) q → limit_numbered p i which ≡ Some l
      → t.rate i q ≢ zero_ℚ
      → IsRefusal (reach_formula 7 q i which) Div (l -ℚ t.point i) (t.rate i q) e → RangeRefused p before s after e
  rate_view q i which l basic out limit moves h =
      here h.no_way h.is_theta (ap names_waypoint h.names.is_formula) (rw h.names.is_formula refl)
      (by_point (f7 q i which l h.names basic out limit moves h.refuses))

  pub ratio_view : (i j : ℕ) → IsBasic p.matrix (basics_of s) i → IsNonbasic p.matrix (basics_of s) j → t.rate i j ≢ zero_ℚ
      → IsRefusal (ratio_formula i j) Div (t.rate p.objective j) (t.rate i j) e → RangeRefused p before s after e
  ratio_view i j basic out moves h =
      here h.no_way h.is_theta (ap names_waypoint h.names.is_formula) (rw h.names.is_formula refl) (by_ratio (f14 i j h.names basic out moves h.refuses))

  pub sum_view : (i j which : ℕ) (stands l : ℚ) → IsBasic p.matrix (basics_of s) i → IsNonbasic p.matrix (basics_of s) j
      → limit_numbered p j (number_of_limit (status_of s j)) ≡ Some stands
      → limit_numbered p i which ≡ Some l → t.rate i j ≢ zero_ℚ → IsRefusal (end_formula i j which) Add stands ((l -ℚ t.point i) /ℚ t.rate i j) e
      → RangeRefused p before s after e
  sum_view i j which stands l basic out at limit moves h =
      here h.no_way h.is_theta (ap names_waypoint h.names.is_formula) (rw h.names.is_formula refl)
      (by_range (f15_limit i j which stands l h.names basic out at limit moves h.refuses))

  pub nonbasic_view : (j : ℕ) → IsNonbasic p.matrix (basics_of s) j → p.rows < j →
      IsRefusal (end_formula 0 j 0) Sub (cost p (j - p.rows)) (t.rate p.objective j) e → RangeRefused p before s after e
  nonbasic_view j out column h =
      here h.no_way h.is_theta (ap names_waypoint h.names.is_formula) (rw h.names.is_formula refl) (by_range (f15_nonbasic j h.names out column h.refuses))

  pub basic_view : (i j : ℕ) → IsBasic p.matrix (basics_of s) i → p.rows < i → IsNonbasic p.matrix (basics_of s) j → t.rate i j ≢ zero_ℚ
      → IsRefusal (end_formula i j 0) Sub (cost p (i - p.rows)) (t.rate p.objective j /ℚ t.rate i j) e → RangeRefused p before s after e
  basic_view i j basic column out moves h =
      here h.no_way h.is_theta (ap names_waypoint h.names.is_formula) (rw h.names.is_formula refl)
      (by_range (f15_basic i j h.names basic column out moves h.refuses))
