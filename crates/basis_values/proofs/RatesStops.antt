-- Evidence of the rates is evidence of a call at their basis.
use Rattle.std.proofs.Common.{◌≡◌, ℕ, zero, suc, ◌<◌, ◌≤◌, inl, inr, List, [], ◌∷◌, true, false, length, get_or, refl, sym, ◌∙◌, ap, subst, arith}
use Rattle.std.specs.Prelude.{Option, Some, None, not, ◌||◌}
use Rattle.exact_values.specs.Rational.{ℚ}
use Rattle.lp_definitions.specs.LinearProgram.{Matrix, LinearProgram}
use Rattle.lp_definitions.specs.Basis.{Basics, basics_of, IsBasis, IsNonsingular, AreRates, Tableau, IsTableau}
use Rattle.lp_definitions.specs.Waypoints.{IsWaypoint, IsWithinOne, KeepsWaypoints, waypoint}
use Rattle.lp_definitions.specs.RatesEvidence.{ExchangeRefused, CarriedRefused, EntryRefused, RowRefused, ExchangeFormula, f1, f2, f3, f4, f5, CarriedFormula}
use Rattle.lp_definitions.specs.RatesEvidence.{f12_product, f12_sum, f12_quotient, EntryFormula, f11_product, f11_sum}
use Rattle.lp_definitions.specs.declared.Change.{Change}
use Rattle.lp_definitions.specs.declared.Evidence.{Evidence}
use Rattle.lp_definitions.specs.declared.Status.{Status}
use Rattle.lp_laws.specs.Rates.{combination}
use Rattle.lp_laws.specs.Points.{standing}
use Rattle.lp_laws.proofs.Points.{IsPointOf-combination}
use Rattle.lp_laws.proofs.Values.{clash}
use Rattle.lp_laws.proofs.WaypointLaws.{within_itself, Covers, kept_within}
use Rattle.simplex_definitions.specs.Statements.{is_between}
use Rattle.simplex_definitions.specs.Evidence.{ShowsRefusal, by_exchange, by_entry, by_carried, names_waypoint}
use Rattle.lp_model.specs.RatesCalls.{IfOverflow}
use Rattle.lp_model.specs.declared.Stop.{Stop}
use Rattle.lp_model.proofs.Stops.{IfOverflow-map}
use Rattle.basis_values.specs.Calls.{HasRates, StopsAt, job_of, is_of_point, PointRefused}
use Rattle.basis_values.proofs.Existence.{rates_exist}
use Rattle.basis_values.proofs.Refusals.{IsTableau-changed, no_parameter}

covers-at : (a : Matrix) (bs around : List Basics) (k : ℕ) (d : Basics) → Covers a bs around → k < length bs → IsWithinOne a (get_or bs k d) around
covers-at a [] around k d h below = absurd (omega arith)
covers-at a (b ∷ bs) around zero d h below = h.0
covers-at a (b ∷ bs) around (suc k) d h below = covers-at a bs around k d h.1 (omega arith)

pub way_within : (a : Matrix) (b : Basics) (ways around : List Basics) (n : ℕ) → IsWithinOne a b around → Covers a ways around → n ≤ length ways →
    IsWithinOne a (waypoint b ways n) around
way_within a b ways around zero own cover is = own
way_within a b ways around (suc n) own cover is = covers-at a ways around n b cover (omega arith)

pub of_point : (o : Option Change) (n : ℕ) → (is_between 1 5 n || is_between 10 12 n) ≡ true → is_of_point o n ≡ true
of_point None n h = h
of_point (Some c) n h = rw h refl

module _ (a : Matrix) (w : Basics) (rate : ℕ → ℕ → ℚ) (e : Evidence) where
  exchange_facts : ExchangeFormula a w rate e → (names_waypoint e.formula ≡ true) × ((is_between 1 5 e.formula || is_between 10 12 e.formula) ≡ true)
  exchange_facts (f1 p q j names ex out refused) = rw names.is_formula (refl, refl)
  exchange_facts (f2 p q i j names ex basic other out refused) = rw names.is_formula (refl, refl)
  exchange_facts (f3 p q i j names ex basic other out refused) = rw names.is_formula (refl, refl)
  exchange_facts (f4 p q names ex refused) = rw names.is_formula (refl, refl)
  exchange_facts (f5 p q i names ex basic other refused) = rw names.is_formula (refl, refl)

  module _ (b : Basics) (own : ℕ → ℕ → ℚ) where
    carried_facts : CarriedFormula a b own w rate e → (names_waypoint e.formula ≡ true) × ((is_between 1 5 e.formula || is_between 10 12 e.formula) ≡ true)
    carried_facts (f12_product p q i j term names basic ex out refused) = rw names.is_formula (refl, refl)
    carried_facts (f12_sum p q i j term names basic ex out refused) = rw names.is_formula (refl, refl)
    carried_facts (f12_quotient p q j names basic ex refused) = rw names.is_formula (refl, refl)

    entry_facts : EntryFormula a b own e → (names_waypoint e.formula ≡ false) × ((is_between 1 5 e.formula || is_between 10 12 e.formula) ≡ true)
    entry_facts (f11_product i j term x names basic col is refused) = rw names.is_formula (refl, refl)
    entry_facts (f11_sum i j term x names basic col is refused) = rw names.is_formula (refl, refl)

module _ (p : LinearProgram) (s : List Status) (basis : IsBasis p s) (nonsingular : IsNonsingular p.matrix (basics_of s)) where
  -- the basis's point, with these rates
  abbrev pub tableau_of : (ℕ → ℕ → ℚ) → Tableau
  tableau_of rate = record { point = combination p.matrix (basics_of s) rate (standing p s); rate = rate }

  pub IsTableau-of : (rate : ℕ → ℕ → ℚ) → AreRates p.matrix (basics_of s) rate → IsTableau p s (tableau_of rate)
  IsTableau-of rate are = record { is_point = IsPointOf-combination p s basis rate are; are_rates = are }

  module _ (Goes : Status → Type 0) (around after : List Basics) (own : IsWithinOne p.matrix (basics_of s) around) (cover : Covers p.matrix after around)
      (e : Evidence) where
    shows_exchange : (o : Option Change) → (h : ExchangeRefused p.matrix around (basics_of s) after e) → IsWaypoint p.matrix around h.way →
        ShowsRefusal (job_of p o) Goes around s h.way e
    shows_exchange None h is_way =
        let there = rates_exist p.matrix (basics_of s) nonsingular in
        record {
          tableau = tableau_of there.0;
          is_tableau = IsTableau-of there.0 there.1;
          way_rate = h.rate;
          are_way_rates = h.at.are_rates;
          formula = by_exchange h.formula;
          is_way = is_way;
          reaches = λ _. h.at.reaches;
          no_way = λ is. absurd (clash (sym is ∙ ap not (exchange_facts p.matrix h.way h.rate e h.formula).0));
        }
    shows_exchange (Some c) h is_way =
        let there = rates_exist p.matrix (basics_of s) nonsingular in
        record {
          tableau = tableau_of there.0;
          is_tableau = IsTableau-changed p s (tableau_of there.0) (IsTableau-of there.0 there.1) nonsingular (record { row = c.row; theta = e.theta });
          way_rate = h.rate;
          are_way_rates = h.at.are_rates;
          formula = by_exchange h.formula;
          is_way = is_way;
          reaches = λ _. h.at.reaches;
          no_way = λ is. absurd (clash (sym is ∙ ap not (exchange_facts p.matrix h.way h.rate e h.formula).0));
        }

    pub stops_by_exchange : ExchangeRefused p.matrix around (basics_of s) after e → StopsAt Goes p around s after e
    stops_by_exchange h =
        let within : IsWithinOne p.matrix h.way around =
        subst (λ (w : Basics). IsWithinOne p.matrix w around) (sym h.at.is_waypoint)
        (way_within p.matrix (basics_of s) after around e.way own cover h.at.is_way) in
        record {
          is_way = h.at.is_way;
          is_theta = no_parameter p p.change e.theta h.at.no_theta;
          shows =
              subst (λ (w : Basics). ShowsRefusal (job_of p p.change) Goes around s w e) h.at.is_waypoint
              (shows_exchange p.change h (h.at.nonsingular, within));
        }

    shows_carried : (o : Option Change) → (h : CarriedRefused p.matrix around (basics_of s) after e) → IsWaypoint p.matrix around h.way →
        ShowsRefusal (job_of p o) Goes around s h.way e
    shows_carried None h is_way = record {
      tableau = tableau_of h.rate;
      is_tableau = IsTableau-of h.rate h.are_rates;
      way_rate = h.way_rate;
      are_way_rates = h.at.are_rates;
      formula = by_carried h.formula;
      is_way = is_way;
      reaches = λ _. h.at.reaches;
      no_way = λ is. absurd (clash (sym is ∙ ap not (carried_facts p.matrix h.way h.way_rate e (basics_of s) h.rate h.formula).0));
    }
    shows_carried (Some c) h is_way = record {
      tableau = tableau_of h.rate;
      is_tableau = IsTableau-changed p s (tableau_of h.rate) (IsTableau-of h.rate h.are_rates) nonsingular (record { row = c.row; theta = e.theta });
      way_rate = h.way_rate;
      are_way_rates = h.at.are_rates;
      formula = by_carried h.formula;
      is_way = is_way;
      reaches = λ _. h.at.reaches;
      no_way = λ is. absurd (clash (sym is ∙ ap not (carried_facts p.matrix h.way h.way_rate e (basics_of s) h.rate h.formula).0));
    }

    pub stops_by_carried : CarriedRefused p.matrix around (basics_of s) after e → StopsAt Goes p around s after e
    stops_by_carried h =
        let within : IsWithinOne p.matrix h.way around =
        subst (λ (w : Basics). IsWithinOne p.matrix w around) (sym h.at.is_waypoint)
        (way_within p.matrix (basics_of s) after around e.way own cover h.at.is_way) in
        record {
          is_way = h.at.is_way;
          is_theta = no_parameter p p.change e.theta h.at.no_theta;
          shows =
              subst (λ (w : Basics). ShowsRefusal (job_of p p.change) Goes around s w e) h.at.is_waypoint (shows_carried p.change h (h.at.nonsingular, within));
        }

    shows_entry : (o : Option Change) → (h : EntryRefused p.matrix (basics_of s) e) → ShowsRefusal (job_of p o) Goes around s (basics_of s) e
    shows_entry None h = record {
      tableau = tableau_of h.rate;
      is_tableau = IsTableau-of h.rate h.are_rates;
      way_rate = h.rate;
      are_way_rates = h.are_rates;
      formula = by_entry h.formula;
      is_way = (nonsingular, own);
      reaches = λ is. absurd (clash (sym is ∙ (entry_facts p.matrix (basics_of s) h.rate e (basics_of s) h.rate h.formula).0));
      no_way = λ _. (h.no_way, refl);
    }
    shows_entry (Some c) h = record {
      tableau = tableau_of h.rate;
      is_tableau = IsTableau-changed p s (tableau_of h.rate) (IsTableau-of h.rate h.are_rates) nonsingular (record { row = c.row; theta = e.theta });
      way_rate = h.rate;
      are_way_rates = h.are_rates;
      formula = by_entry h.formula;
      is_way = (nonsingular, own);
      reaches = λ is. absurd (clash (sym is ∙ (entry_facts p.matrix (basics_of s) h.rate e (basics_of s) h.rate h.formula).0));
      no_way = λ _. (h.no_way, refl);
    }

    pub stops_by_entry : EntryRefused p.matrix (basics_of s) e → StopsAt Goes p around s after e
    stops_by_entry h = record {
      is_way = omega (arith, h.no_way);
      is_theta = no_parameter p p.change e.theta h.no_theta;
      shows =
          subst (λ (w : Basics). ShowsRefusal (job_of p p.change) Goes around s w e) (sym (ap (waypoint (basics_of s) after) h.no_way))
          (shows_entry p.change h);
    }

  -- evidence of a row, and of a column
  module _ (before after : List Basics) (keeps : KeepsWaypoints p.matrix (basics_of s) before (basics_of s) after) (e : Evidence) where
    cover : Covers p.matrix after (basics_of s ∷ before)
    cover = kept_within p.matrix (basics_of s) before after keeps

    pub point_by_column : ExchangeRefused p.matrix (basics_of s ∷ before) (basics_of s) after e → PointRefused p before s after e
    point_by_column h = record {
      of_call = of_point p.change e.formula (exchange_facts p.matrix h.way h.rate e h.formula).1;
      stops = stops_by_exchange (λ to. ⊥) (basics_of s ∷ before) after (inl (within_itself p.matrix (basics_of s))) cover e h;
    }

    pub point_by_row : RowRefused p.matrix (basics_of s ∷ before) (basics_of s) after e → PointRefused p before s after e
    point_by_row (inl h) = point_by_column h
    point_by_row (inr (inl h)) = record {
      of_call = of_point p.change e.formula (carried_facts p.matrix h.way h.way_rate e (basics_of s) h.rate h.formula).1;
      stops = stops_by_carried (λ to. ⊥) (basics_of s ∷ before) after (inl (within_itself p.matrix (basics_of s))) cover e h;
    }
    point_by_row (inr (inr h)) = record {
      of_call = of_point p.change e.formula (entry_facts p.matrix (basics_of s) h.rate e (basics_of s) h.rate h.formula).1;
      stops = stops_by_entry (λ to. ⊥) (basics_of s ∷ before) after (inl (within_itself p.matrix (basics_of s))) cover e h;
    }

-- ---- a stop of the rates of a basis

pub keeps_at : (p : LinearProgram) (s : List Status) (a : Matrix) (b c : Basics) (ways now : List Basics) → HasRates a b p s → c ≡ b →
    KeepsWaypoints a b ways c now → KeepsWaypoints p.matrix (basics_of s) ways (basics_of s) now
keeps_at p s a b c ways now has same keeps = rw (same, has.same_matrix, has.same_basics) at keeps

module _ (p : LinearProgram) (s : List Status) (a : Matrix) (b c : Basics) (ways now : List Basics) (stop : Stop) (has : HasRates a b p s) (same : c ≡ b)
    (keeps : KeepsWaypoints a b ways c now) where
  pub column_refused : IfOverflow stop (ExchangeRefused a (b ∷ ways) b now) → IfOverflow stop (PointRefused p ways s now)
  column_refused h =
      IfOverflow-map stop (λ e x. point_by_column p s has.is_basis has.nonsingular ways now (keeps_at p s a b c ways now has same keeps) e x)
      (rw (has.same_matrix, has.same_basics) at h)

  pub row_refused : IfOverflow stop (RowRefused a (b ∷ ways) b now) → IfOverflow stop (PointRefused p ways s now)
  row_refused h =
      IfOverflow-map stop (λ e x. point_by_row p s has.is_basis has.nonsingular ways now (keeps_at p s a b c ways now has same keeps) e x)
      (rw (has.same_matrix, has.same_basics) at h)
