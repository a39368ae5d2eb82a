-- The parts of a run of the objective: the point of a basis stands still, and its prices move with the rates of the change row.
use Rattle.std.proofs.Common.{◌≡◌, ℕ, Bool, true, false, cond, List, refl, ◌∙◌, pos}
use Rattle.std.specs.Prelude.{◌↔◌}
use Rattle.exact_values.specs.Rational.{ℚ, zero_ℚ, ◌+ℚ◌, ◌*ℚ◌, ◌≤ℚ◌}
use Rattle.exact_values.proofs.Ring.{by_ring1, by_ring2, ◌⊕◌, ◌⊗◌, ◌≐◌, number}
use Rattle.affine_laws.specs.Conditions.{Condition, AllHold, reach_of}
use Rattle.lp_definitions.specs.LinearProgram.{LinearProgram, Vector, size, IsRow, HasNoLimits, IsLinearProgram}
use Rattle.lp_definitions.specs.Basis.{is_in, basics_of, IsPointOf, IsOptimalBasis, ArePricesOf, Tableau, objective_rate}
use Rattle.lp_definitions.specs.declared.Status.{Status}
use Rattle.simplex_definitions.specs.Path.{listed}
use Rattle.simplex_definitions.specs.Chain.{Part, FaceTurn, along, IsPart}
use Rattle.simplex_definitions.specs.ObjectiveRun.{objective_family, objective_face, IsObjectiveFace}
use Rattle.simplex_laws.specs.Laws.{IsNonsingularBasis}
use Rattle.sensitivity_laws.specs.Changes.{rate_sides, worths, slopes}
use Rattle.sensitivity_laws.specs.Laws.{IsFeasibleBasis}
use Rattle.sensitivity_laws.proofs.Rows.{objective}
use Rattle.parametric_laws.proofs.Objective.{to_objective}
use Rattle.parametric_laws.proofs.OneObjective.{lawful_objective}
use Rattle.parametric_laws.proofs.ObjectiveGrowth.{objective_grows}
use Rattle.parametric_laws.proofs.Runs.{objective_keeps}
use Rattle.existence_laws.proofs.Conditions.{conditions_up_to, each_holds}
use Rattle.existence_laws.proofs.Reaching.{tableau_of}
use Rattle.parametric_existence_laws.specs.Laws.{HasReports}
use Rattle.parametric_existence_laws.proofs.Reaches.{reaches_to, are_counted, along_listed, point_same}
use Rattle.parametric_existence_laws.proofs.ObjectiveFaces.{objective_stays}
use Rattle.parametric_existence_laws.proofs.Runs.{HasParts, has_reports}

module _ (p : LinearProgram) (h : ℕ) (lawful : IsLinearProgram p) (row : IsRow p.matrix h) (free : HasNoLimits p h) where
  face_of : (theta : ℚ) (s : List Status) → IsNonsingularBasis p s → (turn : FaceTurn) × IsObjectiveFace p h theta s turn
  face_of theta s at =
      let has = tableau_of (objective_family p h theta) s (to_objective p h theta s at) in
      (objective_face (objective_family p h theta) h theta s has.tableau, (has.tableau, has.is_tableau, refl))

  module _ (from max : ℚ) (s : List Status) (forward : from ≤ℚ max) (at : IsNonsingularBasis p s) (optimal : IsOptimalBasis (objective_family p h from) s) where
    abbrev t : Tableau
    t = optimal.tableau

    feasible : IsFeasibleBasis p s t
    feasible = record {
      is_basis = at.is_basis;
      nonsingular = at.nonsingular;
      objective_row = lawful.objective_row;
      is_tableau =
          let tab = optimal.is_tableau in record { is_point = record { keeps = tab.is_point.keeps; placed = tab.is_point.placed }; are_rates = tab.are_rates };
      feasible = record { keeps = optimal.feasible.keeps; within = optimal.feasible.within };
    }

    abbrev conditions : List Condition
    conditions = conditions_up_to (rate_sides p s (worths p t) (slopes p t h)) (size p.matrix)

    optimal_where : (x : ℚ) → AllHold conditions x ↔ IsOptimalBasis (objective_family p h x) s
    optimal_where x =
        let law = objective p s t feasible h row x in
        let each = each_holds (rate_sides p s (worths p t) (slopes p t h)) x p.matrix in
        ((λ hold. law.1 (each.0 hold)), (λ there. each.1 (law.0 there)))

    -- a row's rates at the nonbasics, and 0 at the basics
    row_prices : ℕ → Vector
    row_prices i k = cond (is_in (basics_of s) k) zero_ℚ (t.rate i k)

    still : (theta : ℚ) → IsPointOf (objective_family p h theta) s (along theta (listed p.matrix t.point) (listed p.matrix (λ k. zero_ℚ)))
    still theta =
        point_same (objective_family p h theta) s t.point (along theta (listed p.matrix t.point) (listed p.matrix (λ k. zero_ℚ)))
        (λ k is. along_listed p.matrix theta t.point (λ k. zero_ℚ) k is ∙ by_ring2 (t.point k) theta (λ z x. z ⊕ x ⊗ number (pos 0) ≐ z) refl)
        (record { keeps = feasible.is_tableau.is_point.keeps; placed = feasible.is_tableau.is_point.placed })

    moved : (theta : ℚ) → ArePricesOf (objective_family p h theta) s (along theta (listed p.matrix (row_prices p.objective)) (listed p.matrix (row_prices h)))
    unfolding row_prices
    moved theta = record {
      rate = t.rate;
      are_rates = feasible.is_tableau.are_rates;
      prices = λ k is. along_listed p.matrix theta (row_prices p.objective) (row_prices h) k is ∙ by_mark k (is_in (basics_of s) k);
    }
      where
        by_mark : (k : ℕ) (mark : Bool) →
            cond mark zero_ℚ (t.rate p.objective k) +ℚ theta *ℚ cond mark zero_ℚ (t.rate h k) ≡ cond mark zero_ℚ
            (objective_rate (objective_family p h theta) t.rate k)
        by_mark k true = by_ring1 theta (λ x. number (pos 0) ⊕ x ⊗ number (pos 0) ≐ number (pos 0)) refl
        by_mark k false = refl

    part_of : (part : Part) × IsPart (objective_family p h) from max s part
    part_of = (
      record {
        from = from;
        to = reach_of max conditions;
        statuses = s;
        value = listed p.matrix t.point;
        value_rate = listed p.matrix (λ k. zero_ℚ);
        price = listed p.matrix (row_prices p.objective);
        price_rate = listed p.matrix (row_prices h);
      },
      record {
        begins = refl;
        statuses = refl;
        reaches = reaches_to (objective_family p h) s conditions optimal_where from max forward optimal;
        values = still;
        prices = moved;
        values_counted = are_counted (objective_family p h) from t.point (λ k. zero_ℚ);
        prices_counted = are_counted (objective_family p h) from (row_prices p.objective) (row_prices h);
      },
    )

  parts : HasParts p (objective_family p h) (IsObjectiveFace p h)
  parts = record {
    lawful = lawful_objective p h lawful row free;
    bases = objective_keeps p h;
    face = face_of;
    part = part_of;
    keeps = objective_stays p h lawful row;
    grows = objective_grows p h lawful row free;
  }

  pub objective_reports : HasReports p (objective_family p h) (IsObjectiveFace p h)
  objective_reports = has_reports p (objective_family p h) (IsObjectiveFace p h) parts
