-- From the conditions of prices to optimal bases.
use Rattle.std.proofs.Common.{◌≡◌, ℕ, List, Option, arith, cond, refl, ap, subst₂, ◌∙◌, ◌⊎◌, inl, inr, Bool, true, false, None}
use Rattle.std.specs.Prelude.{◌↔◌, ◌&&◌, not}
use Rattle.exact_values.specs.Rational.{ℚ, zero_ℚ, ◌≤ℚ◌, ◌<ℚ◌}
use Rattle.exact_values.proofs.Order.{le_refl, le_trans, le_of_lt, lt_or_le}
use Rattle.sensitivity_laws.specs.Changes.{SidesHold, rate_sides, worths, slopes}
use Rattle.sensitivity_laws.specs.Laws.{IsFeasibleBasis}
use Rattle.sensitivity_laws.proofs.Rows.{objective}
use Rattle.lp_definitions.specs.LinearProgram.{LinearProgram, Vector, size, IsRow, IsVariable, IsLinearProgram, with_change_row}
use Rattle.lp_definitions.specs.Basis.{basics_of, is_in, status_of, IsNonbasic, AreRates, ArePricesOf, IsOptimalBasis, Tableau, objective_rate}
use Rattle.lp_definitions.specs.declared.Change.{Change}
use Rattle.lp_definitions.specs.declared.Status.{Status}
use Rattle.lp_definitions.specs.declared.Status.TheVariants.{Bs}
use Rattle.lp_laws.proofs.Statuses.{status_of_basic}
use Rattle.lp_laws.proofs.Uniqueness.{one_table}
use Rattle.lp_model.specs.RatesCalls.{IsRowOf}
use Rattle.simplex_definitions.specs.Moves.{is_fixed, may_rise, may_fall, rises_from, falls_from}
use Rattle.simplex_laws.specs.Laws.{IsNonsingularBasis}
use Rattle.simplex_definitions.specs.Chain.{ReachesTo}
use Rattle.simplex_definitions.specs.ObjectiveRun.{objective_family}
use Rattle.ranging.specs.RowEnds.{sides_of, RatesStayTo}
use Rattle.ranging.proofs.AtBasis.{no_sides}
use Rattle.para_objective.specs.Reach.{IsReachOf}

module _ (p : LinearProgram) (s : List Status) (h : ℕ) (lawful : IsLinearProgram p) (no_change : p.change ≡ None) (row : IsRow p.matrix h)
    (basis : IsNonsingularBasis p s)
    (prices change : Vector) (priced : ArePricesOf p s prices) (changed : IsRowOf p.matrix (basics_of s) h change) where
  row_variable : (i : ℕ) → IsRow p.matrix i → IsVariable p.matrix i
  row_variable i is = (is.0, omega (arith, is.1))

  basic_status : (k : ℕ) → IsVariable p.matrix k → is_in (basics_of s) k ≡ true → status_of s k ≡ Bs
  basic_status k is mark = status_of_basic p s basis.is_basis k (is, mark)

  pub still : (k : ℕ) → IsVariable p.matrix k → is_in (basics_of s) k ≡ true → (may_rise p s k ≡ false) × (may_fall p s k ≡ false)
  still k is mark =
      (ap (λ st. rises_from st && not (is_fixed p k)) (basic_status k is mark), ap (λ st. falls_from st && not (is_fixed p k)) (basic_status k is mark))

  pub price_is : (rate : ℕ → ℕ → ℚ) → AreRates p.matrix (basics_of s) rate → (k : ℕ) → IsNonbasic p.matrix (basics_of s) k → prices k ≡ rate p.objective k
  price_is rate are k out =
      priced.prices k out.0
      ∙ ap (λ m. cond m zero_ℚ (objective_rate p priced.rate k)) out.1
      ∙ ap (λ (c : Option Change). with_change_row c (λ i. priced.rate i k) (priced.rate p.objective k)) no_change
      ∙ one_table p.matrix (basics_of s) priced.rate rate basis.nonsingular priced.are_rates are p.objective k
      (row_variable p.objective lawful.objective_row) out

  pub rate_is : (rate : ℕ → ℕ → ℚ) → AreRates p.matrix (basics_of s) rate → (k : ℕ) → IsNonbasic p.matrix (basics_of s) k → change k ≡ rate h k
  rate_is rate are k out =
      changed.entries k out.0 ∙ ap (λ m. cond m zero_ℚ (changed.rate h k)) out.1
      ∙ one_table p.matrix (basics_of s) changed.rate rate basis.nonsingular changed.are_rates are h k (row_variable h row) out

  same_sides : (t : Tableau) → AreRates p.matrix (basics_of s) t.rate → (x : ℚ) → (k : ℕ) → IsVariable p.matrix k
      → SidesHold (sides_of p s (prices k) (change k) k) x ↔ SidesHold (rate_sides p s (worths p t) (slopes p t h) k) x
  same_sides t are x k is = at (is_in (basics_of s) k) refl
    where
      at : (m : Bool) → is_in (basics_of s) k ≡ m →
          SidesHold (sides_of p s (prices k) (change k) k) x ↔ SidesHold (rate_sides p s (worths p t) (slopes p t h) k) x
      at true mark =
          let none = still k is mark in
          (λ _. no_sides (may_rise p s k) (may_fall p s k) _ _ x none.0 none.1, λ _. no_sides (may_rise p s k) (may_fall p s k) _ _ x none.0 none.1)
      at false mark =
          subst₂ (λ a b. SidesHold (sides_of p s (prices k) (change k) k) x ↔ SidesHold (sides_of p s a b k) x) (price_is t.rate are k (is, mark))
          (rate_is t.rate are k (is, mark)) (λ h. h, λ h. h)

  pub reaches : (max to : ℚ) → IsReachOf p s prices change (size p.matrix) max to → (from : ℚ) → from ≤ℚ max → IsOptimalBasis (objective_family p h from) s →
      ReachesTo (objective_family p h) s from max to
  reaches max to reach from before optimal = record {
    forward = forward;
    within = ((reach from there to forward).0 (le_refl to)).0;
    optimal = λ theta low high. (stays theta).1 ((reach from there theta low).0 high).1;
    greatest = λ u within all. greatest u within all (lt_or_le u from);
  }
    where
      t : Tableau
      t = optimal.tableau

      feasible : IsFeasibleBasis p s optimal.tableau
      feasible = record {
        is_basis = basis.is_basis;
        nonsingular = basis.nonsingular;
        objective_row = lawful.objective_row;
        is_tableau =
            record {
              is_point = record { keeps = optimal.is_tableau.is_point.keeps; placed = optimal.is_tableau.is_point.placed };
              are_rates =
                  optimal.is_tableau.are_rates;
            };
        feasible = record { keeps = optimal.feasible.keeps; within = optimal.feasible.within };
      }

      stays : (x : ℚ) → IsOptimalBasis (objective_family p h x) s ↔ RatesStayTo p s prices change (size p.matrix) x
      stays x =
          let law = objective p s optimal.tableau feasible h row x in (
            λ o k low high. (same_sides optimal.tableau optimal.is_tableau.are_rates x k (low, high)).1 (law.0 o k (low, high)),
            λ r. law.1 (λ k is. (same_sides optimal.tableau optimal.is_tableau.are_rates x k is).0 (r k is.0 is.1)),
          )

      there : RatesStayTo p s prices change (size p.matrix) from
      there = (stays from).0 optimal

      forward : from ≤ℚ to
      forward = (reach from there from (le_refl from)).1 (before, there)

      greatest : (u : ℚ) → u ≤ℚ max → ((theta : ℚ) → from ≤ℚ theta → theta ≤ℚ u → IsOptimalBasis (objective_family p h theta) s) → (u <ℚ from) ⊎ (from ≤ℚ u) →
          u ≤ℚ to
      greatest u within all (inl less) = le_trans (le_of_lt less) forward
      greatest u within all (inr le) = (reach from there u le).1 (within, (stays u).0 (all u le (le_refl u)))
