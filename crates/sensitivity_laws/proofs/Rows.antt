-- A multiple of a row is added to the objective.
use Rattle.std.proofs.Common.{◌≡◌, ℕ, List, Option, Some, None}
use Rattle.std.specs.Prelude.{◌↔◌, false}
use Rattle.exact_values.specs.Rational.{ℚ}
use Rattle.lp_definitions.specs.LinearProgram.{LinearProgram, IsRow, IsLinearProgram, ChangeIsFree}
use Rattle.lp_definitions.specs.Solutions.{IsFeasible}
use Rattle.lp_definitions.specs.Basis.{IsBasis, IsOptimalBasis, Tableau, IsTableau}
use Rattle.lp_definitions.specs.declared.Change.{Change}
use Rattle.lp_definitions.specs.declared.Status.{Status}
use Rattle.simplex_definitions.specs.Moves.{may_rise, may_fall, lowers}
use Rattle.simplex_definitions.specs.Path.{worth_rate}
use Rattle.simplex_definitions.specs.Ranges.{with_row}
use Rattle.sensitivity_laws.specs.Changes.{HasRows, ChangeIsRow, RatesStay, SidesHold, rate_sides, worths, slopes}
use Rattle.sensitivity_laws.specs.Laws.{IsPresent, IsFeasibleBasis}
use Rattle.sensitivity_laws.proofs.Tableaus.{by_tableau}
use Rattle.sensitivity_laws.proofs.Signs.{sides_of_rate, for_min-add}

pub lawful_rows : (p : LinearProgram) → IsLinearProgram p → HasRows p
lawful_rows p lawful = record { objective = lawful.objective_row; change = at p.change lawful.change_free }
  where
    at : (c : Option Change) → ChangeIsFree p c → ChangeIsRow p.matrix c
    at None free = tt
    at (Some c) free = free.0

module _ (p : LinearProgram) (s : List Status) (t : Tableau) (present : IsPresent p s t) where
  pub rows_of : HasRows p
  rows_of = lawful_rows p present.lawful

  pub feasible_now : IsFeasible p t.point
  feasible_now = ((by_tableau p s present.optimal.is_basis present.optimal.nonsingular rows_of t present.is_tableau).0 present.optimal).feasible

-- the point of the basis need only be feasible
module _ (p : LinearProgram) (s : List Status) (t : Tableau) (h : IsFeasibleBasis p s t) where
  pub objective : (i : ℕ) → IsRow p.matrix i → (x : ℚ) → IsOptimalBasis (with_row p i x) s ↔ RatesStay p s (worths p t) (slopes p t i) x
  objective i is x = (to, back)
    where
      q : LinearProgram
      q = with_row p i x

      basis : IsBasis (with_row p i x) s
      basis = let b = h.is_basis in record { counted = b.counted; m_basics = b.m_basics; free_rows = b.free_rows; allowed = b.allowed }

      rows : HasRows (with_row p i x)
      rows = record { objective = h.objective_row; change = is }

      tab : IsTableau (with_row p i x) s t
      tab = let u = h.is_tableau in record { is_point = record { keeps = u.is_point.keeps; placed = u.is_point.placed }; are_rates = u.are_rates }

      sides : (k : ℕ) → (lowers (with_row p i x) s (worth_rate (with_row p i x) s t) k ≡ false) ↔ SidesHold (rate_sides p s (worths p t) (slopes p t i) k) x
      sides k =
          sides_of_rate (worth_rate (with_row p i x) s t k) (worths p t k) (slopes p t i k) x (may_rise p s k) (may_fall p s k)
          (for_min-add p.sense (t.rate p.objective k) x (t.rate i k))

      to : IsOptimalBasis (with_row p i x) s → RatesStay p s (worths p t) (slopes p t i) x
      to optimal k is_k = (sides k).0 (((by_tableau (with_row p i x) s basis h.nonsingular rows t tab).0 optimal).right k is_k)

      back : RatesStay p s (worths p t) (slopes p t i) x → IsOptimalBasis (with_row p i x) s
      back hold =
          (by_tableau (with_row p i x) s basis h.nonsingular rows t tab).1
          (record { feasible = record { keeps = h.feasible.keeps; within = h.feasible.within }; right = λ k is_k. (sides k).1 (hold k is_k) })

pub row : (p : LinearProgram) (s : List Status) (t : Tableau) → IsPresent p s t → (i : ℕ) → IsRow p.matrix i → (x : ℚ) →
    IsOptimalBasis (with_row p i x) s ↔ RatesStay p s (worths p t) (slopes p t i) x
row p s t present = objective p s t (record {
  is_basis = present.optimal.is_basis;
  nonsingular = present.optimal.nonsingular;
  objective_row = present.lawful.objective_row;
  is_tableau = present.is_tableau;
  feasible = feasible_now p s t present;
})
