-- What is proved of bases in changed programs, as the functions of src/lib.rt promise it.
use Rattle.std.specs.Prelude.{◌≡◌, ◌↔◌, ℕ, ◌+◌, true, false, List, None}
use Rattle.exact_values.specs.Rational.{ℚ, ◌+ℚ◌}
use Rattle.lp_definitions.specs.LinearProgram.{LinearProgram, Vector, IsRow, IsColumn, IsVariable, IsLinearProgram, cost}
use Rattle.lp_definitions.specs.Solutions.{IsFeasible}
use Rattle.lp_definitions.specs.Basis.{basics_of, status_of, IsBasis, IsNonsingular, IsOptimalBasis, Tableau, IsTableau}
use Rattle.lp_definitions.specs.declared.Status.{Status}
use Rattle.simplex_definitions.specs.Moves.{lowers}
use Rattle.simplex_definitions.specs.Path.{worth_rate}
use Rattle.simplex_definitions.specs.Ranges.{with_limit, with_cost, with_row, stands_at_limit}
use Rattle.simplex_definitions.specs.ObjectiveRun.{objective_family}
use Rattle.simplex_definitions.specs.RhsRun.{rhs_family, IsSlope}
use Rattle.sensitivity_laws.specs.Changes.{HasRows, IsRightTableau, RatesStay, LimitStays, ValuesStay, worths, slopes}

-- a basis is optimal where one tableau of it says so, and then each does
pub record TableauLaws : Type 0 where
  pub by_tableau : (p : LinearProgram) (s : List Status) (t : Tableau) → IsBasis p s → IsNonsingular p.matrix (basics_of s) → HasRows p → IsTableau p s t
      → IsOptimalBasis p s ↔ IsRightTableau p s t

-- a basis that is optimal, with its tableau, in a program without a change row
pub record IsPresent (p : LinearProgram) (s : List Status) (t : Tableau) : Type 0 where
  pub lawful : IsLinearProgram p
  pub no_change : p.change ≡ None
  pub optimal : IsOptimalBasis p s
  pub is_tableau : IsTableau p s t

-- a basis with its tableau, whose point is feasible
pub record IsFeasibleBasis (p : LinearProgram) (s : List Status) (t : Tableau) : Type 0 where
  pub is_basis : IsBasis p s
  pub nonsingular : IsNonsingular p.matrix (basics_of s)
  pub objective_row : IsRow p.matrix p.objective
  pub is_tableau : IsTableau p s t
  pub feasible : IsFeasible p t.point

-- a basis with its tableau, no nonbasic of which may move so as to improve the objective
pub record IsDualFeasibleBasis (p : LinearProgram) (s : List Status) (t : Tableau) : Type 0 where
  pub is_basis : IsBasis p s
  pub nonsingular : IsNonsingular p.matrix (basics_of s)
  pub rows : HasRows p
  pub is_tableau : IsTableau p s t
  pub right : (k : ℕ) → IsVariable p.matrix k → lowers p s (worth_rate p s t) k ≡ false

-- where it stays optimal
pub record ChangedLaws : Type 0 where
  -- x times the activity of a row is added to the objective
  pub row : (p : LinearProgram) (s : List Status) (t : Tableau) → IsPresent p s t → (i : ℕ) → IsRow p.matrix i → (x : ℚ)
      → IsOptimalBasis (with_row p i x) s ↔ RatesStay p s (worths p t) (slopes p t i) x
  -- the same as in a parametric run, where only the basis's point need be feasible
  pub objective : (p : LinearProgram) (s : List Status) (t : Tableau) → IsFeasibleBasis p s t → (h : ℕ) → IsRow p.matrix h → (x : ℚ)
      → IsOptimalBasis (objective_family p h x) s ↔ RatesStay p s (worths p t) (slopes p t h) x
  -- x is added to the cost of a column
  pub cost : (p : LinearProgram) (s : List Status) (t : Tableau) → IsPresent p s t → (j : ℕ) → IsColumn p.matrix j → (x : ℚ)
      → IsOptimalBasis (with_cost p (p.rows + j) (cost p j +ℚ x)) s ↔ RatesStay p s (worths p t) (slopes p t (p.rows + j)) x
  -- x is added to the limit at which a nonbasic stands
  pub limit : (p : LinearProgram) (s : List Status) (t : Tableau) → IsPresent p s t → (k : ℕ) → IsVariable p.matrix k
      → stands_at_limit (status_of s k) ≡ true → (x : ℚ) → IsOptimalBasis (with_limit p s k (t.point k +ℚ x)) s ↔ LimitStays p s t k x
  -- x times its shift is added to each limit of a row: the basis's point, which need not be feasible, moves with the slope v
  pub limits : (p : LinearProgram) (s : List Status) (t : Tableau) → IsDualFeasibleBasis p s t → (shift : List ℚ) (v : Vector)
      → IsSlope p s shift v → (x : ℚ) → IsOptimalBasis (rhs_family p shift x) s ↔ ValuesStay p shift t.point v x
  -- and a basis that is optimal at one value of x is dual feasible at each
  pub dual_feasible : (p : LinearProgram) (s : List Status) (t : Tableau) → IsBasis p s → IsNonsingular p.matrix (basics_of s)
      → HasRows p → IsTableau p s t → (shift : List ℚ) (x : ℚ) → IsOptimalBasis (rhs_family p shift x) s → IsDualFeasibleBasis p s t
