-- What is proved of linear programs and their bases, as the functions of src/lib.rt promise it.
use Rattle.std.specs.Prelude.{◌≡◌, ◌≢◌, ℕ, ◌+◌, List, map, filter, not, Some, ◌↔◌}
use Rattle.exact_values.specs.Rational.{ℚ, zero_ℚ, neg_ℚ, ◌+ℚ◌, ◌*ℚ◌, ◌<ℚ◌}
use Rattle.exact_values.specs.Sums.{sum_up_to}
use Rattle.lp_definitions.specs.LinearProgram.{Matrix, LinearProgram, Vector, entry, column, variables, lower_of, upper_of, for_min, objective_value, IsColumn}
use Rattle.lp_definitions.specs.LinearProgram.{IsVariable, IsMatrix, IsLinearProgram, KeepsEquations}
use Rattle.lp_definitions.specs.Solutions.{IsFeasible, IsBest, IsDualCertificate, IsRay, ProvesInfeasible, ProvesUnbounded, IsInfeasible, IsUnbounded}
use Rattle.lp_definitions.specs.Basis.{Basics, is_in, IsBasic, IsNonbasic, IsNonsingular, IsDirectionOf, AreRates, exchanged, row_basics, basics_of, status_of}
use Rattle.lp_definitions.specs.Basis.{with_status, opening_statuses, IsAllowed, StandsAt, IsBasis, IsPointOf, IsOptimalBasis, price_at}
use Rattle.lp_definitions.specs.Waypoints.{KeepsWaypoints}
use Rattle.lp_definitions.specs.RatesEvidence.{multiplier, other_basics, sum_from}
use Rattle.lp_definitions.specs.declared.Entry.{Entry}
use Rattle.lp_definitions.specs.declared.Status.{Status}
use Rattle.lp_definitions.specs.declared.Status.TheVariants.{Bs, Fr}
use Rattle.lp_laws.specs.Vectors.{functional, column_value, along}
use Rattle.lp_laws.specs.Rates.{exchanged_rate, opening_rate, combination}
use Rattle.lp_laws.specs.Points.{standing}

-- what the certificates of the three answers prove
pub record CertificateLaws : Type 0 where
  pub best : (p : LinearProgram) → IsLinearProgram p → (z y : Vector) → IsFeasible p z → IsDualCertificate p z y → IsBest p z
  pub infeasible : (p : LinearProgram) → ProvesInfeasible p → IsInfeasible p
  pub unbounded : (p : LinearProgram) (z d : Vector) → ProvesUnbounded p z d → IsUnbounded p

-- a functional on the vectors that keep the equations is known by what it counts each column at
pub record FunctionalLaws : Type 0 where
  pub by_columns : (a : Matrix) (y x : Vector) → KeepsEquations a x → functional a y x ≡ sum_up_to a.cols (λ j. column_value a y j *ℚ x (a.rows + j))
  pub same : (a : Matrix) (y w : Vector) →
      ((j : ℕ) → IsColumn a j → column_value a y j ≡ column_value a w j) ↔ ((x : Vector) → KeepsEquations a x → functional a y x ≡ functional a w x)
  pub of_entries : (a : Matrix) → IsMatrix a → (f : ℕ → ℚ) (start : ℚ) (j : ℕ) → IsColumn a j
      → sum_from start (map (λ (e : Entry). f e.row *ℚ e.value) (column a j)) ≡ start +ℚ sum_up_to a.rows (λ i. f i *ℚ entry a i j)

-- the rates of a nonsingular set
pub record RatesLaws : Type 0 where
  pub rows_nonsingular : (a : Matrix) → IsNonsingular a (row_basics a)
  pub rows_rates : (a : Matrix) → AreRates a (row_basics a) (opening_rate a)
  pub one_table : (a : Matrix) (b : Basics) (rate other : ℕ → ℕ → ℚ) → IsNonsingular a b → AreRates a b rate → AreRates a b other → (i j : ℕ) → IsVariable a i →
      IsNonbasic a b j → rate i j ≡ other i j
  pub exchanged_nonsingular : (a : Matrix) (b : Basics) (p q : ℕ) (d : Vector) → IsNonsingular a b → IsBasic a b p → IsNonbasic a b q → IsDirectionOf a b q d →
      d p ≢ zero_ℚ → IsNonsingular a (exchanged b p q)
  pub exchanged_rates : (a : Matrix) (b : Basics) → IsNonsingular a b → (rate : ℕ → ℕ → ℚ) → AreRates a b rate → (p q : ℕ) → IsBasic a b p → IsNonbasic a b q →
      rate p q ≢ zero_ℚ → AreRates a (exchanged b p q) (exchanged_rate rate p q)
  pub by_nonbasics : (a : Matrix) (b : Basics) (rate : ℕ → ℕ → ℚ) → AreRates a b rate → IsNonsingular a b → (x : Vector) → KeepsEquations a x → (i : ℕ) →
      IsVariable a i → x i ≡ combination a b rate x i
  pub from_nonbasics : (a : Matrix) (b : Basics) (rate : ℕ → ℕ → ℚ) → AreRates a b rate → (x : Vector) →
      ((i : ℕ) → IsVariable a i → x i ≡ combination a b rate x i) → KeepsEquations a x
  pub row_vanishes : (a : Matrix) (b : Basics) (rate : ℕ → ℕ → ℚ) → AreRates a b rate → IsNonsingular a b → (r : ℕ) → IsBasic a b r → (j : ℕ) → IsColumn a j →
      column_value a (multiplier b rate r) j ≡ zero_ℚ
  pub in_order : (a : Matrix) (b : Basics) (rate : ℕ → ℕ → ℚ) (v : Vector) (i : ℕ) →
      sum_from zero_ℚ (map (λ j. rate i j *ℚ v j) (filter (λ k. not (is_in b k)) (variables a))) ≡ combination a b rate v i
  pub carried_back : (a : Matrix) (w : Basics) (rate : ℕ → ℕ → ℚ) (p q : ℕ) (y : Vector) → AreRates a w rate → IsBasic a w p → IsNonbasic a w q
      → ((x : Vector) → KeepsEquations a x → functional a y x ≡ zero_ℚ)
      → sum_from (y q) (map (λ i. y i *ℚ rate i q) (other_basics a w p)) ≡ neg_ℚ (y p *ℚ rate p q)

-- status lists and points
pub record BasisLaws : Type 0 where
  pub opening : (p : LinearProgram) → IsBasis p (opening_statuses p)
  pub opening_basics : (p : LinearProgram) → basics_of (opening_statuses p) ≡ row_basics p.matrix
  pub replaced : (p : LinearProgram) (s : List Status) → IsBasis p s → (r q : ℕ) (to : Status) → IsVariable p.matrix r → IsVariable p.matrix q
      → status_of s r ≡ Bs → status_of s q ≢ Bs
      → to ≢ Bs → to ≢ Fr → IsAllowed to (lower_of p r) (upper_of p r) → IsBasis p (with_status (with_status s q Bs) r to)
  pub replaced_basics : (s : List Status) (r q : ℕ) (to : Status) → to ≢ Bs → basics_of (with_status (with_status s q Bs) r to) ≡ exchanged (basics_of s) r q
  pub flipped : (p : LinearProgram) (s : List Status) → IsBasis p s → (q : ℕ) (to : Status) → IsVariable p.matrix q → status_of s q ≢ Bs → to ≢ Bs → to ≢ Fr →
      IsAllowed to (lower_of p q) (upper_of p q) → IsBasis p (with_status s q to)
  pub flipped_basics : (s : List Status) (q : ℕ) (to : Status) → status_of s q ≢ Bs → to ≢ Bs → basics_of (with_status s q to) ≡ basics_of s
  pub point : (p : LinearProgram) (s : List Status) → IsBasis p s → (rate : ℕ → ℕ → ℚ) → AreRates p.matrix (basics_of s) rate →
      IsPointOf p s (combination p.matrix (basics_of s) rate (standing p s))
  pub one_point : (p : LinearProgram) (s : List Status) (z w : Vector) → IsBasis p s → IsNonsingular p.matrix (basics_of s) → IsPointOf p s z →
      IsPointOf p s w → (k : ℕ) → IsVariable p.matrix k → z k ≡ w k
  pub replaced_point : (p : LinearProgram) (s : List Status) → IsBasis p s → (z : Vector) → IsPointOf p s z → (q : ℕ) → IsVariable p.matrix q → (d : Vector)
      → IsDirectionOf p.matrix (basics_of s) q d → (t : ℚ) (r : ℕ) (to : Status)
      → IsVariable p.matrix r → StandsAt to (lower_of p r) (upper_of p r) (along z t d r) → IsPointOf p (with_status (with_status s q Bs) r to) (along z t d)
  pub flipped_point : (p : LinearProgram) (s : List Status) → IsBasis p s → (z : Vector) → IsPointOf p s z → (q : ℕ) → IsVariable p.matrix q → (d : Vector)
      → IsDirectionOf p.matrix (basics_of s) q d → (t : ℚ) (to : Status)
      → StandsAt to (lower_of p q) (upper_of p q) (along z t d q) → IsPointOf p (with_status s q to) (along z t d)

-- bases at which a path may end
pub record EndLaws : Type 0 where
  pub certificate : (p : LinearProgram) → IsLinearProgram p → (s : List Status) → (optimal : IsOptimalBasis p s) →
      IsDualCertificate p optimal.tableau.point (price_at p (basics_of s) optimal.tableau.rate)
  pub best : (p : LinearProgram) → IsLinearProgram p → (s : List Status) → (optimal : IsOptimalBasis p s) → IsBest p optimal.tableau.point
  pub ray_above : (p : LinearProgram) (w z : Vector) (r : ℕ) → IsVariable p.matrix r → ((j : ℕ) → IsColumn p.matrix j → column_value p.matrix w j ≡ zero_ℚ)
      → KeepsEquations p.matrix z
      → ((k : ℕ) → IsVariable p.matrix k → k ≢ r → zero_ℚ <ℚ w k → upper_of p k ≡ Some (z k))
      → ((k : ℕ) → IsVariable p.matrix k → k ≢ r → w k <ℚ zero_ℚ → lower_of p k ≡ Some (z k))
      → (u : ℚ) → zero_ℚ <ℚ w r → upper_of p r ≡ Some u → u <ℚ z r → IsRay p w
  pub ray_below : (p : LinearProgram) (w z : Vector) (r : ℕ) → IsVariable p.matrix r → ((j : ℕ) → IsColumn p.matrix j → column_value p.matrix w j ≡ zero_ℚ)
      → KeepsEquations p.matrix z
      → ((k : ℕ) → IsVariable p.matrix k → k ≢ r → zero_ℚ <ℚ w k → upper_of p k ≡ Some (z k))
      → ((k : ℕ) → IsVariable p.matrix k → k ≢ r → w k <ℚ zero_ℚ → lower_of p k ≡ Some (z k))
      → (l : ℚ) → w r <ℚ zero_ℚ → lower_of p r ≡ Some l → z r <ℚ l → IsRay p w
  pub step : (p : LinearProgram) (z : Vector) (t : ℚ) (d : Vector) →
      for_min p.sense (objective_value p (along z t d)) ≡ for_min p.sense (objective_value p z) +ℚ t *ℚ for_min p.sense (objective_value p d)

-- two calls of an inverse, of which the first left its basics, keep its waypoints as one does
pub record WaypointLaws : Type 0 where
  pub two_calls : (a : Matrix) (b : Basics) (ways : List Basics) (c : Basics) (mid now : List Basics) → KeepsWaypoints a b ways b mid →
      KeepsWaypoints a b mid c now → KeepsWaypoints a b ways c now
