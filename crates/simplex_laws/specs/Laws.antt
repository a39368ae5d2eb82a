-- The laws of the path, as the functions of src/lib.rt promise them.
--     IsNonsingularBasis p s       s is a basis of p, and its basics are nonsingular
--     EndLaws                      what the path shows where it ends is a proof
--     StepLaws                     the path goes over bases alone; there is one, which for each number of steps has ended or goes on
--     SearchLaws                   what the path's choices find, and when
--     FeasibleLaws                 once the point is feasible it stays so, and the objective is never made worse
use Rattle.std.specs.Prelude.{◌≡◌, ℕ, ◌≤◌, ◌<◌, ◌⊎◌, Bool, true, false, Some, None, List, length}
use Rattle.exact_values.specs.Rational.{ℚ, ◌≤ℚ◌}
use Rattle.lp_definitions.specs.LinearProgram.{LinearProgram, Vector, value_at, for_min, objective_value, IsVariable, IsLinearProgram}
use Rattle.lp_definitions.specs.Solutions.{IsFeasible, IsBest, IsDualCertificate, IsCrossed, IsRay, ProvesUnbounded}
use Rattle.lp_definitions.specs.Basis.{basics_of, IsBasis, IsNonsingular, IsOptimalBasis, IsPointOf, ArePricesOf, Tableau, IsTableau, opening_statuses}
use Rattle.lp_definitions.specs.declared.Status.{Status}
use Rattle.simplex_definitions.specs.Moves.{least, is_no_later, step_length, blocking_variable}
use Rattle.simplex_definitions.specs.Path.{PathEnding, EndsOptimal, EndsCrossed, EndsInfeasible, EndsUnbounded, turn, Rule, RulePathEnds, IsStep, EndsAt}
use Rattle.simplex_definitions.specs.Path.{IsPath, last_of, PathEnds, GoesOnFor}

pub record IsNonsingularBasis (p : LinearProgram) (s : List Status) : Type 0 where
  pub is_basis : IsBasis p s
  pub nonsingular : IsNonsingular p.matrix (basics_of s)

-- an optimal end: the basis is optimal, with its point and prices, and the prices prove that the point is best
pub record ProvedOptimal (p : LinearProgram) (s : List Status) (z y : List ℚ) : Type 0 where
  pub optimal : IsOptimalBasis p s
  pub point : IsPointOf p s (value_at z)
  pub prices : ArePricesOf p s (value_at y)
  pub certificate : IsDualCertificate p (value_at z) (value_at y)
  pub best : IsBest p (value_at z)

pub record EndLaws : Type 0 where
  pub optimal : (p : LinearProgram) (s : List Status) (z y : List ℚ) → IsLinearProgram p → IsNonsingularBasis p s → EndsAt p s (EndsOptimal z y) →
      ProvedOptimal p s z y
  pub crossed : (p : LinearProgram) (s : List Status) (k : ℕ) → EndsAt p s (EndsCrossed k) → IsCrossed p k
  pub infeasible : (p : LinearProgram) (s : List Status) (w : List ℚ) → IsNonsingularBasis p s → EndsAt p s (EndsInfeasible w) → IsRay p (value_at w)
  pub unbounded : (p : LinearProgram) (s : List Status) (z d : List ℚ) → IsLinearProgram p → IsBasis p s → EndsAt p s (EndsUnbounded z d) →
      ProvesUnbounded p (value_at z) (value_at d)

-- the basis has a point and rates
pub record HasTableau (p : LinearProgram) (s : List Status) : Type 0 where
  pub tableau : Tableau
  pub is_tableau : IsTableau p s tableau

-- the path from s by a rule ends after at most so many steps
pub record RuleEndsWithin (rule : Rule) (p : LinearProgram) (s : List Status) (steps : ℕ) : Type 0 where
  pub bases : List (List Status)
  pub ending : PathEnding
  pub ends : RulePathEnds rule p s bases ending
  pub within : length bases ≤ steps

abbrev pub EndsWithin : LinearProgram → List Status → ℕ → Type 0
EndsWithin = RuleEndsWithin turn

-- the two paths go over the same bases and end alike
pub record SameEnds (bases others : List (List Status)) (ending other : PathEnding) : Type 0 where
  pub same_bases : bases ≡ others
  pub same_ending : ending ≡ other

pub record StepLaws : Type 0 where
  pub opening : (p : LinearProgram) → IsNonsingularBasis p (opening_statuses p)
  pub step : (p : LinearProgram) (s next : List Status) → IsNonsingularBasis p s → IsStep p s next → IsNonsingularBasis p next
  pub path : (p : LinearProgram) (s : List Status) (bases : List (List Status)) → IsNonsingularBasis p s → IsPath p s bases →
      IsNonsingularBasis p (last_of s bases)
  pub one_step : (p : LinearProgram) (s next other : List Status) → IsLinearProgram p → IsNonsingularBasis p s → IsStep p s next → IsStep p s other →
      next ≡ other
  pub one_end : (p : LinearProgram) (s : List Status) (ending other : PathEnding) → IsLinearProgram p → IsNonsingularBasis p s → EndsAt p s ending →
      EndsAt p s other → ending ≡ other
  pub step_or_end : (p : LinearProgram) (s next : List Status) (ending : PathEnding) → IsLinearProgram p → IsNonsingularBasis p s → IsStep p s next →
      EndsAt p s ending → ⊥
  pub one_path : (p : LinearProgram) (s : List Status) (bases others : List (List Status)) (ending other : PathEnding) → IsLinearProgram p →
      IsNonsingularBasis p s →
      PathEnds p s bases ending → PathEnds p s others other → SameEnds bases others ending other
  pub opening_has : (p : LinearProgram) → HasTableau p (opening_statuses p)
  pub step_has : (p : LinearProgram) (s next : List Status) → IsNonsingularBasis p s → IsStep p s next → HasTableau p next
  pub ends_or_goes_on : (p : LinearProgram) (steps : ℕ) (s : List Status) → IsNonsingularBasis p s → HasTableau p s → EndsWithin p s steps ⊎ GoesOnFor p s steps
  pub not_both : (p : LinearProgram) (steps : ℕ) (s : List Status) → IsLinearProgram p → IsNonsingularBasis p s → EndsWithin p s steps → GoesOnFor p s steps → ⊥

-- w is the feasible point of the basis next, and its objective is no worse than that of z
pub record IsNoWorse (p : LinearProgram) (next : List Status) (z w : Vector) : Type 0 where
  pub point : IsPointOf p next w
  pub feasible : IsFeasible p w
  pub no_worse : for_min p.sense (objective_value p w) ≤ℚ for_min p.sense (objective_value p z)

pub record FeasibleLaws : Type 0 where
  pub step : (p : LinearProgram) (s next : List Status) (z : Vector) → IsLinearProgram p → IsNonsingularBasis p s → IsStep p s next → IsPointOf p s z →
      IsFeasible p z → (w : Vector) × IsNoWorse p next z w
  pub path : (p : LinearProgram) (s : List Status) (bases : List (List Status)) (z : Vector) → IsLinearProgram p → IsNonsingularBasis p s → IsPath p s bases →
      IsPointOf p s z → IsFeasible p z →
      (w : Vector) × IsNoWorse p (last_of s bases) z w

-- k passes, and no variable before it does
pub record IsLeast (p : LinearProgram) (test : ℕ → Bool) (k : ℕ) : Type 0 where
  pub is_variable : IsVariable p.matrix k
  pub passes : test k ≡ true
  pub before : (j : ℕ) → 1 ≤ j → j < k → test j ≡ false

pub record SearchLaws : Type 0 where
  pub least_is : (p : LinearProgram) (test : ℕ → Bool) (k : ℕ) → IsLeast p test k → least p test ≡ Some k
  pub least_none : (p : LinearProgram) (test : ℕ → Bool) → ((k : ℕ) → IsVariable p.matrix k → test k ≡ false) → least p test ≡ None
  pub none_passes : (p : LinearProgram) (test : ℕ → Bool) → least p test ≡ None → (k : ℕ) → IsVariable p.matrix k → test k ≡ false
  pub found_passes : (p : LinearProgram) (test : ℕ → Bool) (k : ℕ) → least p test ≡ Some k → IsVariable p.matrix k × (test k ≡ true)
  pub blocking_variable_is : (p : LinearProgram) (z v : Vector) (k : ℕ) → IsVariable p.matrix k →
      ((i : ℕ) → IsVariable p.matrix i → is_no_later (step_length p z v k) (step_length p z v i) ≡ true) →
      ((j : ℕ) → 1 ≤ j → j < k → is_no_later (step_length p z v j) (step_length p z v k) ≡ false) → blocking_variable p z v ≡ Some k
  pub blocking_variable_nothing : (p : LinearProgram) (z v : Vector) → ((k : ℕ) → IsVariable p.matrix k → step_length p z v k ≡ None) → blocking_variable p z
      v ≡ None
  pub blocking_variable_none : (p : LinearProgram) (z v : Vector) → blocking_variable p z v ≡ None → (k : ℕ) → IsVariable p.matrix k → step_length p z v k
      ≡ None
  pub blocking_variable_some : (p : LinearProgram) (z v : Vector) (k : ℕ) → blocking_variable p z v ≡ Some k →
      IsVariable p.matrix k × ((i : ℕ) → IsVariable p.matrix i → is_no_later (step_length p z v k) (step_length p z v i) ≡ true)
