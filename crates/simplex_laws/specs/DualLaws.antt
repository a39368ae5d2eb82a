-- The laws of the dual path, as the function of src/lib.rt promises them.
--     DualLaws                     a step keeps prices right, an end is one of the simplex path, and there is one path
use Rattle.std.specs.Prelude.{◌≡◌, ◌⊎◌, ℕ, None, List}
use Rattle.exact_values.specs.Rational.{ℚ}
use Rattle.lp_definitions.specs.LinearProgram.{LinearProgram, IsVariable, IsLinearProgram}
use Rattle.lp_definitions.specs.Basis.{status_of, IsFixed, IsRightAt, Tableau, IsTableau}
use Rattle.lp_definitions.specs.declared.Status.{Status}
use Rattle.simplex_definitions.specs.Path.{PathEnding, EndsUnbounded, EndsAt, last_of, entering_variable, worth_rate}
use Rattle.simplex_definitions.specs.DualPath.{dual_turn, HasRightPrices, IsWrongAt, IsDualStep, DualEndsAt, IsDualPath, DualPathEnds, DualGoesOnFor}
use Rattle.simplex_laws.specs.Laws.{IsNonsingularBasis, HasTableau, SameEnds, RuleEndsWithin}

pub record DualLaws : Type 0 where
  -- a step leads to a basis, and the prices of that are right again; and so it is along a path
  pub leads : (p : LinearProgram) (s next : List Status) → IsNonsingularBasis p s → IsDualStep p s next → IsNonsingularBasis p next
  pub keeps_right : (p : LinearProgram) (s next : List Status) → IsLinearProgram p → p.change ≡ None → IsNonsingularBasis p s → HasRightPrices p s →
      IsDualStep p s next → HasRightPrices p next
  pub path_leads : (p : LinearProgram) (s : List Status) (bases : List (List Status)) → IsNonsingularBasis p s → IsDualPath p s bases →
      IsNonsingularBasis p (last_of s bases)
  pub path_right : (p : LinearProgram) (s : List Status) (bases : List (List Status)) → IsLinearProgram p → p.change ≡ None → IsNonsingularBasis p s →
      HasRightPrices p s → IsDualPath p s bases → HasRightPrices p (last_of s bases)
  -- prices are right, or one is the first wrong one, and not both; and right is what it is in an optimal basis
  pub right_or_wrong : (p : LinearProgram) (s : List Status) → HasTableau p s → HasRightPrices p s ⊎ ((j : ℕ) × IsWrongAt p s j)
  pub not_both_prices : (p : LinearProgram) (s : List Status) (j : ℕ) → IsLinearProgram p → IsNonsingularBasis p s → HasRightPrices p s → IsWrongAt p s j → ⊥
  pub one_wrong : (p : LinearProgram) (s : List Status) (j k : ℕ) → IsLinearProgram p → IsNonsingularBasis p s → IsWrongAt p s j → IsWrongAt p s k → j ≡ k
  pub signs : (p : LinearProgram) (s : List Status) (t : Tableau) → IsNonsingularBasis p s → IsTableau p s t → entering_variable p s t None ≡ None →
      (k : ℕ) → IsVariable p.matrix k → IsFixed p k ⊎ IsRightAt (status_of s k) (worth_rate p s t k)
  pub from_signs : (p : LinearProgram) (s : List Status) (t : Tableau) →
      ((k : ℕ) → IsVariable p.matrix k → IsFixed p k ⊎ IsRightAt (status_of s k) (worth_rate p s t k)) → entering_variable p s t None ≡ None
  -- from right prices an end is one of the simplex path, and none is unbounded
  pub ends : (p : LinearProgram) (s : List Status) (ending : PathEnding) → IsLinearProgram p → IsNonsingularBasis p s → HasRightPrices p s →
      DualEndsAt p s ending → EndsAt p s ending
  pub never_unbounded : (p : LinearProgram) (s : List Status) (z d : List ℚ) → DualEndsAt p s (EndsUnbounded z d) → ⊥
  -- there is one path
  pub one_step : (p : LinearProgram) (s next other : List Status) → IsLinearProgram p → IsNonsingularBasis p s → IsDualStep p s next → IsDualStep p s other →
      next ≡ other
  pub one_end : (p : LinearProgram) (s : List Status) (ending other : PathEnding) → IsLinearProgram p → IsNonsingularBasis p s → DualEndsAt p s ending →
      DualEndsAt p s other → ending ≡ other
  pub step_or_end : (p : LinearProgram) (s next : List Status) (ending : PathEnding) → IsLinearProgram p → IsNonsingularBasis p s → IsDualStep p s next →
      DualEndsAt p s ending → ⊥
  pub one_path : (p : LinearProgram) (s : List Status) (bases others : List (List Status)) (ending other : PathEnding) → IsLinearProgram p →
      IsNonsingularBasis p s →
      DualPathEnds p s bases ending → DualPathEnds p s others other → SameEnds bases others ending other
  pub ends_or_goes_on : (p : LinearProgram) (steps : ℕ) (s : List Status) → IsNonsingularBasis p s → HasTableau p s →
      RuleEndsWithin dual_turn p s steps ⊎ DualGoesOnFor p s steps
  pub not_both : (p : LinearProgram) (steps : ℕ) (s : List Status) → IsLinearProgram p → IsNonsingularBasis p s → RuleEndsWithin dual_turn p s steps →
      DualGoesOnFor p s steps → ⊥
