-- From a basis there is one dual path, which goes over bases with right prices alone.
use Rattle.std.proofs.Common.{◌≡◌, ℕ, ◌⊎◌, inl, inr, List, [], ◌∷◌, refl}
use Rattle.std.specs.Prelude.{Option, Some, None}
use Rattle.exact_values.specs.Rational.{ℚ}
use Rattle.lp_definitions.specs.LinearProgram.{LinearProgram, IsVariable, IsLinearProgram, lower_of, upper_of}
use Rattle.lp_definitions.specs.Basis.{status_of, IsFixed, IsRightAt, Tableau, IsTableau}
use Rattle.lp_definitions.specs.declared.Status.{Status}
use Rattle.simplex_definitions.specs.Moves.{lowers}
use Rattle.simplex_definitions.specs.Path.{PathEnding, last_of, entering_variable, worth_rate}
use Rattle.simplex_definitions.specs.DualPath.{dual_turn, HasRightPrices, IsWrongAt, IsDualStep, DualEndsAt, IsDualPath, DualPathEnds, DualGoesOnFor}
use Rattle.simplex_laws.specs.Laws.{IsNonsingularBasis, HasTableau, SameEnds, RuleEndsWithin}
use Rattle.simplex_laws.proofs.Ends.{rates_right}
use Rattle.simplex_laws.proofs.Goes.{rule_ends_or_goes_on}
use Rattle.simplex_laws.proofs.OnePath.{same_tableau, rule_path_leads, rule_one_step, rule_one_end, rule_step_or_end, rule_one_path, rule_not_both}
use Rattle.simplex_laws.proofs.Searches.{least_none}
use Rattle.simplex_laws.proofs.Booleans.{right_improves_not}
use Rattle.simplex_laws.proofs.DualTurns.{dual_turn_same, dual_leads_to, keeps_right}

pub dual_leads : (p : LinearProgram) (s next : List Status) → IsNonsingularBasis p s → IsDualStep p s next → IsNonsingularBasis p next
dual_leads p s next at step = (dual_leads_to p s next at step).at

pub dual_path_leads : (p : LinearProgram) (s : List Status) (bases : List (List Status)) → IsNonsingularBasis p s → IsDualPath p s bases →
    IsNonsingularBasis p (last_of s bases)
dual_path_leads p = rule_path_leads dual_turn p (dual_leads p)

module _ (p : LinearProgram) (lawful : IsLinearProgram p) where
  one_turn : (s : List Status) → IsNonsingularBasis p s → (t u : Tableau) → IsTableau p s t → IsTableau p s u → dual_turn p s t ≡ dual_turn p s u
  one_turn s at t u first second = dual_turn_same p s t u lawful at (same_tableau p s at t u first second)

  pub path_right : p.change ≡ None → (s : List Status) (bases : List (List Status)) → IsNonsingularBasis p s → HasRightPrices p s → IsDualPath p s bases →
      HasRightPrices p (last_of s bases)
  path_right no_change s [] at right path = right
  path_right no_change s (next ∷ bases) at right path =
      path_right no_change next bases (dual_leads p s next at path.0) (keeps_right p s next lawful no_change at right path.0) path.1

  pub one_step : (s next other : List Status) → IsNonsingularBasis p s → IsDualStep p s next → IsDualStep p s other → next ≡ other
  one_step = rule_one_step dual_turn p one_turn (dual_leads p)

  pub one_end : (s : List Status) (ending other : PathEnding) → IsNonsingularBasis p s → DualEndsAt p s ending → DualEndsAt p s other → ending ≡ other
  one_end = rule_one_end dual_turn p one_turn (dual_leads p)

  pub step_or_end : (s next : List Status) (ending : PathEnding) → IsNonsingularBasis p s → IsDualStep p s next → DualEndsAt p s ending → ⊥
  step_or_end = rule_step_or_end dual_turn p one_turn (dual_leads p)

  pub one_path : (s : List Status) (bases others : List (List Status)) (ending other : PathEnding) → IsNonsingularBasis p s → DualPathEnds p s bases ending →
      DualPathEnds p s others other → SameEnds bases others ending other
  one_path = rule_one_path dual_turn p one_turn (dual_leads p)

  pub not_both : (steps : ℕ) (s : List Status) → IsNonsingularBasis p s → RuleEndsWithin dual_turn p s steps → DualGoesOnFor p s steps → ⊥
  not_both = rule_not_both dual_turn p one_turn (dual_leads p)

pub ends_or_goes_on : (p : LinearProgram) (steps : ℕ) (s : List Status) → IsNonsingularBasis p s → HasTableau p s →
    RuleEndsWithin dual_turn p s steps ⊎ DualGoesOnFor p s steps
ends_or_goes_on p = rule_ends_or_goes_on dual_turn p (dual_leads_to p)

pub right_or_wrong : (p : LinearProgram) (s : List Status) → HasTableau p s → HasRightPrices p s ⊎ ((j : ℕ) × IsWrongAt p s j)
right_or_wrong p s has = by (entering_variable p s has.tableau None) refl
  where
    by : (o : Option ℕ) → entering_variable p s has.tableau None ≡ o → HasRightPrices p s ⊎ ((j : ℕ) × IsWrongAt p s j)
    by None e = inl (record { tableau = has.tableau; is_tableau = has.is_tableau; right = e })
    by (Some j) e = inr (j, record { tableau = has.tableau; is_tableau = has.is_tableau; wrong = e })

pub signs : (p : LinearProgram) (s : List Status) (t : Tableau) → IsNonsingularBasis p s → IsTableau p s t → entering_variable p s t None ≡ None →
    (k : ℕ) → IsVariable p.matrix k → IsFixed p k ⊎ IsRightAt (status_of s k) (worth_rate p s t k)
signs p s t at tab right = rates_right p s t at.is_basis tab right

pub from_signs : (p : LinearProgram) (s : List Status) (t : Tableau) →
    ((k : ℕ) → IsVariable p.matrix k → IsFixed p k ⊎ IsRightAt (status_of s k) (worth_rate p s t k)) → entering_variable p s t None ≡ None
from_signs p s t right =
    least_none p (lowers p s (worth_rate p s t)) (λ k is. right_improves_not (status_of s k) (lower_of p k) (upper_of p k) (worth_rate p s t k) (right k is))
