-- From a basis there is one path, with one end, and it goes over bases alone.
use Rattle.std.proofs.Common.{◌≡◌, ℕ, ◌≤◌, List, [], ◌∷◌, length, refl, sym, ap, ap₂, subst, ◌∙◌, arith}
use Rattle.lp_definitions.specs.LinearProgram.{LinearProgram, IsLinearProgram}
use Rattle.lp_definitions.specs.Basis.{basics_of, Tableau, IsTableau}
use Rattle.lp_definitions.specs.declared.Status.{Status}
use Rattle.lp_laws.proofs.Uniqueness.{one_point, one_table}
use Rattle.simplex_definitions.specs.Path.{PathEnding, Turn, turn, after, Rule, RuleStep, RuleEnd, RulePath, RulePathEnds, RuleGoesOn, IsStep, EndsAt, IsPath}
use Rattle.simplex_definitions.specs.Path.{last_of, PathEnds, GoesOnFor}
use Rattle.simplex_laws.specs.Laws.{IsNonsingularBasis, SameEnds, EndsWithin, RuleEndsWithin}
use Rattle.simplex_laws.proofs.OneTurn.{SameTableau, turn_same}
use Rattle.simplex_laws.proofs.Steps.{step_leads}

-- two tableaus of a basis have the same values and rates
pub same_tableau : (p : LinearProgram) (s : List Status) → IsNonsingularBasis p s → (t u : Tableau) → IsTableau p s t → IsTableau p s u → SameTableau p s t u
same_tableau p s at t u first second = record {
  points = one_point p s t.point u.point at.is_basis.counted at.nonsingular first.is_point second.is_point;
  rates = one_table p.matrix (basics_of s) t.rate u.rate at.nonsingular first.are_rates second.are_rates;
}

-- by any rule whose steps lead from bases to bases, each basis of a path is one
pub rule_path_leads : (rule : Rule) (p : LinearProgram) →
    ((s next : List Status) → IsNonsingularBasis p s → RuleStep rule p s next → IsNonsingularBasis p next) →
    (s : List Status) (bases : List (List Status)) → IsNonsingularBasis p s → RulePath rule p s bases → IsNonsingularBasis p (last_of s bases)
rule_path_leads rule p leads s [] at path = at
rule_path_leads rule p leads s (next ∷ bases) at path = rule_path_leads rule p leads next bases (leads s next at path.0) path.1

-- and where the rule does the same with two tableaus of a basis, there is one path
module _ (rule : Rule) (p : LinearProgram)
    (alike : (s : List Status) → IsNonsingularBasis p s → (t u : Tableau) → IsTableau p s t → IsTableau p s u → rule p s t ≡ rule p s u)
    (leads : (s next : List Status) → IsNonsingularBasis p s → RuleStep rule p s next → IsNonsingularBasis p next) where
  pub rule_one_step : (s next other : List Status) → IsNonsingularBasis p s → RuleStep rule p s next → RuleStep rule p s other → next ≡ other
  rule_one_step s next other at first second =
      let turns = sym first.turns ∙ alike s at first.tableau second.tableau first.is_tableau second.is_tableau ∙ second.turns in
      let moves : first.move ≡ second.move = cc in
      first.is_next ∙ ap (after s) moves ∙ sym second.is_next

  pub rule_one_end : (s : List Status) (ending other : PathEnding) → IsNonsingularBasis p s → RuleEnd rule p s ending → RuleEnd rule p s other → ending ≡ other
  rule_one_end s ending other at first second =
      let turns = sym first.turns ∙ alike s at first.tableau second.tableau first.is_tableau second.is_tableau ∙ second.turns in cc

  pub rule_step_or_end : (s next : List Status) (ending : PathEnding) → IsNonsingularBasis p s → RuleStep rule p s next → RuleEnd rule p s ending → ⊥
  rule_step_or_end s next ending at first second =
      let turns = sym first.turns ∙ alike s at first.tableau second.tableau first.is_tableau second.is_tableau ∙ second.turns in cc

  -- a path that has ended goes over the same bases as any other that has, and ends alike
  pub rule_one_path : (s : List Status) (bases others : List (List Status)) (ending other : PathEnding) → IsNonsingularBasis p s →
      RulePathEnds rule p s bases ending → RulePathEnds rule p s others other → SameEnds bases others ending other
  rule_one_path s [] [] ending other at first second = record { same_bases = refl; same_ending = rule_one_end s ending other at first.ends second.ends }
  rule_one_path s [] (next ∷ others) ending other at first second = absurd (rule_step_or_end s next ending at second.is_path.0 first.ends)
  rule_one_path s (next ∷ bases) [] ending other at first second = absurd (rule_step_or_end s next other at first.is_path.0 second.ends)
  rule_one_path s (next ∷ bases) (next' ∷ others) ending other at first second =
      let same : next ≡ next' = rule_one_step s next next' at first.is_path.0 second.is_path.0 in
      let moved : RulePathEnds rule p next others other =
      subst (λ x. RulePathEnds rule p x others other) (sym same) (record { is_path = second.is_path.1; ends = second.ends }) in
      let rest =
      rule_one_path next bases others ending other (leads s next at first.is_path.0) (record { is_path = first.is_path.1; ends = first.ends }) moved in
      record { same_bases = ap₂ (λ x xs. x ∷ xs) same rest.same_bases; same_ending = rest.same_ending }

  -- a path that has ended within so many steps doesn't go on after them
  rule_goes_on_from : (s : List Status) (bases further : List (List Status)) (ending : PathEnding) (next : List Status) → IsNonsingularBasis p s →
      RulePathEnds rule p s bases ending → length bases ≤ length further → RulePath rule p s further → RuleStep rule p (last_of s further) next → ⊥
  rule_goes_on_from s [] [] ending next at ended within path step = rule_step_or_end s next ending at step ended.ends
  rule_goes_on_from s [] (x ∷ further) ending next at ended within path step = rule_step_or_end s x ending at path.0 ended.ends
  rule_goes_on_from s (x ∷ bases) [] ending next at ended within path step = absurd (omega arith)
  rule_goes_on_from s (x ∷ bases) (y ∷ further) ending next at ended within path step =
      let same : x ≡ y = rule_one_step s x y at ended.is_path.0 path.0 in
      let moved : RulePath rule p x further = subst (λ z. RulePath rule p z further) (sym same) path.1 in
      let stepped : RuleStep rule p (last_of x further) next = subst (λ z. RuleStep rule p (last_of z further) next) (sym same) step in
      rule_goes_on_from x bases further ending next (leads s x at ended.is_path.0) (record { is_path = ended.is_path.1; ends = ended.ends })
      (omega arith) moved stepped

  pub rule_not_both : (steps : ℕ) (s : List Status) → IsNonsingularBasis p s → RuleEndsWithin rule p s steps → RuleGoesOn rule p s steps → ⊥
  rule_not_both steps s at ended goes_on =
      rule_goes_on_from s ended.bases goes_on.bases ended.ending goes_on.next at ended.ends
      (omega (arith, goes_on.taken, ended.within)) goes_on.is_path goes_on.is_step

-- ---- the simplex path

pub path_leads : (p : LinearProgram) (s : List Status) (bases : List (List Status)) → IsNonsingularBasis p s → IsPath p s bases →
    IsNonsingularBasis p (last_of s bases)
path_leads p = rule_path_leads turn p (step_leads p)

module _ (p : LinearProgram) (lawful : IsLinearProgram p) where
  one_turn : (s : List Status) → IsNonsingularBasis p s → (t u : Tableau) → IsTableau p s t → IsTableau p s u → turn p s t ≡ turn p s u
  one_turn s at t u first second = turn_same p s t u lawful at.is_basis (same_tableau p s at t u first second)

  pub one_step : (s next other : List Status) → IsNonsingularBasis p s → IsStep p s next → IsStep p s other → next ≡ other
  one_step = rule_one_step turn p one_turn (step_leads p)

  pub one_end : (s : List Status) (ending other : PathEnding) → IsNonsingularBasis p s → EndsAt p s ending → EndsAt p s other → ending ≡ other
  one_end = rule_one_end turn p one_turn (step_leads p)

  pub step_or_end : (s next : List Status) (ending : PathEnding) → IsNonsingularBasis p s → IsStep p s next → EndsAt p s ending → ⊥
  step_or_end = rule_step_or_end turn p one_turn (step_leads p)

  pub one_path : (s : List Status) (bases others : List (List Status)) (ending other : PathEnding) → IsNonsingularBasis p s → PathEnds p s bases ending →
      PathEnds p s others other → SameEnds bases others ending other
  one_path = rule_one_path turn p one_turn (step_leads p)

  pub not_both : (steps : ℕ) (s : List Status) → IsNonsingularBasis p s → EndsWithin p s steps → GoesOnFor p s steps → ⊥
  not_both = rule_not_both turn p one_turn (step_leads p)
