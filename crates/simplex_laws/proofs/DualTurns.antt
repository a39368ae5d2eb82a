-- The dual path: a step leads to a basis and keeps prices right, and its ends are those of the simplex path.
use Rattle.std.proofs.Common.{◌≡◌, ◌≢◌, ℕ, Bool, true, false, List, refl, sym, ap, ap₂, subst, ◌∙◌, arith}
use Rattle.std.specs.Prelude.{Option, Some, None, not, ◌&&◌, ◌||◌, if◌then◌else◌}
use Rattle.std.proofs.lemmas.Bool.{and_parts}
use Rattle.exact_values.specs.Rational.{ℚ, ◌≤ℚ◌}
use Rattle.exact_values.specs.Tests.{le_ℚ}
use Rattle.exact_values.proofs.TestsLaws.{le_from_test}
use Rattle.lp_definitions.specs.LinearProgram.{LinearProgram, size, IsVariable, IsLinearProgram}
use Rattle.lp_definitions.specs.Basis.{basics_of, Tableau, IsTableau, IsPointOf}
use Rattle.lp_definitions.specs.declared.Status.{Status}
use Rattle.lp_definitions.specs.declared.Status.TheVariants.{Ll, Ul}
use Rattle.simplex_definitions.specs.Moves.{least, lowers, entering, is_below}
use Rattle.simplex_definitions.specs.DualRatio.{restores_feasibility, ratio, is_cheapest, cheapest}
use Rattle.simplex_definitions.specs.Path.{PathEnding, EndsUnbounded, Turn, Moves, Ends, Move, after, turn, turn_for, crossed, outside, entering_variable}
use Rattle.simplex_definitions.specs.Path.{restore_feasibility, improve, excess_rate, worth_rate, RuleStep, RuleEnd, EndsAt}
use Rattle.simplex_definitions.specs.DualPath.{dual_for, dual_turn, HasRightPrices, IsWrongAt, IsDualStep, DualEndsAt}
use Rattle.simplex_laws.specs.Laws.{IsNonsingularBasis}
use Rattle.simplex_laws.proofs.UnboundedEnds.{IsEntering, enters, lowering_enters}
use Rattle.simplex_laws.proofs.Goes.{tableau_from}
use Rattle.simplex_laws.proofs.Numbered.{list_all_true}
use Rattle.simplex_laws.proofs.OnePath.{same_tableau}
use Rattle.simplex_laws.proofs.OneTurn.{SameTableau, outside_same, below_same, back_same, improve_same, worth_same, entering_same}
use Rattle.simplex_laws.proofs.Rays.{broken_basic}
use Rattle.simplex_laws.proofs.Searches.{least_none, none_passes, found_passes}
use Rattle.simplex_laws.proofs.Steps.{LeadsTo, returned_leads}
use Rattle.simplex_laws.proofs.Turns.{IsFirstPhase}
use Rattle.lp_laws.specs.Points.{standing}
use Rattle.lp_laws.specs.Rates.{exchanged_rate, combination}
use Rattle.lp_laws.proofs.Points.{IsPointOf-combination}
use Rattle.simplex_laws.proofs.Cheapest.{cheapest_none}
use Rattle.simplex_laws.proofs.DualStep.{right_after, rates_after}
use Rattle.simplex_laws.proofs.OneRatio.{cheapest_same}

-- ---- two tableaus of a basis

module _ (p : LinearProgram) (s : List Status) (t u : Tableau) (lawful : IsLinearProgram p) (at : IsNonsingularBasis p s) (same : SameTableau p s t u) where
  dual_same_for : (c o : Option ℕ) → ((r : ℕ) → o ≡ Some r → IsVariable p.matrix r) → dual_for p s t c o ≡ dual_for p s u c o
  dual_same_for (Some k) o found = refl
  dual_same_for None (Some r) found =
      ap (λ b. restore_feasibility p s t r (cheapest p s t r b)) (below_same p s t u lawful at.is_basis same r (found r refl))
      ∙ ap (restore_feasibility p s t r) (cheapest_same p s t u lawful at.is_basis same r (found r refl) (is_below p u.point r))
      ∙ back_same p s t u lawful at.is_basis same r (found r refl) (cheapest p s u r (is_below p u.point r))
  dual_same_for None None found = improve_same p s t u lawful at.is_basis same None (λ q e. cc)

  pub dual_turn_same : dual_turn p s t ≡ dual_turn p s u
  unfolding dual_turn
  dual_turn_same =
      dual_same_for (crossed p s t) (outside p s t) (λ r e. (found_passes p _ r e).0)
      ∙ ap (dual_for p s u (crossed p s u)) (outside_same p s t u lawful at.is_basis same)

  -- no tableau has other wrong prices
  pub wrong_same : entering_variable p s t None ≡ entering_variable p s u None
  wrong_same = entering_same p s at.is_basis (worth_rate p s t) (worth_rate p s u) (worth_same p s t u lawful at.is_basis same)

-- ---- what a turn tells

-- the move of a turn brings r back, for the cheapest q
pub record IsReturn (p : LinearProgram) (s : List Status) (t : Tableau) (m : Move) : Type 0 where
  pub r : ℕ
  pub q : ℕ
  pub phase : IsFirstPhase p s t r
  pub is_cheapest_of : cheapest p s t r (is_below p t.point r) ≡ Some q
  pub gives : m ≡ record { enters = q; leaves = r; to = if is_below p t.point r then Ll else Ul }

module _ (p : LinearProgram) (s : List Status) (t : Tableau) where
  returned : (r : ℕ) → IsFirstPhase p s t r → (o : Option ℕ) → cheapest p s t r (is_below p t.point r) ≡ o → (m : Move) →
      restore_feasibility p s t r o ≡ Moves m → IsReturn p s t m
  returned r phase (Some q) is m e = record { r = r; q = q; phase = phase; is_cheapest_of = is; gives = cc }
  returned r phase None is m e = cc

  return_for : (c o : Option ℕ) → crossed p s t ≡ c → outside p s t ≡ o → (m : Move) → dual_for p s t c o ≡ Moves m → IsReturn p s t m
  return_for (Some k) o found broken m e = cc
  return_for None (Some r) found broken m e = returned r (record { uncrossed = found; broken = broken }) (cheapest p s t r (is_below p t.point r)) refl m e
  return_for None None found broken m e = cc

  pub return_of : (m : Move) → dual_turn p s t ≡ Moves m → IsReturn p s t m
  unfolding dual_turn
  return_of m e = return_for (crossed p s t) (outside p s t) refl refl m e

  -- with right prices an end is the simplex path's
  end_for : entering_variable p s t None ≡ None → (c o : Option ℕ) → (ending : PathEnding) → dual_for p s t c o ≡ Ends ending → turn_for p s t c o ≡ Ends ending
  end_for right (Some k) o ending e = e
  end_for right None (Some r) ending e = by_cheapest (cheapest p s t r (is_below p t.point r)) refl e
    where
      by_cheapest : (o : Option ℕ) → cheapest p s t r (is_below p t.point r) ≡ o → restore_feasibility p s t r o ≡ Ends ending →
          restore_feasibility p s t r (entering_variable p s t (Some r)) ≡ Ends ending
      by_cheapest (Some q) is e = cc
      by_cheapest None is e =
          ap (restore_feasibility p s t r)
          (least_none p (lowers p s (excess_rate t.rate r (is_below p t.point r))) (cheapest_none p s t r (is_below p t.point r) is)) ∙ e
  end_for right None None ending e = ap (improve p s t) right ∙ e

-- ---- the laws

pub dual_end : (p : LinearProgram) (s : List Status) (ending : PathEnding) → IsLinearProgram p → IsNonsingularBasis p s → HasRightPrices p s →
    DualEndsAt p s ending → EndsAt p s ending
unfolding dual_turn turn
dual_end p s ending lawful at right ends =
    let here : entering_variable p s ends.tableau None ≡ None =
    wrong_same p s ends.tableau right.tableau lawful at (same_tableau p s at ends.tableau right.tableau ends.is_tableau right.is_tableau) ∙ right.right in
    record {
      tableau = ends.tableau;
      is_tableau = ends.is_tableau;
      turns = end_for p s ends.tableau here (crossed p s ends.tableau)
          (outside p s ends.tableau) ending ends.turns;
    }

module _ (p : LinearProgram) (s : List Status) (at : IsNonsingularBasis p s) (t : Tableau) (tab : IsTableau p s t) (m : Move) (h : IsReturn p s t m) where
  pub cheapest_passes : IsVariable p.matrix h.q ×
      ((restores_feasibility p s t h.r (is_below p t.point h.r) h.q && is_cheapest p s t h.r (is_below p t.point h.r) h.q) ≡ true)
  cheapest_passes =
      found_passes p (λ q. restores_feasibility p s t h.r (is_below p t.point h.r) q && is_cheapest p s t h.r (is_below p t.point h.r) q) h.q h.is_cheapest_of

  pub brings : restores_feasibility p s t h.r (is_below p t.point h.r) h.q ≡ true
  brings = (and_parts (restores_feasibility p s t h.r (is_below p t.point h.r) h.q) (is_cheapest p s t h.r (is_below p t.point h.r) h.q) cheapest_passes.1).0

  return_leads : LeadsTo p (after s m)
  return_leads =
      subst (λ m. LeadsTo p (after s m)) (sym h.gives)
      (returned_leads p s t at.is_basis at.nonsingular tab h.r h.q h.phase
      (lowering_enters p s (excess_rate t.rate h.r (is_below p t.point h.r)) h.q at.is_basis cheapest_passes.0 brings))

pub dual_leads_to : (p : LinearProgram) (s next : List Status) → IsNonsingularBasis p s → IsDualStep p s next → LeadsTo p next
dual_leads_to p s next at step =
    subst (LeadsTo p) (sym step.is_next) (return_leads p s at step.tableau step.is_tableau step.move (return_of p s step.tableau step.move step.turns))

not_or : (a b : Bool) → (not a || b) ≡ true → a ≡ true → b ≡ true
not_or true b e is = e
not_or false b e is = cc

module _ (p : LinearProgram) (no_change : p.change ≡ None) (s : List Status) (at : IsNonsingularBasis p s) (t : Tableau) (tab : IsTableau p s t)
    (right : entering_variable p s t None ≡ None) (m : Move) (h : IsReturn p s t m) where
  abbrev below : Bool
  below = is_below p t.point h.r

  pub least_ratio : (j : ℕ) → IsVariable p.matrix j → restores_feasibility p s t h.r below j ≡ true → ratio p s t h.r h.q ≤ℚ ratio p s t h.r j
  least_ratio j is brings_j =
      let parts = and_parts (restores_feasibility p s t h.r below h.q) (is_cheapest p s t h.r below h.q) (cheapest_passes p s at t tab m h).1 in
      let no_cheaper =
      list_all_true (λ j. not (restores_feasibility p s t h.r below j) || le_ℚ (ratio p s t h.r h.q) (ratio p s t h.r j)) (size p.matrix) 1 parts.1 j is.0
      (omega (arith, is.1)) in
      le_from_test (ratio p s t h.r h.q) (ratio p s t h.r j)
      (not_or (restores_feasibility p s t h.r below j) (le_ℚ (ratio p s t h.r h.q) (ratio p s t h.r j)) no_cheaper brings_j)

  pub right_at : (k : ℕ) → IsVariable p.matrix k → lowers p s (worth_rate p s t) k ≡ false
  right_at = none_passes p (lowers p s (worth_rate p s t)) right

  abbrev reached_basis : List Status
  reached_basis = after s (record { enters = h.q; leaves = h.r; to = if below then Ll else Ul })

  stays_right : HasRightPrices p reached_basis
  stays_right =
      let leaves = broken_basic p s t h.r h.phase in
      let is_q = (cheapest_passes p s at t tab m h).0 in
      let brings_q = brings p s at t tab m h in
      let there : IsNonsingularBasis p reached_basis = subst (λ m. IsNonsingularBasis p (after s m)) h.gives (return_leads p s at t tab m h).at in
      let rates = rates_after p no_change s at t tab right_at h.r h.q below leaves is_q brings_q least_ratio in
      record {
        tableau =
            record {
              point = combination p.matrix (basics_of reached_basis) (exchanged_rate t.rate h.r h.q)
                  (standing p reached_basis);
              rate = exchanged_rate t.rate h.r h.q;
            };
        is_tableau = record { is_point = IsPointOf-combination p reached_basis there.is_basis (exchanged_rate t.rate h.r h.q) rates; are_rates = rates };
        right = least_none p _ (right_after p no_change s at t tab right_at h.r h.q below leaves is_q brings_q least_ratio there);
      }

pub keeps_right : (p : LinearProgram) (s next : List Status) → IsLinearProgram p → p.change ≡ None → IsNonsingularBasis p s → HasRightPrices p s →
    IsDualStep p s next → HasRightPrices p next
keeps_right p s next lawful no_change at right step =
    let here : entering_variable p s step.tableau None ≡ None =
    wrong_same p s step.tableau right.tableau lawful at (same_tableau p s at step.tableau right.tableau step.is_tableau right.is_tableau) ∙ right.right in
    let back = return_of p s step.tableau step.move step.turns in
    subst (HasRightPrices p) (sym (step.is_next ∙ ap (after s) back.gives)) (stays_right p no_change s at step.tableau step.is_tableau here step.move back)

pub never_unbounded : (p : LinearProgram) (s : List Status) (z d : List ℚ) → DualEndsAt p s (EndsUnbounded z d) → ⊥
unfolding dual_turn
never_unbounded p s z d ends = by (crossed p s ends.tableau) (outside p s ends.tableau) ends.turns
  where
    by_back : (r : ℕ) (o : Option ℕ) → restore_feasibility p s ends.tableau r o ≡ Ends (EndsUnbounded z d) → ⊥
    by_back r (Some q) e = cc
    by_back r None e = cc

    by : (c o : Option ℕ) → dual_for p s ends.tableau c o ≡ Ends (EndsUnbounded z d) → ⊥
    by (Some k) o e = cc
    by None (Some r) e = by_back r (cheapest p s ends.tableau r (is_below p ends.tableau.point r)) e
    by None None e = cc

-- prices are right, or one is the first wrong one, and not both
pub not_both_prices : (p : LinearProgram) (s : List Status) (j : ℕ) → IsLinearProgram p → IsNonsingularBasis p s → HasRightPrices p s → IsWrongAt p s j → ⊥
not_both_prices p s j lawful at right wrong =
    let same = wrong_same p s right.tableau wrong.tableau lawful at (same_tableau p s at right.tableau wrong.tableau right.is_tableau wrong.is_tableau) in
    let clash = sym right.right ∙ same ∙ wrong.wrong in cc

pub one_wrong : (p : LinearProgram) (s : List Status) (j k : ℕ) → IsLinearProgram p → IsNonsingularBasis p s → IsWrongAt p s j → IsWrongAt p s k → j ≡ k
one_wrong p s j k lawful at first second =
    let same = wrong_same p s first.tableau second.tableau lawful at (same_tableau p s at first.tableau second.tableau first.is_tableau second.is_tableau) in
    let numbers = sym first.wrong ∙ same ∙ second.wrong in cc
