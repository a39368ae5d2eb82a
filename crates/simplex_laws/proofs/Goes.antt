-- The path is a function: a basis that has rates has a step or an end, and a step leads to a basis that has rates.
use Rattle.std.proofs.Common.{◌≡◌, ℕ, zero, suc, ◌⊎◌, inl, inr, List, [], ◌∷◌, refl, sym, ap, subst, arith}
use Rattle.exact_values.specs.Rational.{ℚ}
use Rattle.lp_definitions.specs.LinearProgram.{LinearProgram}
use Rattle.lp_definitions.specs.Basis.{basics_of, opening_statuses, AreRates, Tableau, IsTableau}
use Rattle.lp_definitions.specs.declared.Status.{Status}
use Rattle.lp_laws.specs.Rates.{opening_rate, combination}
use Rattle.lp_laws.specs.Points.{standing}
use Rattle.lp_laws.proofs.Opening.{AreRates-opening}
use Rattle.lp_laws.proofs.Points.{IsPointOf-combination}
use Rattle.lp_laws.proofs.Statuses.{basics_of-opening}
use Rattle.simplex_definitions.specs.Path.{Turn, Moves, Ends, PathEnding, turn, after, Rule, RuleStep, RuleEnd, RuleGoesOn, IsStep, EndsAt, GoesOnFor}
use Rattle.simplex_laws.specs.Laws.{IsNonsingularBasis, HasTableau, EndsWithin, RuleEndsWithin}
use Rattle.simplex_laws.proofs.Steps.{LeadsTo, step_leads_to, opening_is}

-- where there are rates there is a point
pub tableau_from : (p : LinearProgram) (s : List Status) → IsNonsingularBasis p s → (rate : ℕ → ℕ → ℚ) → AreRates p.matrix (basics_of s) rate → HasTableau p s
tableau_from p s at rate are = record {
  tableau = record { point = combination p.matrix (basics_of s) rate (standing p s); rate = rate };
  is_tableau = record { is_point = IsPointOf-combination p s at.is_basis rate are; are_rates = are };
}

pub opening_has : (p : LinearProgram) → HasTableau p (opening_statuses p)
opening_has p =
    tableau_from p (opening_statuses p) (opening_is p) (opening_rate p.matrix)
    (subst (λ b. AreRates p.matrix b (opening_rate p.matrix)) (sym (basics_of-opening p)) (AreRates-opening p.matrix))

pub step_has : (p : LinearProgram) (s next : List Status) → IsNonsingularBasis p s → IsStep p s next → HasTableau p next
step_has p s next at step = let led = step_leads_to p s next at step in tableau_from p next led.at led.rate led.are_rates

-- by any rule whose steps lead from bases to bases with rates
module _ (rule : Rule) (p : LinearProgram) (leads : (s next : List Status) → IsNonsingularBasis p s → RuleStep rule p s next → LeadsTo p next) where
  pub rule_step_has : (s next : List Status) → IsNonsingularBasis p s → RuleStep rule p s next → HasTableau p next
  rule_step_has s next at step = let led = leads s next at step in tableau_from p next led.at led.rate led.are_rates

  -- a basis with a tableau has a step or an end
  rule_goes : (s : List Status) (t : Tableau) → IsTableau p s t → (u : Turn) → rule p s t ≡ u →
      ((next : List Status) × RuleStep rule p s next) ⊎ ((ending : PathEnding) × RuleEnd rule p s ending)
  rule_goes s t tab (Moves m) e = inl (after s m, record { tableau = t; is_tableau = tab; move = m; turns = e; is_next = refl })
  rule_goes s t tab (Ends ending) e = inr (ending, record { tableau = t; is_tableau = tab; turns = e })

  -- within so many steps the path has ended, or it goes on after them
  pub rule_ends_or_goes_on : (steps : ℕ) (s : List Status) → IsNonsingularBasis p s → HasTableau p s → RuleEndsWithin rule p s steps ⊎ RuleGoesOn rule p s steps
  rule_ends_or_goes_on zero s at has = by_turn (rule_goes s has.tableau has.is_tableau (rule p s has.tableau) refl)
    where
      by_turn : (((next : List Status) × RuleStep rule p s next) ⊎ ((ending : PathEnding) × RuleEnd rule p s ending)) →
          RuleEndsWithin rule p s 0 ⊎ RuleGoesOn rule p s 0
      by_turn (inl (next, step)) = inr (record { bases = []; is_path = tt; taken = refl; next = next; is_step = step })
      by_turn (inr (ending, ends)) = inl (record { bases = []; ending = ending; ends = record { is_path = tt; ends = ends }; within = omega arith })
  rule_ends_or_goes_on (suc steps) s at has =
      by_turn (rule_goes s has.tableau has.is_tableau (rule p s has.tableau) refl)
      (λ next step. rule_ends_or_goes_on steps next (leads s next at step).at (rule_step_has s next at step))
    where
      after_step : (next : List Status) → RuleStep rule p s next → (RuleEndsWithin rule p next steps ⊎ RuleGoesOn rule p next steps) →
          RuleEndsWithin rule p s (suc steps) ⊎ RuleGoesOn rule p s (suc steps)
      after_step next step (inl done) =
          inl (record {
            bases = next ∷ done.bases;
            ending = done.ending;
            ends = record {
              is_path =
                  (step, done.ends.is_path);
              ends = done.ends.ends;
            };
            within = omega (arith, done.within);
          })
      after_step next step (inr on) =
          inr (record { bases = next ∷ on.bases; is_path = (step, on.is_path); taken = ap suc on.taken; next = on.next; is_step = on.is_step })

      by_turn : (((next : List Status) × RuleStep rule p s next) ⊎ ((ending : PathEnding) × RuleEnd rule p s ending)) →
          ((next : List Status) → RuleStep rule p s next → RuleEndsWithin rule p next steps ⊎ RuleGoesOn rule p next steps) →
          RuleEndsWithin rule p s (suc steps) ⊎ RuleGoesOn rule p s (suc steps)
      by_turn (inl (next, step)) rest = after_step next step (rest next step)
      by_turn (inr (ending, ends)) rest = inl (record { bases = []; ending = ending; ends = record { is_path = tt; ends = ends }; within = omega arith })

pub ends_or_goes_on : (p : LinearProgram) (steps : ℕ) (s : List Status) → IsNonsingularBasis p s → HasTableau p s → EndsWithin p s steps ⊎ GoesOnFor p s steps
ends_or_goes_on p = rule_ends_or_goes_on turn p (step_leads_to p)
