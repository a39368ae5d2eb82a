-- What brings a variable back to a limit: what of it is refused.
use Rattle.std.proofs.Common.{◌≡◌, ◌≢◌, ℕ, sym, ◌∙◌, ap, subst}
use Rattle.std.specs.Prelude.{Option, Some, None, IsSome, unwrap_or}
use Rattle.exact_values.specs.Rational.{ℚ, zero_ℚ, one_ℚ, ◌-ℚ◌}
use Rattle.frac128.specs.declared.Op.TheVariants.{Sub, Div}
use Rattle.lp_definitions.specs.LinearProgram.{LinearProgram, Vector}
use Rattle.lp_definitions.specs.declared.Evidence.{Evidence}
use Rattle.lp_definitions.specs.declared.Status.{Status}
use Rattle.simplex_definitions.specs.Formulas.{limit_numbered, number_of_limit}
use Rattle.basis_values.specs.Formulas.{IsRefusal}
use Rattle.basis_values.specs.Reach.{reach_formula}
use Rattle.bounded_primal.specs.Steps.{ReturnRefused, of_distance, of_quotient}
use Rattle.basis_values.specs.declared.formula.Formula.{Formula}

pub some_limit : (o : Option ℚ) → IsSome o → o ≡ Some (unwrap_or o zero_ℚ)
some_limit None h = cc
some_limit (Some l) h = cc

module _ (p : LinearProgram) (z d : Vector) (q k : ℕ) (to : Status) (e : Evidence) (number : ℕ) (limit value : ℚ)
    (some : IsSome (limit_numbered p k (number_of_limit to))) (number_is : number ≡ number_of_limit to)
    (limit_is : limit ≡ unwrap_or (limit_numbered p k (number_of_limit to)) zero_ℚ) (value_is : value ≡ z k) where
  there : limit_numbered p k (number_of_limit to) ≡ Some limit
  there = some_limit (limit_numbered p k (number_of_limit to)) some ∙ ap Some (sym limit_is)

  pub distance_refused : (f : Formula) → f ≡ reach_formula 6 0 k number → IsRefusal f Sub limit value e → ReturnRefused p z d q k to e
  distance_refused f is h =
      of_distance limit there
      (subst (λ (x : ℚ). IsRefusal (reach_formula 6 0 k (number_of_limit to)) Sub limit x e) value_is
      (subst (λ (g : Formula). IsRefusal g Sub limit value e) (is ∙ ap (reach_formula 6 0 k) number_is) h))

  pub change_refused : (distance rate : ℚ) → distance ≡ limit -ℚ value → rate ≡ d k → (f : Formula) → f ≡ reach_formula 7 q k number →
      IsRefusal f Div distance rate e → rate ≢ one_ℚ → ReturnRefused p z d q k to e
  change_refused distance rate far rate_is f is h other =
      of_quotient limit there (λ own. other (rate_is ∙ own))
      (subst (λ (x : ℚ). IsRefusal (reach_formula 7 q k (number_of_limit to)) Div (limit -ℚ z k) x e) rate_is
      (subst (λ (x : ℚ). IsRefusal (reach_formula 7 q k (number_of_limit to)) Div x rate e) (far ∙ ap (λ v. limit -ℚ v) value_is)
      (subst (λ (g : Formula). IsRefusal g Div distance rate e) (is ∙ ap (reach_formula 7 q k) number_is) h)))
