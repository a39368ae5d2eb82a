-- What a visit to a basic refuses.
use Rattle.std.proofs.Common.{◌≡◌, ℕ, ◌⊎◌, inl, inr, List, ◌∙◌, subst, subst₂}
use Rattle.std.specs.Prelude.{None}
use Rattle.exact_values.specs.Rational.{◌-ℚ◌}
use Rattle.frac128.specs.declared.Op.TheVariants.{Div}
use Rattle.lp_definitions.specs.LinearProgram.{LinearProgram, Vector, size, IsLinearProgram}
use Rattle.lp_definitions.specs.Basis.{Basics, basics_of, IsBasic, IsPointOf, ArePricesOf, IsOptimalBasis}
use Rattle.lp_definitions.specs.declared.Evidence.{Evidence}
use Rattle.lp_definitions.specs.declared.Status.{Status}
use Rattle.lp_model.specs.RatesCalls.{IsRowOf}
use Rattle.basis_values.specs.Calls.{RangeRefused}
use Rattle.basis_values.specs.Formulas.{IsRefusal}
use Rattle.basis_values.specs.Reach.{reach_formula}
use Rattle.ranging.specs.Formulas.{ratio_formula}
use Rattle.ranging.specs.RowEnds.{RatioRefused}
use Rattle.ranging.specs.LimitEnds.{IsLimitRefused, IsRateRefused}
use Rattle.ranging.proofs.AtBasis.{tableau_with, is_tableau, price_is, rate_is, moves_out}
use Rattle.ranging.proofs.Views.{distance_view, rate_view, ratio_view}

module _ (p : LinearProgram) (s : List Status) (lawful : IsLinearProgram p) (no_change : p.change ≡ None) (optimal : IsOptimalBasis p s) (z : Vector)
    (point : IsPointOf p s z)
    (prices : Vector) (priced : ArePricesOf p s prices) (i : ℕ) (basic : IsBasic p.matrix (basics_of s) i) (row : Vector)
    (of_row : IsRowOf p.matrix (basics_of s) i row)
    (before after : List Basics) (e : Evidence) where
  pub limits_refused : IsLimitRefused p (z i) i e ⊎ IsRateRefused p (z i) row i e → RangeRefused p before s after e
  limits_refused (inl h) =
      distance_view p s no_change optimal.nonsingular (tableau_with p s lawful no_change optimal z point of_row.rate)
      (is_tableau p s lawful no_change optimal z point of_row.rate of_row.are_rates) before after e
      i h.which h.limit h.small basic.0 h.is_limit h.refused
  limits_refused (inr h) =
      let out = moves_out p s lawful no_change optimal z point prices priced i basic.0 row of_row h.k h.is_variable h.moves in
      let is = rate_is p s lawful no_change optimal z point prices priced i basic.0 row of_row of_row.rate of_row.are_rates h.k out in
      rate_view p s no_change optimal.nonsingular (tableau_with p s lawful no_change optimal z point of_row.rate)
      (is_tableau p s lawful no_change optimal z point of_row.rate of_row.are_rates) before after e
      h.k i h.which h.limit basic out h.is_limit (λ zero. h.moves (is ∙ zero))
      (subst (λ r. IsRefusal (reach_formula 7 h.k i h.which) Div (h.limit -ℚ z i) r e) is h.refused)

  pub ratio_refused : RatioRefused prices row (size p.matrix) i e → RangeRefused p before s after e
  ratio_refused h =
      let out = moves_out p s lawful no_change optimal z point prices priced i basic.0 row of_row h.j (h.low, h.high) h.moves in
      let is = rate_is p s lawful no_change optimal z point prices priced i basic.0 row of_row of_row.rate of_row.are_rates h.j out in
      let price = price_is p s lawful no_change optimal z point prices priced of_row.rate of_row.are_rates h.j out in
      ratio_view p s no_change optimal.nonsingular (tableau_with p s lawful no_change optimal z point of_row.rate)
      (is_tableau p s lawful no_change optimal z point of_row.rate of_row.are_rates) before after e
      i h.j basic out (λ zero. h.moves (is ∙ zero)) (subst₂ (λ a b. IsRefusal (ratio_formula i h.j) Div a b e) price is h.refused)
