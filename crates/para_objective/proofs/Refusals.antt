-- From a refused quotient to evidence of a run of the objective.
use Rattle.std.proofs.Common.{◌≡◌, ◌≢◌, ℕ, List, inl, refl, sym, ap, subst₂, ◌∙◌, Bool, true, false, None, cond}
use Rattle.exact_values.specs.Rational.{zero_ℚ}
use Rattle.simplex_definitions.specs.Evidence.{by_objective, names_waypoint}
use Rattle.simplex_definitions.specs.Formulas.{f16}
use Rattle.frac128.specs.declared.Op.TheVariants.{Div}
use Rattle.lp_definitions.specs.LinearProgram.{LinearProgram, Vector, size, IsRow, IsVariable, IsLinearProgram}
use Rattle.lp_definitions.specs.Basis.{basics_of, is_in, IsNonbasic, ArePricesOf, IsPointOf}
use Rattle.lp_definitions.specs.RatesEvidence.{Refuses}
use Rattle.lp_definitions.specs.declared.Evidence.{Evidence}
use Rattle.lp_definitions.specs.declared.Status.{Status}
use Rattle.lp_laws.specs.Points.{standing}
use Rattle.lp_laws.specs.Rates.{combination}
use Rattle.lp_laws.proofs.Points.{IsPointOf-combination}
use Rattle.lp_laws.proofs.Values.{clash}
use Rattle.lp_laws.proofs.WaypointLaws.{within_itself}
use Rattle.lp_model.specs.RatesCalls.{IsRowOf}
use Rattle.simplex_laws.specs.Laws.{IsNonsingularBasis}
use Rattle.para_objective.specs.Reach.{RateRefused, EndRefused}
use Rattle.para_objective.proofs.Reaches.{price_is, rate_is}

module _ (p : LinearProgram) (s : List Status) (h : ℕ) (lawful : IsLinearProgram p) (no_change : p.change ≡ None) (row : IsRow p.matrix h)
    (basis : IsNonsingularBasis p s)
    (prices change : Vector) (priced : ArePricesOf p s prices) (changed : IsRowOf p.matrix (basics_of s) h change) where
  point : IsPointOf p s (combination p.matrix (basics_of s) priced.rate (standing p s))
  point = IsPointOf-combination p s basis.is_basis priced.rate priced.are_rates

  pub end_refused : (e : Evidence) → RateRefused prices change (size p.matrix) e → EndRefused p h s e
  end_refused e r = record {
    number = r.refused.names.is_formula;
    no_way = r.refused.no_way;
    no_theta = r.refused.is_theta;
    of_run = λ from. rw r.refused.names.is_formula refl;
    shows = λ from. record {
      tableau = record { point = combination p.matrix (basics_of s) priced.rate (standing p s); rate = priced.rate };
      is_tableau = record { is_point = record { keeps = point.keeps; placed = point.placed }; are_rates = priced.are_rates };
      way_rate = priced.rate;
      are_way_rates = priced.are_rates;
      formula = by_objective (f16 r.j r.refused.names out moves refuses);
      is_way = (basis.nonsingular, inl (within_itself p.matrix (basics_of s)));
      reaches = λ names. absurd (clash (sym names ∙ ap names_waypoint r.refused.names.is_formula));
      no_way = λ _. (r.refused.no_way, refl);
    };
  }
    where
      is : IsVariable p.matrix r.j
      is = (r.low, r.high)

      at : (m : Bool) → is_in (basics_of s) r.j ≡ m → is_in (basics_of s) r.j ≡ false
      at false mark = mark
      at true mark = absurd (r.moves (changed.entries r.j is ∙ ap (λ m. cond m zero_ℚ (changed.rate h r.j)) mark))

      out : IsNonbasic p.matrix (basics_of s) r.j
      out = (is, at (is_in (basics_of s) r.j) refl)

      same_rate : change r.j ≡ priced.rate h r.j
      same_rate = rate_is p s h lawful no_change row basis prices change priced changed priced.rate priced.are_rates r.j out

      same_price : prices r.j ≡ priced.rate p.objective r.j
      same_price = price_is p s h lawful no_change row basis prices change priced changed priced.rate priced.are_rates r.j out

      moves : priced.rate h r.j ≢ zero_ℚ
      moves zero = r.moves (same_rate ∙ zero)

      refuses : Refuses e Div (priced.rate p.objective r.j) (priced.rate h r.j)
      refuses = subst₂ (λ a b. Refuses e Div a b) same_price same_rate r.refused.refuses
