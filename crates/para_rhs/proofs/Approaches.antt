-- What the way of a variable to a limit tells of the variable.
use Rattle.std.proofs.Common.{◌≡◌, ◌≢◌, ℕ, Bool, cond, List, inl, inr, refl, sym, ap, ap₂, subst₂, ◌∙◌}
use Rattle.std.specs.Prelude.{Some, None}
use Rattle.exact_values.specs.Rational.{ℚ, zero_ℚ, ◌*ℚ◌}
use Rattle.exact_values.specs.Tests.{eq_ℚ}
use Rattle.affine_laws.specs.Ends.{IsTightened}
use Rattle.affine_laws.specs.declared.tightening.Ends.{Ends}
use Rattle.frac128.specs.declared.Op.TheVariants.{Div}
use Rattle.lp_definitions.specs.LinearProgram.{LinearProgram}
use Rattle.lp_definitions.specs.declared.Evidence.{Evidence}
use Rattle.simplex_definitions.specs.RhsRun.{shift_of}
use Rattle.basis_values.specs.Formulas.{IsRefusal}
use Rattle.para_rhs.specs.Breaks.{leaving_side, leaving_on}
use Rattle.para_rhs.specs.Limits.{number_of}
use Rattle.para_rhs.specs.Reach.{bound_of, limit_sides, IsNarrowed, IsApproach, IsApproachOf, basic_formula, VariableRefused, of_quotient}
use Rattle.para_rhs.specs.declared.reaching.Approach.{Approach}
use Rattle.para_rhs.proofs.Leavers.{product_test}
use Rattle.para_rhs.proofs.Narrowing.{narrowed_still, narrowed_free, narrowed_limit, apart_if_ahead, closing_apart}

module _ (p : LinearProgram) (shift : List ℚ) (k : ℕ) (value slope : ℚ) where
  -- ---- the ends with its bound

  pub narrowed_none : (ends : Ends) → IsApproachOf p shift (λ _. value) (λ _. slope) k None →
      IsNarrowed (limit_sides p shift (λ _. value) (λ _. slope) k) ends ends
  narrowed_none ends (inl still) = narrowed_still p shift k value slope ends still
  narrowed_none ends (inr free) = narrowed_free p shift k value slope ends free.0 free.1.0 free.1.1

  module _ (a : Approach) (is : IsApproach p shift (λ _. value) (λ _. slope) k a) where
    pub approach_moves : slope ≢ shift_of p.matrix shift k
    approach_moves = apart_if_ahead slope (shift_of p.matrix shift k) a.side is.is_ahead

    pub approach_closes : a.closing ≢ zero_ℚ
    approach_closes zero = closing_apart slope (shift_of p.matrix shift k) approach_moves (sym is.is_closing ∙ zero)

    pub narrowed_by : (ends now : Ends) → IsTightened ends (bound_of a.side a.closing a.distance k) now →
        IsNarrowed (limit_sides p shift (λ _. value) (λ _. slope) k) ends now
    narrowed_by ends now tight =
        narrowed_limit p shift k value slope ends now a.side is.limit is.is_ahead is.is_limit
        (subst₂ (λ (x y : ℚ). IsTightened ends (bound_of a.side x y k) now) is.is_closing is.is_distance tight)

    pub bound_refused : (e : Evidence) → IsRefusal (basic_formula 18 k (number_of a.side)) Div a.distance a.closing e →
        VariableRefused p shift (λ _. value) (λ _. slope) k e
    bound_refused e refused =
        of_quotient a.side is.limit is.is_limit
        (subst₂ (λ (x y : ℚ). IsRefusal (basic_formula 18 k (number_of a.side)) Div x y e) is.is_distance is.is_closing refused)

    -- ---- whether it stands at the limit

    pub leaving_by : (theta : ℚ) (b : Bool) → b ≡ eq_ℚ (theta *ℚ a.closing) a.distance →
        cond b (Some a.side) None ≡ leaving_side p shift theta (λ _. value) (λ _. slope) k
    leaving_by theta b test =
        ap (λ x. cond x (Some a.side) None)
        (test ∙ ap₂ (λ (x y : ℚ). eq_ℚ (theta *ℚ x) y) is.is_closing is.is_distance ∙ product_test theta value slope (shift_of p.matrix shift k) is.limit)
        ∙ rw (is.is_ahead, is.is_limit) refl

  pub leaving_none : (theta : ℚ) → IsApproachOf p shift (λ _. value) (λ _. slope) k None → leaving_side p shift theta (λ _. value) (λ _. slope) k ≡ None
  leaving_none theta (inl still) = ap (leaving_on p theta value slope (shift_of p.matrix shift k) k) still
  leaving_none theta (inr free) = ap (leaving_on p theta value slope (shift_of p.matrix shift k) k) free.1.0 ∙ rw free.1.1 refl
