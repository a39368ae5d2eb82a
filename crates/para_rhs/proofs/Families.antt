-- The family of right-hand sides at 0.
use Rattle.std.proofs.Common.{◌≡◌, ℕ, ◌+◌, ◌-◌, ◌<◌, List, length, get_or, sym, ap, ap₂, ◌∙◌, arith}
use Rattle.std.specs.Prelude.{Option, None, option_map}
use Rattle.std.proofs.lemmas.List.{ext_get_or, length-map}
use Rattle.exact_values.specs.Rational.{ℚ, zero_ℚ, ◌+ℚ◌, ◌*ℚ◌}
use Rattle.lp_definitions.specs.LinearProgram.{Matrix, LinearProgram, size, IsLinearProgram, with_limits}
use Rattle.lp_laws.proofs.Opening.{length-numbers_from}
use Rattle.simplex_laws.proofs.Numbered.{get_or-listed}
use Rattle.sensitivity_laws.proofs.MovedLimits.{unmoved}
use Rattle.simplex_definitions.specs.RhsRun.{shift_of, shifted, rhs_family}

-- limits that are moved by 0 times their shifts are the limits
module _ (a : Matrix) (shift : List ℚ) (limits : List (Option ℚ)) (counted : length limits ≡ size a) where
  abbrev limit_of : ℕ → Option ℚ
  limit_of k = get_or limits (k - 1) None

  abbrev moved_limit : ℕ → Option ℚ
  moved_limit k = option_map (λ l. l +ℚ zero_ℚ *ℚ shift_of a shift k) (limit_of k)

  as_long : length (shifted a shift zero_ℚ limit_of) ≡ size a
  as_long = rw length-map (length-numbers_from 1 (size a))

  each : (k : ℕ) → k < size a → get_or (shifted a shift zero_ℚ limit_of) k None ≡ get_or limits k None
  each k below =
      get_or-listed moved_limit (size a) 1 k None below
      ∙ unmoved (shift_of a shift (1 + k)) (limit_of (1 + k))
      ∙ ap (λ i. get_or limits i None) (omega arith)

  as_they_were : shifted a shift zero_ℚ limit_of ≡ limits
  as_they_were = ext_get_or None (shifted a shift zero_ℚ limit_of) limits (as_long ∙ sym counted) (λ k below. each k (omega (arith, below, as_long)))

pub family_zero : (p : LinearProgram) (shift : List ℚ) → IsLinearProgram p → rhs_family p shift zero_ℚ ≡ p
family_zero p shift lawful =
    ap₂ (λ (low high : List (Option ℚ)). with_limits p low high)
    (as_they_were p.matrix shift p.lower lawful.lower_counted) (as_they_were p.matrix shift p.upper lawful.upper_counted)

-- at any value that is 0
pub family_at_zero : (p : LinearProgram) (shift : List ℚ) → IsLinearProgram p → (theta : ℚ) → theta ≡ zero_ℚ → p ≡ rhs_family p shift theta
family_at_zero p shift lawful theta none = sym (ap (rhs_family p shift) none ∙ family_zero p shift lawful)
