-- A row that is filled from the first variable on, up to the first rate that is wanted.
use Rattle.std.proofs.Common.{◌≡◌, ◌≢◌, ℕ, ◌+◌, ◌<◌, ◌⊎◌, inl, inr, List, length, get_or, set, refl, sym, ◌∙◌, ap, ap₂, Bool, true, false, subst, arith}
use Rattle.std.specs.Prelude.{eqb, not, ◌||◌, Some, if◌then◌else◌}
use Rattle.std.proofs.lemmas.Bool.Decides.{eqb_tells}
use Rattle.std.proofs.lemmas.List.{get_or-set_same, get_or-set_other}
use Rattle.exact_values.specs.Rational.{ℚ, zero_ℚ, neg_ℚ}
use Rattle.exact_values.specs.Tests.{lt_ℚ}
use Rattle.exact_values.proofs.Order.{le_refl}
use Rattle.exact_values.proofs.RingLaws.{zero-add, add-neg}
use Rattle.exact_values.proofs.TestsLaws.{lt_fails_from_le}
use Rattle.lp_laws.proofs.Values.{clash}
use Rattle.lp_definitions.specs.LinearProgram.{size, Vector, IsVariable}
use Rattle.lp_definitions.specs.Basis.{is_in, row_basics}
use Rattle.lp_model.specs.RatesCalls.{IsRowOf}
use Rattle.lp_model.specs.Wanted.{is_wanted, turned, IsLeastWanted, IsFirstWanted}
use Rattle.lp_model.specs.declared.wanted.Wanted.{Wanted}
use Rattle.lp_model.specs.declared.wanted.Wanted.TheVariants.{Nothing, Below, Above, Apart}
use Rattle.eta_file.specs.Prefixes.{Passed, after}
use Rattle.eta_file.specs.Inverse.{Inverse}
use Rattle.price_row.specs.Known.{IsRateOf, IsFilledTo}
use Rattle.price_row.proofs.RowSteps.{rates_are}

-- one rate more
pub filled_next : (f : Inverse) (n r : ℕ) (xs : List ℚ) (v : ℚ) → n < length xs → IsFilledTo f n r xs → IsRateOf f r (n + 1) v →
    IsFilledTo f (n + 1) r (set xs n v)
filled_next f n r xs v below h rate_is k less = at (eqb_tells k n)
  where
    at : (((eqb k n ≡ true) × (k ≡ n)) ⊎ ((eqb k n ≡ false) × (k ≢ n))) → IsRateOf f r (k + 1) (get_or (set xs n v) k zero_ℚ)
    at (inl same) =
        subst (λ i. IsRateOf f r (i + 1) (get_or (set xs n v) i zero_ℚ)) (sym same.1)
        (subst (λ x. IsRateOf f r (n + 1) x) (sym (get_or-set_same xs n v zero_ℚ below)) rate_is)
    at (inr other) =
        let apart = other.1 in
        subst (λ x. IsRateOf f r (k + 1) x) (sym (get_or-set_other xs n k v zero_ℚ apart)) (h k (omega (arith, less, apart)))

module _ (f : Inverse) (r : ℕ) (ws : List Wanted) (up : Bool) (xs : Vector) (are : f.basics ≡ after (row_basics f.matrix) f.etas)
    (passed : Passed f.matrix (row_basics f.matrix) f.etas) (counted : length ws ≡ size f.matrix) where
  abbrev rates : Vector
  rates k = if is_in f.basics k then zero_ℚ else (rates_are f are passed).0 r k

  rate_here : (k : ℕ) → IsRateOf f r k (xs k) → xs k ≡ rates k
  rate_here k h = h.is_rate (rates_are f are passed).0 (rates_are f are passed).1

  -- the least-numbered is known by the rates of the row
  pub first_by_row : (q : ℕ) → IsVariable f.matrix q → IsRateOf f r q (xs q) →
      ((row : Vector) → IsRowOf f.matrix f.basics r row → IsLeastWanted ws up row (Some q)) → IsFirstWanted f.matrix f.basics r ws up xs (Some q)
  first_by_row q var rate_is least = record {
    rates = rates;
    is_row = row_is;
    least = least rates row_is;
    given = λ k is same. ap xs same ∙ rate_here q rate_is ∙ ap rates (sym same);
  }
    where
      row_is : IsRowOf f.matrix f.basics r rates
      row_is = record { rate = (rates_are f are passed).0; are_rates = (rates_are f are passed).1; entries = λ k is. refl }

-- ---- 0 is wanted nowhere

not_below : lt_ℚ zero_ℚ zero_ℚ ≡ false
not_below = lt_fails_from_le zero_ℚ zero_ℚ (le_refl zero_ℚ)

pub zero_unwanted : (w : Wanted) → is_wanted w zero_ℚ ≡ false
zero_unwanted Nothing = refl
zero_unwanted Below = not_below
zero_unwanted Above = not_below
zero_unwanted Apart = ap₂ ◌||◌ not_below not_below

pub turned_zero : (up : Bool) → turned up zero_ℚ ≡ zero_ℚ
turned_zero true = refl
turned_zero false = sym (zero-add (neg_ℚ zero_ℚ)) ∙ add-neg zero_ℚ

pub nothing_wanted : (is_zero : Bool) (w : Wanted) (up : Bool) (v : ℚ) → (is_zero ≡ true → v ≡ zero_ℚ) → not is_zero ≡ false →
    not is_zero ≡ is_wanted w (turned up v)
nothing_wanted true w up v tells fails = sym (ap (λ x. is_wanted w (turned up x)) (tells refl) ∙ ap (is_wanted w) (turned_zero up) ∙ zero_unwanted w)
nothing_wanted false w up v tells fails = absurd (clash fails)
