-- What holds of each element that was looked at.
use Rattle.std.proofs.Common.{◌≡◌, ◌⊎◌, inl, inr, ℕ, suc, ◌+◌, ◌-◌, ◌<◌, ◌≤◌, Bool, true, false, List, [], ◌∷◌, length, get_or, nat_eq, if◌then◌else◌, None}
use Rattle.std.proofs.Common.{sym, subst, arith}
use Rattle.std.proofs.lemmas.Bool.{cases_lt}
use Rattle.std.proofs.lemmas.List.{get_or_past}
use Rattle.exact_values.specs.Rational.{whole, zero_ℚ}
use Rattle.frac128.specs.Operations.{TermsFit}
use Rattle.lp_definitions.specs.declared.Entry.{Entry}
use Rattle.lp_definitions.specs.LinearProgram.{LinearProgram, on_row, cost}
use Rattle.report_sizes.specs.Sizes.{VectorFits}

-- it holds of the first n elements
abbrev pub LookedAt : {X : Type 0} → (X → Type 0) → List X → X → ℕ → Type 0
LookedAt P xs d n = (k : ℕ) → k < n → P (get_or xs k d)

module _ {X : Type 0} (P : X → Type 0) (xs : List X) (d : X) where
  -- one more
  pub looked_more : (n : ℕ) (x : X) → x ≡ get_or xs n d → LookedAt P xs d n → P x → LookedAt P xs d (n + 1)
  looked_more n x is before now k below = by (cases_lt k n)
    where
      by : (k < n) ⊎ (n ≤ k) → P (get_or xs k d)
      by (inl less) = before k less
      by (inr on) = let same : n ≡ k = omega (arith, below, on) in subst (λ (i : ℕ). P (get_or xs i d)) same (subst P is now)

  -- all, and what stands past them
  pub looked_all : P d → (n : ℕ) → length xs ≤ n → LookedAt P xs d n → (k : ℕ) → P (get_or xs k d)
  looked_all there n past before k = by (cases_lt k n)
    where
      by : (k < n) ⊎ (n ≤ k) → P (get_or xs k d)
      by (inl less) = before k less
      by (inr on) = subst P (sym (get_or_past xs k d (omega (arith, past, on)))) there

pub zero_fits : TermsFit zero_ℚ
unfolding whole
zero_fits = record { numerator_fits = omega arith; denominator_fits = omega arith }

-- ---- columns

abbrev pub EntryFits : Entry → Type 0
EntryFits e = TermsFit e.value

abbrev pub no_entry : Entry
no_entry = record { row = 0; value = zero_ℚ }

abbrev pub ColumnFits : List Entry → Type 0
ColumnFits es = VectorFits (on_row es)

pub no_column_fits : ColumnFits []
no_column_fits i = zero_fits

pub column_fits : (es : List Entry) → ((k : ℕ) → EntryFits (get_or es k no_entry)) → ColumnFits es
column_fits [] fit i = zero_fits
column_fits (e ∷ es) fit i = by (nat_eq e.row i) (column_fits es (λ k. fit (suc k)) i)
  where
    by : (here : Bool) → TermsFit (on_row es i) → TermsFit (if here then e.value else on_row es i)
    by true rest = fit 0
    by false rest = rest

-- where no row is added to the objective, a cost is a number of its column
pub cost_fits : (p : LinearProgram) → p.change ≡ None → ((k : ℕ) → ColumnFits (get_or p.matrix.columns k [])) → VectorFits (cost p)
cost_fits p none fit j = subst (λ c. TermsFit (cost (record p { change = c }) j)) (sym none) (fit (j - 1) p.objective)
