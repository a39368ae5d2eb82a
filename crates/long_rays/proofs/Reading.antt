-- The steps of rays and directions, number by number.
use Rattle.std.proofs.Common.{◌≡◌, ◌+◌, List, Bool, true, false, not, Option, Some, None, refl, sym, ap, ◌∙◌, pos}
use Rattle.std.specs.Prelude.{is_some, is_none, option_map}
use Rattle.exact_values.specs.Rational.{ℚ, zero_ℚ, one_ℚ, ◌+ℚ◌, ◌-ℚ◌, ◌*ℚ◌}
use Rattle.exact_values.proofs.RingLaws.{zero-add}
use Rattle.lp_laws.proofs.Entries.{sum_from_is}
use Rattle.certificate_laws.proofs.Products.{sum_of-entries}
use Rattle.exact_values.proofs.Ring.{by_ring3, ◌⊕◌, ◌⊖◌, ◌⊗◌, ◌≐◌, number}
use Rattle.lp_definitions.specs.LinearProgram.{LinearProgram, Vector}
use Rattle.lp_definitions.specs.declared.Entry.{Entry}
use Rattle.check_definitions.specs.Steps.{sum_steps, sum_of}
use Rattle.check_definitions.specs.Checks.{ray_column, free_to_move, column_products, entry_products}
use Rattle.check_definitions.proofs.Holding.{last_holds}
use Rattle.long_points.proofs.Holds.{Reads, append_hold, sums_hold}
use Rattle.long_rays.specs.Tests.{vanish_test, free_test}

module _ (p : LinearProgram) where
  pub reads_column : (w : Vector) → Reads (ray_column p w) (vanish_test p w)
  reads_column w j = (
    (λ e. append_hold (sum_steps (w (p.rows + j)) (column_products p w j)) _ (sums_hold (w (p.rows + j)) (column_products p w j)) (e, tt)),
    (λ h. last_holds (sum_steps (w (p.rows + j)) (column_products p w j)) 1 (p.rows + j) (vanish_test p w j) h),
  )

  pub reads_free : (d : Vector) → Reads (free_to_move p d) (free_test p d)
  reads_free d k = ((λ e. (e, tt)), (λ h. h.0))

-- the sum of a column, with its own multiplier
pub added : (total own d a s w t : ℚ) → a ≡ total *ℚ d → w ≡ one_ℚ → t ≡ own *ℚ d → s ≡ a +ℚ w *ℚ t → s ≡ ((own +ℚ total) -ℚ zero_ℚ) *ℚ d
added total own d a s w t summed one is made =
    made ∙ (λ i. summed i +ℚ one i *ℚ is i) ∙ by_ring3 total own d (λ s y d. s ⊗ d ⊕ number (pos 1) ⊗ (y ⊗ d) ≐ ((y ⊕ s) ⊖ number (pos 0)) ⊗ d) refl

-- a sum that is begun with a number
pub begun : (y : Vector) (start : ℚ) (es : List Entry) → sum_of start (entry_products y es) ≡ start +ℚ sum_of zero_ℚ (entry_products y es)
begun y start es =
    sum_of-entries start y es ∙ sum_from_is y start es
    ∙ ap (λ s. start +ℚ s) (sym (sum_of-entries zero_ℚ y es ∙ sum_from_is y zero_ℚ es ∙ zero-add _))

-- ---- limits that aren't there

none_by : (b : Bool) (o : Option ℚ) → is_some o ≡ not b → b ≡ is_none o
none_by true None e = refl
none_by true (Some l) e = cc
none_by false None e = cc
none_by false (Some l) e = refl

none_moved : (f : ℚ → ℚ) (o : Option ℚ) → is_none o ≡ is_none (option_map f o)
none_moved f None = refl
none_moved f (Some l) = refl

-- theta moves a limit only where it is
pub none_at : (f : ℚ → ℚ) (b : Bool) (o own at : Option ℚ) → is_some o ≡ not b → o ≡ own → at ≡ option_map f own → b ≡ is_none at
none_at f b o own at is is_own is_at = none_by b o is ∙ ap is_none is_own ∙ none_moved f own ∙ sym (ap is_none is_at)
