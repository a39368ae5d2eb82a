-- The sum over the entries of an eta is the sum over the basics other than its leaver.
use Rattle.std.proofs.Common.{◌≡◌, ◌≢◌, ℕ, zero, suc, ◌≤◌, List, ◌∷◌, map, filter, refl, sym, ◌∙◌, ap, true, false, cond, Bool, arith}
use Rattle.std.specs.Prelude.{nat_eq, not, ◌&&◌}
use Rattle.exact_values.specs.Rational.{ℚ, zero_ℚ, ◌+ℚ◌, ◌*ℚ◌}
use Rattle.exact_values.specs.Tests.{eq_ℚ}
use Rattle.exact_values.proofs.TestsLaws.{same_from_test}
use Rattle.exact_values.proofs.RingLaws.{add-zero, mul-zero}
use Rattle.lp_definitions.specs.LinearProgram.{Vector, numbers_from, value_at}
use Rattle.lp_definitions.specs.Basis.{Basics, is_in}
use Rattle.lp_definitions.specs.RatesEvidence.{sum_from}
use Rattle.lp_laws.proofs.Values.{clash}
use Rattle.eta_file.specs.Prefixes.{is_entry, entry_of}
use Rattle.eta_file.proofs.RateEntries.{entries_from}
use Rattle.price_row.specs.Sums.{weighted}

module _ (w : Basics) (d : Vector) (p : ℕ) (xs : List ℚ) (y : Vector) (agrees : (i : ℕ) → 1 ≤ i → is_in w i ≡ true → i ≢ p → value_at xs i ≡ y i) where
  abbrev other : ℕ → Bool
  other k = is_in w k && not (nat_eq k p)

  abbrev product : ℕ → ℚ
  product i = y i *ℚ d i

  abbrev others_from : ℕ → ℕ → List ℕ
  others_from first n = filter other (numbers_from first n)

  -- a value at an entry that is not there adds nothing
  nothing_more : (first : ℕ) (start : ℚ) → eq_ℚ (d first) zero_ℚ ≡ true → start +ℚ product first ≡ start
  nothing_more first start none =
      ap (λ v. start +ℚ y first *ℚ v) (same_from_test (d first) zero_ℚ none) ∙ ap (λ v. start +ℚ v) (mul-zero (y first)) ∙ add-zero start

  same_product : (first : ℕ) → 1 ≤ first → is_in w first ≡ true → nat_eq first p ≡ false → value_at xs first *ℚ d first ≡ product first
  same_product first low basic other_p =
      ap (λ v. v *ℚ d first) (agrees first low basic (λ e. clash (let h : nat_eq first p ≡ true = grind (arith, e) in sym h ∙ other_p)))

  pub sums_agree : (first n : ℕ) (start : ℚ) → 1 ≤ first →
      sum_from start (weighted p xs (entries_from w d first n)) ≡ sum_from start (map product (others_from first n))
  sums_agree first zero start low = refl
  sums_agree first (suc n) start low =
      at (is_in w first) refl (eq_ℚ (d first) zero_ℚ) refl (nat_eq first p) refl (λ s. sums_agree (suc first) n s (omega arith))
    where
      at : (mark : Bool) → is_in w first ≡ mark → (none : Bool) → eq_ℚ (d first) zero_ℚ ≡ none → (same : Bool) → nat_eq first p ≡ same
          → ((s : ℚ) → sum_from s (weighted p xs (entries_from w d (suc first) n)) ≡ sum_from s (map product (others_from (suc first) n)))
          → sum_from start
          (weighted p xs
          (map (entry_of d)
          (cond (mark && not none) (first ∷ filter (is_entry w d) (numbers_from (suc first) n))
          (filter (is_entry w d) (numbers_from (suc first) n)))))
          ≡ sum_from start (map product (cond (mark && not same) (first ∷ others_from (suc first) n) (others_from (suc first) n)))
      at true basic false some true is_same rest =
          ap (λ t. sum_from start
          (cond t (weighted p xs (entries_from w d (suc first) n))
          ((value_at xs first *ℚ d first) ∷ weighted p xs (entries_from w d (suc first) n)))) is_same ∙ rest start
      at true basic false some false is_other rest =
          ap (λ t. sum_from start
          (cond t (weighted p xs (entries_from w d (suc first) n))
          ((value_at xs first *ℚ d first) ∷ weighted p xs (entries_from w d (suc first) n)))) is_other
          ∙ rest (start +ℚ value_at xs first *ℚ d first)
          ∙ ap (λ v. sum_from (start +ℚ v) (map product (others_from (suc first) n))) (same_product first low basic is_other)
      at true basic true none true is_same rest = rest start
      at true basic true none false is_other rest =
          rest start ∙ ap (λ s. sum_from s (map product (others_from (suc first) n))) (sym (nothing_more first start none))
      at false out none is_none same is_same rest = rest start
