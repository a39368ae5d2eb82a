-- Rows that are carried back in whole numbers, of which that of the leaver is made 0 first.
use Rattle.std.proofs.Common.{◌≡◌, ◌≢◌, ℕ, zero, suc, ◌+◌, ◌-◌, ◌<◌, ◌≤◌, List, [], ◌∷◌, length, set, refl, sym, ◌∙◌, ap, subst, arith}
use Rattle.std.proofs.lemmas.List.{get_or-set_same, get_or-set_other, map-set}
use Rattle.exact_values.specs.Rational.{ℚ, zero_ℚ, one_ℚ, neg_ℚ, ◌*ℚ◌, ◌/ℚ◌}
use Rattle.exact_values.proofs.Inverse.{one_apart}
use Rattle.exact_values.proofs.RingLaws.{mul-one}
use Rattle.lp_definitions.specs.LinearProgram.{size, IsVariable, value_at}
use Rattle.lp_definitions.specs.Basis.{IsBasic, IsNonsingular, row_basics}
use Rattle.lp_definitions.specs.RatesEvidence.{sum_from}
use Rattle.lp_laws.proofs.Idle.{right_once}
use Rattle.whole_vectors.specs.Quotients.{quotients, AreProducts, Represent}
use Rattle.eta_file.specs.declared.eta.EtaEntry.{EtaEntry}
use Rattle.eta_file.specs.declared.eta.StoredEta.{StoredEta}
use Rattle.eta_file.specs.Prefixes.{IsLent, IsLentScaled, Passed}
use Rattle.eta_file.specs.Inverse.{Inverse}
use Rattle.price_row.specs.Sums.{weighted}
use Rattle.price_row.specs.Known.{IsKnown, IsUnit}
use Rattle.price_row.proofs.CarriedBack.{p_within, known_cleared, idle_quotient, an_eta}
use Rattle.price_row.proofs.WholeRows.{known_whole}

-- 1 is put in the place of i, where all are 0
pub unit_at : (i : ℕ) (xs : List ℚ) → 1 ≤ i → i ≤ length xs → ((k : ℕ) → value_at xs k ≡ zero_ℚ) → IsUnit i (set xs (i - 1) one_ℚ)
unit_at i xs low high nought = record {
  own = get_or-set_same xs (i - 1) one_ℚ zero_ℚ (omega (arith, low, high));
  others = λ k some other.
      let apart : k - 1 ≢ i - 1 = (λ e. other (omega (arith, e, some, low))) in
      get_or-set_other xs (i - 1) (k - 1) one_ℚ zero_ℚ apart ∙ nought k;
}

-- a number that is of no account is made 0
cleared_at : (P : List ℚ → Type 0) (d : ℚ) (xs : List ℚ) (i : ℕ) → ((ys : List ℚ) (v : ℚ) → P ys → P (set ys i v)) → Represent P d xs →
    Represent P d (set xs i zero_ℚ)
cleared_at P d xs i free h = record {
  apart = h.apart;
  holds = subst P (sym (map-set (λ x. x /ℚ d) xs i zero_ℚ)) (free (quotients d xs) (zero_ℚ /ℚ d) h.holds);
}

set_twice : (xs : List ℚ) (i : ℕ) (a b : ℚ) → set (set xs i a) i b ≡ set xs i b
set_twice [] i a b = refl
set_twice (x ∷ xs) zero a b = refl
set_twice (x ∷ xs) (suc i) a b = ap (λ t. x ∷ t) (set_twice xs i a b)

-- ---- one eta

module _ (f : Inverse) (passed : Passed f.matrix (row_basics f.matrix) f.etas) (k : ℕ) (below : k < length f.etas) (p q : ℕ) (entries : List EtaEntry)
    (lent : IsLent f.etas (k + 1 - 1) p q entries)
    (s pivot : ℚ) (es : List EtaEntry) (whole : IsLentScaled f.etas (k + 1 - 1) s pivot es)
    (r : ℕ) (basic : IsBasic f.matrix f.basics r) (one : IsNonsingular f.matrix f.basics) (d : ℚ) (old : List ℚ) (counted : length old ≡ size f.matrix)
    (known : Represent (IsKnown f (k + 1) r) d old)
    (v : ℚ) (none : v ≡ zero_ℚ) (cleared : List ℚ) (is_written : cleared ≡ set old (p - 1) v) (as_long : length cleared ≡ length old)
    (read : List ℚ) (as_read : read ≡ cleared) (sum : ℚ)
    (is_sum : (i : ℕ) → value_at read i ≡ zero_ℚ → sum ≡ sum_from (value_at read q *ℚ s) (weighted i read es)) where
  abbrev d0 : StoredEta
  d0 = an_eta f.etas k below

  p_in : IsVariable f.matrix p
  p_in = p_within f passed k below d0 p q entries lent

  is_cleared : cleared ≡ set old (p - 1) zero_ℚ
  is_cleared = is_written ∙ ap (set old (p - 1)) none

  still_known : Represent (IsKnown f (k + 1) r) d cleared
  still_known =
      subst (λ xs. Represent (IsKnown f (k + 1) r) d xs) (sym is_cleared)
      (cleared_at (IsKnown f (k + 1) r) d old (p - 1) (λ xs v. known_cleared f passed k below d0 p q entries lent r xs v) known)

  nought : value_at cleared p ≡ zero_ℚ
  nought = ap (λ xs. value_at xs p) is_cleared ∙ get_or-set_same old (p - 1) zero_ℚ zero_ℚ (omega (arith, p_in.0, p_in.1, counted))

  total_is : sum ≡ sum_from (value_at cleared q *ℚ s) (weighted p cleared es)
  total_is = subst (λ xs. (i : ℕ) → value_at xs i ≡ zero_ℚ → sum ≡ sum_from (value_at xs q *ℚ s) (weighted i xs es)) as_read is_sum p nought

  pub known_carried : (ratio by n e : ℚ) (low new : List ℚ) → ratio ≡ sum /ℚ pivot → by ≢ zero_ℚ → n ≡ ratio *ℚ by → e ≡ d *ℚ by → AreProducts by cleared low
      → length low ≡ length cleared
      → new ≡ set low (p - 1) (neg_ℚ n) → Represent (IsKnown f k r) e new
  known_carried ratio by n e low new is_ratio =
      known_whole f passed k below p q entries lent s pivot es whole r basic one d cleared (as_long ∙ counted) still_known
      (value_at cleared q *ℚ s) sum ratio refl total_is is_ratio by n e low new

  -- where the sum is 0, all stays
  pub known_idle : sum ≡ zero_ℚ → Represent (IsKnown f k r) d cleared
  known_idle idle =
      known_carried (sum /ℚ pivot) one_ℚ (sum /ℚ pivot *ℚ one_ℚ) d cleared cleared refl one_apart refl (sym (mul-one d))
      (record { each = λ i. right_once (value_at cleared i) one_ℚ refl }) refl
      (is_cleared ∙ sym (set_twice old (p - 1) zero_ℚ zero_ℚ) ∙ ap (λ xs. set xs (p - 1) zero_ℚ) (sym is_cleared) ∙ ap (set cleared (p - 1)) stays)
    where
      stays : zero_ℚ ≡ neg_ℚ (sum /ℚ pivot *ℚ one_ℚ)
      stays = sym idle ∙ idle_quotient sum pivot idle ∙ ap neg_ℚ (sym (mul-one (sum /ℚ pivot)))
