-- What an eta makes of a column, in the numbers of the list that holds it.
--     IsWithinPlaces n eta         the eta speaks of the first n variables, and its pivot is not 0
--     IsSubtracted p u es old new  each value but that of p, less u times the rate there
--     IsTransformed eta old new    what the eta makes of a direction
--     IsExchanged p q c w old new  the numbers, less c times those of an eta; the opposite of c times its scale at q, and 0 at p
--     IsScaled p u es new          u times the rate, at each variable but p
--     IsLeaving eta new            the direction of the leaver after the eta
--     IsColumnFilled c j new       the numbers of a column on its rows, and 1 at j
--     AreZero xs                   all numbers are 0
--     NoneLater etas j n           j leaves at none of the etas after the first n
--     LeftAt etas j n              j left at the n-th eta, if n is not 0
use Rattle.std.specs.Prelude.{◌≡◌, ◌≢◌, ℕ, ◌-◌, ◌<◌, ◌≤◌, List, length, All, slice_index_or, nat_eq, if◌then◌else◌}
use Rattle.exact_values.specs.Rational.{ℚ, zero_ℚ, one_ℚ, neg_ℚ, ◌-ℚ◌, ◌*ℚ◌, ◌/ℚ◌}
use Rattle.lp_definitions.specs.LinearProgram.{value_at, on_row}
use Rattle.lp_definitions.specs.declared.Entry.{Entry}
use Rattle.eta_file.specs.Entries.{sum_rate, IsEntryWithin}
use Rattle.eta_file.specs.declared.eta.EtaEntry.{EtaEntry}
use Rattle.eta_file.specs.declared.eta.StoredEta.{StoredEta}
use Rattle.eta_file.specs.declared.eta.WholeEta.{WholeEta}

pub record IsWithinPlaces (n : ℕ) (eta : StoredEta) : Type 0 where
  pub p_low : 1 ≤ eta.p
  pub p_high : eta.p ≤ n
  pub q_low : 1 ≤ eta.q
  pub q_high : eta.q ≤ n
  pub apart : eta.pivot ≢ zero_ℚ
  pub entries : All (IsEntryWithin n) eta.entries.items

pub record IsSubtracted (p : ℕ) (u : ℚ) (es : List EtaEntry) (old new : List ℚ) : Type 0 where
  pub each : (k : ℕ) → 1 ≤ k → k ≤ length old → k ≢ p → value_at new k ≡ value_at old k -ℚ u *ℚ sum_rate es k

pub data IsTransformed (eta : StoredEta) (old new : List ℚ) : Type 0 where
  untouched : value_at old eta.p ≡ zero_ℚ → new ≡ old → IsTransformed eta old new
  changed : value_at new eta.p ≡ (if nat_eq eta.p eta.q then neg_ℚ (value_at old eta.p /ℚ eta.pivot) else zero_ℚ) →
      value_at new eta.q ≡ neg_ℚ (value_at old eta.p /ℚ eta.pivot) →
      ((k : ℕ) → 1 ≤ k → k ≤ length old → k ≢ eta.p → k ≢ eta.q →
      value_at new k ≡ value_at old k -ℚ (value_at old eta.p /ℚ eta.pivot) *ℚ sum_rate eta.entries.items k) →
      IsTransformed eta old new

pub record IsExchanged (p q : ℕ) (c : ℚ) (w : WholeEta) (old new : List ℚ) : Type 0 where
  pub at_p : value_at new p ≡ (if nat_eq p q then neg_ℚ (c *ℚ w.scale) else zero_ℚ)
  pub at_q : value_at new q ≡ neg_ℚ (c *ℚ w.scale)
  pub each : (k : ℕ) → 1 ≤ k → k ≤ length old → k ≢ p → k ≢ q → value_at new k ≡ value_at old k -ℚ c *ℚ sum_rate w.entries.items k

pub record IsScaled (p : ℕ) (u : ℚ) (es : List EtaEntry) (new : List ℚ) : Type 0 where
  pub each : (k : ℕ) → 1 ≤ k → k ≤ length new → k ≢ p → value_at new k ≡ u *ℚ sum_rate es k

pub record IsLeaving (eta : StoredEta) (new : List ℚ) : Type 0 where
  pub leaver : eta.p ≢ eta.q → value_at new eta.p ≡ one_ℚ
  pub entering_variable : value_at new eta.q ≡ one_ℚ /ℚ eta.pivot
  pub each : (k : ℕ) → 1 ≤ k → k ≤ length new → k ≢ eta.p → k ≢ eta.q → value_at new k ≡ (one_ℚ /ℚ eta.pivot) *ℚ sum_rate eta.entries.items k

pub record IsColumnFilled (c : List Entry) (j : ℕ) (new : List ℚ) : Type 0 where
  pub own : value_at new j ≡ one_ℚ
  pub rows : (k : ℕ) → 1 ≤ k → k ≢ j → value_at new k ≡ on_row c k

abbrev pub AreZero : List ℚ → Type 0
AreZero xs = (k : ℕ) → 1 ≤ k → value_at xs k ≡ zero_ℚ

abbrev pub NoneLater : List StoredEta → ℕ → ℕ → Type 0
NoneLater etas j n = (k : ℕ) (d : StoredEta) → n ≤ k → k < length etas → (slice_index_or etas k d).p ≢ j

abbrev pub LeftAt : List StoredEta → ℕ → ℕ → Type 0
LeftAt etas j n = (d : StoredEta) → n ≢ 0 → (slice_index_or etas (n - 1) d).p ≡ j
