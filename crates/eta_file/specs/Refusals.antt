-- The refusals of a column that is carried, in the numbers of the list that holds it.
--     IsRefusal way formula p q i j op left right e    evidence of a formula at a waypoint
--     IsRestRefused                a rate less a product is refused
--     SubtractRefused, TransformRefused    what an eta makes of a column is refused
--     ScaleRefused, LeaveRefused   the direction of the leaver after an eta is refused
use Rattle.std.specs.Prelude.{◌≡◌, ◌≢◌, ℕ, ◌<◌, List, length, take, slice_index_or}
use Rattle.exact_values.specs.Rational.{ℚ, zero_ℚ, one_ℚ, ◌-ℚ◌, ◌*ℚ◌, ◌/ℚ◌}
use Rattle.frac128.specs.declared.Op.{Op}
use Rattle.frac128.specs.declared.Op.TheVariants.{Sub, Mul, Div}
use Rattle.lp_definitions.specs.LinearProgram.{value_at}
use Rattle.lp_definitions.specs.RatesEvidence.{Names, Refuses}
use Rattle.lp_definitions.specs.declared.Evidence.{Evidence}
use Rattle.eta_file.specs.Entries.{sum_rate}
use Rattle.eta_file.specs.declared.eta.EtaEntry.{EtaEntry}
use Rattle.eta_file.specs.declared.eta.StoredEta.{StoredEta}

pub record IsRefusal (way formula p q i j : ℕ) (op : Op) (left right : ℚ) (e : Evidence) : Type 0 where
  pub names : Names e formula p q i j 0
  pub is_way : e.way ≡ way
  pub no_theta : e.theta ≡ zero_ℚ
  pub refuses : Refuses e op left right

pub data IsRestRefused (way p q i j : ℕ) (rate quotient factor : ℚ) (e : Evidence) : Type 0 where
  by_product : IsRefusal way 2 p q i j Mul quotient factor e → IsRestRefused way p q i j rate quotient factor e
  by_difference : IsRefusal way 3 p q i j Sub rate (quotient *ℚ factor) e → IsRestRefused way p q i j rate quotient factor e

-- the rate at an entry, after those before it
pub record SubtractRefused (way p q j : ℕ) (u : ℚ) (es : List EtaEntry) (old : List ℚ) (e : Evidence) : Type 0 where
  pub place : ℕ
  pub entry : EtaEntry
  pub within : place < length es
  pub is_entry : (d : EtaEntry) → slice_index_or es place d ≡ entry
  pub stays : entry.i ≢ p
  pub refused : IsRestRefused way p q entry.i j (value_at old entry.i -ℚ u *ℚ sum_rate (take place es) entry.i) u entry.rate e

pub data TransformRefused (eta : StoredEta) (way j : ℕ) (old : List ℚ) (e : Evidence) : Type 0 where
  of_quotient : IsRefusal way 1 eta.p eta.q 0 j Div (value_at old eta.p) eta.pivot e → TransformRefused eta way j old e
  of_entry : SubtractRefused way eta.p eta.q j (value_at old eta.p /ℚ eta.pivot) eta.entries.items old e → TransformRefused eta way j old e

pub record ScaleRefused (way p q : ℕ) (u : ℚ) (es : List EtaEntry) (e : Evidence) : Type 0 where
  pub place : ℕ
  pub entry : EtaEntry
  pub within : place < length es
  pub is_entry : (d : EtaEntry) → slice_index_or es place d ≡ entry
  pub stays : entry.i ≢ p
  pub refused : IsRefusal way 5 p q entry.i 0 Mul u entry.rate e

pub data LeaveRefused (eta : StoredEta) (way : ℕ) (e : Evidence) : Type 0 where
  of_one : IsRefusal way 4 eta.p eta.q 0 0 Div one_ℚ eta.pivot e → LeaveRefused eta way e
  of_multiple : ScaleRefused way eta.p eta.q (one_ℚ /ℚ eta.pivot) eta.entries.items e → LeaveRefused eta way e
