-- The entries of an eta, and of a column.
--     sum_rate es k                what the entries have at k, in all
--     others p es                  the number of entries at other variables than p
--     IsEntryWithin n e            the entry is at one of the first n variables
--     AreApart es                  no two entries are at one variable
--     IsRowWithin j e              the number stands on a row below variable j
--     AreDistinctRows c            no two numbers stand on one row
--     scaled s e                   the entry, its rate times s
--     IsWholeOf pivot es w         the pivot and the entries, each times the scale of w
use Rattle.std.specs.Prelude.{◌≡◌, ◌≢◌, ℕ, ◌+◌, ◌<◌, ◌≤◌, List, [], ◌∷◌, length, map, take, slice_index_or, nat_eq, if◌then◌else◌}
use Rattle.std.specs.List.{IsDistinct}
use Rattle.exact_values.specs.Rational.{ℚ, zero_ℚ, ◌+ℚ◌, ◌*ℚ◌}
use Rattle.lp_definitions.specs.declared.Entry.{Entry}
use Rattle.eta_file.specs.declared.eta.EtaEntry.{EtaEntry}
use Rattle.eta_file.specs.declared.eta.WholeEta.{WholeEta}

abbrev pub rate_where : EtaEntry → ℕ → ℚ
rate_where e k = if nat_eq e.i k then e.rate else zero_ℚ

abbrev pub sum_rate : List EtaEntry → ℕ → ℚ
sum_rate [] k = zero_ℚ
sum_rate (e ∷ es) k = rate_where e k +ℚ sum_rate es k

abbrev pub others : ℕ → List EtaEntry → ℕ
others p [] = 0
others p (e ∷ es) = if nat_eq e.i p then others p es else (1 + others p es)

abbrev pub IsEntryWithin : ℕ → EtaEntry → Type 0
IsEntryWithin n e = (1 ≤ e.i) × (e.i ≤ n)

abbrev pub AreApart : List EtaEntry → Type 0
AreApart es = (n : ℕ) (d : EtaEntry) → n < length es → sum_rate (take n es) (slice_index_or es n d).i ≡ zero_ℚ

abbrev pub IsRowWithin : ℕ → Entry → Type 0
IsRowWithin j e = (1 ≤ e.row) × (e.row < j)

abbrev pub AreDistinctRows : List Entry → Type 0
AreDistinctRows c = IsDistinct nat_eq (map (λ (e : Entry). e.row) c)

abbrev pub scaled : ℚ → EtaEntry → EtaEntry
scaled s e = record { i = e.i; rate = e.rate *ℚ s }

pub record IsWholeOf (pivot : ℚ) (es : List EtaEntry) (w : WholeEta) : Type 0 where
  pub apart : w.scale ≢ zero_ℚ
  pub is_pivot : w.pivot ≡ pivot *ℚ w.scale
  pub are_entries : w.entries.items ≡ map (scaled w.scale) es
