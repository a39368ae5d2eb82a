-- The sets of basics that a list of exchanges passes through, and what an eta keeps of its exchange.
--     rate_entries a b d           the numbers of a direction at the basics b, where they are not 0, in ascending order
--     IsLent etas k p q entries    the eta at this place has these
--     IsLentScaled etas k s p entries    its pivot and its entries, each times s, are these
--     IsExchangeOf a b p q entries an exchange at the basics b, with its rates that are not 0
--     basic_columns a b            the number of basic columns
--     IsEta a b eta                the eta of an exchange at the basics b, and its whole numbers are its rates
--     Passed a b etas              each eta is one of an exchange at the set that those before it lead to, from b
--     after b etas                 the set that they lead to
--     prefixes b etas              all sets on the way, b first
--     entry_count etas             the number of entries of all etas
use Rattle.std.specs.Prelude.{◌≡◌, ◌≢◌, ℕ, ◌+◌, Bool, List, [], ◌∷◌, length, map, filter, count_by, drop, slice_index_or, not, ◌&&◌, IfSome}
use Rattle.exact_values.specs.Rational.{ℚ, zero_ℚ, ◌*ℚ◌}
use Rattle.exact_values.specs.Tests.{eq_ℚ}
use Rattle.lp_definitions.specs.LinearProgram.{Matrix, Vector, size, numbers_from}
use Rattle.lp_definitions.specs.Basis.{Basics, is_in, IsBasic, IsNonbasic, AreRates, exchanged}
use Rattle.eta_file.specs.Entries.{scaled, IsWholeOf}
use Rattle.eta_file.specs.declared.eta.EtaEntry.{EtaEntry}
use Rattle.eta_file.specs.declared.eta.StoredEta.{StoredEta}

-- a basic at which the direction is not 0
abbrev pub is_entry : Basics → Vector → ℕ → Bool
is_entry b d i = is_in b i && not (eq_ℚ (d i) zero_ℚ)

abbrev pub entry_of : Vector → ℕ → EtaEntry
entry_of d i = record { i = i; rate = d i }

-- those of the first n variables
abbrev pub entries_to : Basics → Vector → ℕ → List EtaEntry
entries_to b d n = map (entry_of d) (filter (is_entry b d) (numbers_from 1 n))

abbrev pub rate_entries : Matrix → Basics → Vector → List EtaEntry
rate_entries a b d = entries_to b d (size a)

pub record IsEta (a : Matrix) (b : Basics) (eta : StoredEta) : Type 0 where
  pub leaves : IsBasic a b eta.p
  pub enters : IsNonbasic a b eta.q
  pub rate : ℕ → ℕ → ℚ
  pub are_rates : AreRates a b rate
  pub apart : rate eta.p eta.q ≢ zero_ℚ
  pub is_pivot : eta.pivot ≡ rate eta.p eta.q
  pub are_entries : eta.entries.items ≡ rate_entries a b (λ i. rate i eta.q)
  pub are_whole : IfSome eta.whole (IsWholeOf eta.pivot eta.entries.items)

abbrev pub Passed : Matrix → Basics → List StoredEta → Type 0
Passed a b [] = Unit {0}
Passed a b (eta ∷ etas) = IsEta a b eta × Passed a (exchanged b eta.p eta.q) etas

abbrev pub after : Basics → List StoredEta → Basics
after b [] = b
after b (eta ∷ etas) = after (exchanged b eta.p eta.q) etas

abbrev pub prefixes : Basics → List StoredEta → List Basics
prefixes b [] = b ∷ []
prefixes b (eta ∷ etas) = b ∷ prefixes (exchanged b eta.p eta.q) etas

abbrev pub entry_count : List StoredEta → ℕ
entry_count [] = 0
entry_count (eta ∷ etas) = length eta.entries.items + entry_count etas

pub record IsLent (etas : List StoredEta) (place p q : ℕ) (entries : List EtaEntry) : Type 0 where
  pub is_p : (d : StoredEta) → (slice_index_or etas place d).p ≡ p
  pub is_q : (d : StoredEta) → (slice_index_or etas place d).q ≡ q
  pub are_entries : (d : StoredEta) → (slice_index_or etas place d).entries.items ≡ entries

pub record IsLentScaled (etas : List StoredEta) (place : ℕ) (scale pivot : ℚ) (entries : List EtaEntry) : Type 0 where
  pub apart : scale ≢ zero_ℚ
  pub is_pivot : (d : StoredEta) → pivot ≡ (slice_index_or etas place d).pivot *ℚ scale
  pub are_entries : (d : StoredEta) → entries ≡ map (scaled scale) (slice_index_or etas place d).entries.items

-- p goes for q at the basics b, and these are the rates at q that are not 0
pub record IsExchangeOf (a : Matrix) (b : Basics) (p q : ℕ) (entries : List EtaEntry) : Type 0 where
  pub leaves : IsBasic a b p
  pub enters : IsNonbasic a b q
  pub rate : ℕ → ℕ → ℚ
  pub are_rates : AreRates a b rate
  pub apart : rate p q ≢ zero_ℚ
  pub are_entries : entries ≡ rate_entries a b (λ i. rate i q)

abbrev pub basic_columns : Matrix → Basics → ℕ
basic_columns a b = count_by (λ mark. mark) (drop a.rows b)
