-- Lists of places, each with its rank, and lists of numbers that are written at them.
--     IsListedAt ks ranks n        the list has place n, at the rank of n
--     AreRanked ks ranks           each place of the list has its rank there
--     IsRank rank ks               the same, of any function
--     is_reached rank ks i n       place n is one of the first i of the list
--     AreWritten rank ks f i xs ys     ys is xs, but f at the first i places of the list
--     AreChangedTo g ks i xs ys    ys is xs, but g of the number there at the first i places of the list
--     AreChanged g ks xs ys        the same, at all places of the list
--     AreKept ks xs ys             ys is xs at all places that aren't in the list
--     AreListed ns ks ranks        each place of the list has its rank, and the number at one that isn't listed is 0
--     fractions_of a               the numbers of a vector, as fractions
--     IsSparse a                   its numbers that aren't 0 are listed
use Rattle.std.specs.Prelude.{◌≡◌, ◌≢◌, ℕ, ℤ, ◌<◌, Bool, List, length, slice_index_or, nat_lt, nat_eq, ◌&&◌, if◌then◌else◌}
use Rattle.exact_values.specs.Rational.{ℚ, zero_ℚ}
use Rattle.whole_vectors.specs.Words.{wholes}
use Rattle.whole_vectors.specs.declared.sparse_words.SparseWords.TheInside.{Inside}

pub record IsListedAt (ks ranks : List ℕ) (n : ℕ) : Type 0 where
  pub below : slice_index_or ranks n 0 < length ks
  pub here : slice_index_or ks (slice_index_or ranks n 0) 0 ≡ n

pub record AreRanked (ks ranks : List ℕ) : Type 0 where
  pub within : (i : ℕ) → i < length ks → slice_index_or ks i 0 < length ranks
  pub rank : (i : ℕ) → i < length ks → slice_index_or ranks (slice_index_or ks i 0) 0 ≡ i

abbrev pub IsRank : (ℕ → ℕ) → List ℕ → Type 0
IsRank rank ks = (i : ℕ) → i < length ks → rank (slice_index_or ks i 0) ≡ i

abbrev pub is_reached : (ℕ → ℕ) → List ℕ → ℕ → ℕ → Bool
is_reached rank ks i n = nat_lt (rank n) i && nat_eq (slice_index_or ks (rank n) 0) n

abbrev pub AreWritten : (ℕ → ℕ) → List ℕ → (ℕ → ℚ) → ℕ → List ℚ → List ℚ → Type 0
AreWritten rank ks f i xs ys = (n : ℕ) → slice_index_or ys n zero_ℚ ≡ (if is_reached rank ks i n then f n else slice_index_or xs n zero_ℚ)

abbrev pub AreChangedTo : (ℚ → ℚ) → List ℕ → ℕ → List ℚ → List ℚ → Type 0
AreChangedTo g ks i xs ys = (rank : ℕ → ℕ) → IsRank rank ks → AreWritten rank ks (λ n. g (slice_index_or xs n zero_ℚ)) i xs ys

abbrev pub AreChanged : (ℚ → ℚ) → List ℕ → List ℚ → List ℚ → Type 0
AreChanged g ks xs ys = AreChangedTo g ks (length ks) xs ys

abbrev pub AreKept : List ℕ → List ℚ → List ℚ → Type 0
AreKept ks xs ys = (n : ℕ) → ((i : ℕ) → i < length ks → slice_index_or ks i 0 ≢ n) → slice_index_or ys n zero_ℚ ≡ slice_index_or xs n zero_ℚ

pub record AreListed (ns : List ℤ) (ks ranks : List ℕ) : Type 0 where
  pub counted : length ranks ≡ length ns
  pub ranked : AreRanked ks ranks
  pub covered : (n : ℕ) → (IsListedAt ks ranks n → ⊥) → slice_index_or (wholes ns) n zero_ℚ ≡ zero_ℚ

abbrev pub fractions_of : Inside → List ℚ
fractions_of a = wholes a.numbers.items

abbrev pub IsSparse : Inside → Type 0
IsSparse a = AreListed a.numbers.items a.listed.items a.ranks.items
