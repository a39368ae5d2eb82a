-- Vectors with the list of the variables whose numbers aren't 0.
--     IsNextNonzero xs n k         k is the least-numbered variable from n on whose number isn't 0
--     AreNonzeroFrom xs n ks       ks are the variables from n on whose numbers aren't 0, ascending
--     AreNonzero xs ks             ks are all the variables whose numbers aren't 0
--     CoverNonzeroFrom xs n ks     ks ascend from n on, and no number from n on that isn't 0 is missing among them
--     CoverNonzero xs ks           the same of all variables
--     CoverPlaces ns ps            no place of ns whose number isn't 0 is missing among ps
--     over d ns                    whole numbers over a denominator
--     IsPartly xs ys               each number of ys is that of xs, or 0
use Rattle.std.specs.Prelude.{◌≡◌, ◌≢◌, ℕ, ℤ, pos, suc, ◌≤◌, ◌<◌, List, [], ◌∷◌, length, map, slice_index_or, All, unsigned_abs, ◌⊎◌}
use Rattle.exact_values.specs.Rational.{ℚ, zero_ℚ, fraction}
use Rattle.lp_definitions.specs.LinearProgram.{value_at}
use Rattle.lp_model.specs.declared.sparse.SparseVector.TheInside.{Inside}

-- the numbers of the variables from n up to k are 0, and that of k isn't
pub record IsNextNonzero (xs : List ℚ) (n k : ℕ) : Type 0 where
  pub from : n ≤ k
  pub within : k ≤ length xs
  pub nonzero : value_at xs k ≢ zero_ℚ
  pub between : (i : ℕ) → n ≤ i → i < k → value_at xs i ≡ zero_ℚ

pub data AreNonzeroFrom (xs : List ℚ) : ℕ → List ℕ → Type 0 where
  no_more : {n : ℕ} → ((i : ℕ) → n ≤ i → value_at xs i ≡ zero_ℚ) → AreNonzeroFrom xs n []
  next_nonzero : {n k : ℕ} {ks : List ℕ} → IsNextNonzero xs n k → AreNonzeroFrom xs (suc k) ks → AreNonzeroFrom xs n (k ∷ ks)

-- variables are numbered from 1
abbrev pub AreNonzero : List ℚ → List ℕ → Type 0
AreNonzero xs ks = AreNonzeroFrom xs 1 ks

-- the numbers of the variables from n up to k are 0
pub record IsNextListed (xs : List ℚ) (n k : ℕ) : Type 0 where
  pub from : n ≤ k
  pub within : k ≤ length xs
  pub between : (i : ℕ) → n ≤ i → i < k → value_at xs i ≡ zero_ℚ

pub data CoverNonzeroFrom (xs : List ℚ) : ℕ → List ℕ → Type 0 where
  no_more_listed : {n : ℕ} → ((i : ℕ) → n ≤ i → value_at xs i ≡ zero_ℚ) → CoverNonzeroFrom xs n []
  next_listed : {n k : ℕ} {ks : List ℕ} → IsNextListed xs n k → CoverNonzeroFrom xs (suc k) ks → CoverNonzeroFrom xs n (k ∷ ks)

abbrev pub CoverNonzero : List ℚ → List ℕ → Type 0
CoverNonzero xs ks = CoverNonzeroFrom xs 1 ks

-- places are numbered from 0; they may stand in any order
pub record CoverPlaces (ns : List ℤ) (ps : List ℕ) : Type 0 where
  pub within : All (λ n. n < length ns) ps
  pub none_missing : (n : ℕ) → ((i : ℕ) → i < length ps → slice_index_or ps i 0 ≢ n) → slice_index_or ns n (pos 0) ≡ pos 0

-- the list that is kept is that of the numbers
abbrev pub IsSparse : Inside → Type 0
IsSparse a = AreNonzero a.values.items a.nonzero.items

-- whole numbers over a denominator
abbrev pub over : ℤ → List ℤ → List ℚ
over d ns = map (λ n. fraction n (unsigned_abs d)) ns

-- each number of ys is that of xs, or 0
abbrev pub IsPartly : List ℚ → List ℚ → Type 0
IsPartly xs ys = (k : ℕ) → (value_at ys k ≡ value_at xs k) ⊎ (value_at ys k ≡ zero_ℚ)
