-- Lists of the variables whose numbers aren't 0.
use Rattle.std.proofs.Common.{◌≡◌, ◌≢◌, ◌∙◌, sym, ap, subst, ℕ, zero, suc, ◌+◌, ◌-◌, ◌<◌, ◌≤◌, Bool, true, false, not, List, [], ◌∷◌, ◌++◌, length, drop}
use Rattle.std.proofs.Common.{filter, get_or, replicate, slice_index_or, slice_set, ◌⊎◌, inl, inr, ◌↔◌, refl, add-one, IsTrue, cond, arith, All}
use Rattle.std.proofs.lemmas.Bool.{cases_lt}
use Rattle.std.proofs.lemmas.List.{get_or_past, get_or-set_other, get_or-set_same, drop_all, append_assoc, append-nil}
use Rattle.std.proofs.lemmas.List.Elements.{filter-append}
use Rattle.lp_model.proofs.Lists.{numbers_from-suc}
use Rattle.std.proofs.Math.Nat.{eq-or-lt_of_le}
use Rattle.std.proofs.Math.Seq.{drop-cons}
use Rattle.exact_values.specs.Rational.{ℚ, zero_ℚ}
use Rattle.exact_values.specs.Tests.{eq_ℚ}
use Rattle.exact_values.proofs.TestsLaws.{same_from_test, test_from_same, apart_from_eq_fails}
use Rattle.lp_definitions.specs.LinearProgram.{value_at, numbers_from}
use Rattle.lp_model.specs.Sparse.{AreNonzeroFrom, no_more, next_nonzero, CoverNonzeroFrom, no_more_listed, next_listed}

-- the test of a number
pub nonzero_test : (v : ℚ) (b : Bool) → (IsTrue b ↔ (v ≡ zero_ℚ)) → not b ≡ not (eq_ℚ v zero_ℚ)
nonzero_test v true h = ap not (sym (test_from_same v zero_ℚ (h.0 refl)))
nonzero_test v false h = by_test (eq_ℚ v zero_ℚ) refl where
  by_test : (t : Bool) → eq_ℚ v zero_ℚ ≡ t → true ≡ not (eq_ℚ v zero_ℚ)
  by_test true e = let same : false ≡ true = h.1 (same_from_test v zero_ℚ e) in cc
  by_test false e = ap not (sym e)

module _ (xs : List ℚ) where
  abbrev kept : List ℕ → List ℕ
  kept ks = filter (λ k. not (eq_ℚ (value_at xs k) zero_ℚ)) ks

  -- more numbers before are 0
  widened : (n m : ℕ) (ks : List ℕ) → n ≤ m → ((i : ℕ) → n ≤ i → i < m → value_at xs i ≡ zero_ℚ) → AreNonzeroFrom xs m ks → AreNonzeroFrom xs n ks
  widened n m [] low zeros (no_more rest) = no_more all where
    by_case : (i : ℕ) → n ≤ i → (i < m) ⊎ (m ≤ i) → value_at xs i ≡ zero_ℚ
    by_case i above (inl below) = zeros i above below
    by_case i above (inr reached) = rest i reached

    all : (i : ℕ) → n ≤ i → value_at xs i ≡ zero_ℚ
    all i above = by_case i above (cases_lt i m)
  widened n m (k ∷ ks) low zeros (next_nonzero h rest) = next_nonzero (record {
    from = (omega (arith, low, h.from));
    within = h.within;
    nonzero = h.nonzero;
    between = all;
  }) rest where
    by_case : (i : ℕ) → n ≤ i → i < k → (i < m) ⊎ (m ≤ i) → value_at xs i ≡ zero_ℚ
    by_case i above below (inl before) = zeros i above before
    by_case i above below (inr reached) = h.between i reached below

    all : (i : ℕ) → n ≤ i → i < k → value_at xs i ≡ zero_ℚ
    all i above below = by_case i above below (cases_lt i m)

  -- the candidates whose numbers aren't 0 are all such variables
  pub kept_nonzero : (n : ℕ) (ks : List ℕ) → CoverNonzeroFrom xs n ks → AreNonzeroFrom xs n (kept ks)
  kept_nonzero n [] (no_more_listed zeros) = no_more zeros
  kept_nonzero n (k ∷ ks) (next_listed h rest) = by_test (eq_ℚ (value_at xs k) zero_ℚ) refl (kept_nonzero (suc k) ks rest) where
    by_test : (t : Bool) → eq_ℚ (value_at xs k) zero_ℚ ≡ t → AreNonzeroFrom xs (suc k) (kept ks) → AreNonzeroFrom xs n (cond (not t) (k ∷ kept ks) (kept ks))
    by_test true e left = widened n (suc k) (kept ks) (omega (arith, h.from)) zeros left where
      by_case : (i : ℕ) → n ≤ i → i < suc k → (i < k) ⊎ (k ≤ i) → value_at xs i ≡ zero_ℚ
      by_case i above below (inl before) = h.between i above before
      by_case i above below (inr reached) = let same : i ≡ k = omega (arith, below, reached) in ap (value_at xs) same ∙ same_from_test (value_at xs k) zero_ℚ e

      zeros : (i : ℕ) → n ≤ i → i < suc k → value_at xs i ≡ zero_ℚ
      zeros i above below = by_case i above below (cases_lt i k)
    by_test false e left = next_nonzero (record {
      from = h.from;
      within = h.within;
      nonzero = apart_from_eq_fails (value_at xs k) zero_ℚ e;
      between = h.between;
    }) left

  -- what lies past the end is 0
  past_end : (i : ℕ) → length xs < i → value_at xs i ≡ zero_ℚ
  past_end i above = get_or_past xs (i - 1) zero_ℚ (omega (arith, above))

  -- all variables from n on are candidates
  pub all_from : (n left : ℕ) → n + left ≡ suc (length xs) → CoverNonzeroFrom xs n (numbers_from n left)
  all_from n zero e = no_more_listed (λ i above. past_end i (omega (arith, above, e)))
  all_from n (suc left) e = next_listed (record {
    from = (omega arith);
    within = (omega (arith, e));
    between = λ i above below. absurd (not_between i above below);
  }) (all_from (suc n) left (omega (arith, e))) where
    not_between : (i : ℕ) → n ≤ i → i < n → ⊥
    not_between i above below = omega (arith, above, below)

  pub all_nonzero : AreNonzeroFrom xs 1 (kept (numbers_from 1 (length xs)))
  all_nonzero = kept_nonzero 1 (numbers_from 1 (length xs)) (all_from 1 (length xs) (omega arith))

-- no number of so many zeros differs from 0
pub zeros_none : (n : ℕ) → AreNonzeroFrom (replicate n zero_ℚ) 1 []
zeros_none n = no_more (λ i above. all n (i - 1)) where
  all : (n i : ℕ) → get_or (replicate n zero_ℚ) i zero_ℚ ≡ zero_ℚ
  all zero i = refl
  all (suc n) zero = refl
  all (suc n) (suc i) = all n i

-- the numbers of the variables up to one that is left are 0, and the others are as before
pub record IsCleared (before now : List ℚ) (ks : List ℕ) : Type 0 where
  pub n : ℕ
  pub from_one : 1 ≤ n
  pub left : AreNonzeroFrom before n ks
  pub done : (i : ℕ) → 1 ≤ i → i < n → value_at now i ≡ zero_ℚ
  pub kept : (i : ℕ) → n ≤ i → value_at now i ≡ value_at before i

pub begun : (xs : List ℚ) (ks : List ℕ) → AreNonzeroFrom xs 1 ks → IsCleared xs xs ks
begun xs ks h = record {
  n = 1;
  from_one = (omega arith);
  left = h;
  done = λ i low below. absurd (omega (arith, low, below));
  kept = λ i above. refl;
}

-- no variable is left
pub all_cleared : (before now : List ℚ) → IsCleared before now [] → (k : ℕ) → 1 ≤ k → value_at now k ≡ zero_ℚ
all_cleared before now h k low = by_left h.left where
  by_case : ((i : ℕ) → h.n ≤ i → value_at before i ≡ zero_ℚ) → (k < h.n) ⊎ (h.n ≤ k) → value_at now k ≡ zero_ℚ
  by_case zeros (inl below) = h.done k low below
  by_case zeros (inr reached) = h.kept k reached ∙ zeros k reached

  by_left : AreNonzeroFrom before h.n [] → value_at now k ≡ zero_ℚ
  by_left (no_more zeros) = by_case zeros (cases_lt k h.n)

-- one variable more
module _ (before now : List ℚ) (k : ℕ) (ks : List ℕ) where
  pub listed_within : IsCleared before now (k ∷ ks) → (1 ≤ k) × (k ≤ length before)
  listed_within h = by_left h.left where
    by_left : AreNonzeroFrom before h.n (k ∷ ks) → (1 ≤ k) × (k ≤ length before)
    by_left (next_nonzero g rest) = (omega (arith, h.from_one, g.from), g.within)

  pub one_cleared : length now ≡ length before → IsCleared before now (k ∷ ks) → IsCleared before (slice_set now (k - 1) zero_ℚ) ks
  one_cleared same h = by_left h.left where
    after : List ℚ
    after = slice_set now (k - 1) zero_ℚ

    by_left : AreNonzeroFrom before h.n (k ∷ ks) → IsCleared before after ks
    by_left (next_nonzero g rest) = record {
      n = suc k;
      from_one = (omega arith);
      left = rest;
      done = done;
      kept = kept;
    } where
      other : (i : ℕ) → 1 ≤ i → i ≢ k → value_at after i ≡ value_at now i
      other i low apart = get_or-set_other now (k - 1) (i - 1) zero_ℚ zero_ℚ (λ e. apart (omega (arith, low, h.from_one, g.from, e)))

      at_k : value_at after k ≡ zero_ℚ
      at_k = get_or-set_same now (k - 1) zero_ℚ zero_ℚ (omega (arith, same, h.from_one, g.from, g.within))

      by_case : (i : ℕ) → 1 ≤ i → (i ≡ k) ⊎ (i < k) → (i < h.n) ⊎ (h.n ≤ i) → value_at after i ≡ zero_ℚ
      by_case i low (inl e) c = ap (value_at after) e ∙ at_k
      by_case i low (inr below) (inl passed) = other i low (λ e. absurd (omega (arith, below, e))) ∙ h.done i low passed
      by_case i low (inr below) (inr reached) = other i low (λ e. absurd (omega (arith, below, e))) ∙ h.kept i reached ∙ g.between i reached below

      done : (i : ℕ) → 1 ≤ i → i < suc k → value_at after i ≡ zero_ℚ
      done i low below = by_case i low (eq-or-lt_of_le (omega (arith, below))) (cases_lt i h.n)

      kept : (i : ℕ) → suc k ≤ i → value_at after i ≡ value_at before i
      kept i above = other i (omega (arith, above)) (λ e. absurd (omega (arith, above, e))) ∙ h.kept i (omega (arith, above, g.from))

-- the same of the list from a place on
module _ (before now : List ℚ) (listed : List ℕ) (i : ℕ) (below : i < length listed) where
  abbrev item : ℕ
  item = slice_index_or listed i 0

  at_item : IsCleared before now (drop i listed) → IsCleared before now (item ∷ drop (i + 1) listed)
  at_item h = subst (IsCleared before now) (drop-cons listed i 0 below ∙ ap (λ j. get_or listed i 0 ∷ drop j listed) (sym (add-one i))) h

  pub item_within : IsCleared before now (drop i listed) → (1 ≤ item) × (item ≤ length before)
  item_within h = listed_within before now item (drop (i + 1) listed) (at_item h)

  pub item_cleared : (v : ℚ) → v ≡ zero_ℚ → length now ≡ length before → IsCleared before now (drop i listed) →
      IsCleared before (slice_set now (item - 1) v) (drop (i + 1) listed)
  item_cleared v is same h =
      subst (λ x. IsCleared before (slice_set now (item - 1) x) (drop (i + 1) listed)) (sym is)
      (one_cleared before now item (drop (i + 1) listed) same (at_item h))

-- the whole list is gone through
pub cleared_to_end : (before now : List ℚ) (listed : List ℕ) (i : ℕ) → length listed ≤ i → IsCleared before now (drop i listed) → (k : ℕ) → 1 ≤ k →
    value_at now k ≡ zero_ℚ
cleared_to_end before now listed i past h = all_cleared before now (subst (IsCleared before now) (drop_all i listed past) h)

-- nothing has no number
pub nothing_nonzero : (xs : List ℚ) (ks : List ℕ) → xs ≡ [] → ks ≡ [] → AreNonzeroFrom xs 1 ks
nothing_nonzero xs ks no_number no_variable =
    subst (λ ys. AreNonzeroFrom ys 1 ks) (sym no_number) (subst (AreNonzeroFrom [] 1) (sym no_variable) (zeros_none 0))

-- what is kept of all variables, with one variable more
module _ (p : ℕ → Bool) (front old : List ℕ) (n k : ℕ) (is_next : k ≡ n + 1) (so_far : old ≡ front ++ filter p (numbers_from 1 n)) where
  one_more : filter p (numbers_from 1 (n + 1)) ≡ filter p (numbers_from 1 n) ++ cond (p k) (k ∷ []) []
  one_more =
      let number : 1 + n ≡ k = omega (arith, is_next) in
      ap (λ m. filter p (numbers_from 1 m)) (add-one n) ∙ ap (filter p) (numbers_from-suc 1 n) ∙ ap (λ m. filter p (numbers_from 1 n ++ (m ∷ []))) number
      ∙ filter-append p (numbers_from 1 n) (k ∷ [])

  pub grown_then : p k ≡ true → old ++ (k ∷ []) ≡ front ++ filter p (numbers_from 1 (n + 1))
  grown_then e =
      ap (λ xs. xs ++ (k ∷ [])) so_far ∙ append_assoc front (filter p (numbers_from 1 n)) (k ∷ [])
      ∙ ap (λ b. front ++ (filter p (numbers_from 1 n) ++ cond b (k ∷ []) [])) (sym e) ∙ ap (λ xs. front ++ xs) (sym one_more)

  pub grown_else : p k ≡ false → old ≡ front ++ filter p (numbers_from 1 (n + 1))
  grown_else e =
      so_far ∙ ap (λ xs. front ++ xs) (sym (append-nil (filter p (numbers_from 1 n))))
      ∙ ap (λ b. front ++ (filter p (numbers_from 1 n) ++ cond b (k ∷ []) [])) (sym e) ∙ ap (λ xs. front ++ xs) (sym one_more)

-- each candidate is a variable
pub candidates_within : (xs : List ℚ) (n : ℕ) (ks : List ℕ) → 1 ≤ n → CoverNonzeroFrom xs n ks → (k : ℕ) (d : ℕ) → k < length ks →
    (1 ≤ slice_index_or ks k d) × (slice_index_or ks k d ≤ length xs)
candidates_within xs n [] low (no_more_listed zeros) k d below = absurd (omega (arith, below))
candidates_within xs n (j ∷ ks) low (next_listed h rest) zero d below = (omega (arith, low, h.from), h.within)
candidates_within xs n (j ∷ ks) low (next_listed h rest) (suc k) d below = candidates_within xs (suc j) ks (omega arith) rest k d (omega (arith, below))

-- what holds of two lists and one number between them
pub all_around : (P : ℕ → Type 0) (before after : List ℕ) (k : ℕ) → All P (before ++ k ∷ after) → P k × All P after
all_around P [] after k h = (h zero k (omega arith), λ i d below. h (suc i) d (omega (arith, below)))
all_around P (b ∷ bs) after k h = all_around P bs after k (λ i d below. h (suc i) d (omega (arith, below)))

pub all_one : (P : ℕ → Type 0) (k : ℕ) → P k → All P (k ∷ [])
all_one P k h zero d below = h
all_one P k h (suc i) d below = absurd (omega (arith, below))
