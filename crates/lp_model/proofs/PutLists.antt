-- Numbers that are put at the places of a list, and the list of those that aren't 0.
use Rattle.std.proofs.Common.{◌≡◌, ◌≢◌, ◌∙◌, sym, ap, subst, ℕ, zero, suc, ◌+◌, ◌-◌, ◌<◌, ◌≤◌, Bool, true, false, not, List, [], ◌∷◌, ◌++◌, length, take}
use Rattle.std.proofs.Common.{filter, get_or, slice_index_or, slice_set, ◌⊎◌, inl, inr, refl, cond, arith, All, ℤ, pos, to_z, of_z}
use Rattle.std.specs.Int.{w128}
use Rattle.std.specs.Prelude.{◌≤ℤ◌, unsigned_abs}
use Rattle.std.proofs.lemmas.Bool.{cases_lt, cases_eq}
use Rattle.std.proofs.lemmas.List.{get_or-set_other, get_or-set_same, length-set, append_assoc, append-nil, get_or-map, length-map, take_all, ext_get_or}
use Rattle.std.proofs.lemmas.List.Elements.{filter_more, filter-append, All-more, All-weaker, All-append, All-cons}
use Rattle.lp_model.proofs.NonzeroLists.{candidates_within}
use Rattle.std.proofs.Math.Nat.{eq-or-lt_of_le}
use Rattle.std.proofs.Math.Seq.{take-append_seam}
use Rattle.std.specs.Prelude.{Result, Ok, Err, OnOk}
use Rattle.exact_values.specs.Rational.{ℚ, zero_ℚ, fraction}
use Rattle.exact_values.specs.Tests.{eq_ℚ}
use Rattle.exact_values.proofs.TestsLaws.{test_from_same, eq_fails_from_apart}
use Rattle.lp_definitions.specs.LinearProgram.{value_at}
use Rattle.lp_model.specs.Sparse.{AreNonzeroFrom, no_more, next_nonzero, CoverNonzeroFrom, no_more_listed, next_listed, CoverPlaces, IsPartly, over}
use Rattle.frac128.specs.Terms.{Fits}
use Rattle.frac128.proofs.Parts.{read, read_fitting}
use Rattle.lp_model.proofs.RatioTerms.{positive_terms, zero_numerator, numerator_zero}

abbrev pub is_some : List ℚ → ℕ → Bool
is_some xs k = not (eq_ℚ (value_at xs k) zero_ℚ)

-- the numbers at the first n places that ks lists are those of xs, and the others are those of xs, 0, or as before
pub record IsPut (xs old now : List ℚ) (ks : List ℕ) (n : ℕ) (front kept : List ℕ) : Type 0 where
  pub places : length now ≡ length old
  pub partly : IsPartly xs now
  pub own : All (λ k. value_at now k ≡ value_at xs k) (take n ks)
  pub others : (k : ℕ) → value_at old k ≡ value_at xs k → value_at now k ≡ value_at xs k
  pub listed : kept ≡ front ++ filter (is_some xs) (take n ks)

pub none_put : (xs old : List ℚ) (ks front : List ℕ) → IsPartly xs old → IsPut xs old old ks 0 front front
none_put xs old ks front partly = record {
  places = refl;
  partly = partly;
  own = λ k d below. absurd (omega (arith, below));
  others = λ k e. e;
  listed = sym (append-nil front);
}

module _ (xs old now : List ℚ) (ks : List ℕ) (n : ℕ) (front kept : List ℕ) (h : IsPut xs old now ks n front kept) (below : n < length ks) (k : ℕ)
    (is_item : k ≡ get_or ks n 0) where
  -- the number is 0
  pub zero_put : value_at xs k ≡ zero_ℚ → IsPut xs old now ks (n + 1) front kept
  zero_put none = record {
    places = h.places;
    partly = h.partly;
    own = All-more (λ k. value_at now k ≡ value_at xs k) ks n 0 below h.own (subst (λ i. value_at now i ≡ value_at xs i) is_item (by_case (h.partly k)));
    others = h.others;
    listed =
        h.listed ∙ ap (λ ls. front ++ ls) (sym (append-nil (filter (is_some xs) (take n ks))))
        ∙ ap (λ b. front ++ (filter (is_some xs) (take n ks) ++ cond b (get_or ks n 0 ∷ []) [])) (sym fails)
        ∙ ap (λ ls. front ++ ls) (sym (filter_more (is_some xs) ks n 0 below));
  } where
    by_case : (value_at now k ≡ value_at xs k) ⊎ (value_at now k ≡ zero_ℚ) → value_at now k ≡ value_at xs k
    by_case (inl same) = same
    by_case (inr nothing) = nothing ∙ sym none

    fails : is_some xs (get_or ks n 0) ≡ false
    fails = ap (is_some xs) (sym is_item) ∙ ap not (test_from_same (value_at xs k) zero_ℚ none)

  -- the number is put in
  pub one_put : (v : ℚ) → v ≡ value_at xs k → value_at xs k ≢ zero_ℚ → k - 1 < length old →
      IsPut xs old (slice_set now (k - 1) v) ks (n + 1) front (kept ++ k ∷ [])
  one_put v is some within = record {
    places = length-set now (k - 1) v ∙ h.places;
    partly = λ i. partly i (after_is i);
    own = All-more (λ k. value_at after k ≡ value_at xs k) ks n 0 below
        (All-weaker (λ k. value_at now k ≡ value_at xs k) (λ k. value_at after k ≡ value_at xs k) (λ i e. kept_right i e (after_is i)) (take n ks) h.own)
        (subst (λ i. value_at after i ≡ value_at xs i) is_item at_k);
    others = λ i e. kept_right i (h.others i e) (after_is i);
    listed =
        ap (λ ls. ls ++ k ∷ []) h.listed ∙ append_assoc front (filter (is_some xs) (take n ks)) (k ∷ [])
        ∙ ap (λ j. front ++ (filter (is_some xs) (take n ks) ++ j ∷ [])) is_item
        ∙ ap (λ b. front ++ (filter (is_some xs) (take n ks) ++ cond b (get_or ks n 0 ∷ []) [])) (sym passes)
        ∙ ap (λ ls. front ++ ls) (sym (filter_more (is_some xs) ks n 0 below));
  } where
    after : List ℚ
    after = slice_set now (k - 1) v

    at_k : value_at after k ≡ value_at xs k
    at_k = get_or-set_same now (k - 1) v zero_ℚ (omega (arith, within, h.places)) ∙ is

    by_place : (i : ℕ) → (i - 1 ≡ k - 1) ⊎ (i - 1 ≢ k - 1) → (value_at after i ≡ value_at xs i) ⊎ (value_at after i ≡ value_at now i)
    by_place i (inl same) = inl (ap (λ j. get_or after j zero_ℚ) same ∙ at_k ∙ ap (λ j. get_or xs j zero_ℚ) (sym same))
    by_place i (inr other) = inr (get_or-set_other now (k - 1) (i - 1) v zero_ℚ other)

    after_is : (i : ℕ) → (value_at after i ≡ value_at xs i) ⊎ (value_at after i ≡ value_at now i)
    after_is i = by_place i (cases_eq (i - 1) (k - 1))

    as_before : (i : ℕ) → value_at after i ≡ value_at now i → (value_at now i ≡ value_at xs i) ⊎ (value_at now i ≡ zero_ℚ) →
        (value_at after i ≡ value_at xs i) ⊎ (value_at after i ≡ zero_ℚ)
    as_before i e (inl same) = inl (e ∙ same)
    as_before i e (inr nothing) = inr (e ∙ nothing)

    partly : (i : ℕ) → (value_at after i ≡ value_at xs i) ⊎ (value_at after i ≡ value_at now i) →
        (value_at after i ≡ value_at xs i) ⊎ (value_at after i ≡ zero_ℚ)
    partly i (inl same) = inl same
    partly i (inr e) = as_before i e (h.partly i)

    kept_right : (i : ℕ) → value_at now i ≡ value_at xs i → (value_at after i ≡ value_at xs i) ⊎ (value_at after i ≡ value_at now i) →
        value_at after i ≡ value_at xs i
    kept_right i right (inl same) = same
    kept_right i right (inr e) = e ∙ right

    passes : is_some xs (get_or ks n 0) ≡ true
    passes = ap (is_some xs) (sym is_item) ∙ ap not (eq_fails_from_apart (value_at xs k) zero_ℚ some)

-- ---- numbers over a denominator

module _ (d : ℤ) (ns : List ℤ) (some : pos 1 ≤ℤ d) (k : ℕ) (low : 1 ≤ k) (high : k ≤ length ns) where
  over_at : fraction (slice_index_or ns (k - 1) (pos 0)) (unsigned_abs d) ≡ value_at (over d ns) k
  over_at = sym (get_or-map (λ n. fraction n (unsigned_abs d)) ns (k - 1) (pos 0) zero_ℚ (omega (arith, low, high)))

  over_zero : slice_index_or ns (k - 1) (pos 0) ≡ pos 0 → value_at (over d ns) k ≡ zero_ℚ
  over_zero e = sym over_at ∙ zero_numerator (slice_index_or ns (k - 1) (pos 0)) (unsigned_abs d) (positive_terms d some) e

  over_apart : slice_index_or ns (k - 1) (pos 0) ≢ pos 0 → value_at (over d ns) k ≢ zero_ℚ
  over_apart apart e = apart (numerator_zero (slice_index_or ns (k - 1) (pos 0)) (unsigned_abs d) (positive_terms d some) (over_at ∙ e))

module _ (d : ℤ) (ns : List ℤ) (some : pos 1 ≤ℤ d) (old now : List ℚ) (ks : List ℕ) (i : ℕ) (front kept : List ℕ)
    (h : IsPut (over d ns) old now ks i front kept) (below : i < length ks) (places : length old ≡ length ns) (fit : All Fits ns)
    (each : All (λ k. (1 ≤ k) × (k ≤ length ns)) ks) where
  abbrev candidate : ℕ
  candidate = slice_index_or ks i 0

  abbrev number : ℤ
  number = slice_index_or ns (candidate - 1) (pos 0)

  within : (1 ≤ candidate) × (candidate ≤ length ns)
  within = each i 0 below

  number_read : read number ≡ number
  number_read = read_fitting number (fit (candidate - 1) (pos 0) (omega (arith, within.0, within.1)))

  -- the next candidate's number is 0
  pub next_zero : of_z w128 number ≡ 0 → IsPut (over d ns) old now ks (i + 1) front kept
  next_zero none =
      zero_put (over d ns) old now ks i front kept h below candidate refl
      (over_zero d ns some candidate within.0 within.1 (sym number_read ∙ ap (to_z w128) none))

  -- the next candidate's number is put in
  pub next_put : (v : ℚ) → v ≡ fraction (read number) (unsigned_abs d) → (of_z w128 number ≡ 0 → ⊥) →
      IsPut (over d ns) old (slice_set now (candidate - 1) v) ks (i + 1) front (kept ++ candidate ∷ [])
  next_put v is apart =
      one_put (over d ns) old now ks i front kept h below candidate refl v
      (is ∙ ap (λ n. fraction n (unsigned_abs d)) number_read ∙ over_at d ns some candidate within.0 within.1)
      (over_apart d ns some candidate within.0 within.1 (λ e. apart (ap (of_z w128) e))) (omega (arith, within.0, within.1, places))

-- the whole list is gone through
pub all_own : (xs old now : List ℚ) (ks : List ℕ) (n : ℕ) (front kept : List ℕ) → IsPut xs old now ks n front kept → length ks ≤ n →
    All (λ k. value_at now k ≡ value_at xs k) ks × (kept ≡ front ++ filter (is_some xs) ks)
all_own xs old now ks n front kept h past =
    let whole : take n ks ≡ ks = take_all n ks past in
    (subst (All (λ k. value_at now k ≡ value_at xs k)) whole h.own, h.listed ∙ ap (λ ls. front ++ filter (is_some xs) ls) whole)

-- ---- all numbers

-- no candidate is left out, and each candidate has its number
all_right : (xs now : List ℚ) (n : ℕ) (ks : List ℕ) → CoverNonzeroFrom xs n ks → All (λ k. value_at now k ≡ value_at xs k) ks → IsPartly xs now →
    (i : ℕ) → n ≤ i → value_at now i ≡ value_at xs i
all_right xs now n [] (no_more_listed zeros) own partly i above = by_case (partly i)
  where
    by_case : (value_at now i ≡ value_at xs i) ⊎ (value_at now i ≡ zero_ℚ) → value_at now i ≡ value_at xs i
    by_case (inl same) = same
    by_case (inr nothing) = nothing ∙ sym (zeros i above)
all_right xs now n (k ∷ ks) (next_listed h rest) own partly i above =
    by_place (cases_lt i k) (all_right xs now (suc k) ks rest (λ j d below. own (suc j) d (omega (arith, below))) partly i)
  where
    by_case : i < k → (value_at now i ≡ value_at xs i) ⊎ (value_at now i ≡ zero_ℚ) → value_at now i ≡ value_at xs i
    by_case below (inl same) = same
    by_case below (inr nothing) = nothing ∙ sym (h.between i above below)

    by_order : (k ≡ i) ⊎ (k < i) → (suc k ≤ i → value_at now i ≡ value_at xs i) → value_at now i ≡ value_at xs i
    by_order (inl e) later = subst (λ j. value_at now j ≡ value_at xs j) e (own zero k (omega arith))
    by_order (inr below) later = later (omega (arith, below))

    by_place : (i < k) ⊎ (k ≤ i) → (suc k ≤ i → value_at now i ≡ value_at xs i) → value_at now i ≡ value_at xs i
    by_place (inl below) later = by_case below (partly i)
    by_place (inr reached) later = by_order (eq-or-lt_of_le reached) later

pub all_put : (xs now : List ℚ) (ks : List ℕ) → length now ≡ length xs → CoverNonzeroFrom xs 1 ks → All (λ k. value_at now k ≡ value_at xs k) ks →
    IsPartly xs now → now ≡ xs
all_put xs now ks places cover own partly =
    ext_get_or zero_ℚ now xs places (λ i below. at_place i (all_right xs now 1 ks cover own partly (i + 1) (omega arith)))
  where
    at_place : (i : ℕ) → value_at now (i + 1) ≡ value_at xs (i + 1) → get_or now i zero_ℚ ≡ get_or xs i zero_ℚ
    at_place i e =
        let place : i + 1 - 1 ≡ i = omega arith in
        ap (λ j. get_or now j zero_ℚ) (sym place) ∙ e ∙ ap (λ j. get_or xs j zero_ℚ) place

-- zeros are part of any numbers
pub zeros_partly : (xs old : List ℚ) → ((n : ℕ) → 1 ≤ n → value_at old n ≡ zero_ℚ) → IsPartly xs old
zeros_partly xs old zeros zero = inr (zeros 1 (omega arith))
zeros_partly xs old zeros (suc k) = inr (zeros (suc k) (omega arith))

-- nothing has no number that isn't 0
pub none_of_nothing : (ks : List ℕ) → AreNonzeroFrom [] 1 ks → ks ≡ []
none_of_nothing [] h = refl
none_of_nothing (k ∷ ks) (next_nonzero g rest) = absurd (omega (arith, g.from, g.within))

-- ---- two lists and a number between them

pub each_within : (d : ℤ) (ns : List ℤ) (ks : List ℕ) → CoverNonzeroFrom (over d ns) 1 ks → All (λ k. (1 ≤ k) × (k ≤ length ns)) ks
each_within d ns ks cover i e below =
    let within = candidates_within (over d ns) 1 ks (omega arith) cover i e below in
    let long : length (over d ns) ≡ length ns = length-map ns (λ n. fraction n (unsigned_abs d)) in
    (within.0, subst (λ n. slice_index_or ks i e ≤ n) long within.1)

pub all_before : (P : ℕ → Type 0) (before rest : List ℕ) → All P (before ++ rest) → All P before
all_before P [] rest h i d below = absurd (omega (arith, below))
all_before P (b ∷ bs) rest h zero d below = h zero d (omega arith)
all_before P (b ∷ bs) rest h (suc i) d below = all_before P bs rest (λ j e under. h (suc j) e (omega (arith, under))) i d (omega (arith, below))

-- what holds where a call succeeds
pub on_ok : {A E : Type 0} (r : Result A E) {P Q : Type 0} → (P → Q) → OnOk r P → OnOk r Q
on_ok (Ok a) step h = step h
on_ok (Err e) step h = tt

pub joined_lists : (p : ℕ → Bool) (front before after first second third : List ℕ) (k : ℕ) → first ≡ front ++ filter p before →
    second ≡ first ++ filter p (k ∷ []) → third ≡ second ++ filter p after → third ≡ front ++ filter p (before ++ k ∷ after)
joined_lists p front before after first second third k is_first is_second is_third =
    is_third ∙ ap (λ ls. ls ++ filter p after) (is_second ∙ ap (λ ls. ls ++ filter p (k ∷ [])) is_first)
    ∙ append_assoc (front ++ filter p before) (filter p (k ∷ [])) (filter p after)
    ∙ append_assoc front (filter p before) (filter p (k ∷ []) ++ filter p after)
    ∙ ap (λ ls. front ++ (filter p before ++ ls)) (sym (filter-append p (k ∷ []) after))
    ∙ ap (λ ls. front ++ ls) (sym (filter-append p before (k ∷ after)))

-- what stays right holds at all three
pub all_three : (xs first second third : List ℚ) (before after : List ℕ) (k : ℕ) → All (λ k. value_at first k ≡ value_at xs k) before →
    All (λ k. value_at second k ≡ value_at xs k) (k ∷ []) → All (λ k. value_at third k ≡ value_at xs k) after →
    ((k : ℕ) → value_at first k ≡ value_at xs k → value_at second k ≡ value_at xs k) →
    ((k : ℕ) → value_at second k ≡ value_at xs k → value_at third k ≡ value_at xs k) → All (λ k. value_at third k ≡ value_at xs k) (before ++ k ∷ after)
all_three xs first second third before after k all one rest stays remains =
    All-append (λ k. value_at third k ≡ value_at xs k) before (k ∷ after)
    (All-weaker (λ k. value_at first k ≡ value_at xs k) (λ k. value_at third k ≡ value_at xs k) (λ i e. remains i (stays i e)) before all)
    (All-cons (λ k. value_at third k ≡ value_at xs k) k after (remains k (one zero k (omega arith))) rest)

-- a vector whose places were all written
pub front_taken : (xs rest : List ℚ) (n : ℕ) → n ≡ length xs → take n (xs ++ rest) ≡ xs
front_taken xs rest n e = ap (λ m. take m (xs ++ rest)) e ∙ take-append_seam xs rest

-- ---- numbers that are put at places in any order

-- the numbers at the first i places of ps are right, the others are right or 0, and the variables whose numbers aren't 0 are listed
pub record IsPutSoFar (d : ℤ) (ns : List ℤ) (ps : List ℕ) (i : ℕ) (now : List ℚ) (listed : List ℕ) : Type 0 where
  pub lengths : length now ≡ length ns
  pub partly : IsPartly (over d ns) now
  pub done : (n : ℕ) → n < i → value_at now (slice_index_or ps n 0 + 1) ≡ value_at (over d ns) (slice_index_or ps n 0 + 1)
  pub nonzero : AreNonzeroFrom now 1 listed

pub no_place_put : (d : ℤ) (ns : List ℤ) (ps : List ℕ) (old : List ℚ) (listed : List ℕ) → length old ≡ length ns →
    ((n : ℕ) → 1 ≤ n → value_at old n ≡ zero_ℚ) → listed ≡ [] → IsPutSoFar d ns ps 0 old listed
no_place_put d ns ps old listed lengths zeros none = record {
  lengths = lengths;
  partly = zeros_partly (over d ns) old zeros;
  done = λ n below. absurd (omega (arith, below));
  nonzero = subst (AreNonzeroFrom old 1) (sym none) (no_more (λ i above. zeros i above));
}

one_place_more : (P : ℕ → Type 0) (i : ℕ) → ((n : ℕ) → n < i → P n) → P i → (n : ℕ) → n < i + 1 → P n
one_place_more P i before at n below = by_case (eq-or-lt_of_le (omega (arith, below)))
  where
    by_case : (n ≡ i) ⊎ (n < i) → P n
    by_case (inl same) = subst P (sym same) at
    by_case (inr under) = before n under

module _ (d : ℤ) (ns : List ℤ) (some : pos 1 ≤ℤ d) (ps : List ℕ) (i : ℕ) (now : List ℚ) (listed : List ℕ) (h : IsPutSoFar d ns ps i now listed)
    (within : slice_index_or ps i 0 < length ns) (fit : All Fits ns) where
  abbrev item : ℕ
  item = slice_index_or ps i 0 + 1

  abbrev item_number : ℤ
  item_number = slice_index_or ns (slice_index_or ps i 0) (pos 0)

  place_is : item - 1 ≡ slice_index_or ps i 0
  place_is = omega arith

  item_read : read item_number ≡ item_number
  item_read = read_fitting item_number (fit (slice_index_or ps i 0) (pos 0) within)

  at_item : fraction item_number (unsigned_abs d) ≡ value_at (over d ns) item
  at_item =
      ap (λ j. fraction (slice_index_or ns j (pos 0)) (unsigned_abs d)) (sym place_is) ∙ over_at d ns some item (omega arith) (omega (arith, within))

  zero_there : of_z w128 item_number ≡ 0 → value_at (over d ns) item ≡ zero_ℚ
  zero_there none =
      over_zero d ns some item (omega arith) (omega (arith, within))
      (ap (λ j. slice_index_or ns j (pos 0)) place_is ∙ sym item_read ∙ ap (to_z w128) none)

  -- the place's number is 0
  pub place_zero : of_z w128 item_number ≡ 0 → IsPutSoFar d ns ps (i + 1) now listed
  place_zero none = record {
    lengths = h.lengths;
    partly = h.partly;
    done = one_place_more (λ n. value_at now (slice_index_or ps n 0 + 1) ≡ value_at (over d ns) (slice_index_or ps n 0 + 1)) i h.done (by_case (h.partly item));
    nonzero = h.nonzero;
  } where
    by_case : (value_at now item ≡ value_at (over d ns) item) ⊎ (value_at now item ≡ zero_ℚ) → value_at now item ≡ value_at (over d ns) item
    by_case (inl same) = same
    by_case (inr nothing) = nothing ∙ sym (zero_there none)

  -- the place was there before
  pub place_again : (value_at now item ≡ zero_ℚ → ⊥) → IsPutSoFar d ns ps (i + 1) now listed
  place_again apart = record {
    lengths = h.lengths;
    partly = h.partly;
    done = one_place_more (λ n. value_at now (slice_index_or ps n 0 + 1) ≡ value_at (over d ns) (slice_index_or ps n 0 + 1)) i h.done (by_case (h.partly item));
    nonzero = h.nonzero;
  } where
    by_case : (value_at now item ≡ value_at (over d ns) item) ⊎ (value_at now item ≡ zero_ℚ) → value_at now item ≡ value_at (over d ns) item
    by_case (inl same) = same
    by_case (inr nothing) = absurd (apart nothing)

  -- the number that is put there isn't 0
  pub put_apart : (v : ℚ) → v ≡ fraction (read item_number) (unsigned_abs d) → (of_z w128 item_number ≡ 0 → ⊥) → v ≢ zero_ℚ
  put_apart v is apart e =
      apart (ap (of_z w128) (numerator_zero item_number (unsigned_abs d) (positive_terms d some)
      (sym (is ∙ ap (λ n. fraction n (unsigned_abs d)) item_read) ∙ e)))

  -- it is put there
  pub place_put : (v : ℚ) → v ≡ fraction (read item_number) (unsigned_abs d) → (longer : List ℕ) →
      AreNonzeroFrom (slice_set now (item - 1) v) 1 longer → IsPutSoFar d ns ps (i + 1) (slice_set now (item - 1) v) longer
  place_put v is longer nonzero = record {
    lengths = length-set now (item - 1) v ∙ h.lengths;
    partly = λ k. partly k (after_is k);
    done = one_place_more (λ n. value_at after (slice_index_or ps n 0 + 1) ≡ value_at (over d ns) (slice_index_or ps n 0 + 1)) i
        (λ n below. right (slice_index_or ps n 0 + 1) (h.done n below) (after_is (slice_index_or ps n 0 + 1))) at;
    nonzero = nonzero;
  } where
    after : List ℚ
    after = slice_set now (item - 1) v

    at : value_at after item ≡ value_at (over d ns) item
    at = get_or-set_same now (item - 1) v zero_ℚ (omega (arith, within, h.lengths)) ∙ is ∙ ap (λ n. fraction n (unsigned_abs d)) item_read ∙ at_item

    by_place : (k : ℕ) → (k - 1 ≡ item - 1) ⊎ (k - 1 ≢ item - 1) → (value_at after k ≡ value_at (over d ns) k) ⊎ (value_at after k ≡ value_at now k)
    by_place k (inl same) = inl (ap (λ j. get_or after j zero_ℚ) same ∙ at ∙ ap (λ j. get_or (over d ns) j zero_ℚ) (sym same))
    by_place k (inr other) = inr (get_or-set_other now (item - 1) (k - 1) v zero_ℚ other)

    after_is : (k : ℕ) → (value_at after k ≡ value_at (over d ns) k) ⊎ (value_at after k ≡ value_at now k)
    after_is k = by_place k (cases_eq (k - 1) (item - 1))

    as_before : (k : ℕ) → value_at after k ≡ value_at now k → (value_at now k ≡ value_at (over d ns) k) ⊎ (value_at now k ≡ zero_ℚ) →
        (value_at after k ≡ value_at (over d ns) k) ⊎ (value_at after k ≡ zero_ℚ)
    as_before k e (inl same) = inl (e ∙ same)
    as_before k e (inr nothing) = inr (e ∙ nothing)

    partly : (k : ℕ) → (value_at after k ≡ value_at (over d ns) k) ⊎ (value_at after k ≡ value_at now k) →
        (value_at after k ≡ value_at (over d ns) k) ⊎ (value_at after k ≡ zero_ℚ)
    partly k (inl same) = inl same
    partly k (inr e) = as_before k e (h.partly k)

    right : (k : ℕ) → value_at now k ≡ value_at (over d ns) k → (value_at after k ≡ value_at (over d ns) k) ⊎ (value_at after k ≡ value_at now k) →
        value_at after k ≡ value_at (over d ns) k
    right k same (inl now_right) = now_right
    right k same (inr e) = e ∙ same

-- a number in a list
record IsListedAt (ps : List ℕ) (n : ℕ) : Type 0 where
  place : ℕ
  below : place < length ps
  here : get_or ps place 0 ≡ n

listed_or_not : (ps : List ℕ) (n : ℕ) → IsListedAt ps n ⊎ ((i : ℕ) → i < length ps → slice_index_or ps i 0 ≢ n)
listed_or_not [] n = inr (λ i below. absurd (omega (arith, below)))
listed_or_not (p ∷ ps) n = by_case (cases_eq p n) (listed_or_not ps n)
  where
    neither : p ≢ n → ((i : ℕ) → i < length ps → get_or ps i 0 ≢ n) → (i : ℕ) → i < length (p ∷ ps) → get_or (p ∷ ps) i 0 ≢ n
    neither first rest zero below = first
    neither first rest (suc i) below = rest i (omega (arith, below))

    later : p ≢ n → IsListedAt ps n ⊎ ((i : ℕ) → i < length ps → slice_index_or ps i 0 ≢ n) →
        IsListedAt (p ∷ ps) n ⊎ ((i : ℕ) → i < length (p ∷ ps) → slice_index_or (p ∷ ps) i 0 ≢ n)
    later first (inl it) = inl (record { place = suc it.place; below = (omega (arith, it.below)); here = it.here })
    later first (inr rest) = inr (neither first rest)

    by_case : (p ≡ n) ⊎ (p ≢ n) → IsListedAt ps n ⊎ ((i : ℕ) → i < length ps → slice_index_or ps i 0 ≢ n) →
        IsListedAt (p ∷ ps) n ⊎ ((i : ℕ) → i < length (p ∷ ps) → slice_index_or (p ∷ ps) i 0 ≢ n)
    by_case (inl same) rest = inl (record { place = 0; below = (omega arith); here = same })
    by_case (inr first) rest = later first rest

-- all places are gone through
pub all_places_put : (d : ℤ) (ns : List ℤ) → pos 1 ≤ℤ d → (ps : List ℕ) (i : ℕ) (now : List ℚ) (listed : List ℕ) → CoverPlaces ns ps →
    length ps ≤ i → IsPutSoFar d ns ps i now listed → now ≡ over d ns
all_places_put d ns some ps i now listed cover past h =
    ext_get_or zero_ℚ now (over d ns) (h.lengths ∙ sym (length-map ns (λ n. fraction n (unsigned_abs d))))
    (λ n below. at n (omega (arith, below, h.lengths)) (listed_or_not ps n))
  where
    place_of : (n : ℕ) → n + 1 - 1 ≡ n
    place_of n = omega arith

    as_place : (n : ℕ) → value_at now (n + 1) ≡ value_at (over d ns) (n + 1) → get_or now n zero_ℚ ≡ get_or (over d ns) n zero_ℚ
    as_place n e = ap (λ j. get_or now j zero_ℚ) (sym (place_of n)) ∙ e ∙ ap (λ j. get_or (over d ns) j zero_ℚ) (place_of n)

    zero_or_same : (n : ℕ) → value_at (over d ns) (n + 1) ≡ zero_ℚ →
        (value_at now (n + 1) ≡ value_at (over d ns) (n + 1)) ⊎ (value_at now (n + 1) ≡ zero_ℚ) → value_at now (n + 1) ≡ value_at (over d ns) (n + 1)
    zero_or_same n none (inl same) = same
    zero_or_same n none (inr nothing) = nothing ∙ sym none

    at : (n : ℕ) → n < length ns → IsListedAt ps n ⊎ ((i : ℕ) → i < length ps → slice_index_or ps i 0 ≢ n) → get_or now n zero_ℚ ≡ get_or (over d ns) n zero_ℚ
    at n below (inl it) =
        as_place n (subst (λ p. value_at now (p + 1) ≡ value_at (over d ns) (p + 1)) it.here (h.done it.place (omega (arith, past, it.below))))
    at n below (inr missing) =
        as_place n (zero_or_same n (over_zero d ns some (n + 1) (omega arith) (omega (arith, below))
        (ap (λ j. slice_index_or ns j (pos 0)) (place_of n) ∙ cover.none_missing n missing)) (h.partly (n + 1)))
