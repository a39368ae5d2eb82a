-- A variable more in the list of those whose numbers aren't 0.
use Rattle.std.proofs.Common.{◌≡◌, ◌≢◌, ◌∙◌, sym, ap, subst, ℕ, zero, suc, ◌+◌, ◌-◌, ◌<◌, ◌≤◌, Bool, true, false, List, [], ◌∷◌, length, get_or, slice_set}
use Rattle.std.proofs.Common.{refl, cond, arith, ltb}
use Rattle.std.specs.List.{insert, prefix_len}
use Rattle.std.specs.List.Sorted.{IsNonDecreasing}
use Rattle.std.proofs.lemmas.List.{get_or-set_other, get_or-set_same, length-set}
use Rattle.exact_values.specs.Rational.{ℚ, zero_ℚ}
use Rattle.lp_definitions.specs.LinearProgram.{value_at}
use Rattle.lp_model.specs.Sparse.{AreNonzeroFrom, no_more, next_nonzero}

-- the listed variables ascend
at_least : (xs : List ℚ) (n : ℕ) (ks : List ℕ) → AreNonzeroFrom xs n ks → (i d : ℕ) → i < length ks → n ≤ get_or ks i d
at_least xs n [] h i d below = absurd (omega (arith, below))
at_least xs n (k ∷ ks) (next_nonzero h rest) zero d below = h.from
at_least xs n (k ∷ ks) (next_nonzero h rest) (suc i) d below =
    let further = at_least xs (suc k) ks rest i d (omega (arith, below)) in omega (arith, further, h.from)

pub nonzero_ascend : (xs : List ℚ) (n : ℕ) (ks : List ℕ) → AreNonzeroFrom xs n ks → IsNonDecreasing ks
nonzero_ascend xs n [] h i j d up below = absurd (omega (arith, below))
nonzero_ascend xs n (k ∷ ks) (next_nonzero h rest) zero zero d up below = omega arith
nonzero_ascend xs n (k ∷ ks) (next_nonzero h rest) zero (suc j) d up below =
    let further = at_least xs (suc k) ks rest j d (omega (arith, below)) in omega (arith, further)
nonzero_ascend xs n (k ∷ ks) (next_nonzero h rest) (suc i) zero d up below = absurd (omega (arith, up))
nonzero_ascend xs n (k ∷ ks) (next_nonzero h rest) (suc i) (suc j) d up below =
    nonzero_ascend xs (suc k) ks rest i j d (omega (arith, up)) (omega (arith, below))

-- how many of an ascending list are less than k
abbrev pub place_of : List ℕ → ℕ → ℕ
place_of ks k = prefix_len (λ i. ltb i k) ks

insert_first : (ks : List ℕ) (k : ℕ) → insert ks 0 k ≡ k ∷ ks
insert_first [] k = refl
insert_first (x ∷ xs) k = refl

-- a number that was 0 is another one now
module _ (xs : List ℚ) (v : ℚ) (k : ℕ) (low : 1 ≤ k) (high : k ≤ length xs) (none : value_at xs k ≡ zero_ℚ) (some : v ≢ zero_ℚ) where
  abbrev after : List ℚ
  after = slice_set xs (k - 1) v

  other : (i : ℕ) → 1 ≤ i → i ≢ k → value_at after i ≡ value_at xs i
  other i from apart = get_or-set_other xs (k - 1) (i - 1) v zero_ℚ (λ e. apart (omega (arith, from, low, e)))

  here : value_at after k ≢ zero_ℚ
  here e = some (sym (get_or-set_same xs (k - 1) v zero_ℚ (omega (arith, low, high))) ∙ e)

  within : (i : ℕ) → i ≤ length xs → i ≤ length after
  within i h = subst (λ n. i ≤ n) (sym (length-set xs (k - 1) v)) h

  -- the variables past it stay
  past : (n : ℕ) (ks : List ℕ) → k < n → AreNonzeroFrom xs n ks → AreNonzeroFrom after n ks
  past n [] above (no_more zeros) = no_more (λ i from. other i (omega (arith, low, above, from)) (λ e. absurd (omega (arith, e, above, from))) ∙ zeros i from)
  past n (j ∷ ks) above (next_nonzero h rest) = next_nonzero (record {
    from = h.from;
    within = within j h.within;
    nonzero = λ e. h.nonzero (sym (other j (omega (arith, low, above, h.from)) (λ same. absurd (omega (arith, same, above, h.from)))) ∙ e);
    between = λ i from below. other i (omega (arith, low, above, from)) (λ same. absurd (omega (arith, same, above, from))) ∙ h.between i from below;
  }) (past (suc j) ks (omega (arith, above, h.from)) rest)

  -- it comes next
  comes_next : (n : ℕ) (ks : List ℕ) → 1 ≤ n → n ≤ k → ((i : ℕ) → n ≤ i → i < k → value_at xs i ≡ zero_ℚ) → AreNonzeroFrom xs (suc k) ks →
      AreNonzeroFrom after n (k ∷ ks)
  comes_next n ks positive from zeros rest = next_nonzero (record {
    from = from;
    within = within k high;
    nonzero = here;
    between = λ i since below. other i (omega (arith, positive, since)) (λ same. absurd (omega (arith, same, below))) ∙ zeros i since below;
  }) (past (suc k) ks (omega arith) rest)

  pub nonzero_inserted : (n : ℕ) (ks : List ℕ) → 1 ≤ n → n ≤ k → AreNonzeroFrom xs n ks → AreNonzeroFrom after n (insert ks (place_of ks k) k)
  nonzero_inserted n [] positive from (no_more zeros) =
      comes_next n [] positive from (λ i since below. zeros i since) (no_more (λ i since. zeros i (omega (arith, from, since))))
  nonzero_inserted n (j ∷ ks) positive from (next_nonzero h rest) =
      by_order (ltb j k) refl (λ before. nonzero_inserted (suc j) ks (omega arith) before rest)
    where
      by_order : (t : Bool) → ltb j k ≡ t → (suc j ≤ k → AreNonzeroFrom after (suc j) (insert ks (place_of ks k) k)) →
          AreNonzeroFrom after n (insert (j ∷ ks) (place_of (j ∷ ks) k) k)
      by_order true e later =
          let before : j < k = grind (arith, e) in
          let place : place_of (j ∷ ks) k ≡ suc (place_of ks k) = ap (λ b. cond b (1 + place_of ks k) 0) e ∙ omega arith in
          subst (λ p. AreNonzeroFrom after n (insert (j ∷ ks) p k)) (sym place) (next_nonzero (record {
            from = h.from;
            within = within j h.within;
            nonzero = λ zeroed. h.nonzero (sym (other j (omega (arith, positive, h.from)) (λ same. absurd (omega (arith, same, before)))) ∙ zeroed);
            between = λ i since below.
                other i (omega (arith, positive, since)) (λ same. absurd (omega (arith, same, below, before))) ∙ h.between i since below;
          }) (later (omega (arith, before))))
      by_order false e later =
          let reached : k ≤ j = grind (arith, e) in
          let apart : j ≢ k = λ same. h.nonzero (ap (value_at xs) same ∙ none) in
          let place : place_of (j ∷ ks) k ≡ 0 = ap (λ b. cond b (1 + place_of ks k) 0) e in
          subst (λ p. AreNonzeroFrom after n (insert (j ∷ ks) p k)) (sym place)
          (subst (AreNonzeroFrom after n) (sym (insert_first (j ∷ ks) k))
          (comes_next n (j ∷ ks) positive from (λ i since below. h.between i since (omega (arith, below, reached))) (next_nonzero (record {
            from = omega (arith, reached, apart);
            within = h.within;
            nonzero = h.nonzero;
            between = λ i since below. h.between i (omega (arith, from, since)) below;
          }) rest)))
