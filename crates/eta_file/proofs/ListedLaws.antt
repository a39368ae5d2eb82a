-- A variable more or less in the list of a set.
use Rattle.std.proofs.Common.{◌≡◌, ◌≢◌, ℕ, zero, suc, ◌+◌, ◌-◌, ◌<◌, ◌≤◌, List, [], ◌∷◌, ◌++◌, length, take, drop, get_or, set, filter, refl, sym, ◌∙◌, ap, ap₂}
use Rattle.std.proofs.Common.{subst, true, false, cond, arith, All, Bool, ltb, map, not}
use Rattle.std.specs.Prelude.{nat_eq, ◌&&◌}
use Rattle.std.specs.List.{insert, remove}
use Rattle.std.specs.List.Sorted.{IsNonDecreasing}
use Rattle.std.proofs.lemmas.List.Kept.{IsNonDecreasingBy-filter}
use Rattle.std.proofs.lemmas.List.{get_or-set_same, get_or-set_other, get_or_past, length-set, append-nil}
use Rattle.std.proofs.lemmas.List.Elements.{filter-append, All-filter}
use native.Mathlib.Decide.{ℕ_discrete}
use Rattle.exact_values.specs.Rational.{ℚ, zero_ℚ}
use Rattle.lp_definitions.specs.LinearProgram.{Matrix, size, numbers_from, value_at}
use Rattle.lp_definitions.specs.Basis.{Basics, is_in, IsNonbasic, IsDirectionOf, exchanged}
use Rattle.lp_model.specs.Sparse.{AreNonzeroFrom, no_more, next_nonzero, AreNonzero, CoverNonzeroFrom, no_more_listed, next_listed, CoverNonzero}
use Rattle.exact_values.proofs.TestsLaws.{test_from_same, eq_fails_from_apart}
use Rattle.eta_file.specs.declared.eta.EtaEntry.{EtaEntry}
use Rattle.eta_file.specs.Prefixes.{is_entry, entry_of, entries_to}
use Rattle.lp_laws.proofs.Values.{clash}
use Rattle.lp_laws.proofs.Opening.{numbers_from-append}
use Rattle.eta_file.proofs.RateEntries.{mark_next, has_number, filter_both}
use Rattle.eta_file.specs.Listed.{listed_of, place_in}

-- one place more
pub listed_more : (b : Basics) (n : ℕ) (mark : Bool) → get_or b n false ≡ mark →
    filter (is_in b) (numbers_from 1 (n + 1)) ≡ filter (is_in b) (numbers_from 1 n) ++ cond mark ((n + 1) ∷ []) []
listed_more b n mark is =
    ap (filter (is_in b)) (numbers_from-append 1 n 1 ∙ ap (λ k. numbers_from 1 n ++ (k ∷ [])) (omega arith))
    ∙ filter-append (is_in b) (numbers_from 1 n) ((n + 1) ∷ [])
    ∙ ap (λ m. filter (is_in b) (numbers_from 1 n) ++ cond m ((n + 1) ∷ []) []) (sym (mark_next b n) ∙ is)

pub listed_then : (b : Basics) (n : ℕ) (so_far : List ℕ) → get_or b n false ≡ true → so_far ≡ filter (is_in b) (numbers_from 1 n) →
    so_far ++ ((n + 1) ∷ []) ≡ filter (is_in b) (numbers_from 1 (n + 1))
listed_then b n so_far is e = ap (λ ks. ks ++ ((n + 1) ∷ [])) e ∙ sym (listed_more b n true is)

pub listed_else : (b : Basics) (n : ℕ) (so_far : List ℕ) → get_or b n false ≡ false → so_far ≡ filter (is_in b) (numbers_from 1 n) →
    so_far ≡ filter (is_in b) (numbers_from 1 (n + 1))
listed_else b n so_far is e = e ∙ sym (listed_more b n false is ∙ append-nil (filter (is_in b) (numbers_from 1 n)))

number_at : (f n i d : ℕ) → i < length (numbers_from f n) → (f ≤ get_or (numbers_from f n) i d) × (get_or (numbers_from f n) i d < f + n)
number_at f zero i d below = absurd (omega arith)
number_at f (suc n) zero d below = (omega arith, omega arith)
number_at f (suc n) (suc i) d below = let rest = number_at (suc f) n i d (omega arith) in (omega (arith, rest.0), omega (arith, rest.1))

numbers_within : (n : ℕ) → All (λ (k : ℕ). (1 ≤ k) × (k ≤ n)) (numbers_from 1 n)
numbers_within n i d below = let is = number_at 1 n i d below in (is.0, omega (arith, is.1))

-- each of the list is a variable
pub listed_within : (b : Basics) → All (λ (k : ℕ). (1 ≤ k) × (k ≤ length b)) (listed_of b)
listed_within b = All-filter (is_in b) (λ (k : ℕ). (1 ≤ k) × (k ≤ length b)) (numbers_from 1 (length b)) (numbers_within (length b))

number_is : (f n i d : ℕ) → i < length (numbers_from f n) → get_or (numbers_from f n) i d ≡ f + i
number_is f zero i d below = absurd (omega arith)
number_is f (suc n) zero d below = omega arith
number_is f (suc n) (suc i) d below = number_is (suc f) n i d (omega arith) ∙ omega arith

passing_ascend : (p : ℕ → Bool) (n : ℕ) → IsNonDecreasing (filter p (numbers_from 1 n))
passing_ascend p n = IsNonDecreasingBy-filter (λ k. k) p (numbers_from 1 n) (λ i j d up below.
    let first = number_is 1 n i d (omega (arith, up, below)) in
    let second = number_is 1 n j d below in
    omega (arith, up, first, second))

pub listed_ascend : (b : Basics) → IsNonDecreasing (listed_of b)
listed_ascend b = passing_ascend (is_in b) (length b)

none_less : (q : ℕ → Bool) (t f n : ℕ) → t < f → place_in (filter q (numbers_from f n)) t ≡ 0
none_less q t f zero past = refl
none_less q t f (suc n) past = at (q f) (none_less q t (suc f) n (omega arith))
  where
    rest : List ℕ
    rest = filter q (numbers_from (suc f) n)

    at : (keeps : Bool) → place_in rest t ≡ 0 → place_in (cond keeps (f ∷ rest) rest) t ≡ 0
    at true h = let no : ltb f t ≡ false = grind arith in ap (λ b. cond b (1 + place_in rest t) 0) no
    at false h = h

insert_first : (ks : List ℕ) (k : ℕ) → insert ks 0 k ≡ k ∷ ks
insert_first [] k = refl
insert_first (x ∷ xs) k = refl

remove_first : (k : ℕ) (ks : List ℕ) → remove (k ∷ ks) 0 ≡ ks
remove_first k [] = refl
remove_first k (x ∷ xs) = refl

module _ (less more : ℕ → Bool) (t : ℕ) (agree : (k : ℕ) → 1 ≤ k → k ≢ t → more k ≡ less k) (out : less t ≡ false) (in_it : more t ≡ true) where
  abbrev few : ℕ → ℕ → List ℕ
  few f n = filter less (numbers_from f n)

  abbrev all : ℕ → ℕ → List ℕ
  all f n = filter more (numbers_from f n)

  same_past : (f n : ℕ) → t < f → all f n ≡ few f n
  same_past f zero past = refl
  same_past f (suc n) past = ap₂ (λ b rest. cond b (f ∷ rest) rest) (agree f (omega arith) (omega arith)) (same_past (suc f) n (omega arith))

  -- the list that begins with it
  all_here : (f n : ℕ) → f ≡ t → all f (suc n) ≡ t ∷ few (suc f) n
  all_here f n same =
      ap (λ b. cond b (f ∷ all (suc f) n) (all (suc f) n)) (ap more same ∙ in_it) ∙ ap₂ (λ k rest. k ∷ rest) same (same_past (suc f) n (omega arith))

  few_here : (f n : ℕ) → f ≡ t → few f (suc n) ≡ few (suc f) n
  few_here f n same = ap (λ b. cond b (f ∷ few (suc f) n) (few (suc f) n)) (ap less same ∙ out)

  place_here : (f n : ℕ) → f ≡ t → place_in (t ∷ few (suc f) n) t ≡ 0
  place_here f n same = let no : ltb t t ≡ false = grind arith in ap (λ b. cond b (1 + place_in (few (suc f) n) t) 0) no

  place_past : (f : ℕ) (rest : List ℕ) → f < t → place_in (f ∷ rest) t ≡ suc (place_in rest t)
  place_past f rest before = let yes : ltb f t ≡ true = grind arith in ap (λ b. cond b (1 + place_in rest t) 0) yes ∙ omega arith

  inserted : (f n : ℕ) → 1 ≤ f → f ≤ t → t < f + n → insert (few f n) (place_in (few f n) t) t ≡ all f n
  inserted f zero low from within = absurd (omega arith)
  inserted f (suc n) low from within = split (ℕ_discrete f t) (λ before. inserted (suc f) n (omega arith) before (omega arith))
    where
      at : (keeps : Bool) → less f ≡ keeps → f < t → insert (few (suc f) n) (place_in (few (suc f) n) t) t ≡ all (suc f) n
          → insert (cond keeps (f ∷ few (suc f) n) (few (suc f) n)) (place_in (cond keeps (f ∷ few (suc f) n) (few (suc f) n)) t) t ≡ cond keeps
          (f ∷ all (suc f) n) (all (suc f) n)
      at true is before h = ap (λ i. insert (f ∷ few (suc f) n) i t) (place_past f (few (suc f) n) before) ∙ ap (λ rest. f ∷ rest) h
      at false is before h = h

      split : Dec (f ≡ t) → (f < t → insert (few (suc f) n) (place_in (few (suc f) n) t) t ≡ all (suc f) n) →
          insert (few f (suc n)) (place_in (few f (suc n)) t) t ≡ all f (suc n)
      split (yes same) rest =
          ap (λ ks. insert ks (place_in ks t) t) (few_here f n same)
          ∙ ap (λ i. insert (few (suc f) n) i t) (none_less less t (suc f) n (omega arith)) ∙ insert_first (few (suc f) n) t ∙ sym (all_here f n same)
      split (no apart) rest =
          at (less f) refl (omega (arith, apart)) (rest (omega (arith, apart)))
          ∙ ap (λ b. cond b (f ∷ all (suc f) n) (all (suc f) n)) (sym (agree f low apart))

  place_within : (f n : ℕ) → 1 ≤ f → f ≤ t → t < f + n → place_in (all f n) t < length (all f n)
  place_within f zero low from within = absurd (omega arith)
  place_within f (suc n) low from within = split (ℕ_discrete f t) (λ before. place_within (suc f) n (omega arith) before (omega arith))
    where
      at : (keeps : Bool) → f < t → place_in (all (suc f) n) t < length (all (suc f) n)
          → place_in (cond keeps (f ∷ all (suc f) n) (all (suc f) n)) t < length (cond keeps (f ∷ all (suc f) n) (all (suc f) n))
      at true before h = let past = place_past f (all (suc f) n) before in omega (arith, past, h)
      at false before h = h

      split : Dec (f ≡ t) → (f < t → place_in (all (suc f) n) t < length (all (suc f) n)) → place_in (all f (suc n)) t < length (all f (suc n))
      split (yes same) rest =
          subst (λ ks. place_in ks t < length ks) (sym (all_here f n same)) (let first = place_here f n same in omega (arith, first))
      split (no apart) rest = at (more f) (omega (arith, apart)) (rest (omega (arith, apart)))

  removed : (f n : ℕ) → 1 ≤ f → f ≤ t → t < f + n → remove (all f n) (place_in (all f n) t) ≡ few f n
  removed f zero low from within = absurd (omega arith)
  removed f (suc n) low from within = split (ℕ_discrete f t) (λ before. removed (suc f) n (omega arith) before (omega arith))
    where
      at : (keeps : Bool) → f < t → remove (all (suc f) n) (place_in (all (suc f) n) t) ≡ few (suc f) n
          → remove (cond keeps (f ∷ all (suc f) n) (all (suc f) n)) (place_in (cond keeps (f ∷ all (suc f) n) (all (suc f) n)) t) ≡ cond keeps
          (f ∷ few (suc f) n) (few (suc f) n)
      at true before h = ap (λ i. remove (f ∷ all (suc f) n) i) (place_past f (all (suc f) n) before) ∙ ap (λ rest. f ∷ rest) h
      at false before h = h

      split : Dec (f ≡ t) → (f < t → remove (all (suc f) n) (place_in (all (suc f) n) t) ≡ few (suc f) n) →
          remove (all f (suc n)) (place_in (all f (suc n)) t) ≡ few f (suc n)
      split (yes same) rest =
          ap (λ ks. remove ks (place_in ks t)) (all_here f n same)
          ∙ ap (λ i. remove (t ∷ few (suc f) n) i) (place_here f n same) ∙ remove_first t (few (suc f) n) ∙ sym (few_here f n same)
      split (no apart) rest =
          at (more f) (omega (arith, apart)) (rest (omega (arith, apart)))
          ∙ ap (λ b. cond b (f ∷ few (suc f) n) (few (suc f) n)) (agree f low apart)

-- ---- an exchange

module _ (b : Basics) (p q : ℕ) (p_low : 1 ≤ p) (p_high : p ≤ length b) (q_low : 1 ≤ q) (q_high : q ≤ length b) (leaves : is_in b p ≡ true)
    (enters : is_in b q ≡ false) where
  abbrev without : Basics
  without = set b (p - 1) false

  abbrev entered : Basics
  entered = set b (q - 1) true

  apart : p ≢ q
  apart same = clash (sym leaves ∙ ap (is_in b) same ∙ enters)

  past : (i k : ℕ) → 1 ≤ i → 1 ≤ k → k ≢ i → k - 1 ≢ i - 1
  past i k low also differ same = differ (omega (arith, same, low, also))

  p_below : (c : Basics) → length c ≡ length b → p - 1 < length c
  p_below c same = omega (arith, same, p_low, p_high)

  p_out : is_in without p ≡ false
  p_out = get_or-set_same b (p - 1) false false (p_below b refl)

  other_out : (k : ℕ) → 1 ≤ k → k ≢ p → is_in b k ≡ is_in without k
  other_out k low differ = sym (get_or-set_other b (p - 1) (k - 1) false false (past p k p_low low differ))

  q_out : is_in without q ≡ false
  q_out = sym (other_out q q_low (λ same. apart (sym same))) ∙ enters

  -- the mark of another variable than p
  after_is : (k : ℕ) → 1 ≤ k → k ≢ p → is_in (exchanged b p q) k ≡ is_in entered k
  after_is k low differ = get_or-set_other entered (p - 1) (k - 1) false false (past p k p_low low differ)

  q_in : is_in (exchanged b p q) q ≡ true
  q_in = after_is q q_low (λ same. apart (sym same)) ∙ get_or-set_same b (q - 1) true false (omega (arith, q_low, q_high))

  other_in : (k : ℕ) → 1 ≤ k → k ≢ q → is_in (exchanged b p q) k ≡ is_in without k
  other_in k low differ = split (ℕ_discrete k p)
    where
      split : Dec (k ≡ p) → is_in (exchanged b p q) k ≡ is_in without k
      split (yes same) =
          ap (is_in (exchanged b p q)) same ∙ get_or-set_same entered (p - 1) false false (p_below entered (length-set b (q - 1) true))
          ∙ sym p_out ∙ ap (is_in without) (sym same)
      split (no away) = after_is k low away ∙ get_or-set_other b (q - 1) (k - 1) true false (past q k q_low low differ) ∙ other_out k low away

  pub leaver_listed : place_in (listed_of b) p < length (listed_of b)
  leaver_listed = place_within (is_in without) (is_in b) p other_out p_out leaves 1 (length b) (omega arith) p_low (omega (arith, p_high))

  pub left_ascend : (mid : List ℕ) → mid ≡ remove (listed_of b) (place_in (listed_of b) p) → IsNonDecreasing mid
  left_ascend mid is =
      subst (λ ks. IsNonDecreasing ks)
      (sym (is ∙ removed (is_in without) (is_in b) p other_out p_out leaves 1 (length b) (omega arith) p_low (omega (arith, p_high))))
      (passing_ascend (is_in without) (length b))

  pub exchanged_listed : (mid : List ℕ) → mid ≡ remove (listed_of b) (place_in (listed_of b) p) → insert mid (place_in mid q) q ≡ listed_of (exchanged b p q)
  exchanged_listed mid is =
      ap (λ ks. insert ks (place_in ks q) q)
      (is ∙ removed (is_in without) (is_in b) p other_out p_out leaves 1 (length b) (omega arith) p_low (omega (arith, p_high)))
      ∙ inserted (is_in without) (is_in (exchanged b p q)) q other_in q_out q_in 1 (length b) (omega arith) q_low (omega (arith, q_high))
      ∙ ap (λ n. filter (is_in (exchanged b p q)) (numbers_from 1 n)) (sym (length-set entered (p - 1) false ∙ length-set b (q - 1) true))

-- ---- the variables where a direction may not be 0

covers_more : (xs : List ℚ) (f : ℕ) (ks : List ℕ) → value_at xs f ≡ zero_ℚ → CoverNonzeroFrom xs (suc f) ks → CoverNonzeroFrom xs f ks
covers_more xs f [] none (no_more_listed zeros) = no_more_listed (λ i from. at i from (ℕ_discrete i f))
  where
    at : (i : ℕ) → f ≤ i → Dec (i ≡ f) → value_at xs i ≡ zero_ℚ
    at i from (yes same) = ap (value_at xs) same ∙ none
    at i from (no apart) = zeros i (omega (arith, from, apart))
covers_more xs f (k ∷ ks) none (next_listed h rest) =
    next_listed (record { from = omega (arith, h.from); within = h.within; between = λ i from below. at i from below (ℕ_discrete i f) }) rest
  where
    at : (i : ℕ) → f ≤ i → i < k → Dec (i ≡ f) → value_at xs i ≡ zero_ℚ
    at i from below (yes same) = ap (value_at xs) same ∙ none
    at i from below (no apart) = h.between i (omega (arith, from, apart)) below

-- those that pass a test, where each number is 0 at which the test fails
covered : (p : ℕ → Bool) (xs : List ℚ) → ((k : ℕ) → 1 ≤ k → k ≤ length xs → p k ≡ false → value_at xs k ≡ zero_ℚ) → (f n : ℕ) → 1 ≤ f →
    f + n ≡ suc (length xs) → CoverNonzeroFrom xs f (filter p (numbers_from f n))
covered p xs zeros f zero low all = no_more_listed (λ i from. get_or_past_end i (omega (arith, from, all)))
  where
    get_or_past_end : (i : ℕ) → length xs < i → value_at xs i ≡ zero_ℚ
    get_or_past_end i past = get_or_past xs (i - 1) zero_ℚ (omega (arith, past))
covered p xs zeros f (suc n) low all = at (p f) refl (covered p xs zeros (suc f) n (omega arith) (omega (arith, all)))
  where
    nothing : (i : ℕ) → f ≤ i → i < f → value_at xs i ≡ zero_ℚ
    nothing i from below = absurd (omega (arith, from, below))

    at : (keeps : Bool) → p f ≡ keeps → CoverNonzeroFrom xs (suc f) (filter p (numbers_from (suc f) n))
        → CoverNonzeroFrom xs f (cond keeps (f ∷ filter p (numbers_from (suc f) n)) (filter p (numbers_from (suc f) n)))
    at true is rest = next_listed (record { from = omega arith; within = omega (arith, all); between = nothing }) rest
    at false is rest = covers_more xs f (filter p (numbers_from (suc f) n)) (zeros f low (omega (arith, all)) is) rest

module _ (a : Matrix) (b : Basics) (counted : length b ≡ size a) (j : ℕ) (out : IsNonbasic a b j) (xs : List ℚ) (places : length xs ≡ size a)
    (direction : IsDirectionOf a b j (value_at xs)) where
  abbrev with_it : Basics
  with_it = set b (j - 1) true

  differ : (k : ℕ) → 1 ≤ k → k ≢ j → j - 1 ≢ k - 1
  differ k low apart same = apart (omega (arith, same, low, out.0.0))

  other_mark : (k : ℕ) → 1 ≤ k → k ≢ j → is_in with_it k ≡ is_in b k
  other_mark k low apart = get_or-set_other b (j - 1) (k - 1) true false (λ e. differ k low apart (sym e))

  own_mark : is_in with_it j ≡ true
  own_mark = get_or-set_same b (j - 1) true false (omega (arith, counted, out.0.0, out.0.1))

  zero_outside : (k : ℕ) → 1 ≤ k → k ≤ length xs → is_in with_it k ≡ false → value_at xs k ≡ zero_ℚ
  zero_outside k low high fails = at (ℕ_discrete k j)
    where
      at : Dec (k ≡ j) → value_at xs k ≡ zero_ℚ
      at (yes same) = absurd (clash (sym own_mark ∙ ap (is_in with_it) (sym same) ∙ fails))
      at (no apart) = direction.others k ((low, omega (arith, high, places)), sym (other_mark k low apart) ∙ fails) apart

  pub direction_covered : (front back : List ℕ) → front ≡ take (place_in (listed_of b) j) (listed_of b) → back ≡ drop (place_in (listed_of b) j) (listed_of b) →
      CoverNonzero xs (front ++ j ∷ back)
  direction_covered front back is_front is_back =
      subst (λ ks. CoverNonzeroFrom xs 1 ks)
      (sym (inserted (is_in b) (is_in with_it) j other_mark out.1 own_mark 1 (length b) (omega arith) out.0.0 (omega (arith, counted, out.0.1)))
      ∙ ap₂ (λ us vs. us ++ j ∷ vs) (sym is_front) (sym is_back))
      (covered (is_in with_it) xs zero_outside 1 (length b) (omega arith) (omega (arith, counted, places)))

-- ---- the entries of a direction, by the list of its numbers that aren't 0

has_number_from : (xs : List ℚ) (k : ℕ) → value_at xs k ≢ zero_ℚ → has_number (value_at xs) k ≡ true
has_number_from xs k apart = ap not (eq_fails_from_apart (value_at xs k) zero_ℚ apart)

no_number_from : (xs : List ℚ) (k : ℕ) → value_at xs k ≡ zero_ℚ → has_number (value_at xs) k ≡ false
no_number_from xs k none = ap not (test_from_same (value_at xs k) zero_ℚ none)

nonzero_from : (xs : List ℚ) (n f : ℕ) (ks : List ℕ) → f + n ≡ suc (length xs) → AreNonzeroFrom xs f ks →
    ks ≡ filter (has_number (value_at xs)) (numbers_from f n)
nonzero_from xs zero f [] all h = refl
nonzero_from xs zero f (k ∷ ks) all (next_nonzero h rest) = absurd (omega (arith, h.from, h.within, all))
nonzero_from xs (suc n) f [] all (no_more zeros) =
    nonzero_from xs n (suc f) [] (omega (arith, all)) (no_more (λ i from. zeros i (omega (arith, from))))
    ∙ ap (λ b. cond b (f ∷ filter (has_number (value_at xs)) (numbers_from (suc f) n)) (filter (has_number (value_at xs)) (numbers_from (suc f) n)))
    (sym (no_number_from xs f (zeros f (omega arith))))
nonzero_from xs (suc n) f (k ∷ ks) all (next_nonzero h rest) = at (ℕ_discrete f k) (λ js g. nonzero_from xs n (suc f) js (omega (arith, all)) g)
  where
    at : Dec (f ≡ k) → ((js : List ℕ) → AreNonzeroFrom xs (suc f) js → js ≡ filter (has_number (value_at xs)) (numbers_from (suc f) n))
        → k ∷ ks ≡ cond (has_number (value_at xs) f) (f ∷ filter (has_number (value_at xs)) (numbers_from (suc f) n))
        (filter (has_number (value_at xs)) (numbers_from (suc f) n))
    at (yes same) more =
        ap₂ (λ i js. i ∷ js) (sym same) (more ks (subst (λ i. AreNonzeroFrom xs (suc i) ks) (sym same) rest))
        ∙ ap (λ b. cond b (f ∷ filter (has_number (value_at xs)) (numbers_from (suc f) n)) (filter (has_number (value_at xs)) (numbers_from (suc f) n)))
        (sym (ap (has_number (value_at xs)) same ∙ has_number_from xs k h.nonzero))
    at (no apart) more =
        more (k ∷ ks)
        (next_nonzero
        (record {
          from = omega (arith, h.from, apart);
          within = h.within;
          nonzero = h.nonzero;
          between = λ i from below. h.between i
              (omega (arith, from)) below;
        }) rest)
        ∙ ap (λ b. cond b (f ∷ filter (has_number (value_at xs)) (numbers_from (suc f) n)) (filter (has_number (value_at xs)) (numbers_from (suc f) n)))
        (sym (no_number_from xs f (h.between f (omega arith) (omega (arith, h.from, apart)))))

filters_same : (p q : ℕ → Bool) (f n : ℕ) → ((k : ℕ) → f ≤ k → k < f + n → p k ≡ q k) → filter p (numbers_from f n) ≡ filter q (numbers_from f n)
filters_same p q f zero agree = refl
filters_same p q f (suc n) agree =
    ap₂ (λ b rest. cond b (f ∷ rest) rest) (agree f (omega arith) (omega arith))
    (filters_same p q (suc f) n (λ k from below. agree k (omega (arith, from)) (omega (arith, below))))

pub nonzero_within : (xs : List ℚ) (ks : List ℕ) → AreNonzero xs ks → All (λ (k : ℕ). (1 ≤ k) × (k ≤ length xs)) ks
nonzero_within xs ks h =
    subst (All (λ (k : ℕ). (1 ≤ k) × (k ≤ length xs))) (sym (nonzero_from xs (length xs) 1 ks (omega arith) h))
    (All-filter (has_number (value_at xs)) (λ (k : ℕ). (1 ≤ k) × (k ≤ length xs)) (numbers_from 1 (length xs)) (numbers_within (length xs)))

module _ (a : Matrix) (b : Basics) (counted : length b ≡ size a) (q : ℕ) (enters : IsNonbasic a b q) (xs : List ℚ) (places : length xs ≡ size a)
    (direction : IsDirectionOf a b q (value_at xs)) where
  same_test : (k : ℕ) → 1 ≤ k → k < 1 + length xs → has_number (value_at xs) k && not (nat_eq k q) ≡ is_entry b (value_at xs) k
  same_test k low high = at (has_number (value_at xs) k) (nat_eq k q) (is_in b k) refl refl refl
    where
      at : (some own mark : Bool) → has_number (value_at xs) k ≡ some → nat_eq k q ≡ own → is_in b k ≡ mark → some && not own ≡ mark && some
      at true true true is_some is_own is_mark = let same : k ≡ q = grind (arith, is_own) in absurd (clash (sym is_mark ∙ ap (is_in b) same ∙ enters.1))
      at true true false is_some is_own is_mark = refl
      at true false true is_some is_own is_mark = refl
      at true false false is_some is_own is_mark =
          let apart : k ≢ q = grind (arith, is_own) in
          absurd (clash (sym is_some ∙ no_number_from xs k (direction.others k ((low, omega (arith, high, places)), is_mark) apart)))
      at false own true is_some is_own is_mark = refl
      at false own false is_some is_own is_mark = refl

  pub entries_along : (ks : List ℕ) → AreNonzero xs ks → (ys : List ℚ) → ys ≡ xs → (es : List EtaEntry) →
      es ≡ map (entry_of (value_at ys)) (filter (λ k. not (nat_eq k q)) ks) → es ≡ entries_to b (value_at xs) (length b)
  entries_along ks nonzero ys same es are =
      are ∙ ap₂ (λ zs js. map (entry_of (value_at zs)) (filter (λ k. not (nat_eq k q)) js)) same (nonzero_from xs (length xs) 1 ks (omega arith) nonzero)
      ∙ ap (map (entry_of (value_at xs)))
      (filter_both (has_number (value_at xs)) (λ k. not (nat_eq k q)) (numbers_from 1 (length xs))
      ∙ filters_same (λ k. has_number (value_at xs) k && not (nat_eq k q)) (is_entry b (value_at xs)) 1 (length xs) same_test
      ∙ ap (λ n. filter (is_entry b (value_at xs)) (numbers_from 1 n)) (places ∙ sym counted))
