-- The entries of a direction at a set of basics.
use Rattle.std.proofs.Common.{◌≡◌, ◌≢◌, ℕ, zero, suc, ◌+◌, ◌-◌, ◌<◌, ◌≤◌, List, [], ◌∷◌, ◌++◌, length, take, get_or, map, filter, refl, sym, ◌∙◌, ap, true}
use Rattle.std.proofs.Common.{false, cond, arith, Bool}
use Rattle.std.specs.Prelude.{nat_eq, not, ◌&&◌}
use Rattle.std.proofs.lemmas.List.{map-append, append-nil}
use Rattle.std.proofs.lemmas.List.Elements.{filter-append, filter_more}
use native.Mathlib.Decide.{ℕ_discrete}
use Rattle.exact_values.specs.Rational.{ℚ, zero_ℚ, ◌+ℚ◌}
use Rattle.exact_values.specs.Tests.{eq_ℚ}
use Rattle.exact_values.proofs.TestsLaws.{same_from_test, test_from_same, eq_fails_from_apart}
use Rattle.exact_values.proofs.RingLaws.{add-zero, zero-add}
use Rattle.lp_definitions.specs.LinearProgram.{Matrix, Vector, size, numbers_from, IsVariable}
use Rattle.lp_definitions.specs.Basis.{Basics, is_in}
use Rattle.lp_laws.proofs.Values.{clash}
use Rattle.lp_laws.proofs.Opening.{numbers_from-append}
use Rattle.eta_file.specs.declared.eta.EtaEntry.{EtaEntry}
use Rattle.eta_file.specs.Entries.{sum_rate, others, AreApart}
use Rattle.eta_file.specs.Prefixes.{is_entry, entry_of, entries_to, rate_entries}

-- what is known of an entry among those of n variables from first on
pub record IsOne (w : Basics) (d : Vector) (first n : ℕ) (e : EtaEntry) : Type 0 where
  pub low : first ≤ e.i
  pub high : e.i < first + n
  pub basic : is_in w e.i ≡ true
  pub is_rate : e.rate ≡ d e.i

module _ (w : Basics) (d : Vector) where
  abbrev pub entries_from : ℕ → ℕ → List EtaEntry
  entries_from first n = map (entry_of d) (filter (is_entry w d) (numbers_from first n))

  sum_absent : (first n i : ℕ) → i < first → sum_rate (entries_from first n) i ≡ zero_ℚ
  sum_absent first zero i below = refl
  sum_absent first (suc n) i below = at (is_entry w d first) (sum_absent (suc first) n i (omega arith))
    where
      at : (keeps : Bool) → sum_rate (entries_from (suc first) n) i ≡ zero_ℚ
          → sum_rate (map (entry_of d)
          (cond keeps (first ∷ filter (is_entry w d) (numbers_from (suc first) n)) (filter (is_entry w d) (numbers_from (suc first) n)))) i ≡ zero_ℚ
      at true h =
          let other : nat_eq first i ≡ false = grind arith in
          ap (λ t. cond t (d first) zero_ℚ +ℚ sum_rate (entries_from (suc first) n) i) other ∙ zero-add (sum_rate (entries_from (suc first) n) i) ∙ h
      at false h = h

  sum_present : (first n i : ℕ) → first ≤ i → i < first + n → sum_rate (entries_from first n) i ≡ cond (is_in w i) (d i) zero_ℚ
  sum_present first zero i low high = absurd (omega arith)
  sum_present first (suc n) i low high = split (ℕ_discrete first i) (λ more. sum_present (suc first) n i more (omega arith))
    where
      here : (mark none : Bool) → is_in w first ≡ mark → eq_ℚ (d first) zero_ℚ ≡ none
          → sum_rate (map (entry_of d)
          (cond (mark && not none) (first ∷ filter (is_entry w d) (numbers_from (suc first) n))
          (filter (is_entry w d) (numbers_from (suc first) n)))) first ≡ cond mark (d first) zero_ℚ
      here true false is_mark is_none =
          let own : nat_eq first first ≡ true = grind arith in
          ap (λ t. cond t (d first) zero_ℚ +ℚ sum_rate (entries_from (suc first) n) first) own
          ∙ ap (λ s. d first +ℚ s) (sum_absent (suc first) n first (omega arith)) ∙ add-zero (d first)
      here true true is_mark is_none = sum_absent (suc first) n first (omega arith) ∙ sym (same_from_test (d first) zero_ℚ is_none)
      here false none is_mark is_none = sum_absent (suc first) n first (omega arith)

      past : (keeps : Bool) → first ≢ i → sum_rate (entries_from (suc first) n) i ≡ cond (is_in w i) (d i) zero_ℚ
          → sum_rate (map (entry_of d)
          (cond keeps (first ∷ filter (is_entry w d) (numbers_from (suc first) n)) (filter (is_entry w d) (numbers_from (suc first) n)))) i ≡ cond
          (is_in w i) (d i) zero_ℚ
      past true apart h =
          let other : nat_eq first i ≡ false = grind (arith, apart) in
          ap (λ t. cond t (d first) zero_ℚ +ℚ sum_rate (entries_from (suc first) n) i) other ∙ zero-add (sum_rate (entries_from (suc first) n) i) ∙ h
      past false apart h = h

      split : Dec (first ≡ i) → (first < i → sum_rate (entries_from (suc first) n) i ≡ cond (is_in w i) (d i) zero_ℚ) →
          sum_rate (entries_from first (suc n)) i ≡ cond (is_in w i) (d i) zero_ℚ
      split (yes same) rest =
          ap (sum_rate (entries_from first (suc n))) (sym same) ∙ here (is_in w first) (eq_ℚ (d first) zero_ℚ) refl refl
          ∙ ap (λ k. cond (is_in w k) (d k) zero_ℚ) same
      split (no apart) rest = past (is_entry w d first) apart (rest (omega (arith, low, apart)))

  one_of : (first n place : ℕ) (e : EtaEntry) → place < length (entries_from first n) → IsOne w d first n (get_or (entries_from first n) place e)
  one_of first zero place e below = absurd (omega arith)
  one_of first (suc n) place e below = at (is_entry w d first) refl place below (λ k less. one_of (suc first) n k e less)
    where
      wider : (x : EtaEntry) → IsOne w d (suc first) n x → IsOne w d first (suc n) x
      wider x h = record { low = omega (arith, h.low); high = omega (arith, h.high); basic = h.basic; is_rate = h.is_rate }

      kept : (mark none : Bool) → mark && not none ≡ true → mark ≡ true
      kept true none h = refl
      kept false none h = h

      at : (keeps : Bool) → is_entry w d first ≡ keeps → (k : ℕ)
          → k < length
          (map (entry_of d) (cond keeps (first ∷ filter (is_entry w d) (numbers_from (suc first) n)) (filter (is_entry w d) (numbers_from (suc first) n))))
          → ((k : ℕ) → k < length (entries_from (suc first) n) → IsOne w d (suc first) n (get_or (entries_from (suc first) n) k e))
          → IsOne w d first (suc n)
          (get_or (map (entry_of d)
          (cond keeps (first ∷ filter (is_entry w d) (numbers_from (suc first) n)) (filter (is_entry w d) (numbers_from (suc first) n)))) k e)
      at true is zero less rest = record { low = omega arith; high = omega arith; basic = kept (is_in w first) (eq_ℚ (d first) zero_ℚ) is; is_rate = refl }
      at true is (suc k) less rest = wider (get_or (entries_from (suc first) n) k e) (rest k (omega arith))
      at false is k less rest = wider (get_or (entries_from (suc first) n) k e) (rest k less)

  apart_from : (first n place : ℕ) (e : EtaEntry) → place < length (entries_from first n) →
      sum_rate (take place (entries_from first n)) (get_or (entries_from first n) place e).i ≡ zero_ℚ
  apart_from first zero place e below = absurd (omega arith)
  apart_from first (suc n) place e below =
      at (is_entry w d first) place below (λ k less. apart_from (suc first) n k e less) (λ k less. (one_of (suc first) n k e less).low)
    where
      at : (keeps : Bool) (k : ℕ)
          → k < length
          (map (entry_of d) (cond keeps (first ∷ filter (is_entry w d) (numbers_from (suc first) n)) (filter (is_entry w d) (numbers_from (suc first) n))))
          → ((k : ℕ) → k < length (entries_from (suc first) n)
          → sum_rate (take k (entries_from (suc first) n)) (get_or (entries_from (suc first) n) k e).i ≡ zero_ℚ)
          → ((k : ℕ) → k < length (entries_from (suc first) n) → suc first ≤ (get_or (entries_from (suc first) n) k e).i)
          → let es =
          map (entry_of d)
          (cond keeps (first ∷ filter (is_entry w d) (numbers_from (suc first) n)) (filter (is_entry w d) (numbers_from (suc first) n))) in sum_rate
          (take k es) (get_or es k e).i ≡ zero_ℚ
      at true zero less rest above = refl
      at true (suc k) less rest above =
          let i = (get_or (entries_from (suc first) n) k e).i in
          let more : suc first ≤ i = above k (omega arith) in
          let other : nat_eq first i ≡ false = grind (arith, more) in
          ap (λ t. cond t (d first) zero_ℚ +ℚ sum_rate (take k (entries_from (suc first) n)) i) other
          ∙ zero-add (sum_rate (take k (entries_from (suc first) n)) i) ∙ rest k (omega arith)
      at false k less rest above = rest k less

  -- one variable more
  pub entries_to-more : (n : ℕ) → entries_to w d (n + 1) ≡ entries_to w d n ++ cond (is_entry w d (n + 1)) (entry_of d (n + 1) ∷ []) []
  entries_to-more n =
      ap (λ ks. map (entry_of d) (filter (is_entry w d) ks)) (numbers_from-append 1 n 1 ∙ ap (λ k. numbers_from 1 n ++ (k ∷ [])) (omega arith))
      ∙ ap (map (entry_of d)) (filter-append (is_entry w d) (numbers_from 1 n) ((n + 1) ∷ []))
      ∙ map-append (entry_of d) (filter (is_entry w d) (numbers_from 1 n)) (filter (is_entry w d) ((n + 1) ∷ []))
      ∙ ap (λ xs. entries_to w d n ++ xs) (at (is_entry w d (n + 1)))
    where
      at : (keeps : Bool) → map (entry_of d) (cond keeps ((n + 1) ∷ []) []) ≡ cond keeps (entry_of d (n + 1) ∷ []) []
      at true = refl
      at false = refl

pub others_le : (p : ℕ) (es : List EtaEntry) → others p es ≤ length es
others_le p [] = omega arith
others_le p (e ∷ es) = at (nat_eq e.i p) (others_le p es)
  where
    at : (same : Bool) → others p es ≤ length es → cond same (others p es) (1 + others p es) ≤ suc (length es)
    at true h = omega arith
    at false h = omega arith

-- where there is an entry at p, the others are fewer
pub others_less : (p : ℕ) (es : List EtaEntry) → sum_rate es p ≢ zero_ℚ → others p es + 1 ≤ length es
others_less p [] h = absurd (h refl)
others_less p (e ∷ es) h = at (nat_eq e.i p) h (λ more. others_less p es more)
  where
    at : (same : Bool) → cond same e.rate zero_ℚ +ℚ sum_rate es p ≢ zero_ℚ → (sum_rate es p ≢ zero_ℚ → others p es + 1 ≤ length es) →
        cond same (others p es) (1 + others p es) + 1 ≤ suc (length es)
    at true apart rest = let few = others_le p es in omega (arith, few)
    at false apart rest = let few = rest (λ none. apart (zero-add (sum_rate es p) ∙ none)) in omega (arith, few)

module _ (a : Matrix) (w : Basics) (d : Vector) where
  pub sum_rate_entries : (i : ℕ) → IsVariable a i → sum_rate (rate_entries a w d) i ≡ cond (is_in w i) (d i) zero_ℚ
  sum_rate_entries i var = sum_present w d 1 (size a) i var.0 (omega (arith, var.1))

  pub rate_entry : (place : ℕ) (e : EtaEntry) → place < length (rate_entries a w d) → IsOne w d 1 (size a) (get_or (rate_entries a w d) place e)
  rate_entry place e below = one_of w d 1 (size a) place e below

  pub rate_entries_apart : AreApart (rate_entries a w d)
  rate_entries_apart place e below = apart_from w d 1 (size a) place e below

-- there are no more entries than variables
length_from : (w : Basics) (d : Vector) (first n : ℕ) → length (entries_from w d first n) ≤ n
length_from w d first zero = omega arith
length_from w d first (suc n) = at (is_entry w d first) (length_from w d (suc first) n)
  where
    at : (keeps : Bool) → length (entries_from w d (suc first) n) ≤ n
        → length (map (entry_of d)
        (cond keeps (first ∷ filter (is_entry w d) (numbers_from (suc first) n)) (filter (is_entry w d) (numbers_from (suc first) n)))) ≤ suc n
    at true h = omega (arith, h)
    at false h = omega (arith, h)

pub length-rate_entries : (a : Matrix) (w : Basics) (d : Vector) → length (rate_entries a w d) ≤ size a
length-rate_entries a w d = length_from w d 1 (size a)

pub mark_next : (w : Basics) (n : ℕ) → get_or w n false ≡ is_in w (n + 1)
mark_next w n = let same : n + 1 - 1 ≡ n = omega arith in ap (λ k. get_or w k false) (sym same)

-- the test for 0
pub zero_test : (b : Bool) (x : ℚ) → (b ≡ true → x ≡ zero_ℚ) → (x ≡ zero_ℚ → b ≡ true) → b ≡ eq_ℚ x zero_ℚ
zero_test true x tells reported = sym (test_from_same x zero_ℚ (tells refl))
zero_test false x tells reported = sym (eq_fails_from_apart x zero_ℚ (λ none. clash (sym (reported none))))

-- ---- over a list of the basics

abbrev pub has_number : Vector → ℕ → Bool
has_number d k = not (eq_ℚ (d k) zero_ℚ)

pub filter_both : (p q : ℕ → Bool) (ks : List ℕ) → filter q (filter p ks) ≡ filter (λ k. p k && q k) ks
filter_both p q [] = refl
filter_both p q (k ∷ ks) = at (p k) (filter_both p q ks)
  where
    at : (first : Bool) → filter q (filter p ks) ≡ filter (λ x. p x && q x) ks
        → filter q (cond first (k ∷ filter p ks) (filter p ks)) ≡ cond (first && q k) (k ∷ filter (λ x. p x && q x) ks) (filter (λ x. p x && q x) ks)
    at true h = ap (λ rest. cond (q k) (k ∷ rest) rest) h
    at false h = h

pub listed_entries : (b : Basics) (d : Vector) (ks : List ℕ) → ks ≡ filter (is_in b) (numbers_from 1 (length b)) →
    map (entry_of d) (filter (has_number d) ks) ≡ entries_to b d (length b)
listed_entries b d ks is =
    ap (λ xs. map (entry_of d) (filter (has_number d) xs)) is ∙ ap (map (entry_of d)) (filter_both (is_in b) (has_number d) (numbers_from 1 (length b)))

-- one variable of the list more
module _ (d : Vector) (ks : List ℕ) (n : ℕ) (below : n < length ks) (so_far : List EtaEntry)
    (is : so_far ≡ map (entry_of d) (filter (has_number d) (take n ks))) where
  abbrev variable : ℕ
  variable = get_or ks n 0

  next_listed : map (entry_of d) (filter (has_number d) (take (n + 1) ks)) ≡ so_far ++ map (entry_of d) (cond (has_number d variable) (variable ∷ []) [])
  next_listed =
      ap (map (entry_of d)) (filter_more (has_number d) ks n 0 below)
      ∙ map-append (entry_of d) (filter (has_number d) (take n ks)) (cond (has_number d variable) (variable ∷ []) [])
      ∙ ap (λ xs. xs ++ map (entry_of d) (cond (has_number d variable) (variable ∷ []) [])) (sym is)

  pub entry_then : (x : ℚ) (none : Bool) → x ≡ d variable → none ≡ eq_ℚ x zero_ℚ → none ≡ false
      → so_far ++ (record { i = variable; rate = x } ∷ []) ≡ map (entry_of d) (filter (has_number d) (take (n + 1) ks))
  entry_then x none at_x tested some =
      ap (λ (v : ℚ). so_far ++ (record { i = variable; rate = v } ∷ [])) at_x
      ∙ sym (next_listed ∙ ap (λ t. so_far ++ map (entry_of d) (cond (not t) (variable ∷ []) [])) (ap (λ v. eq_ℚ v zero_ℚ) (sym at_x) ∙ sym tested ∙ some))

  pub entry_else : (x : ℚ) (none : Bool) → x ≡ d variable → none ≡ eq_ℚ x zero_ℚ → none ≡ true →
      so_far ≡ map (entry_of d) (filter (has_number d) (take (n + 1) ks))
  entry_else x none at_x tested no_number =
      sym (next_listed ∙ ap (λ t. so_far ++ map (entry_of d) (cond (not t) (variable ∷ []) [])) (ap (λ v. eq_ℚ v zero_ℚ) (sym at_x) ∙ sym tested ∙ no_number)
      ∙ append-nil so_far)

-- the same of a list without one variable
module _ (d : Vector) (q : ℕ) (ks : List ℕ) (n : ℕ) (below : n < length ks) (so_far : List EtaEntry)
    (is : so_far ≡ map (entry_of d) (filter (λ k. not (nat_eq k q)) (take n ks))) where
  abbrev next : ℕ
  next = get_or ks n 0

  next_other : map (entry_of d) (filter (λ k. not (nat_eq k q)) (take (n + 1) ks)) ≡ so_far ++ map (entry_of d) (cond (not (nat_eq next q)) (next ∷ []) [])
  next_other =
      ap (map (entry_of d)) (filter_more (λ k. not (nat_eq k q)) ks n 0 below)
      ∙ map-append (entry_of d) (filter (λ k. not (nat_eq k q)) (take n ks)) (cond (not (nat_eq next q)) (next ∷ []) [])
      ∙ ap (λ xs. xs ++ map (entry_of d) (cond (not (nat_eq next q)) (next ∷ []) [])) (sym is)

  pub other_then : (x : ℚ) → x ≡ d next → next ≢ q →
      so_far ++ (record { i = next; rate = x } ∷ []) ≡ map (entry_of d) (filter (λ k. not (nat_eq k q)) (take (n + 1) ks))
  other_then x at_x apart =
      let other : nat_eq next q ≡ false = grind (arith, apart) in
      ap (λ (v : ℚ). so_far ++ (record { i = next; rate = v } ∷ [])) at_x
      ∙ sym (next_other ∙ ap (λ t. so_far ++ map (entry_of d) (cond (not t) (next ∷ []) [])) other)

  pub other_else : next ≡ q → so_far ≡ map (entry_of d) (filter (λ k. not (nat_eq k q)) (take (n + 1) ks))
  other_else same =
      let own : nat_eq next q ≡ true = grind (arith, same) in
      sym (next_other ∙ ap (λ t. so_far ++ map (entry_of d) (cond (not t) (next ∷ []) [])) own ∙ append-nil so_far)
