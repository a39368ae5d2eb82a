-- The deck that is written for a basis stands for that basis.
use Rattle.std.proofs.Common.{◌≡◌, ◌≢◌, ℕ, zero, suc, ◌+◌, ◌-◌, ◌<◌, ◌≤◌, ◌⊎◌, inl, inr, Bool, true, false, cond, not, ◌||◌, ◌&&◌, unwrap_or, List, [], ◌∷◌}
use Rattle.std.proofs.Common.{◌++◌, Option, Some, None, Ok, length, map, get_or, refl, sym, ap, ap₂, subst, ◌∙◌, arith, zero-add}
use Rattle.std.specs.Prelude.{nat_eq, nat_le, eqb, IsSome, codes, filter, zip}
use Rattle.std.proofs.lemmas.List.Recursion.{is_count_by}
use Rattle.std.specs.List.{AllByRecursion, list_any, flat_map, last_or, cons_option}
use Rattle.std.specs.Option.{option_or, option_map}
use Rattle.std.proofs.lemmas.Bool.Decides.{eqb_tells}
use Rattle.std.proofs.lemmas.List.{length-set, append-nil, get_or_default, same_lists}
use Rattle.std.proofs.lemmas.List.Folds.{list_any-append}
use Rattle.lp_definitions.specs.LinearProgram.{LinearProgram, size, numbers_from, lower_of, upper_of, IsRow, IsVariable}
use Rattle.lp_definitions.specs.Basis.{is_basic, status_of, with_status, opening_status_of, opening_at_of, opening_statuses, IsAllowed, IsBasis}
use Rattle.lp_definitions.specs.declared.Status.{Status}
use Rattle.lp_definitions.specs.declared.Status.TheVariants.{Bs, Ll, Ul, Fr}
use Rattle.lp_laws.proofs.Statuses.{status_of-opening, basic_from, IsBasis-opening, changed_own, changed_other}
use Rattle.card_definitions.specs.Words.{first_fault, named, unless, is_empty, without_trailing, ◌⟹◌}
use Rattle.card_definitions.specs.Cards.{Card, is_blank, is_skipped, live, last_number, numbered_from}
use Rattle.card_definitions.specs.Fields.{Fixed, reading_of}
use Rattle.card_definitions.proofs.Numbered.{numbered_from-append, live-append}
use Rattle.problem_definitions.specs.Problem.{Problem}
use Rattle.problem_definitions.specs.Valid.{IsProblem}
use Rattle.problem_definitions.proofs.Each.{each-append}
use Rattle.deck_definitions.specs.declared.DeckFault.{DeckFault}
use Rattle.deck_definitions.specs.declared.DeckFaultKind.TheVariants.{NoEndata}
use Rattle.deck_definitions.specs.declared.Section.TheVariants.{Header, Endata}
use Rattle.deck_definitions.specs.Sections.{is_section, is_section_card, section_begun, section_after, is_section_after}
use Rattle.deck_definitions.specs.Conversion.{section_card_fault, first_faulty}
use Rattle.deck_definitions.specs.Written.{name_card}
use Rattle.deck_definitions.proofs.Steps.{section_after-push, first_faulty-append}
use Rattle.basis_deck_laws.proofs.Whole.{after_word, name_word, name_card-is, begun_by}
use Rattle.basis_deck_definitions.specs.Placings.{HasNames, Placing, code_words, placings_by}
use Rattle.basis_deck_definitions.specs.Reading.{placings_of, stands_for, basis_card_fault, basis_reading}
use Rattle.basis_deck_definitions.specs.Writing.{is_up, is_raised, basic_columns, nonbasic_rows, raised, exchange_card, limit_card, basis_deck}
use Rattle.basis_deck_laws.proofs.Lawful.{places, put, row_opens, column_opens}
use Rattle.basis_deck_laws.proofs.Spoken.{row_limit, exchange_placings, limit_placings, AreFreeInTurn, Speaks, exchange_speaks, limit_speaks, AreAccepted}
use Rattle.basis_deck_laws.proofs.Spoken.{accepted, accepted-then, card_placed}

-- ---- numbers that pass

-- x is one of these numbers
abbrev pub is_among : List ℕ → ℕ → Bool
is_among xs k = list_any (λ x. nat_eq x k) xs

nat_refl : (k : ℕ) → nat_eq k k ≡ true
nat_refl k = grind arith

among : (p : ℕ → Bool) (n m k : ℕ) → m ≤ k → k < m + n → p k ≡ true → is_among (filter p (numbers_from m n)) k ≡ true
among p zero m k low high passes = absurd (omega (arith, low, high))
among p (suc n) m k low high passes = by_place (eqb_tells m k) (among p n (suc m) k)
  where
    by_place : (((eqb m k ≡ true) × (m ≡ k)) ⊎ ((eqb m k ≡ false) × (m ≢ k)))
        → (suc m ≤ k → k < suc m + n → p k ≡ true → is_among (filter p (numbers_from (suc m) n)) k ≡ true)
        → is_among (cond (p m) (m ∷ filter p (numbers_from (suc m) n)) (filter p (numbers_from (suc m) n))) k ≡ true
    by_place (inl same) rest =
        let here : p m ≡ true = ap p same.1 ∙ passes in
        ap (λ b. is_among (cond b (m ∷ filter p (numbers_from (suc m) n)) (filter p (numbers_from (suc m) n))) k) here
        ∙ ap (λ b. b || is_among (filter p (numbers_from (suc m) n)) k) same.0
    by_place (inr apart) rest = by (p m) (rest (omega (arith, low, apart.1)) (omega (arith, high)) passes)
      where
        either : (a b : Bool) → b ≡ true → (a || b) ≡ true
        either true b h = refl
        either false b h = h

        by : (b : Bool) → is_among (filter p (numbers_from (suc m) n)) k ≡ true →
            is_among (cond b (m ∷ filter p (numbers_from (suc m) n)) (filter p (numbers_from (suc m) n))) k ≡ true
        by true h = either (nat_eq m k) (is_among (filter p (numbers_from (suc m) n)) k) h
        by false h = h

-- ascending numbers from one on, each of which has a property
pub record IsNext (P : ℕ → Type 0) (from x : ℕ) : Type 0 where
  pub low : from ≤ x
  pub has : P x

abbrev pub Ascends : (ℕ → Type 0) → ℕ → List ℕ → Type 0
Ascends P from [] = Unit {0}
Ascends P from (x ∷ xs) = IsNext P from x × Ascends P (suc x) xs

from_lower : (P : ℕ → Type 0) (a b : ℕ) (xs : List ℕ) → a ≤ b → Ascends P b xs → Ascends P a xs
from_lower P a b [] low h = tt
from_lower P a b (x ∷ xs) low h = (record { low = omega (arith, low, h.0.low); has = h.0.has }, h.1)

ascending : (P : ℕ → Type 0) (p : ℕ → Bool) (n m : ℕ) → ((k : ℕ) → m ≤ k → k < m + n → p k ≡ true → P k) → Ascends P m (filter p (numbers_from m n))
ascending P p zero m gives = tt
ascending P p (suc n) m gives = by (p m) refl (ascending P p n (suc m) (λ k low high passes. gives k (omega (arith, low)) (omega (arith, high)) passes))
  where
    by : (b : Bool) → p m ≡ b → Ascends P (suc m) (filter p (numbers_from (suc m) n)) →
        Ascends P m (cond b (m ∷ filter p (numbers_from (suc m) n)) (filter p (numbers_from (suc m) n)))
    by true e rest = (record { low = omega arith; has = gives m (omega arith) (omega arith) e }, rest)
    by false e rest = from_lower P m (suc m) (filter p (numbers_from (suc m) n)) (omega arith) rest

-- ---- as many basic columns as nonbasic rows

count_all : (p : ℕ → Bool) (n m : ℕ) → length (filter p (numbers_from m n)) + length (filter (λ k. not (p k)) (numbers_from m n)) ≡ n
count_all p zero m = refl
count_all p (suc n) m = by (p m) (count_all p n (suc m))
  where
    by : (b : Bool) → length (filter p (numbers_from (suc m) n)) + length (filter (λ k. not (p k)) (numbers_from (suc m) n)) ≡ n
        → length (cond b (m ∷ filter p (numbers_from (suc m) n)) (filter p (numbers_from (suc m) n))) + length
        (cond (not b) (m ∷ filter (λ k. not (p k)) (numbers_from (suc m) n)) (filter (λ k. not (p k)) (numbers_from (suc m) n))) ≡ suc n
    by true h = omega (arith, h)
    by false h = omega (arith, h)

count_split : (p : ℕ → Bool) (i n m : ℕ) →
    length (filter p (numbers_from m (i + n))) ≡ length (filter p (numbers_from m i)) + length (filter p (numbers_from (m + i) n))
count_split p zero n m =
    let e : 0 + n ≡ n = omega arith in
    let f : m + 0 ≡ m = omega arith in
    rw (e, f) (sym (zero-add (length (filter p (numbers_from m n)))))
count_split p (suc i) n m =
    let e : suc i + n ≡ suc (i + n) = omega arith in
    let f : m + suc i ≡ suc m + i = omega arith in
    ap (λ k. length (filter p (numbers_from m k))) e ∙ by (p m) (count_split p i n (suc m))
    ∙ ap (λ k. length (filter p (numbers_from m (suc i))) + length (filter p (numbers_from k n))) (sym f)
  where
    by : (b : Bool)
        → length (filter p (numbers_from (suc m) (i + n))) ≡ length (filter p (numbers_from (suc m) i)) + length (filter p (numbers_from (suc m + i) n))
        → length (cond b (m ∷ filter p (numbers_from (suc m) (i + n))) (filter p (numbers_from (suc m) (i + n)))) ≡ length
        (cond b (m ∷ filter p (numbers_from (suc m) i)) (filter p (numbers_from (suc m) i))) + length (filter p (numbers_from (suc m + i) n))
    by true h = omega (arith, h)
    by false h = h

-- the basics of a list of statuses, counted one by one
abbrev basics_in : List Status → ℕ
basics_in [] = 0
basics_in (st ∷ s) = cond (is_basic st) (1 + basics_in s) (basics_in s)

-- and by their numbers
count_statuses : (s : List Status) (whole : List Status) (m : ℕ) → ((i : ℕ) → i < length s → status_of whole (m + i) ≡ get_or s i Bs) →
    basics_in s ≡ length (filter (λ k. is_basic (status_of whole k)) (numbers_from m (length s)))
count_statuses [] whole m same = refl
count_statuses (st ∷ s) whole m same =
    by (is_basic st) (is_basic (status_of whole m)) (ap is_basic (let e : m + 0 ≡ m = omega arith in sym (same 0 (omega arith)) ∙ ap (status_of whole) e))
    (count_statuses s whole (suc m) (λ i below. (let e : suc m + i ≡ m + suc i = omega arith in ap (status_of whole) e) ∙ same (suc i) (omega (arith, below))))
  where
    by : (a b : Bool) → a ≡ b → basics_in s ≡ length (filter (λ k. is_basic (status_of whole k)) (numbers_from (suc m) (length s)))
        → cond a (1 + basics_in s) (basics_in s) ≡ length
        (cond b (m ∷ filter (λ k. is_basic (status_of whole k)) (numbers_from (suc m) (length s)))
        (filter (λ k. is_basic (status_of whole k)) (numbers_from (suc m) (length s))))
    by true true e h = omega (arith, h)
    by false false e h = h
    by true false e h = absurd (cc e)
    by false true e h = absurd (cc e)

-- ---- the variables that cards name

module _ (lp : LinearProgram) (s : List Status) where
  -- a basic column, a nonbasic row, and a column at its upper limit
  pub record IsBasicColumn (k : ℕ) : Type 0 where
    pub past : lp.rows < k
    pub is : IsVariable lp.matrix k
    pub basic : is_basic (status_of s k) ≡ true

  pub record IsNonbasicRow (r : ℕ) : Type 0 where
    pub row : IsRow lp.matrix r
    pub out : is_basic (status_of s r) ≡ false

  pub record IsUpColumn (k : ℕ) : Type 0 where
    pub past : lp.rows < k
    pub is : IsVariable lp.matrix k
    pub up : status_of s k ≡ Ul

  pub columns_ascend : Ascends IsBasicColumn (lp.rows + 1) (basic_columns lp s)
  columns_ascend = ascending IsBasicColumn (λ k. is_basic (status_of s k)) lp.cols (lp.rows + 1)
      (λ k low high basic. record { past = omega (arith, low); is = (omega (arith, low), omega (arith, high)); basic = basic })

  pub rows_ascend : Ascends IsNonbasicRow 1 (nonbasic_rows lp s)
  rows_ascend = ascending IsNonbasicRow (λ k. not (is_basic (status_of s k))) lp.rows 1
      (λ k low high out. record { row = (low, omega (arith, high)); out = not_true (is_basic (status_of s k)) out })
    where
      not_true : (b : Bool) → not b ≡ true → b ≡ false
      not_true false h = refl
      not_true true h = absurd (cc h)

  pub raised_ascend : Ascends IsUpColumn (lp.rows + 1) (raised lp s)
  raised_ascend = ascending IsUpColumn (is_raised lp s) lp.cols (lp.rows + 1)
      (λ k low high up. record {
        past = omega (arith, low);
        is = (omega (arith, low), omega (arith, high));
        up = stands_up (status_of s k)
            (is_up (opening_at_of lp k)) up;
      })
    where
      stands_up : (st : Status) (opens : Bool) → (is_up st && not opens) ≡ true → st ≡ Ul
      stands_up Bs opens h = absurd (cc h)
      stands_up Ll opens h = absurd (cc h)
      stands_up Ul opens h = refl
      stands_up Fr opens h = absurd (cc h)

  abbrev pub pairs : List (ℕ × ℕ)
  pairs = zip (basic_columns lp s) (nonbasic_rows lp s)

module _ (lp : LinearProgram) (s : List Status) (basis : IsBasis lp s) where
  basic_at : ℕ → Bool
  basic_at k = is_basic (status_of s k)

  pub as_many : length (basic_columns lp s) ≡ length (nonbasic_rows lp s)
  as_many =
      let p : ℕ → Bool = λ k. is_basic (status_of s k) in
      let all =
      sym (count_statuses s s 1 (λ i below. (let e : 1 + i - 1 ≡ i = omega arith in ap (λ k. get_or s k Bs) e)))
      ∙ is_count_by basics_in is_basic refl (λ st s. refl) s ∙ basis.m_basics in
      let counted = ap (λ n. length (filter (λ k. is_basic (status_of s k)) (numbers_from 1 n))) (sym basis.counted) ∙ all in
      let split = count_split (λ k. is_basic (status_of s k)) lp.rows lp.cols 1 in
      let place = ap (λ m. length (filter (λ k. is_basic (status_of s k)) (numbers_from m lp.cols))) (let e : 1 + lp.rows ≡ lp.rows + 1 = omega arith in e) in
      let rows = count_all (λ k. is_basic (status_of s k)) lp.rows 1 in
      omega (arith, counted, split, place, rows)

  -- ---- the placings of the cards

  -- what the first cards leave free: columns from c on, and rows from r on
  abbrev LeavesFrom : ℕ → ℕ → List Placing → Type 0
  LeavesFrom c r placed = ((k : ℕ) → c ≤ k → lp.rows < k → places placed k ≡ false) × ((k : ℕ) → r ≤ k → k ≤ lp.rows → places placed k ≡ false)

  -- the places of some more placings
  places-append : (ps qs : List Placing) (k : ℕ) → places (ps ++ qs) k ≡ (places ps k || places qs k)
  places-append ps qs k = list_any-append (λ earlier. nat_eq earlier.variable k) ps qs

  neither : (a b : Bool) → a ≡ false → b ≡ false → (a || b) ≡ false
  neither true b ea eb = ea
  neither false b ea eb = eb

  differ : (v k : ℕ) → v ≢ k → nat_eq v k ≡ false
  differ v k apart = by (eqb_tells v k)
    where
      by : (((eqb v k ≡ true) × (v ≡ k)) ⊎ ((eqb v k ≡ false) × (v ≢ k))) → nat_eq v k ≡ false
      by (inl same) = absurd (apart same.1)
      by (inr other) = other.0

  exchanges_free : (cs rs : List ℕ) (c r : ℕ) (placed : List Placing) → lp.rows < c → Ascends (IsBasicColumn lp s) c cs → Ascends (IsNonbasicRow lp s) r rs →
      LeavesFrom c r placed → AreFreeInTurn placed (map (exchange_placings s) (zip cs rs))
  exchanges_free [] rs c r placed past hc hr free = tt
  exchanges_free (k ∷ cs) [] c r placed past hc hr free = tt
  exchanges_free (k ∷ cs) (i ∷ rs) c r placed past hc hr free = (
    (free.0 k hc.0.low hc.0.has.past, (free.1 i hr.0.low hr.0.has.row.1, tt)),
    exchanges_free cs rs (suc k) (suc i) (placed ++ exchange_placings s (k, i)) (omega (arith, past, hc.0.low)) hc.1 hr.1 (
      (λ j from column.
          places-append placed (exchange_placings s (k, i)) j
          ∙ neither (places placed j) (places (exchange_placings s (k, i)) j) (free.0 j (omega (arith, from, hc.0.low)) column)
          (neither (nat_eq k j) (nat_eq i j || false) (differ k j (λ e. absurd (omega (arith, e, from))))
          (neither (nat_eq i j) false (differ i j (λ e. absurd (omega (arith, e, column, hr.0.has.row.1)))) refl))),
      (λ j from row.
          places-append placed (exchange_placings s (k, i)) j
          ∙ neither (places placed j) (places (exchange_placings s (k, i)) j) (free.1 j (omega (arith, from, hr.0.low)) row)
          (neither (nat_eq k j) (nat_eq i j || false) (differ k j (λ e. absurd (omega (arith, e, row, hc.0.has.past))))
          (neither (nat_eq i j) false (differ i j (λ e. absurd (omega (arith, e, from)))) refl))),
    ),
  )

  -- they leave the columns at upper limits free
  exchanges_leave : (cs rs : List ℕ) (c r : ℕ) → Ascends (IsBasicColumn lp s) c cs → Ascends (IsNonbasicRow lp s) r rs → (k : ℕ) → (IsUpColumn lp s) k →
      places (flat_map (exchange_placings s) (zip cs rs)) k ≡ false
  exchanges_leave [] rs c r hc hr k up = refl
  exchanges_leave (j ∷ cs) [] c r hc hr k up = refl
  exchanges_leave (j ∷ cs) (i ∷ rs) c r hc hr k up =
      places-append (exchange_placings s (j, i)) (flat_map (exchange_placings s) (zip cs rs)) k
      ∙ neither (places (exchange_placings s (j, i)) k) (places (flat_map (exchange_placings s) (zip cs rs)) k)
      (neither (nat_eq j k) (nat_eq i k || false)
      (differ j k (λ e. absurd (let basic = sym hc.0.has.basic ∙ ap (λ n. is_basic (status_of s n)) e ∙ ap is_basic up.up in cc basic)))
      (neither (nat_eq i k) false (differ i k (λ e. absurd (omega (arith, e, hr.0.has.row.1, up.past)))) refl))
      (exchanges_leave cs rs (suc j) (suc i) hc.1 hr.1 k up)

  limits_free : (ks : List ℕ) (c : ℕ) (placed : List Placing) → Ascends (IsUpColumn lp s) c ks →
      ((k : ℕ) → c ≤ k → (IsUpColumn lp s) k → places placed k ≡ false) → AreFreeInTurn placed (map limit_placings ks)
  limits_free [] c placed h free = tt
  limits_free (k ∷ ks) c placed h free = (
    (free k h.0.low h.0.has, tt),
    limits_free ks (suc k) (placed ++ limit_placings k) h.1
        (λ j from up. places-append placed (limit_placings k) j
        ∙ neither (places placed j) (places (limit_placings k) j) (free j (omega (arith, from, h.0.low)) up)
        (neither (nat_eq k j) false (differ k j (λ e. absurd (omega (arith, e, from)))) refl)),
  )

  pub pairs_free : AreFreeInTurn [] (map (exchange_placings s) (pairs lp s))
  pairs_free =
      exchanges_free (basic_columns lp s) (nonbasic_rows lp s) (lp.rows + 1) 1 [] (omega arith) (columns_ascend lp s) (rows_ascend lp s)
      ((λ k from column. refl), (λ k from row. refl))

  pub raised_free : AreFreeInTurn (flat_map (exchange_placings s) (pairs lp s)) (map limit_placings (raised lp s))
  raised_free = limits_free (raised lp s) (lp.rows + 1) (flat_map (exchange_placings s) (pairs lp s)) (raised_ascend lp s)
      (λ k from up. exchanges_leave (basic_columns lp s) (nonbasic_rows lp s) (lp.rows + 1) 1 (columns_ascend lp s) (rows_ascend lp s) k up)

  -- ---- what is placed

  abbrev pub all_placings : List Placing
  all_placings = flat_map (exchange_placings s) (pairs lp s) ++ flat_map limit_placings (raised lp s)

  either : (a b : Bool) → (a ≡ true) ⊎ (b ≡ true) → (a || b) ≡ true
  either true b h = refl
  either false b (inl e) = absurd (cc e)
  either false b (inr e) = e

  split_or : (a b : Bool) → (a || b) ≡ true → (a ≡ true) ⊎ (b ≡ true)
  split_or true b h = inl refl
  split_or false b h = inr h

  column_placed : (cs rs : List ℕ) (k : ℕ) → length cs ≤ length rs → is_among cs k ≡ true → places (flat_map (exchange_placings s) (zip cs rs)) k ≡ true
  column_placed [] rs k few there = absurd (cc there)
  column_placed (c ∷ cs) [] k few there = absurd (omega (arith, few))
  column_placed (c ∷ cs) (r ∷ rs) k few there =
      places-append (exchange_placings s (c, r)) (flat_map (exchange_placings s) (zip cs rs)) k
      ∙ by (split_or (nat_eq c k) (is_among cs k) there) (column_placed cs rs k (omega (arith, few)))
    where
      by : (nat_eq c k ≡ true) ⊎ (is_among cs k ≡ true) → (is_among cs k ≡ true → places (flat_map (exchange_placings s) (zip cs rs)) k ≡ true)
          → ((nat_eq c k || (nat_eq r k || false)) || places (flat_map (exchange_placings s) (zip cs rs)) k) ≡ true
      by (inl here) rest = either _ _ (inl (either (nat_eq c k) (nat_eq r k || false) (inl here)))
      by (inr later) rest = either (nat_eq c k || (nat_eq r k || false)) _ (inr (rest later))

  row_placed : (cs rs : List ℕ) (k : ℕ) → length rs ≤ length cs → is_among rs k ≡ true → places (flat_map (exchange_placings s) (zip cs rs)) k ≡ true
  row_placed [] [] k few there = absurd (cc there)
  row_placed [] (r ∷ rs) k few there = absurd (omega (arith, few))
  row_placed (c ∷ cs) [] k few there = absurd (cc there)
  row_placed (c ∷ cs) (r ∷ rs) k few there =
      places-append (exchange_placings s (c, r)) (flat_map (exchange_placings s) (zip cs rs)) k
      ∙ by (split_or (nat_eq r k) (is_among rs k) there) (row_placed cs rs k (omega (arith, few)))
    where
      by : (nat_eq r k ≡ true) ⊎ (is_among rs k ≡ true) → (is_among rs k ≡ true → places (flat_map (exchange_placings s) (zip cs rs)) k ≡ true)
          → ((nat_eq c k || (nat_eq r k || false)) || places (flat_map (exchange_placings s) (zip cs rs)) k) ≡ true
      by (inl here) rest = either _ _ (inl (either (nat_eq c k) (nat_eq r k || false) (inr (either (nat_eq r k) false (inl here)))))
      by (inr later) rest = either (nat_eq c k || (nat_eq r k || false)) _ (inr (rest later))

  up_placed : (ks : List ℕ) (k : ℕ) → is_among ks k ≡ true → places (flat_map limit_placings ks) k ≡ true
  up_placed [] k there = absurd (cc there)
  up_placed (j ∷ ks) k there =
      places-append (limit_placings j) (flat_map limit_placings ks) k ∙ by (split_or (nat_eq j k) (is_among ks k) there) (up_placed ks k)
    where
      by : (nat_eq j k ≡ true) ⊎ (is_among ks k ≡ true) → (is_among ks k ≡ true → places (flat_map limit_placings ks) k ≡ true) →
          ((nat_eq j k || false) || places (flat_map limit_placings ks) k) ≡ true
      by (inl here) rest = either (nat_eq j k || false) _ (inl (either (nat_eq j k) false (inl here)))
      by (inr later) rest = either (nat_eq j k || false) _ (inr (rest later))

  -- a variable opens where it stands, or is placed
  pub reported : (k : ℕ) → IsVariable lp.matrix k → (opening_at_of lp k ≡ status_of s k) ⊎ (places all_placings k ≡ true)
  reported k is = by_half (nat_le k lp.rows) refl
    where
      first : places (flat_map (exchange_placings s) (pairs lp s)) k ≡ true → (opening_at_of lp k ≡ status_of s k) ⊎ (places all_placings k ≡ true)
      first h = inr (places-append (flat_map (exchange_placings s) (pairs lp s)) (flat_map limit_placings (raised lp s)) k ∙ either _ _ (inl h))

      second : places (flat_map limit_placings (raised lp s)) k ≡ true → (opening_at_of lp k ≡ status_of s k) ⊎ (places all_placings k ≡ true)
      second h =
          inr (places-append (flat_map (exchange_placings s) (pairs lp s)) (flat_map limit_placings (raised lp s)) k
          ∙ either (places (flat_map (exchange_placings s) (pairs lp s)) k) _ (inr h))

      row_case : k ≤ lp.rows → (b : Bool) → is_basic (status_of s k) ≡ b → (opening_at_of lp k ≡ status_of s k) ⊎ (places all_placings k ≡ true)
      row_case low true e = inl (row_opens lp k low ∙ sym (basic_from (status_of s k) e))
      row_case low false e =
          first (row_placed (basic_columns lp s) (nonbasic_rows lp s) k (omega (arith, as_many))
          (among (λ j. not (is_basic (status_of s j))) lp.rows 1 k is.0 (omega (arith, low)) (ap not e)))

      opens : lp.rows < k → (st : Status) → opening_status_of (lower_of lp k) (upper_of lp k) ≡ st → status_of s k ≡ st →
          (opening_at_of lp k ≡ status_of s k) ⊎ (places all_placings k ≡ true)
      opens past st eo es = inl (column_opens lp k past ∙ eo ∙ sym es)

      at_upper : lp.rows < k → status_of s k ≡ Ul → (b : Bool) → is_up (opening_at_of lp k) ≡ b →
          (opening_at_of lp k ≡ status_of s k) ⊎ (places all_placings k ≡ true)
      at_upper past es true e = inl (up_is (opening_at_of lp k) e ∙ sym es)
        where
          up_is : (st : Status) → is_up st ≡ true → st ≡ Ul
          up_is Bs h = absurd (cc h)
          up_is Ll h = absurd (cc h)
          up_is Ul h = refl
          up_is Fr h = absurd (cc h)
      at_upper past es false e =
          second (up_placed (raised lp s) k
          (among (is_raised lp s) lp.cols (lp.rows + 1) k (omega (arith, past)) (omega (arith, is.1)) (ap₂ (λ st b. is_up st && not b) es e)))

      column_case : lp.rows < k → (st : Status) → status_of s k ≡ st → IsAllowed st (lower_of lp k) (upper_of lp k) →
          (opening_at_of lp k ≡ status_of s k) ⊎ (places all_placings k ≡ true)
      column_case past Bs es allowed =
          first (column_placed (basic_columns lp s) (nonbasic_rows lp s) k (omega (arith, as_many))
          (among (λ j. is_basic (status_of s j)) lp.cols (lp.rows + 1) k (omega (arith, past)) (omega (arith, is.1)) (ap is_basic es)))
      column_case past Ll es allowed = opens past Ll (low_opens (lower_of lp k) (upper_of lp k) allowed) es
        where
          low_opens : (low high : Option _) → IsSome low → opening_status_of low high ≡ Ll
          low_opens None high h = absurd (cc h)
          low_opens (Some l) high h = refl
      column_case past Ul es allowed = at_upper past es (is_up (opening_at_of lp k)) refl
      column_case past Fr es allowed = opens past Fr (ap₂ opening_status_of allowed.0 allowed.1) es

      by_half : (b : Bool) → nat_le k lp.rows ≡ b → (opening_at_of lp k ≡ status_of s k) ⊎ (places all_placings k ≡ true)
      by_half true e = row_case (grind (arith, e)) (is_basic (status_of s k)) refl
      by_half false e = column_case (grind (arith, e)) (status_of s k) refl (basis.allowed k is)

  -- ---- the statuses after the placings

  record Agrees (p : Placing) : Type 0 where
    is : IsVariable lp.matrix p.variable
    same : status_of s p.variable ≡ p.status

  exchanges_agree : (cs rs : List ℕ) (c r : ℕ) → Ascends (IsBasicColumn lp s) c cs → Ascends (IsNonbasicRow lp s) r rs →
      AllByRecursion Agrees (flat_map (exchange_placings s) (zip cs rs))
  exchanges_agree [] rs c r hc hr = tt
  exchanges_agree (k ∷ cs) [] c r hc hr = tt
  exchanges_agree (k ∷ cs) (i ∷ rs) c r hc hr =
      let row = hr.0.has.row in (
        record { is = hc.0.has.is; same = basic_from (status_of s k) hc.0.has.basic },
        (
          record { is = (row.0, omega (arith, row.1)); same = (row_limit lp s basis i row hr.0.has.out).0 },
          exchanges_agree cs rs (suc k) (suc i) hc.1 hr.1,
        ),
      )

  limits_agree : (ks : List ℕ) (c : ℕ) → Ascends (IsUpColumn lp s) c ks → AllByRecursion Agrees (flat_map limit_placings ks)
  limits_agree [] c h = tt
  limits_agree (k ∷ ks) c h = (record { is = h.0.has.is; same = h.0.has.up }, limits_agree ks (suc k) h.1)

  all_agree : AllByRecursion Agrees all_placings
  all_agree = each-append Agrees (flat_map (exchange_placings s) (pairs lp s)) (flat_map limit_placings (raised lp s))
      (exchanges_agree (basic_columns lp s) (nonbasic_rows lp s) (lp.rows + 1) 1 (columns_ascend lp s) (rows_ascend lp s))
      (limits_agree (raised lp s) (lp.rows + 1) (raised_ascend lp s))

  length_put : (ps : List Placing) (s0 : List Status) → length (put s0 ps) ≡ length s0
  length_put [] s0 = refl
  length_put (p ∷ ps) s0 = length_put ps (with_status s0 p.variable p.status) ∙ length-set s0 (p.variable - 1) p.status

  -- each variable gets the status of the basis, in whatever order
  placed_so : (ps : List Placing) (s0 : List Status) → length s0 ≡ size lp.matrix → AllByRecursion Agrees ps → (k : ℕ) → IsVariable lp.matrix k →
      (status_of s0 k ≡ status_of s k) ⊎ (places ps k ≡ true) → status_of (put s0 ps) k ≡ status_of s k
  placed_so [] s0 counted each k is (inl e) = e
  placed_so [] s0 counted each k is (inr e) = absurd (cc e)
  placed_so (p ∷ ps) s0 counted each k is o =
      placed_so ps (with_status s0 p.variable p.status) (length-set s0 (p.variable - 1) p.status ∙ counted) each.1 k is (by (eqb_tells p.variable k) o)
    where
      by : (((eqb p.variable k ≡ true) × (p.variable ≡ k)) ⊎ ((eqb p.variable k ≡ false) × (p.variable ≢ k)))
          → (status_of s0 k ≡ status_of s k) ⊎ ((nat_eq p.variable k || places ps k) ≡ true)
          → (status_of (with_status s0 p.variable p.status) k ≡ status_of s k) ⊎ (places ps k ≡ true)
      by (inl here) o =
          inl (subst (λ j. status_of (with_status s0 p.variable p.status) j ≡ status_of s j) here.1
          (changed_own lp s basis p.variable p.status s0 counted each.0.is ∙ sym each.0.same))
      by (inr other) (inl e) = inl (changed_other lp s basis p.variable k p.status s0 each.0.is is (λ e. other.1 (sym e)) ∙ e)
      by (inr other) (inr e) = inr (sym (ap (λ b. b || places ps k) other.0) ∙ e)

  pub put_back : put (opening_statuses lp) all_placings ≡ s
  put_back = same_lists (put (opening_statuses lp) all_placings) s (long ∙ sym basis.counted) at
    where
      opening_long : length (opening_statuses lp) ≡ size lp.matrix
      opening_long = (IsBasis-opening lp).counted

      long : length (put (opening_statuses lp) all_placings) ≡ size lp.matrix
      long = length_put all_placings (opening_statuses lp) ∙ opening_long

      at : (k : ℕ) (d : Status) → k < length (put (opening_statuses lp) all_placings) → get_or (put (opening_statuses lp) all_placings) k d ≡ get_or s k d
      at k d below =
          let within : k < size lp.matrix = omega (arith, below, long) in
          let in_s : k < length s = omega (arith, within, basis.counted) in
          let is : IsVariable lp.matrix (k + 1) = (omega arith, omega (arith, within)) in
          let place : k + 1 - 1 ≡ k = omega arith in
          let opens : (status_of (opening_statuses lp) (k + 1) ≡ status_of s (k + 1)) ⊎ (places all_placings (k + 1) ≡ true) =
          opened (k + 1) is (reported (k + 1) is) in
          let same : status_of (put (opening_statuses lp) all_placings) (k + 1) ≡ status_of s (k + 1) =
          placed_so all_placings (opening_statuses lp) opening_long all_agree (k + 1) is opens in
          get_or_default (put (opening_statuses lp) all_placings) k d Bs below
          ∙ ap (λ i. get_or (put (opening_statuses lp) all_placings) i Bs) (sym place) ∙ same ∙ ap (λ i. get_or s i Bs) place
          ∙ sym (get_or_default s k d Bs in_s)
        where
          opened : (k : ℕ) → IsVariable lp.matrix k → (opening_at_of lp k ≡ status_of s k) ⊎ (places all_placings k ≡ true) →
              (status_of (opening_statuses lp) k ≡ status_of s k) ⊎ (places all_placings k ≡ true)
          opened k is (inl e) = inl (status_of-opening lp k is ∙ e)
          opened k is (inr e) = inr e

-- ---- the whole deck

module _ (problem : Problem ℕ) (lp : LinearProgram) (s : List Status) (first : ℕ) (lawful : IsProblem problem) (names : HasNames problem lp)
    (basis : IsBasis lp s) where
  name_bytes : List ℕ
  name_bytes = name_card problem.name

  abbrev head : Card
  head = record { number = first; bytes = name_card problem.name }

  abbrev more : List ℕ
  more = without_trailing is_blank (after_word problem.name)

  abbrev nothing : Bool
  nothing = is_empty (without_trailing is_blank (after_word problem.name))

  head_is : name_card problem.name ≡ name_word nothing more
  head_is = name_card-is problem.name

  head_begun : section_begun (name_card problem.name) ≡ Some Header
  head_begun = ap section_begun head_is ∙ begun_by nothing more

  head_there : is_skipped (name_card problem.name) ≡ false
  head_there = ap is_skipped head_is

  head_section : is_section_card (name_card problem.name) ≡ true
  head_section = ap is_section_card head_is

  -- the first card says nothing, and has no fault
  head_fine : basis_card_fault problem lp [] (name_card problem.name) ≡ None
  unfolding basis_card_fault
  head_fine = ap (basis_card_fault problem lp []) head_is ∙ by nothing more
    where
      by : (b : Bool) (rest : List ℕ) → basis_card_fault problem lp [] (name_word b rest) ≡ None
      by true rest = refl
      by false rest = refl

  head_after : section_after (head ∷ []) ≡ Some Header
  head_after = ap (λ o. last_or None (cons_option o [])) head_begun

  head_placed : placings_of problem (head ∷ []) ≡ []
  head_placed =
      card_placed problem lp [] head []
      (ap (λ b. cond b []
      (unwrap_or (option_map (placings_by problem (reading_of Fixed (name_card problem.name)))
      (named code_words ((reading_of Fixed (name_card problem.name)).kind))) [])) head_section)

  abbrev exchange_texts : List (List ℕ)
  exchange_texts = map (exchange_card problem lp s) (pairs lp s)

  abbrev limit_texts : List (List ℕ)
  limit_texts = map (limit_card problem lp) (raised lp s)

  each_pair : (cs rs : List ℕ) (c r : ℕ) → Ascends (IsBasicColumn lp s) c cs → Ascends (IsNonbasicRow lp s) r rs →
      AllByRecursion (λ pair. Speaks problem lp (exchange_card problem lp s pair) (exchange_placings s pair)) (zip cs rs)
  each_pair [] rs c r hc hr = tt
  each_pair (k ∷ cs) [] c r hc hr = tt
  each_pair (k ∷ cs) (i ∷ rs) c r hc hr =
      (exchange_speaks problem lp lawful names s basis k i hc.0.has.past hc.0.has.is hr.0.has.row hr.0.has.out, each_pair cs rs (suc k) (suc i) hc.1 hr.1)

  each_limit : (ks : List ℕ) (c : ℕ) → Ascends (IsUpColumn lp s) c ks → AllByRecursion (λ k. Speaks problem lp (limit_card problem lp k) (limit_placings k)) ks
  each_limit [] c h = tt
  each_limit (k ∷ ks) c h = (limit_speaks problem lp lawful names s basis k h.0.has.past h.0.has.is h.0.has.up, each_limit ks (suc k) h.1)

  abbrev middle : List Card
  middle = numbered_from (first + 1) (exchange_texts ++ limit_texts)

  middle_accepted : AreAccepted problem lp (head ∷ []) middle (all_placings lp s basis)
  middle_accepted =
      let n = first + 1 in
      let one =
      accepted problem lp (exchange_card problem lp s) (exchange_placings s) (pairs lp s)
      (each_pair (basic_columns lp s) (nonbasic_rows lp s) (lp.rows + 1) 1 (columns_ascend lp s) (rows_ascend lp s)) n (head ∷ []) head_after
      (subst (λ ps. AreFreeInTurn ps (map (exchange_placings s) (pairs lp s))) (sym head_placed) (pairs_free lp s basis)) in
      let before = one.placed ∙ ap (λ ps. ps ++ flat_map (exchange_placings s) (pairs lp s)) head_placed in
      let two =
      accepted problem lp (limit_card problem lp) limit_placings (raised lp s) (each_limit (raised lp s) (lp.rows + 1) (raised_ascend lp s))
      (n + length exchange_texts) ((head ∷ []) ++ numbered_from n exchange_texts) one.after
      (subst (λ ps. AreFreeInTurn ps (map limit_placings (raised lp s))) (sym before) (raised_free lp s basis)) in
      subst (λ cards. AreAccepted problem lp (head ∷ []) cards (all_placings lp s basis)) (sym (numbered_from-append n exchange_texts limit_texts))
      (accepted-then problem lp (head ∷ []) (numbered_from n exchange_texts) (numbered_from (n + length exchange_texts) limit_texts)
      (flat_map (exchange_placings s) (pairs lp s)) (flat_map limit_placings (raised lp s)) one two)

  -- ENDATA, after any cards of the deck
  last_fine : (before : List Card) → section_after before ≡ Some Header → basis_card_fault problem lp before (codes "ENDATA") ≡ None
  unfolding basis_card_fault
  last_fine before header = ap (λ o. section_card_fault (λ earlier section. is_section Header earlier && is_section Endata section) o (codes "ENDATA")) header

  abbrev tail_card : Card
  tail_card = record { number = first + 1 + length (exchange_texts ++ limit_texts); bytes = codes "ENDATA" }

  abbrev whole : List Card
  whole = head ∷ (middle ++ tail_card ∷ [])

  whole_is : numbered_from first (basis_deck problem lp s) ≡ whole
  unfolding basis_deck
  whole_is = ap (λ cards. head ∷ cards) (numbered_from-append (first + 1) (exchange_texts ++ limit_texts) (codes "ENDATA" ∷ []))

  whole_alive : live whole ≡ whole
  whole_alive =
      ap (λ b. cond (not b) (head ∷ live (middle ++ tail_card ∷ [])) (live (middle ++ tail_card ∷ []))) head_there
      ∙ ap (λ cards. head ∷ cards) (live-append middle (tail_card ∷ []) ∙ ap (λ cards. cards ++ tail_card ∷ []) middle_accepted.alive)

  whole_fine : first_faulty (basis_card_fault problem lp) [] whole ≡ None
  whole_fine =
      ap₂ (λ a b. option_or (option_map (λ kind. record { card = first; kind = kind }) a) b) head_fine
      (first_faulty-append (basis_card_fault problem lp) (head ∷ []) middle (tail_card ∷ [])
      ∙ ap₂ (λ a b. option_or a (option_or (option_map (λ kind. record { card = tail_card.number; kind = kind }) b) None)) middle_accepted.fine
      (last_fine ((head ∷ []) ++ middle) middle_accepted.after))

  whole_ends : is_section_after Endata whole ≡ true
  whole_ends = ap (λ o. unwrap_or (option_map (is_section Endata) o) false) (section_after-push ((head ∷ []) ++ middle) tail_card)

  whole_placed : placings_of problem whole ≡ all_placings lp s basis
  whole_placed =
      card_placed problem lp ((head ∷ []) ++ middle) tail_card [] refl ∙ append-nil (placings_of problem ((head ∷ []) ++ middle))
      ∙ middle_accepted.placed ∙ ap (λ ps. ps ++ all_placings lp s basis) head_placed

  whole_reads : basis_reading problem lp whole ≡ Ok s
  unfolding basis_reading stands_for
  whole_reads =
      ap (λ cards. unless (fault_by_cards cards) (put (opening_statuses lp) (placings_of problem cards))) whole_alive
      ∙ ap₂ (λ o list. unless o list) (two (first_faulty (basis_card_fault problem lp) [] whole) (is_section_after Endata whole) whole_fine whole_ends)
      (ap (put (opening_statuses lp)) whole_placed ∙ put_back lp s basis)
    where
      unended : DeckFault
      unended = record { card = last_number whole; kind = NoEndata }

      fault_by_cards : List Card → Option DeckFault
      fault_by_cards cards =
          first_fault (first_faulty (basis_card_fault problem lp) [] cards ∷
          (not (is_section_after Endata cards) ⟹ record { card = last_number whole; kind = NoEndata }) ∷ [])

      two : (o : Option DeckFault) (b : Bool) → o ≡ None → b ≡ true →
          first_fault (o ∷ (not b ⟹ record { card = last_number whole; kind = NoEndata }) ∷ []) ≡ None
      two (Some fault) b eo eb = absurd (cc eo)
      two None true eo eb = refl
      two None false eo eb = absurd (cc eb)

  pub reads : basis_reading problem lp (numbered_from first (basis_deck problem lp s)) ≡ Ok s
  reads = ap (basis_reading problem lp) whole_is ∙ whole_reads

pub gives_back : (problem : Problem ℕ) (lp : LinearProgram) (s : List Status) (first : ℕ) → IsProblem problem → HasNames problem lp → IsBasis lp s →
    basis_reading problem lp (numbered_from first (basis_deck problem lp s)) ≡ Ok s
gives_back problem lp s first lawful names basis = reads problem lp s first lawful names basis
