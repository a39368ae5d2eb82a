-- The words of a card, one after another.
use Rattle.std.proofs.Common.{◌≡◌, ◌≢◌, ℕ, zero, suc, ◌+◌, ◌-◌, ◌<◌, ◌≤◌, ◌⊎◌, inl, inr, Bool, true, false, List, [], ◌∷◌, ◌++◌, Some, length, take, drop, set}
use Rattle.std.proofs.Common.{get_or, slice_get, unwrap_or, nat_lt, nat_eq, if◌then◌else◌, refl, ap, ap₂, sym, ◌∙◌, subst, arith, append_assoc, lt-ltb}
use Rattle.std.proofs.Common.{get_or-set_same, get_or-set_other, length-set}
use Rattle.std.specs.List.{slice_split, position_or_len}
use Rattle.std.proofs.lemmas.Bool.Decides.{eqb_tells}
use Rattle.std.proofs.lemmas.List.{append-nil, take_all, length-take, length-append, length-drop}
use Rattle.std.proofs.lemmas.List.Splits.{slice_split_first, slice_split_none}
use Rattle.std.proofs.lemmas.List.Sums.{fails_before_first}
use Rattle.std.proofs.Math.ListN.{drop_of_length-le}
use Rattle.card_definitions.specs.Cards.{is_blank}
use Rattle.card_definitions.specs.Fields.{Word as Read, word_if_any, words_from, words}
use Rattle.deck_fields.specs.declared.card_words.Word.{Word}
use Rattle.deck_fields.specs.declared.card_words.Words.{Words}
use Rattle.deck_fields.specs.WordsViewed.{word_view, absent, IsColumn, AreWordsBefore}

-- ---- parts between blanks

none_from : (rest : List ℕ) → position_or_len is_blank rest ≡ length rest → slice_split is_blank rest ≡ rest ∷ []
none_from rest whole = slice_split_none is_blank rest (λ k d below. fails_before_first is_blank rest k d (omega (arith, below, whole)))

-- the word of the next part, and the words after it
next_part : (column : ℕ) (rest : List ℕ) → position_or_len is_blank rest ≤ length rest
    → words_from column (slice_split is_blank rest)
    ≡ word_if_any column (take (position_or_len is_blank rest) rest) ++ words_from (column + position_or_len is_blank rest + 1)
    (slice_split is_blank (drop (position_or_len is_blank rest + 1) rest))
next_part column rest bound = by (eqb_tells (position_or_len is_blank rest) (length rest))
  where
    by : ((nat_eq (position_or_len is_blank rest) (length rest) ≡ true) × (position_or_len is_blank rest ≡ length rest)) ⊎
        ((nat_eq (position_or_len is_blank rest) (length rest) ≡ false) × (position_or_len is_blank rest ≢ length rest))
        → words_from column (slice_split is_blank rest)
        ≡ word_if_any column (take (position_or_len is_blank rest) rest) ++ words_from (column + position_or_len is_blank rest + 1)
        (slice_split is_blank (drop (position_or_len is_blank rest + 1) rest))
    by (inr differ) =
        let less : position_or_len is_blank rest < length rest = omega (arith, bound, differ.1) in
        let long : length (take (position_or_len is_blank rest) rest) ≡ position_or_len is_blank rest =
        omega (arith, length-take (position_or_len is_blank rest) rest, bound) in
        ap (words_from column) (slice_split_first is_blank rest 0 less)
        ∙ ap (λ n. word_if_any column (take (position_or_len is_blank rest) rest) ++ words_from (column + n + 1)
        (slice_split is_blank (drop (position_or_len is_blank rest + 1) rest))) long
    by (inl whole) =
        let over : length rest ≤ position_or_len is_blank rest + 1 = omega (arith, whole.1) in
        let same : take (position_or_len is_blank rest) rest ≡ rest = take_all (position_or_len is_blank rest) rest (omega (arith, whole.1)) in
        ap (words_from column) (none_from rest whole.1)
        ∙ ap (λ part. word_if_any column part ++ []) (sym same)
        ∙ ap (λ left. word_if_any column (take (position_or_len is_blank rest) rest) ++ words_from (column + position_or_len is_blank rest + 1)
        (slice_split is_blank left)) (sym (drop_of_length-le rest over))

drop_twice : (n k : ℕ) (xs : List ℕ) → drop n (drop k xs) ≡ drop (n + k) xs
drop_twice n zero xs = let e : n + 0 ≡ n = omega arith in rw e refl
drop_twice n (suc k) [] = drop_of_length-le [] (omega arith) ∙ sym (drop_of_length-le [] (omega arith))
drop_twice n (suc k) (x ∷ xs) = let e : n + suc k ≡ suc (n + k) = omega arith in rw e (drop_twice n k xs)

-- the words from a place on: that of the part there, of so many bytes, and those after it
next_words : (start : ℕ) (card rest : List ℕ) (len : ℕ) → rest ≡ drop start card → len ≡ position_or_len is_blank rest → len ≤ length rest
    → words_from (start + 1) (slice_split is_blank (drop start card)) ≡ word_if_any (start + 1) (take len rest) ++ words_from (start + len + 1 + 1)
    (slice_split is_blank (drop (start + len + 1) card))
next_words start card rest len is_rest is_len bound =
    let column : start + 1 + len + 1 ≡ start + len + 1 + 1 = omega arith in
    let order : len + 1 + start ≡ start + len + 1 = omega arith in
    let later : drop (len + 1) rest ≡ drop (start + len + 1) card =
    ap (drop (len + 1)) is_rest ∙ drop_twice (len + 1) start card ∙ ap (λ n. drop n card) order in
    ap (λ xs. words_from (start + 1) (slice_split is_blank xs)) (sym is_rest)
    ∙ subst (λ n. words_from (start + 1) (slice_split is_blank rest) ≡ word_if_any (start + 1) (take n rest) ++ words_from (start + 1 + n + 1)
    (slice_split is_blank (drop (n + 1) rest))) (sym is_len)
    (next_part (start + 1) rest (subst (λ n. n ≤ length rest) is_len bound))
    ∙ ap₂ (λ n xs. word_if_any (start + 1) (take len rest) ++ words_from n (slice_split is_blank xs)) column later

-- what is left of a card, as a slice shows it
pub rest_is : (start : ℕ) (card : List ℕ) → take (length card - start) (drop start card) ≡ drop start card
rest_is start card = take_all (length card - start) (drop start card) (omega (arith, length-drop start card))

-- ---- one more word

module _ {X : Type 0} where
  take-push : (before : List X) (x : X) (later : List X) → take (length before + 1) (before ++ x ∷ later) ≡ before ++ x ∷ []
  take-push [] x later = refl
  take-push (y ∷ before) x later =
      let n : suc (length before) + 1 ≡ suc (length before + 1) = omega arith in rw n (ap (λ more. y ∷ more) (take-push before x later))

  at-next : (xs : List X) (x : X) → slice_get (xs ++ x ∷ []) (length xs) ≡ Some x
  at-next [] x = refl
  at-next (y ∷ xs) x = at-next xs x

  get-next : (xs : List X) (x : X) (k : ℕ) → k ≡ length xs → slice_get (xs ++ x ∷ []) k ≡ Some x
  get-next xs x k is = rw is (at-next xs x)

  get-other : (xs : List X) (x : X) (k : ℕ) → k ≢ length xs → slice_get (xs ++ x ∷ []) k ≡ slice_get xs k
  get-other [] x zero differ = absurd (differ refl)
  get-other [] x (suc k) differ = refl
  get-other (y ∷ xs) x zero differ = refl
  get-other (y ∷ xs) x (suc k) differ = get-other xs x k (λ is. differ (ap suc is))

module _ (all : List Word) (count k : ℕ) (d word : Word) (seven : length all ≡ 7) (below : k < 7) where
  -- the word at a place after one more is noted where there is room
  noted : nat_lt count 7 ≡ true → k ≡ count → get_or (if nat_lt count 7 then set all count word else all) k d ≡ word
  noted room same = rw room (rw same (get_or-set_same all count word d (omega (arith, seven, below, same))))

  kept : k ≢ count → (b : Bool) → get_or (if b then set all count word else all) k d ≡ get_or all k d
  kept differ true = get_or-set_other all count k word d differ
  kept differ false = refl

  each-pushed : (before : List Read) → length before ≡ count → word_view (get_or all k d) ≡ unwrap_or (slice_get before k) absent
      → word_view (get_or (if nat_lt count 7 then set all count word else all) k d) ≡ unwrap_or (slice_get (before ++ word_view word ∷ []) k) absent
  each-pushed before long old = by (eqb_tells k count)
    where
      by : ((nat_eq k count ≡ true) × (k ≡ count)) ⊎ ((nat_eq k count ≡ false) × (k ≢ count))
          → word_view (get_or (if nat_lt count 7 then set all count word else all) k d) ≡ unwrap_or (slice_get (before ++ word_view word ∷ []) k) absent
      by (inl same) = ap word_view (noted (lt-ltb count 7 (omega (arith, below, same.1))) same.1)
          ∙ ap (λ o. unwrap_or o absent) (sym (get-next before (word_view word) k (same.1 ∙ sym long)))
      by (inr differ) = ap word_view (kept differ.1 (nat_lt count 7)) ∙ old
          ∙ ap (λ o. unwrap_or o absent) (sym (get-other before (word_view word) k (λ is. differ.1 (is ∙ long))))

  columns-pushed : IsColumn word.column → (k < count → IsColumn (get_or all k d).column) → k < count + 1 →
      IsColumn (get_or (if nat_lt count 7 then set all count word else all) k d).column
  columns-pushed new old there = by (eqb_tells k count)
    where
      by : ((nat_eq k count ≡ true) × (k ≡ count)) ⊎ ((nat_eq k count ≡ false) × (k ≢ count)) →
          IsColumn (get_or (if nat_lt count 7 then set all count word else all) k d).column
      by (inl same) = subst (λ (w : Word). IsColumn w.column) (sym (noted (lt-ltb count 7 (omega (arith, below, same.1))) same.1)) new
      by (inr differ) = subst (λ (w : Word). IsColumn w.column) (sym (kept differ.1 (nat_lt count 7))) (old (omega (arith, there, differ.1)))

one-word : (column : ℕ) (xs : List ℕ) → 0 < length xs → word_if_any column xs ≡ record { column = column; text = xs } ∷ []
one-word column [] some = absurd (omega (arith, some))
one-word column (x ∷ xs) some = refl

-- ---- the words before a place

-- no word begins at a blank
pub before-blank : (found : Words) (card rest : List ℕ) (start len : ℕ) → rest ≡ drop start card → len ≡ position_or_len is_blank rest → len ≤ length rest
    → len ≤ 0
    → AreWordsBefore found card start → AreWordsBefore found card (start + len + 1)
before-blank found card rest start len is_rest is_len bound none before =
    let nothing : len ≡ 0 = omega (arith, none) in
    record {
      split = before.split ∙ ap (λ more. take found.count (words card) ++ more)
          (next_words start card rest len is_rest is_len bound
          ∙ ap (λ n. word_if_any (start + 1) (take n rest) ++ words_from (start + len + 1 + 1)
          (slice_split is_blank (drop (start + len + 1) card))) nothing);
      few = omega (arith, before.few);
      counted = before.counted;
      seven = before.seven;
      each = before.each;
      columns = before.columns;
    }

-- the part at a place is one more word
pub before-word : (found new : Words) (card rest : List ℕ) (start len : ℕ) (word : Word) → rest ≡ drop start card → len ≡ position_or_len is_blank rest
    → len ≤ length rest → 0 < len → start < 80
    → word.column ≡ start + 1 → word.text.now ≡ take len rest → new.count ≡ found.count + 1
    → new.words ≡ (if nat_lt found.count 7 then set found.words found.count word else found.words)
    → AreWordsBefore found card start → AreWordsBefore new card (start + len + 1)
before-word found new card rest start len word is_rest is_len bound some inside column text count items front = record {
  split = whole ∙ sym (append_assoc before (word_view word ∷ []) later) ∙ ap (λ more. more ++ later) (sym taken);
  few = omega (arith, front.few, count);
  counted = omega (arith, counted, count, ap length whole, length-append before (word_view word ∷ later));
  seven = ap length items ∙ long (nat_lt found.count 7);
  each = λ k d below. ap (λ all. word_view (get_or all k d)) items
      ∙ each-pushed found.words found.count k d word front.seven below before counted (front.each k d below)
      ∙ ap (λ list. unwrap_or (slice_get list k) absent) (sym taken);
  columns = λ k d below there. subst (λ (all : List Word). IsColumn (get_or all k d).column) (sym items)
      (columns-pushed found.words found.count k d word front.seven below (omega (arith, column), omega (arith, column, inside)) (front.columns k d below)
      (omega (arith, there, count)));
}
  where
    before : List Read
    before = take found.count (words card)

    later : List Read
    later = words_from (start + len + 1 + 1) (slice_split is_blank (drop (start + len + 1) card))

    is_word : word_if_any (start + 1) (take len rest) ≡ word_view word ∷ []
    is_word = one-word (start + 1) (take len rest) (omega (arith, length-take len rest, bound, some))
        ∙ ap₂ (λ n (xs : List ℕ). record { column = n; text = xs } ∷ []) (sym column) (sym text)

    whole : words card ≡ before ++ word_view word ∷ later
    whole = front.split ∙ ap (λ more. before ++ more) (next_words start card rest len is_rest is_len bound ∙ ap (λ list. list ++ later) is_word)

    counted : length before ≡ found.count
    counted = omega (arith, length-take found.count (words card), ap length whole, length-append before (word_view word ∷ later))

    taken : take new.count (words card) ≡ before ++ word_view word ∷ []
    taken = let n : new.count ≡ length before + 1 = omega (arith, count, counted) in
        ap (λ m. take m (words card)) n ∙ ap (take (length before + 1)) whole ∙ take-push before (word_view word) later

    long : (b : Bool) → length (if b then set found.words found.count word else found.words) ≡ 7
    long true = length-set found.words found.count word ∙ front.seven
    long false = front.seven

-- at first there is none
pub before-all : (found : Words) (card : List ℕ) (w : Word) → found.count ≡ 0 → found.words ≡ w ∷ w ∷ w ∷ w ∷ w ∷ w ∷ w ∷ [] → word_view w ≡ absent →
    AreWordsBefore found card 0
unfolding words
before-all found card w none items blank = record {
  split = ap (λ n. take n (words card) ++ words_from 1 (slice_split is_blank card)) (sym none);
  few = omega (arith, none);
  counted = omega (arith, none);
  seven = ap length items;
  each =
      λ k d below. ap (λ all. word_view (get_or all k d)) items ∙ ap word_view (seven-times k d below) ∙ blank
      ∙ ap (λ n. unwrap_or (slice_get (take n (words card)) k) absent) (sym none);
  columns = λ k d below there. absurd (omega (arith, there, none));
}
  where
    seven-times : (k : ℕ) (d : Word) → k < 7 → get_or (w ∷ w ∷ w ∷ w ∷ w ∷ w ∷ w ∷ []) k d ≡ w
    seven-times zero d below = refl
    seven-times (suc zero) d below = refl
    seven-times (suc (suc zero)) d below = refl
    seven-times (suc (suc (suc zero))) d below = refl
    seven-times (suc (suc (suc (suc zero)))) d below = refl
    seven-times (suc (suc (suc (suc (suc zero))))) d below = refl
    seven-times (suc (suc (suc (suc (suc (suc zero)))))) d below = refl
    seven-times (suc (suc (suc (suc (suc (suc (suc k))))))) d below = absurd (omega (arith, below))

-- where no word can begin any more, all are there
pub before-end : (found : Words) (card : List ℕ) (start : ℕ) → length card ≤ start → AreWordsBefore found card start →
    take found.count (words card) ≡ words card
before-end found card start past before =
    sym (append-nil (take found.count (words card)))
    ∙ ap (λ rest. take found.count (words card) ++ words_from (start + 1) (slice_split is_blank rest)) (sym (drop_of_length-le card past))
    ∙ sym before.split
