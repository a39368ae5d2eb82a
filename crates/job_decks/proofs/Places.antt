-- The numbered cards from a place on, and the deck that stands there.
use Rattle.std.proofs.Common.{◌≡◌, ℕ, zero, suc, ◌+◌, ◌-◌, ◌<◌, ◌≤◌, Bool, true, false, cond, not, min, List, [], ◌∷◌, Option, Some, None, take, drop}
use Rattle.std.proofs.Common.{slice_get, length, refl, ap, sym, subst, ◌∙◌, arith, ◌⊎◌, inl, inr}
use Rattle.std.specs.Str.{bytes_eq}
use Rattle.std.specs.List.{position_or_len, prefix_len}
use Rattle.std.proofs.lemmas.List.{length-drop, drop-drop}
use Rattle.std.proofs.Math.ListN.{drop_of_length-le}
use Rattle.std.proofs.lemmas.Bool.{cases_lt}
use Rattle.card_definitions.specs.Cards.{Card, is_skipped, numbered_from, numbered_cards, cards_between}
use Rattle.deck_definitions.specs.declared.Section.TheVariants.{Header, Endata}
use Rattle.deck_definitions.specs.Sections.{begins, header_name}
use Rattle.deck_definitions.specs.Decks.{decks_of, is_wanted, deck_taken, first_and_rest}
use Rattle.problem_definitions.specs.Names.{Name}
use Rattle.job_decks.specs.Positions.{cards_from, IsLiveAt}
use Rattle.job_decks.proofs.Cuts.{decks_after_skipped, no_decks, first_deck}

pub length-numbered : (number : ℕ) (cards : List (List ℕ)) → length (numbered_from number cards) ≡ length cards
length-numbered number [] = refl
length-numbered number (card ∷ cards) = ap (λ n. suc n) (length-numbered (number + 1) cards)

numbered_at : (start i : ℕ) (cards : List (List ℕ)) (card : List ℕ) → slice_get cards i ≡ Some card
    → drop i (numbered_from start cards) ≡ record { number = start + i; bytes = card } ∷ drop (suc i) (numbered_from start cards)
numbered_at start i [] card at = absurd (cc at)
numbered_at start zero (c ∷ cards) card at =
    let n : start + 0 ≡ start = omega arith in
    let same : c ≡ card = cc at in
    rw (n, same) refl
numbered_at start (suc i) (c ∷ cards) card at = let n : start + suc i ≡ start + 1 + i = omega arith in rw n (numbered_at (start + 1) i cards card at)

-- the card with a number stands in front of those after it
pub card_at : (number : ℕ) (cards : List (List ℕ)) (card : List ℕ) → 1 ≤ number → slice_get cards (number - 1) ≡ Some card
    → cards_from number cards ≡ record { number = number; bytes = card } ∷ cards_from (number + 1) cards
card_at number cards card from_one at =
    let own : 1 + (number - 1) ≡ number = omega arith in
    let next : suc (number - 1) ≡ number + 1 - 1 = omega arith in
    numbered_at 1 (number - 1) cards card at ∙ ap (λ (n : ℕ). record { number = n; bytes = card } ∷ drop (suc (number - 1)) (numbered_cards cards)) own
    ∙ ap (λ n. record { number = number; bytes = card } ∷ drop n (numbered_cards cards)) next

-- there is none after the last
pub none_from : (number : ℕ) (cards : List (List ℕ)) → length cards < number → cards_from number cards ≡ []
none_from number cards past =
    let beyond : length (numbered_cards cards) ≤ number - 1 = omega (arith, length-numbered 1 cards) in drop_of_length-le (numbered_cards cards) beyond

-- a card is skipped
pub skip_card : (number : ℕ) (cards : List (List ℕ)) (card : List ℕ) → 1 ≤ number → slice_get cards (number - 1) ≡ Some card → is_skipped card ≡ true
    → decks_of (cards_from number cards) ≡ decks_of (cards_from (number + 1) cards)
skip_card number cards card from_one at skipped =
    ap decks_of (card_at number cards card from_one at) ∙ decks_after_skipped (record { number = number; bytes = card }) (cards_from (number + 1) cards) skipped

pub no_deck : (number : ℕ) (cards : List (List ℕ)) → length cards < number → decks_of (cards_from number cards) ≡ []
no_deck number cards past = ap decks_of (none_from number cards past) ∙ no_decks

-- the card that is there isn't skipped
pub live_at : (number : ℕ) (cards : List (List ℕ)) (card : List ℕ) → slice_get cards (number - 1) ≡ Some card → is_skipped card ≡ false → IsLiveAt number cards
live_at number cards card at live other at_other = let same : other ≡ card = cc in rw same live

-- how far the first card that passes is from a place, before a card that doesn't pass, and at one that does
pub one_further : (p : Card → Bool) (number : ℕ) (cards : List (List ℕ)) (card : List ℕ) → 1 ≤ number → slice_get cards (number - 1) ≡ Some card
    → p (record { number = number; bytes = card }) ≡ false → position_or_len p (cards_from number cards) ≡ 1 + position_or_len p (cards_from (number + 1) cards)
one_further p number cards card from_one at fails =
    ap (position_or_len p) (card_at number cards card from_one at) ∙ ap (λ b. cond (not b) (1 + position_or_len p (cards_from (number + 1) cards)) 0) fails

pub just_here : (p : Card → Bool) (number : ℕ) (cards : List (List ℕ)) (card : List ℕ) → 1 ≤ number → slice_get cards (number - 1) ≡ Some card
    → p (record { number = number; bytes = card }) ≡ true → position_or_len p (cards_from number cards) ≡ 0
just_here p number cards card from_one at passes =
    ap (position_or_len p) (card_at number cards card from_one at) ∙ ap (λ b. cond (not b) (1 + position_or_len p (cards_from (number + 1) cards)) 0) passes

module _ {X : Type 0} where
  -- a place within a list has an element
  element : (i : ℕ) (xs : List X) → i < length xs → (x : X) × (slice_get xs i ≡ Some x)
  element i [] below = absurd (omega arith)
  element zero (x ∷ xs) below = (x, refl)
  element (suc i) (x ∷ xs) below = let inner : i < length xs = omega arith in element i xs inner

  all_taken : (n : ℕ) (xs : List X) → length xs ≤ n → take n xs ≡ xs
  all_taken zero [] few = refl
  all_taken (suc n) [] few = refl
  all_taken zero (x ∷ xs) few = absurd (omega arith)
  all_taken (suc n) (x ∷ xs) few = let inner : length xs ≤ n = omega arith in ap (λ ys. x ∷ ys) (all_taken n xs inner)

-- how far the first ENDATA card is from a place
abbrev to_end : ℕ → List (List ℕ) → ℕ
to_end first cards = position_or_len (begins Endata) (cards_from first cards)

-- A card that isn't skipped is the first of a deck.
cut_here : (first : ℕ) (cards : List (List ℕ)) → 1 ≤ first → first ≤ length cards → IsLiveAt first cards
    → decks_of (cards_from first cards) ≡ take (to_end first cards + 1) (cards_from first cards) ∷ decks_of
    (drop (to_end first cards + 1) (cards_from first cards))
cut_here first cards from_one within live =
    let inside : first - 1 < length cards = omega arith in
    let here = element (first - 1) cards inside in
    let is = card_at first cards here.0 from_one here.1 in
    subst (λ (xs : List Card). decks_of xs ≡ take (position_or_len (begins Endata) xs + 1) xs ∷ decks_of (drop (position_or_len (begins Endata) xs + 1) xs))
    (sym is)
    (first_deck (record { number = first; bytes = here.0 }) (cards_from (first + 1) cards) (live here.0 here.1))

-- It goes to the first ENDATA card or to the last card.
pub deck_at : (first last : ℕ) (cards : List (List ℕ)) → 1 ≤ first → first ≤ length cards → IsLiveAt first cards
    → last ≡ min (first + position_or_len (begins Endata) (cards_from first cards)) (length cards)
    → decks_of (cards_from first cards) ≡ cards_between first last cards ∷ decks_of (drop last (numbered_cards cards))
deck_at first last cards from_one within live is = cut_here first cards from_one within live ∙ by (cases_lt (length cards) (first + to_end first cards))
  where
    count : length (cards_from first cards) ≡ length cards - (first - 1)
    count = length-drop (first - 1) (numbered_cards cards) ∙ ap (λ n. n - (first - 1)) (length-numbered 1 cards)

    by : (length cards < first + to_end first cards) ⊎ (first + to_end first cards ≤ length cards)
        → take (to_end first cards + 1) (cards_from first cards) ∷ decks_of
        (drop (to_end first cards + 1) (cards_from first cards)) ≡ cards_between first last cards ∷ decks_of (drop last (numbered_cards cards))
    by (inl past) =
        let xs = cards_from first cards in
        let long : length xs ≤ to_end first cards + 1 = omega (arith, count) in
        let whole : length xs ≤ last + 1 - first = omega (arith, count) in
        let none : length (numbered_cards cards) ≤ last = omega (arith, length-numbered 1 cards) in
        ap (λ part. part ∷ decks_of (drop (to_end first cards + 1) xs))
        (all_taken (to_end first cards + 1) xs long ∙ sym (all_taken (last + 1 - first) xs whole))
        ∙ ap (λ rest. cards_between first last cards ∷ decks_of rest) (drop_of_length-le xs long ∙ sym (drop_of_length-le (numbered_cards cards) none))
    by (inr inside) =
        let size : to_end first cards + 1 ≡ last + 1 - first = omega arith in
        let place : first - 1 + (to_end first cards + 1) ≡ last = omega arith in
        ap (λ part. part ∷ decks_of (drop (to_end first cards + 1) (cards_from first cards))) (ap (λ n. take n (cards_from first cards)) size)
        ∙ ap (λ rest. cards_between first last cards ∷ decks_of rest)
        (drop-drop (to_end first cards + 1) (first - 1) (numbered_cards cards) ∙ ap (λ n. drop n (numbered_cards cards)) place)

-- The first deck is taken if it is wanted, and else it is gone.
pub take_first : (name : Option Name) (deck : List Card) (decks : List (List Card)) → is_wanted name deck ≡ true →
    deck_taken name (deck ∷ decks) ≡ Some (deck, decks)
unfolding deck_taken
take_first name deck decks wanted = rw wanted refl

pub pass_first : (name : Option Name) (deck : List Card) (decks : List (List Card)) → is_wanted name deck ≡ false →
    deck_taken name (deck ∷ decks) ≡ deck_taken name decks
unfolding deck_taken
pass_first name deck decks unwanted =
    let n = prefix_len (λ (other : List Card). not (is_wanted name other)) decks in
    let next : 1 + n ≡ suc n = omega arith in
    ap (λ b. first_and_rest (drop (cond (not b) (1 + n) 0) (deck ∷ decks))) unwanted ∙ ap (λ k. first_and_rest (drop k (deck ∷ decks))) next

pub none_taken : (name : Option Name) → deck_taken name [] ≡ None
unfolding deck_taken
none_taken name = refl

-- a deck begins with its first card
pub first_of_deck : (first last : ℕ) (cards : List (List ℕ)) (card : List ℕ) → 1 ≤ first → first ≤ last → slice_get cards (first - 1) ≡ Some card
    → cards_between first last cards ≡ record { number = first; bytes = card } ∷ take (last - first) (cards_from (first + 1) cards)
first_of_deck first last cards card from_one ordered at =
    let size : last + 1 - first ≡ suc (last - first) = omega arith in
    ap (λ n. take n (cards_from first cards)) size ∙ ap (take (suc (last - first))) (card_at first cards card from_one at)

module _ (number : ℕ) (card : List ℕ) (cards : List Card) (name : Name) where
  -- a deck whose first card is a NAME card has the name there
  pub named_first : (b : Bool) → begins Header (record { number = number; bytes = card }) ≡ true → b ≡ bytes_eq name (header_name card)
      → b ≡ is_wanted (Some name) (record { number = number; bytes = card } ∷ cards)
  named_first b header is = rw header is

  -- another has none
  pub unnamed_first : (b : Bool) → begins Header (record { number = number; bytes = card }) ≡ false → b ≡ false
      → b ≡ is_wanted (Some name) (record { number = number; bytes = card } ∷ cards)
  unnamed_first b other is = rw other is
