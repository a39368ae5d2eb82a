-- The cards of a deck, cut where a reader stands.
use Rattle.std.proofs.Common.{◌≡◌, ℕ, zero, suc, ◌+◌, ◌-◌, ◌≤◌, ◌<◌, true, List, [], ◌∷◌, ◌++◌, Some, None, length, map, take, drop, slice_get, get_or, refl}
use Rattle.std.proofs.Common.{ap, sym, subst, ◌∙◌, unwrap_or, arith}
use Rattle.std.specs.List.{list_all, last_or}
use Rattle.std.specs.Option.{option_map}
use Rattle.std.proofs.lemmas.List.{map-append}
use Rattle.std.proofs.lemmas.Option.{slice_get-get_or}
use Rattle.card_definitions.specs.Cards.{Card, numbered_from, numbered_cards, cards_between, is_printable, last_number}
use Rattle.problem_definitions.proofs.Each.{each-push}
use Rattle.deck_definitions.specs.Readings.{ArePrintableCards}
use Rattle.deck_definitions.proofs.Steps.{last_or-push}

-- the card of a number
pub numbered_at : (start i : ℕ) (cards : List (List ℕ)) (card : List ℕ) → slice_get cards i ≡ Some card →
    slice_get (numbered_from start cards) i ≡ Some (record { number = start + i; bytes = card })
numbered_at start i [] card at = absurd (cc at)
numbered_at start zero (c ∷ cards) card at =
    let n : start + 0 ≡ start = omega arith in rw n (ap (option_map (λ (bytes : List ℕ). record { number = start; bytes = bytes })) at)
numbered_at start (suc i) (c ∷ cards) card at = let n : start + suc i ≡ start + 1 + i = omega arith in rw n (numbered_at (start + 1) i cards card at)

module _ {X : Type 0} where
  -- one more element of a part
  part_more : (k i : ℕ) (xs : List X) (x : X) → slice_get xs (k + i) ≡ Some x → take (i + 1) (drop k xs) ≡ take i (drop k xs) ++ x ∷ []
  part_more k i [] x at = absurd (cc at)
  part_more zero zero (y ∷ xs) x at = ap (λ z. z ∷ []) (cc at)
  part_more zero (suc i) (y ∷ xs) x at =
      let inner : 0 + suc i ≡ suc (0 + i) = omega arith in
      let count : suc i + 1 ≡ suc (i + 1) = omega arith in
      rw count (ap (λ zs. y ∷ zs) (part_more zero i xs x (rw inner at at)))
  part_more (suc k) i (y ∷ xs) x at =
      let inner : suc k + i ≡ suc (k + i) = omega arith in
      part_more k i xs x (rw inner at at)

  none_taken : (n : ℕ) (xs : List X) → xs ≡ [] → take n xs ≡ []
  none_taken zero [] e = refl
  none_taken (suc n) [] e = refl
  none_taken n (x ∷ xs) e = absurd (cc e)

  -- a part up to a number, and what is left of a longer part
  part_split : (i n : ℕ) (ys : List X) → i ≤ n → take n ys ≡ take i ys ++ take (n - i) (drop i ys)
  part_split zero n ys below = let e : n - 0 ≡ n = omega arith in rw e refl
  part_split (suc i) n [] below = none_taken n [] refl ∙ sym (none_taken (n - suc i) [] refl)
  part_split (suc i) zero (y ∷ ys) below = absurd (omega arith)
  part_split (suc i) (suc n) (y ∷ ys) below =
      let e : suc n - suc i ≡ n - i = omega arith in
      let inner : i ≤ n = omega arith in
      rw e (ap (λ zs. y ∷ zs) (part_split i n ys inner))

-- the cards from the first up to a number, that one left out
abbrev pub cards_up_to : ℕ → ℕ → List (List ℕ) → List Card
cards_up_to first number cards = take (number - first) (drop (first - 1) (numbered_cards cards))

pub cards_more : (first number : ℕ) (cards : List (List ℕ)) (card : List ℕ) → 1 ≤ first → first ≤ number → slice_get cards (number - 1) ≡ Some card
    → cards_up_to first (number + 1) cards ≡ cards_up_to first number cards ++ record { number = number; bytes = card } ∷ []
cards_more first number cards card from_one from at =
    let count : number + 1 - first ≡ number - first + 1 = omega arith in
    let place : number - 1 ≡ (first - 1) + (number - first) = omega arith in
    let own : 1 + (number - 1) ≡ number = omega arith in
    let found : slice_get (numbered_cards cards) ((first - 1) + (number - first)) ≡ Some (record { number = number; bytes = card })
    = ap (λ k. slice_get (numbered_cards cards) k) (sym place) ∙ numbered_at 1 (number - 1) cards card at
    ∙ ap (λ (n : ℕ). Some (record { number = n; bytes = card })) own in
    rw count (part_more (first - 1) (number - first) (numbered_cards cards) (record { number = number; bytes = card }) found)

pub cards_split : (first number last : ℕ) (cards : List (List ℕ)) → number ≤ last → first ≤ number
    → cards_between first last cards ≡ cards_up_to first (number + 1) cards ++ take (last + 1 - first - (number + 1 - first))
    (drop (number + 1 - first) (drop (first - 1) (numbered_cards cards)))
cards_split first number last cards below from =
    let fits : number + 1 - first ≤ last + 1 - first = omega arith in
    part_split (number + 1 - first) (last + 1 - first) (drop (first - 1) (numbered_cards cards)) fits

-- at first no card is seen
pub nothing_yet : (first : ℕ) (cards : List (List ℕ)) → cards_up_to first first cards ≡ []
nothing_yet first cards = let none : first - first ≡ 0 = omega arith in rw none refl

-- one more printable card
pub next_printable : (first number : ℕ) (cards : List (List ℕ)) (card : List ℕ) → 1 ≤ first → first ≤ number → slice_get cards (number - 1) ≡ Some card
    → ArePrintableCards (cards_up_to first number cards) → list_all is_printable card ≡ true → ArePrintableCards (cards_up_to first (number + 1) cards)
next_printable first number cards card from_one from at printable also =
    subst ArePrintableCards (sym (cards_more first number cards card from_one from at))
    (each-push (λ (c : Card). list_all is_printable c.bytes ≡ true) (cards_up_to first number cards) (record { number = number; bytes = card }) printable also)

-- the last card
pub last_is : (first last : ℕ) (cards : List (List ℕ)) → 1 ≤ first → first ≤ last → last ≤ length cards → last_number (cards_between first last cards) ≡ last
last_is first last cards from_one from within =
    let inside : last - 1 < length cards = omega arith in
    let card = get_or cards (last - 1) [] in
    let more = cards_more first last cards card from_one from (slice_get-get_or cards (last - 1) [] inside) in
    ap last_number more
    ∙ ap (λ numbers. unwrap_or (last_or None numbers) 0)
    (map-append (λ (c : Card). c.number) (cards_up_to first last cards) (record { number = last; bytes = card } ∷ []))
    ∙ ap (λ o. unwrap_or o 0) (last_or-push None (map (λ (c : Card). c.number) (cards_up_to first last cards)) (Some last))
