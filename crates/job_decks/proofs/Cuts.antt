-- The decks of cards after skipped cards, and of cards that begin with one that isn't skipped.
use Rattle.std.proofs.Common.{◌≡◌, ℕ, suc, ◌+◌, Bool, true, false, cond, not, List, [], ◌∷◌, take, drop, map, filter, refl, ap, sym, subst, ◌∙◌, arith}
use Rattle.std.specs.List.{onto_first, position_or_len, prefix_len}
use Rattle.std.proofs.lemmas.Bool.{eqb-true}
use Rattle.card_definitions.specs.Words.{without_leading, is_empty}
use Rattle.card_definitions.specs.Cards.{Card, is_skipped}
use Rattle.deck_definitions.specs.declared.Section.TheVariants.{Endata}
use Rattle.deck_definitions.specs.Sections.{begins}
use Rattle.deck_definitions.specs.Decks.{parts_ended_by, decks_of}

module _ {X : Type 0} (p : X → Bool) where
  -- one more element at the front of the first part
  onto_part : (x : X) (n : ℕ) (xs : List X) → parts_ended_by p xs ≡ take (n + 1) xs ∷ parts_ended_by p (drop (n + 1) xs)
      → onto_first x (parts_ended_by p xs) ≡ take (1 + n + 1) (x ∷ xs) ∷ parts_ended_by p (drop (1 + n + 1) (x ∷ xs))
  onto_part x n xs e = let next : 1 + n + 1 ≡ suc (n + 1) = omega arith in rw (e, next) refl

  -- The first part ends with the first element that passes, or with the last element.
  pub first_part : (x : X) (xs : List X) →
      parts_ended_by p (x ∷ xs) ≡ take (position_or_len p (x ∷ xs) + 1) (x ∷ xs) ∷ parts_ended_by p (drop (position_or_len p (x ∷ xs) + 1) (x ∷ xs))
  first_part x [] = by (p x)
    where
      by : (b : Bool) →
          cond b ((x ∷ []) ∷ []) ((x ∷ []) ∷ []) ≡ take (cond (not b) (1 + 0) 0 + 1) (x ∷ []) ∷ parts_ended_by p (drop (cond (not b) (1 + 0) 0 + 1) (x ∷ []))
      by true = refl
      by false = refl
  first_part x (y ∷ xs) = by (p x) (first_part y xs)
    where
      by : (b : Bool)
          → parts_ended_by p (y ∷ xs) ≡ take (position_or_len p (y ∷ xs) + 1) (y ∷ xs) ∷ parts_ended_by p (drop (position_or_len p (y ∷ xs) + 1) (y ∷ xs))
          → cond b ((x ∷ []) ∷ parts_ended_by p (y ∷ xs)) (onto_first x (parts_ended_by p (y ∷ xs)))
          ≡ take (cond (not b) (1 + position_or_len p (y ∷ xs)) 0 + 1) (x ∷ y ∷ xs) ∷ parts_ended_by p
          (drop (cond (not b) (1 + position_or_len p (y ∷ xs)) 0 + 1) (x ∷ y ∷ xs))
      by true e = refl
      by false e = onto_part x (position_or_len p (y ∷ xs)) (y ∷ xs) e

-- the cards of a part from the first that isn't skipped, and whether there is one
abbrev cut : List Card → List Card
cut = without_leading (λ card. is_skipped card.bytes)

abbrev some : List Card → Bool
some deck = not (is_empty deck)

-- a skipped card is no ENDATA card
no_end : (number : ℕ) (bytes : List ℕ) → is_skipped bytes ≡ true → begins Endata (record { number = number; bytes = bytes }) ≡ false
no_end number [] e = refl
no_end number (byte ∷ bytes) e = subst (λ (b : ℕ). begins Endata (record { number = number; bytes = b ∷ bytes }) ≡ false) (sym (eqb-true byte 42 e)) refl

-- it is cut from the part that it begins
cut_skipped : (card : Card) (cards : List Card) → is_skipped card.bytes ≡ true → cut (card ∷ cards) ≡ cut cards
cut_skipped card cards e =
    let n = prefix_len (λ (other : Card). is_skipped other.bytes) cards in
    let next : 1 + n ≡ suc n = omega arith in
    ap (λ b. drop (cond b (1 + n) 0) (card ∷ cards)) e ∙ ap (λ k. drop k (card ∷ cards)) next

cut_live : (card : Card) (cards : List Card) → is_skipped card.bytes ≡ false → cut (card ∷ cards) ≡ card ∷ cards
cut_live card cards e = rw e refl

decks_onto : (card : Card) (parts : List (List Card)) → is_skipped card.bytes ≡ true →
    filter some (map cut (onto_first card parts)) ≡ filter some (map cut parts)
decks_onto card [] e = rw (cut_skipped card [] e) refl
decks_onto card (part ∷ parts) e = rw (cut_skipped card part e) refl

-- Skipped cards in front of the others make no difference to the decks.
pub decks_after_skipped : (card : Card) (cards : List Card) → is_skipped card.bytes ≡ true → decks_of (card ∷ cards) ≡ decks_of cards
unfolding decks_of
decks_after_skipped card cards e =
    ap (λ b. filter some (map cut (cond b ((card ∷ []) ∷ parts_ended_by (begins Endata) cards) (onto_first card (parts_ended_by (begins Endata) cards)))))
    (no_end card.number card.bytes e)
    ∙ decks_onto card (parts_ended_by (begins Endata) cards) e

pub no_decks : decks_of [] ≡ []
unfolding decks_of
no_decks = refl

-- A card that isn't skipped begins a deck, which ends with the first ENDATA card or with the last card.
pub first_deck : (card : Card) (cards : List Card) → is_skipped card.bytes ≡ false
    → decks_of (card ∷ cards) ≡ take (position_or_len (begins Endata) (card ∷ cards) + 1) (card ∷ cards) ∷ decks_of
    (drop (position_or_len (begins Endata) (card ∷ cards) + 1) (card ∷ cards))
unfolding decks_of
first_deck card cards e =
    let n = position_or_len (begins Endata) (card ∷ cards) in
    let next : n + 1 ≡ suc n = omega arith in
    ap (λ parts. filter some (map cut parts)) (first_part (begins Endata) card cards)
    ∙ ap (λ k. filter some (cut (take k (card ∷ cards)) ∷ map cut (parts_ended_by (begins Endata) (drop (n + 1) (card ∷ cards))))) next
    ∙ ap (λ part. filter some (part ∷ map cut (parts_ended_by (begins Endata) (drop (n + 1) (card ∷ cards))))) (cut_live card (take n cards) e)
    ∙ ap (λ k. take k (card ∷ cards) ∷ filter some (map cut (parts_ended_by (begins Endata) (drop (n + 1) (card ∷ cards))))) (sym next)
