-- Cards are numbered no further than the last.
use Rattle.std.proofs.Common.{◌≡◌, ℕ, ◌+◌, ◌-◌, ◌≤◌, ◌<◌, ◌⊎◌, inl, inr, min, max, List, length, drop, ap, sym, ◌∙◌, arith}
use Rattle.std.proofs.lemmas.Bool.{cases_lt}
use Rattle.std.proofs.Math.ListN.{drop_of_length-le}
use Rattle.card_definitions.specs.Cards.{Card, numbered_cards}
use Rattle.job_decks.proofs.Places.{length-numbered}

clamped : (xs : List Card) (d r : ℕ) → r ≡ min (max d 1) (length xs + 1) → drop (r - 1) xs ≡ drop (d - 1) xs
clamped xs d r e = by (cases_lt (length xs + 1) d)
  where
    by : (length xs + 1 < d) ⊎ (d ≤ length xs + 1) → drop (r - 1) xs ≡ drop (d - 1) xs
    by (inl past) =
        let low : length xs ≤ r - 1 = omega arith in let high : length xs ≤ d - 1 = omega arith in drop_of_length-le xs low ∙ sym (drop_of_length-le xs high)
    by (inr within) = let same : r - 1 ≡ d - 1 = omega arith in ap (λ n. drop n xs) same

-- the cards from a number that is kept from 1 to one more than the last
pub same_after : (cards : List (List ℕ)) (d r : ℕ) → r ≡ min (max d 1) (length cards + 1) →
    drop (r - 1) (numbered_cards cards) ≡ drop (d - 1) (numbered_cards cards)
same_after cards d r e =
    let counted : length (numbered_cards cards) ≡ length cards = length-numbered 1 cards in clamped (numbered_cards cards) d r (rw counted e)
