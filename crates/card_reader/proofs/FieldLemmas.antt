-- Some columns of a card.
use Rattle.std.proofs.Common.{◌≡◌, ℕ, ◌+◌, ◌-◌, ◌≤◌, min, List, take, drop, length, slice_range, sym, ◌∙◌, ap, arith, inl, inr}
use Rattle.std.proofs.lemmas.List.{drop-take, length-take, take_all}
use Rattle.std.proofs.lemmas.Bool.{cases_lt}
use Rattle.std.proofs.Math.ListN.{drop_of_length-le}

take_min : (card : List ℕ) (to : ℕ) → take (min (length card) to) card ≡ take to card
take_min card to = elim (cases_lt (length card) to) [
  | inl shorter ↦ let all : min (length card) to ≡ length card = omega arith in
      ap (λ n. take n card) all ∙ take_all (length card) card (omega arith) ∙ sym (take_all to card (omega arith))
  | inr longer ↦ let some : min (length card) to ≡ to = omega arith in ap (λ n. take n card) some
]

-- the columns after the first n, up to one
columns_up_to : (card : List ℕ) (n to end start : ℕ) → n ≤ to → end ≡ min (length card) to → start ≡ min end n →
    slice_range card start end ≡ drop n (take to card)
columns_up_to card n to end start order at_end at_start = elim (cases_lt (length card) n) [
  | inl short ↦
      let none : end - start ≡ 0 = omega arith in
      let far : length (take to card) ≤ n = omega (arith, length-take to card) in
      ap (λ k. take k (drop start card)) none ∙ sym (drop_of_length-le (take to card) far)
  | inr long ↦
      let same : start ≡ n = omega arith in
      let split : end ≡ n + (end - n) = omega arith in
      ap (λ k. take (end - k) (drop k card)) same ∙ sym (drop-take n (end - n) card) ∙ ap (λ k. drop n (take k card)) (sym split)
      ∙ ap (λ k. drop n (take k card)) at_end ∙ ap (drop n) (take_min card to)
]

-- the same by their number
pub columns_of : (card : List ℕ) (n width end start : ℕ) → end ≡ min (length card) (n + width) → start ≡ min end n →
    slice_range card start end ≡ take width (drop n card)
columns_of card n width end start at_end at_start =
    columns_up_to card n (n + width) end start (omega arith) at_end at_start ∙ drop-take n width card
