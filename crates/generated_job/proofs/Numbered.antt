-- The cards of numbered things, one number after another.
use Rattle.std.proofs.Common.{◌≡◌, ℕ, zero, suc, ◌+◌, ◌-◌, ◌<◌, ◌≤◌, List, [], ◌∷◌, ◌++◌, map, Result, Ok, Err, refl, ap, sym, ◌∙◌, subst, append_assoc}
use Rattle.std.proofs.Common.{add-one, arith}
use native.Mathlib.Numerals.{unary_clauses}
use Rattle.std.specs.List.{flat_map}
use Rattle.std.proofs.lemmas.List.{append-nil}
use Rattle.std.proofs.lemmas.List.Concat.{flat_map-append}
use Rattle.std.proofs.lemmas.List.Folds.{flat_map-map}
use Rattle.job_devices.specs.States.{SinkState}
use Rattle.job_devices.specs.declared.device.WriteStop.{WriteStop}
use Rattle.card_definitions.specs.Prefixes.{IsPrefix}
use Rattle.job_devices.specs.Text.{Writes}
use Rattle.job_devices.proofs.TextLemmas.{writes_then, writes_more, writes_same}
use Rattle.deck_definitions.specs.Written.{card_text}
use Rattle.deck_definitions.specs.Transport.{up_to}
use Rattle.bcd_out.specs.Lines.{line}

abbrev pub cards_then : (a b : List (List ℕ)) → card_text (a ++ b) ≡ card_text a ++ card_text b
cards_then a b = flat_map-append (λ card. card ++ 10 ∷ []) a b

-- ---- the numbers from 1 on

one_more : (i : ℕ) → up_to i ++ (i + 1) ∷ [] ≡ up_to (i + 1)
one_more i = rw (add-one i) refl

prefix_of_more : (i more : ℕ) → IsPrefix (up_to i) (up_to (i + more))
prefix_of_more i zero = simp unary_clauses ([], append-nil (up_to i))
prefix_of_more i (suc more) =
    let prefix = prefix_of_more i more in
    let last = suc (i + more) ∷ [] in
    simp unary_clauses (prefix.0 ++ last, sym (append_assoc (up_to i) prefix.0 last) ∙ ap (λ w. w ++ last) prefix.1)

-- the numbers up to i are the first of those up to n
first_numbers : (i n : ℕ) → i ≤ n → IsPrefix (up_to i) (up_to n)
first_numbers i n low = let back : i + (n - i) ≡ n = omega (arith, low) in subst (λ k. IsPrefix (up_to i) (up_to k)) back (prefix_of_more i (n - i))

-- ---- what is written for each number

module _ (f : ℕ → List ℕ) where
  -- the text of the numbers up to i, and then that of the next
  pub writes_next : {T U : Type 0} {a b c : SinkState} {r : Result T WriteStop} {done : U} (i : ℕ) →
      Writes a b (Ok done) (flat_map f (up_to i)) → Writes b c r (f (i + 1)) → Writes a c r (flat_map f (up_to (i + 1)))
  writes_next i so_far next =
      writes_same
      (ap (λ w. flat_map f (up_to i) ++ w) (sym (append-nil (f (i + 1)))) ∙ sym (flat_map-append f (up_to i) ((i + 1) ∷ [])) ∙ ap (flat_map f) (one_more i))
      (writes_then so_far next)

  -- a stop in the text of the next is one in the text of all
  pub stops_at : {T U : Type 0} {a b c : SinkState} {stop : WriteStop} {done : U} (i n : ℕ) → i < n →
      Writes a b (Ok done) (flat_map f (up_to i)) → Writes {T = T} b c (Err stop) (f (i + 1)) → Writes {T = T} a c (Err stop) (flat_map f (up_to n))
  stops_at i n inside so_far stopped =
      let prefix = first_numbers (i + 1) n (omega (arith, inside)) in
      writes_same (sym (flat_map-append f (up_to (i + 1)) prefix.0) ∙ ap (flat_map f) prefix.1)
      (writes_more (flat_map f prefix.0) (writes_next i so_far stopped))

-- the lines of a card for each number are the text of the cards
pub a_card_each : (f : ℕ → List ℕ) (xs : List ℕ) → flat_map (λ i. line (f i)) xs ≡ card_text (map f xs)
a_card_each f xs = sym (flat_map-map (λ card. card ++ 10 ∷ []) f xs)

-- the texts of some cards for each number are that of all of them
pub some_cards_each : (f : ℕ → List (List ℕ)) (xs : List ℕ) → flat_map (λ i. card_text (f i)) xs ≡ card_text (flat_map f xs)
some_cards_each f [] = refl
some_cards_each f (x ∷ xs) = ap (λ w. card_text (f x) ++ w) (some_cards_each f xs) ∙ sym (cards_then (f x) (flat_map f xs))
