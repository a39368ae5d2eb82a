-- Positions of labels, by one more card.
use Rattle.std.proofs.Common.{◌≡◌, ℕ, suc, ◌+◌, ◌≤◌, Bool, true, false, cond, not, ◌||◌, ◌&&◌, List, [], ◌∷◌, ◌++◌, Option, Some, None, length, if◌then◌else◌}
use Rattle.std.proofs.Common.{refl, ap, sym, ◌∙◌, arith, length-append, eqb, ltb}
use Rattle.std.specs.Prelude.{max, is_some, option_map, bytes_eq}
use Rattle.std.specs.Option.{option_or, option_map_or}
use Rattle.std.specs.List.{position, position_or_len, list_any}
use Rattle.std.specs.Map.{lookup}
use Rattle.std.proofs.lemmas.List.Folds.{position_or_len_push}
use Rattle.std.proofs.lemmas.List.Sums.{prefix_len-le-length}
use Rattle.std.proofs.lemmas.Bool.Decides.{nat_tests}
use Rattle.std.proofs.lemmas.Slice.Eq.{bytes_eq-Decides}
use Rattle.card_definitions.specs.Words.{is_empty}
use Rattle.card_definitions.specs.Cards.{Card}
use Rattle.control_definitions.specs.Statements.{label_of}
use Rattle.control_definitions.specs.Arguments.{is_label, label_text}
use Rattle.control_definitions.specs.Compiled.{position_of, has_bad_label, has_label_twice}
use Rattle.control_compiler.specs.Cards.{HasPositions, placed}

place_by_one_more : (n len : ℕ) (t : Bool) → n ≤ len
    → cond (ltb (cond (eqb n len) (len + cond t 0 1) n) (len + 1)) (Some (cond (eqb n len) (len + cond t 0 1) n)) None ≡ option_or
    (cond (ltb n len) (Some n) None) (if t then Some len else None)
place_by_one_more n len true le = grind (arith, nat_tests)
place_by_one_more n len false le = grind (arith, nat_tests)

-- the place in a list with one more element
position-push : {X : Type 0} (p : X → Bool) (xs : List X) (y : X) →
    position p (xs ++ y ∷ []) ≡ option_or (position p xs) (if p y then Some (length xs) else None)
position-push p xs y =
    rw (position_or_len_push p xs y, length-append xs (y ∷ []))
    (place_by_one_more (position_or_len p xs) (length xs) (p y) (prefix_len-le-length (λ x. not (p x)) xs))

-- the position of a label among cards and one more
pub position_of-push : (cards : List Card) (card : Card) (label : List ℕ)
    → position_of (cards ++ card ∷ []) label ≡ option_or (position_of cards label)
    (if bytes_eq (label_of card.bytes) label then Some (max 1 (length cards)) else None)
position_of-push cards card label =
    ap (option_map (max 1)) (position-push (λ (other : Card). bytes_eq (label_of other.bytes) label) cards card)
    ∙ by (position (λ (other : Card). bytes_eq (label_of other.bytes) label) cards) (bytes_eq (label_of card.bytes) label)
  where
    by : (place : Option ℕ) (t : Bool) →
        option_map (max 1) (option_or place (if t then Some (length cards) else None)) ≡ option_or (option_map (max 1) place)
        (if t then Some (max 1 (length cards)) else None)
    by (Some place) t = refl
    by None true = refl
    by None false = refl

-- a label stands on a card where it has a position
pub stands_where_placed : (cards : List Card) (label : List ℕ) →
    list_any (λ (card : Card). bytes_eq (label_of card.bytes) label) cards ≡ is_some (position_of cards label)
stands_where_placed cards label =
    found (λ (card : Card). bytes_eq (label_of card.bytes) label) cards ∙ by (position (λ (card : Card). bytes_eq (label_of card.bytes) label) cards)
  where
    by : (place : Option ℕ) → is_some place ≡ is_some (option_map (max 1) place)
    by (Some place) = refl
    by None = refl

    any_is_found : {X : Type 0} (q : X → Bool) (xs : List X) → list_any q xs ≡ ltb (position_or_len q xs) (length xs)
    any_is_found q [] = refl
    any_is_found q (x ∷ xs) = next (q x) (list_any q xs) (position_or_len q xs) (length xs) (any_is_found q xs)
      where
        next : (t any : Bool) (n len : ℕ) → any ≡ ltb n len → (t || any) ≡ ltb (cond (not t) (1 + n) 0) (suc len)
        next true any n len rest = grind (arith, nat_tests)
        next false any n len rest = grind (arith, nat_tests)

    found : {X : Type 0} (q : X → Bool) (xs : List X) → list_any q xs ≡ is_some (position q xs)
    found q xs = any_is_found q xs ∙ some (ltb (position_or_len q xs) (length xs)) (position_or_len q xs)
      where
        some : (t : Bool) (n : ℕ) → t ≡ is_some (cond t (Some n) None)
        some true n = refl
        some false n = refl

-- A card without a label changes no position.
pub unlabelled : (labels : List (List ℕ × ℕ)) (cards : List Card) (card : Card) → is_empty (label_of card.bytes) ≡ true → HasPositions labels cards →
    HasPositions labels (cards ++ card ∷ [])
unlabelled labels cards card none holds =
    λ label some. holds label some
    ∙ sym (position_of-push cards card label ∙ by label (position_of cards label) (bytes_eq (label_of card.bytes) label) refl some)
  where
    by : (label : List ℕ) (place : Option ℕ) (t : Bool) → bytes_eq (label_of card.bytes) label ≡ t → is_empty label ≡ false →
        option_or place (if t then Some (max 1 (length cards)) else None) ≡ place
    by label (Some place) t e some = refl
    by label None false e some = refl
    by label None true e some = let same : label_of card.bytes ≡ label = (bytes_eq-Decides (label_of card.bytes) label).0 e in cc (ap is_empty same)

-- A label that no card has gets the place of its card.
pub labelled : (labels more : List (List ℕ × ℕ)) (cards : List Card) (card : Card) (label : List ℕ) (position : ℕ)
    → label ≡ label_of card.bytes → lookup (bytes_eq label) labels ≡ None → is_empty label ≡ false → position ≡ max 1 (length cards)
    → ((other : List ℕ) → lookup (bytes_eq other) more ≡ (if bytes_eq label other then Some position else lookup (bytes_eq other) labels))
    → HasPositions labels cards → HasPositions more (cards ++ card ∷ [])
labelled labels more cards card label position is absent some place added holds = λ other other_some.
    added other ∙ by other (bytes_eq label other) refl other_some ∙ sym (position_of-push cards card other ∙ rw (← is) refl)
  where
    by : (other : List ℕ) (t : Bool) → bytes_eq label other ≡ t → is_empty other ≡ false
        → (if t then Some position else lookup (bytes_eq other) labels) ≡ option_or (position_of cards other) (if t then Some (max 1 (length cards)) else None)
    by other true e other_some =
        let same : label ≡ other = (bytes_eq-Decides label other).0 e in
        let gone : position_of cards other ≡ None = sym (holds other other_some) ∙ ap (λ (text : List ℕ). lookup (bytes_eq text) labels) (sym same) ∙ absent in
        rw gone (ap Some place)
    by other false e other_some = holds other other_some ∙ none (position_of cards other)
      where
        none : (place : Option ℕ) → place ≡ option_or place None
        none (Some place) = refl
        none None = refl

-- What a table of labels tells of a card's label is whether it stands on a card before.
pub twice_reported : (labels : List (List ℕ × ℕ)) (cards : List Card) (card : List ℕ) → HasPositions labels cards → has_bad_label card ≡ false
    → option_map_or (λ (name : List ℕ). is_some (lookup (bytes_eq name) labels)) (label_text (label_of card)) false ≡ has_label_twice cards card
twice_reported labels cards card holds good = by (label_of card) (list_any (λ (other : Card). bytes_eq (label_of other.bytes) (label_of card)) cards) good
    (λ some. ap is_some (holds (label_of card) some) ∙ sym (stands_where_placed cards (label_of card)))
  where
    by : (label : List ℕ) (any : Bool) → (not (is_empty label) && not (is_label label)) ≡ false
        → (is_empty label ≡ false → is_some (lookup (bytes_eq label) labels) ≡ any)
        → option_map_or (λ (name : List ℕ). is_some (lookup (bytes_eq name) labels)) (if is_label label then Some label else None) false ≡
        (not (is_empty label) && any)
    by [] any good same = refl
    by (byte ∷ label) any good same = reported (is_label (byte ∷ label)) good
      where
        reported : (t : Bool) → not t ≡ false →
            option_map_or (λ (name : List ℕ). is_some (lookup (bytes_eq name) labels)) (if t then Some (byte ∷ label) else None) false ≡ any
        reported true good = same refl
        reported false good = cc good

-- The positions of the labels of cards and one more, whose label is in its form and stands on no card before.
pub next_positions : (labels more : List (List ℕ × ℕ)) (cards : List Card) (card : Card) (label : Option (List ℕ)) (position : ℕ)
    → label ≡ label_text (label_of card.bytes) → has_bad_label card.bytes ≡ false → has_label_twice cards card.bytes ≡ false → position ≡ max 1 (length cards)
    → ((other : List ℕ) → lookup (bytes_eq other) more ≡ placed label position other (lookup (bytes_eq other) labels))
    → HasPositions labels cards → HasPositions more (cards ++ card ∷ [])
next_positions labels more cards card None position is good once place added holds =
    let still : HasPositions more cards = λ other some. added other ∙ holds other some in
    unlabelled more cards card (by (label_of card.bytes) good (sym is)) still
  where
    by : (text : List ℕ) → (not (is_empty text) && not (is_label text)) ≡ false → (if is_label text then Some text else None) ≡ None → is_empty text ≡ true
    by [] good none = refl
    by (byte ∷ text) good none = reported (is_label (byte ∷ text)) good none
      where
        reported : (t : Bool) → not t ≡ false → (if t then Some (byte ∷ text) else None) ≡ None → false ≡ true
        reported true good none = cc none
        reported false good none = cc good
next_positions labels more cards card (Some label) position is good once place added holds =
    let reported = by (label_of card.bytes) (is_label (label_of card.bytes)) refl is in
    labelled labels more cards card label position reported.0 (absent (lookup (bytes_eq label) labels) seen) reported.1 place added holds
  where
    by : (text : List ℕ) (t : Bool) → is_label text ≡ t → Some label ≡ (if t then Some text else None) → (label ≡ text) × (is_empty label ≡ false)
    by text true e some = let same : label ≡ text = cc some in (same, ap is_empty same ∙ filled text e)
      where
        filled : (text : List ℕ) → is_label text ≡ true → is_empty text ≡ false
        filled [] e = cc e
        filled (byte ∷ text) e = refl
    by text false e some = cc some

    seen : is_some (lookup (bytes_eq label) labels) ≡ false
    seen =
        ap (λ (known : Option (List ℕ)). option_map_or (λ (name : List ℕ). is_some (lookup (bytes_eq name) labels)) known false) is
        ∙ twice_reported labels cards card.bytes holds good ∙ once

    absent : (found : Option ℕ) → is_some found ≡ false → found ≡ None
    absent None e = refl
    absent (Some place) e = cc e
