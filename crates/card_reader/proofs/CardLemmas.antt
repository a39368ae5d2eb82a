-- The first card of some bytes, and the cards after it.
use Rattle.std.proofs.Common.{◌≡◌, ℕ, suc, ◌+◌, ◌-◌, ◌<◌, ◌≤◌, true, false, not, List, [], ◌∷◌, ◌++◌, append_assoc, length-append, take, drop, length, map}
use Rattle.std.proofs.Common.{slice_range, refl, sym, ◌∙◌, ap, arith, cond, unwrap_or, Some, None, ltb}
use Rattle.std.proofs.lemmas.List.{append-nil, length-take, length-drop, length-map, map-append, take-take, drop-drop}
use Rattle.std.proofs.Math.ListN.{drop_of_length-le}
use Rattle.std.proofs.lemmas.List.Sums.{prefix_len-le-length}
use Rattle.std.proofs.lemmas.Bool.Decides.{nat_tests}
use Rattle.std.specs.List.{onto_first, slice_split, position, position_or_len, before_first, after_first, suffix_len}
use Rattle.std.proofs.lemmas.List.Splits.{length-slice_split}
use Rattle.card_definitions.specs.Words.{without_trailing}
use Rattle.card_reader.specs.Spans.{cards_at, span_bytes}
use Rattle.card_reader.specs.declared.span.Span.{Span}
use Rattle.card_definitions.specs.Cards.{is_line_feed, is_trailing, without_empty_last, cards_of}

-- the parts between line feeds, and the bytes after the last line feed if there are any
abbrev lines_of : List ℕ → List (List ℕ)
lines_of [] = []
lines_of (byte ∷ bytes) = cond (is_line_feed byte) ([] ∷ lines_of bytes) (onto_first byte (lines_of bytes))

-- the same from the part in front of the first line feed on
after_feed : (parts : List (List ℕ)) → 0 < length parts → without_empty_last ([] ∷ parts) ≡ [] ∷ without_empty_last parts
after_feed [] some = absurd (omega arith)
after_feed (part ∷ parts) some = refl

onto_first_part : (byte : ℕ) (parts : List (List ℕ)) → 0 < length parts →
    without_empty_last (onto_first byte parts) ≡ onto_first byte (without_empty_last parts)
onto_first_part byte [] some = absurd (omega arith)
onto_first_part byte ([] ∷ []) some = refl
onto_first_part byte ([] ∷ (next ∷ parts)) some = refl
onto_first_part byte ((first ∷ part) ∷ parts) some = refl

-- the lines are those of the definition
lines_are : (bytes : List ℕ) → without_empty_last (slice_split is_line_feed bytes) ≡ lines_of bytes
lines_are [] = refl
lines_are (byte ∷ bytes) =
    let parts = slice_split is_line_feed bytes in
    let some : 0 < length parts = omega (arith, length-slice_split is_line_feed bytes) in
    elim (is_line_feed byte) as
    (λ t. without_empty_last (cond t ([] ∷ parts) (onto_first byte parts)) ≡ cond t ([] ∷ lines_of bytes) (onto_first byte (lines_of bytes))) [
      | true ↦ after_feed parts some ∙ ap (λ lines. [] ∷ lines) (lines_are bytes)
      | false ↦ onto_first_part byte parts some
          ∙ ap (onto_first byte) (lines_are bytes)
    ]

-- one more byte at the front of the first line
onto_first_line : (byte n : ℕ) (bytes : List ℕ) → lines_of bytes ≡ take n bytes ∷ lines_of (drop (n + 1) bytes) →
    onto_first byte (lines_of bytes) ≡ take (1 + n) (byte ∷ bytes) ∷ lines_of (drop (1 + n + 1) (byte ∷ bytes))
onto_first_line byte n bytes e =
    let next : 1 + n ≡ suc n = omega arith in
    let after : suc n + 1 ≡ suc (n + 1) = omega arith in
    rw (e, next, after) refl

-- bytes have a first line
lines_of-cons : (byte : ℕ) (bytes : List ℕ) →
    lines_of (byte ∷ bytes) ≡ before_first is_line_feed (byte ∷ bytes) ∷ lines_of (after_first is_line_feed (byte ∷ bytes))
lines_of-cons byte [] =
    elim (is_line_feed byte) as
    (λ t. cond t ([] ∷ []) ((byte ∷ []) ∷ []) ≡ take (cond (not t) (1 + 0) 0) (byte ∷ []) ∷ lines_of
    (drop (cond (not t) (1 + 0) 0 + 1) (byte ∷ []))) [ true ↦ refl | false ↦ refl ]
lines_of-cons byte (next ∷ bytes) =
    let rest = next ∷ bytes in
    let n = position_or_len is_line_feed rest in
    elim (is_line_feed byte) as
    (λ t. cond t ([] ∷ lines_of rest) (onto_first byte (lines_of rest)) ≡ take (cond (not t) (1 + n) 0) (byte ∷ rest) ∷ lines_of
    (drop (cond (not t) (1 + n) 0 + 1) (byte ∷ rest)))
    [ true ↦ refl | false ↦ onto_first_line byte n rest (lines_of-cons next bytes) ]

cards_are : (bytes : List ℕ) → cards_of bytes ≡ map (without_trailing is_trailing) (lines_of bytes)
unfolding cards_of
cards_are bytes = ap (map (without_trailing is_trailing)) (lines_are bytes)

pub cards_of_nothing : cards_of [] ≡ []
cards_of_nothing = cards_are []

-- the first card, and the cards after it
cards_of-first : (bytes : List ℕ) → 0 < length bytes →
    cards_of bytes ≡ without_trailing is_trailing (before_first is_line_feed bytes) ∷ cards_of (after_first is_line_feed bytes)
cards_of-first [] h = absurd (omega arith)
cards_of-first (byte ∷ bytes) h =
    cards_are (byte ∷ bytes) ∙ ap (map (without_trailing is_trailing)) (lines_of-cons byte bytes)
    ∙ ap (λ cards. without_trailing is_trailing (before_first is_line_feed (byte ∷ bytes)) ∷ cards) (sym (cards_are (after_first is_line_feed (byte ∷ bytes))))

-- the first card of the bytes from a place on, by the lengths that the code computes
pub cards_of-drop : (bytes : List ℕ) (start len card : ℕ) (rest line : List ℕ) → start < length bytes → rest ≡ drop start bytes → line ≡ take len rest →
    len ≡ position_or_len is_line_feed rest → card + suffix_len is_trailing line ≡ length line →
    cards_of (drop start bytes) ≡ slice_range bytes start (start + card) ∷ cards_of (drop (start + len + 1) bytes)
cards_of-drop bytes start len card rest line inside at_rest at_line at_len at_card =
    let whole : length line - suffix_len is_trailing line ≡ card = omega arith in
    let shorter : card ≤ len = omega (arith, ap length at_line, length-take len rest) in
    let some : 0 < length rest = omega (arith, ap length at_rest, length-drop start bytes) in
    let front : without_trailing is_trailing (before_first is_line_feed rest) ≡ take card rest =
    ap (λ n. without_trailing is_trailing (take n rest)) (sym at_len) ∙ ap (without_trailing is_trailing) (sym at_line) ∙ ap (λ n. take n line) whole
    ∙ ap (λ w. take card w) at_line ∙ take-take card len rest shorter in
    let length_of : start + card - start ≡ card = omega arith in
    let span : slice_range bytes start (start + card) ≡ take card rest = ap (λ n. take n (drop start bytes)) length_of ∙ ap (λ w. take card w) (sym at_rest) in
    let place : start + (len + 1) ≡ start + len + 1 = omega arith in
    let later : after_first is_line_feed rest ≡ drop (start + len + 1) bytes =
    ap (λ n. drop (n + 1) rest) (sym at_len) ∙ ap (λ w. drop (len + 1) w) at_rest ∙ drop-drop (len + 1) start bytes ∙ ap (λ n. drop n bytes) place in
    ap cards_of (sym at_rest) ∙ cards_of-first rest some ∙ ap (λ w. w ∷ cards_of (after_first is_line_feed rest)) (front ∙ sym span)
    ∙ ap (λ w. slice_range bytes start (start + card) ∷ cards_of w) later

-- after the last byte stands no card
pub cards_done : (bytes : List ℕ) (start : ℕ) (cards : List (List ℕ)) → length bytes ≤ start → cards ++ cards_of (drop start bytes) ≡ cards_of bytes →
    cards ≡ cards_of bytes
cards_done bytes start cards past all =
    let none : cards_of (drop start bytes) ≡ [] = ap cards_of (drop_of_length-le bytes past) ∙ cards_of_nothing in
    sym (append-nil cards) ∙ ap (λ rest. cards ++ rest) (sym none) ∙ all

-- before it stands one more
pub cards_left : (bytes : List ℕ) (start : ℕ) (cards : List (List ℕ)) → start < length bytes → cards ++ cards_of (drop start bytes) ≡ cards_of bytes →
    length cards < length (cards_of bytes)
cards_left bytes start cards inside all =
    let some : 0 < length (drop start bytes) = omega (arith, length-drop start bytes) in
    omega (arith, ap length (cards_of-first (drop start bytes) some), length-append cards (cards_of (drop start bytes)), ap length all)

pub length-cards_at : (bytes : List ℕ) (spans : List Span) → length (cards_at bytes spans) ≡ length spans
length-cards_at bytes spans = length-map spans (span_bytes bytes)

-- one more card is cut
pub cards_more : (bytes : List ℕ) (spans : List Span) (span : Span) (start next : ℕ) → cards_at bytes spans ++ cards_of (drop start bytes) ≡ cards_of bytes
    → cards_of (drop start bytes) ≡ span_bytes bytes span ∷ cards_of (drop next bytes)
    → cards_at bytes (spans ++ span ∷ []) ++ cards_of (drop next bytes) ≡ cards_of bytes
cards_more bytes spans span start next all first =
    ap (λ cards. cards ++ cards_of (drop next bytes)) (map-append (span_bytes bytes) spans (span ∷ []))
    ∙ append_assoc (cards_at bytes spans) (span_bytes bytes span ∷ []) (cards_of (drop next bytes)) ∙ ap (λ rest. cards_at bytes spans ++ rest) (sym first)
    ∙ all

-- the first place, or else the length
pub unwrap_or-position : (bytes : List ℕ) → unwrap_or (position is_line_feed bytes) (length bytes) ≡ position_or_len is_line_feed bytes
unwrap_or-position bytes = chosen (position_or_len is_line_feed bytes) (length bytes) (prefix_len-le-length (λ b. not (is_line_feed b)) bytes)
  where
    chosen : (n len : ℕ) → n ≤ len → unwrap_or (cond (ltb n len) (Some n) None) len ≡ n
    chosen n len h = grind (arith, nat_tests)
