-- Parts of a text between bytes outside quotes.
use Rattle.std.proofs.Common.{◌≡◌, ℕ, suc, ◌+◌, ◌-◌, ◌<◌, ◌≤◌, Bool, true, false, cond, not, ◌||◌, ◌&&◌, List, [], ◌∷◌, None, take, drop, map, length}
use Rattle.std.proofs.Common.{if◌then◌else◌, refl, ap, sym, ◌∙◌, arith}
use Rattle.std.specs.Prelude.{nat_lt}
use Rattle.std.specs.List.{list_any, slice_split, position_or_len, onto_first}
use Rattle.std.proofs.lemmas.List.{take_all, length-drop, length-map}
use Rattle.std.proofs.lemmas.List.Splits.{length-slice_split}
use Rattle.std.proofs.lemmas.Bool.{eqb-true}
use Rattle.std.proofs.lemmas.Bool.Decides.{nat_tests}
use Rattle.control_definitions.specs.Statements.{is_quote, is_comma, is_close_parenthesis, marked_from, marked, outside, has_outside, before_outside}
use Rattle.control_definitions.specs.Statements.{split_outside}
use Rattle.control_verbs.specs.Pieces.{only_part}

-- an element passes where the place of the first that does is before the end
any_is_found : {X : Type 0} (q : X → Bool) (xs : List X) → list_any q xs ≡ nat_lt (position_or_len q xs) (length xs)
any_is_found q [] = refl
any_is_found q (x ∷ xs) = by (q x) (list_any q xs) (position_or_len q xs) (any_is_found q xs)
  where
    by : (t any : Bool) (n : ℕ) → any ≡ nat_lt n (length xs) → (t || any) ≡ nat_lt (cond (not t) (1 + n) 0) (suc (length xs))
    by true any n rest = grind (arith, nat_tests)
    by false any n rest = grind (arith, nat_tests)

-- a quote changes whether what follows stands within quotes
abbrev next_inside : Bool → ℕ → Bool
next_inside inside byte = if is_quote byte then not inside else inside

length-marked : (inside : Bool) (text : List ℕ) → length (marked_from inside text) ≡ length text
length-marked inside [] = refl
length-marked inside (byte ∷ text) = ap suc (length-marked (next_inside inside byte) text)

module _ (p : ℕ → Bool) where
  -- where it is found, and where not
  pub found_outside : (text : List ℕ) → position_or_len (outside p) (marked text) < length text → has_outside p text ≡ true
  found_outside text lt = any_is_found (outside p) (marked text) ∙ rw (length-marked false text) (grind (arith, nat_tests))

  pub none_outside : (text : List ℕ) → length text ≤ position_or_len (outside p) (marked text) → has_outside p text ≡ false
  none_outside text le = any_is_found (outside p) (marked text) ∙ rw (length-marked false text) (grind (arith, nat_tests))

  -- the parts of a text that begins within quotes, or outside
  abbrev split_from : Bool → List ℕ → List (List ℕ)
  split_from inside text = map (λ part. map (λ entry. entry.1) part) (slice_split (outside p) (marked_from inside text))

  abbrev place_from : Bool → List ℕ → ℕ
  place_from inside text = position_or_len (outside p) (marked_from inside text)

  onto_first_part : (entry : Bool × ℕ) (parts : List (List (Bool × ℕ)))
      → map (λ part. map (λ entry. entry.1) part) (onto_first entry parts) ≡ onto_first entry.1 (map (λ part. map (λ entry. entry.1) part) parts)
  onto_first_part entry [] = refl
  onto_first_part entry (part ∷ parts) = refl

  -- the first part ends at the first byte that is found
  split_at_place : ((byte : ℕ) → p byte ≡ true → is_quote byte ≡ false) → (text : List ℕ) (inside : Bool) → place_from inside text < length text
      → split_from inside text ≡ take (place_from inside text) text ∷ split_from false (drop (place_from inside text + 1) text)
  split_at_place apart [] inside lt = absurd (omega arith)
  split_at_place apart (byte ∷ text) false lt = by (p byte) refl lt (split_at_place apart text (next_inside false byte))
    where
      by : (t : Bool) → p byte ≡ t → cond (not t) (1 + place_from (next_inside false byte) text) 0 < suc (length text)
          → (place_from (next_inside false byte) text < length text
          → split_from (next_inside false byte) text ≡ take (place_from (next_inside false byte) text) text ∷ split_from false
          (drop (place_from (next_inside false byte) text + 1) text))
          → map (λ part. map (λ entry. entry.1) part)
          (cond t ([] ∷ slice_split (outside p) (marked_from (next_inside false byte) text))
          (onto_first (false, byte) (slice_split (outside p) (marked_from (next_inside false byte) text))))
          ≡ take (cond (not t) (1 + place_from (next_inside false byte) text) 0) (byte ∷ text) ∷ split_from false
          (drop (cond (not t) (1 + place_from (next_inside false byte) text) 0 + 1) (byte ∷ text))
      by true e lt rest = rw (apart byte e) refl
      by false e lt rest =
          let n = place_from (next_inside false byte) text in
          let next : 1 + n ≡ suc n = omega arith in
          let after : suc n + 1 ≡ suc (n + 1) = omega arith in
          onto_first_part (false, byte) (slice_split (outside p) (marked_from (next_inside false byte) text)) ∙ ap (onto_first byte) (rest (omega arith))
          ∙ rw (next, after) refl
  split_at_place apart (byte ∷ text) true lt =
      let n = place_from (next_inside true byte) text in
      let next : 1 + n ≡ suc n = omega arith in
      let after : suc n + 1 ≡ suc (n + 1) = omega arith in
      onto_first_part (true, byte) (slice_split (outside p) (marked_from (next_inside true byte) text))
      ∙ ap (onto_first byte) (split_at_place apart text (next_inside true byte) (omega arith)) ∙ rw (next, after) refl

  -- where none is found, the text is the one part
  split_nowhere : (text : List ℕ) (inside : Bool) → length text ≤ place_from inside text → split_from inside text ≡ text ∷ []
  split_nowhere [] inside le = refl
  split_nowhere (byte ∷ text) inside le = by (not inside && p byte) le (split_nowhere text (next_inside inside byte))
    where
      by : (t : Bool) → suc (length text) ≤ cond (not t) (1 + place_from (next_inside inside byte) text) 0
          → (length text ≤ place_from (next_inside inside byte) text → split_from (next_inside inside byte) text ≡ text ∷ [])
          → map (λ part. map (λ entry. entry.1) part)
          (cond t ([] ∷ slice_split (outside p) (marked_from (next_inside inside byte) text))
          (onto_first (inside, byte) (slice_split (outside p) (marked_from (next_inside inside byte) text)))) ≡ (byte ∷ text) ∷ []
      by true le rest = absurd (omega arith)
      by false le rest =
          onto_first_part (inside, byte) (slice_split (outside p) (marked_from (next_inside inside byte) text)) ∙ ap (onto_first byte) (rest (omega arith))

-- a comma is no quote
comma_is_no_quote : (byte : ℕ) → is_comma byte ≡ true → is_quote byte ≡ false
comma_is_no_quote byte e = let is : byte ≡ 44 = eqb-true byte 44 e in rw is refl

-- The arguments of a text are the first and those after the comma.
pub first_part : (n : ℕ) (text : List ℕ) → n ≡ position_or_len (outside is_comma) (marked text) → n < length text
    → split_outside is_comma text ≡ take n text ∷ split_outside is_comma (drop (n + 1) text)
first_part n text place lt = rw place (split_at_place is_comma comma_is_no_quote text false (rw place at lt))

-- the same, where the text after the comma is cut at the end of the text
pub first_part_cut : (n : ℕ) (text : List ℕ) → n ≡ position_or_len (outside is_comma) (marked text) → n < length text
    → split_outside is_comma text ≡ take n text ∷ split_outside is_comma (take (length text - (n + 1)) (drop (n + 1) text))
first_part_cut n text place lt =
    first_part n text place lt
    ∙ ap (λ rest. take n text ∷ split_outside is_comma rest)
    (sym (take_all (length text - (n + 1)) (drop (n + 1) text) (omega (arith, length-drop (n + 1) text))))

-- A text has an argument, so that with one before it there are two.
two_at_least : (first : List ℕ) (parts : List (List ℕ)) → 0 < length parts → only_part (first ∷ parts) ≡ None
two_at_least first [] lt = absurd (omega arith)
two_at_least first (second ∷ parts) lt = refl

pub not_only : (first text : List ℕ) → only_part (first ∷ split_outside is_comma text) ≡ None
not_only first text =
    let parts = slice_split (outside is_comma) (marked text) in
    let some : 0 < length parts = omega (arith, length-slice_split (outside is_comma) (marked text)) in
    two_at_least first (split_outside is_comma text) (simp length-map some)

pub only_one_part : (n : ℕ) (text : List ℕ) → n ≡ position_or_len (outside is_comma) (marked text) → length text ≤ n
    → split_outside is_comma text ≡ text ∷ []
only_one_part n text place le = split_nowhere is_comma text false (rw place at le)

-- The first argument ends at the comma, and where there is none at the parenthesis.
pub up_to_comma : (n : ℕ) (text : List ℕ) → n ≡ position_or_len (outside is_comma) (marked text) → n < length text
    → take n text ≡ before_outside (if has_outside is_comma text then is_comma else is_close_parenthesis) text
up_to_comma n text place lt = rw (found_outside is_comma text (rw place at lt)) (rw place refl)

pub up_to_parenthesis : (n : ℕ) (text : List ℕ) → n ≡ position_or_len (outside is_comma) (marked text) → length text ≤ n
    → before_outside is_close_parenthesis text ≡ before_outside (if has_outside is_comma text then is_comma else is_close_parenthesis) text
up_to_parenthesis n text place le = rw (none_outside is_comma text (rw place at le)) refl
