-- What stands at the beginning of a text, and what is left after it.
use Rattle.std.proofs.Common.{◌≡◌, ℕ, suc, ◌+◌, Bool, true, false, not, cond, if◌then◌else◌, List, [], ◌∷◌, ◌++◌, length, take, drop, Option, Some, None, refl}
use Rattle.std.proofs.Common.{sym, ap, ap₂, ◌∙◌, arith, append_assoc, take-append-drop}
use Rattle.std.specs.Prelude.{bytes_eq, option_and_then}
use Rattle.std.specs.List.{list_all, position_or_len, before_first, after_first}
use Rattle.std.proofs.lemmas.Slice.Eq.{bytes_eq-Decides}
use Rattle.std.proofs.lemmas.Bool.{and_parts}
use Rattle.walk_definitions.specs.Words.{left_after}
use Rattle.walk_definitions.specs.Forms.{Piece, left_by_piece, left_by}

-- two options are equal where each has what the other has
pub same_options : {X : Type 0} (o p : Option X) → ((x : X) → o ≡ Some x → p ≡ Some x) → ((x : X) → p ≡ Some x → o ≡ Some x) → o ≡ p
same_options None None there back = refl
same_options None (Some y) there back = back y refl
same_options (Some x) p there back = sym (there x refl)

pub take_text : (text rest : List ℕ) → take (length text) (text ++ rest) ≡ text
take_text [] rest = refl
take_text (x ∷ text) rest = ap (λ t. x ∷ t) (take_text text rest)

pub drop_text : (text rest : List ℕ) → drop (length text) (text ++ rest) ≡ rest
drop_text [] rest = refl
drop_text (x ∷ text) rest = drop_text text rest

-- a text stands at its own beginning
pub stands : (text rest : List ℕ) → left_after text (text ++ rest) ≡ Some rest
stands text rest =
    let same : bytes_eq (take (length text) (text ++ rest)) text ≡ true = (bytes_eq-Decides (take (length text) (text ++ rest)) text).1 (take_text text rest) in
    ap (λ b. if b then Some (drop (length text) (text ++ rest)) else None) same ∙ ap Some (drop_text text rest)

-- where it stands, the rest is that text and what is left
pub is_text : (text rest after : List ℕ) → left_after text rest ≡ Some after → rest ≡ text ++ after
is_text text rest after e = by (bytes_eq (take (length text) rest) text) refl e
  where
    by : (b : Bool) → bytes_eq (take (length text) rest) text ≡ b → (if b then Some (drop (length text) rest) else None) ≡ Some after → rest ≡ text ++ after
    by true same e =
        sym (take-append-drop (length text) rest)
        ∙ ap₂ (λ a b. a ++ b) ((bytes_eq-Decides (take (length text) rest) text).0 same) (cc e)
    by false other e = absurd (cc e)

-- one text after another
pub left_after_both : (a b rest : List ℕ) → left_after (a ++ b) rest ≡ option_and_then (left_after b) (left_after a rest)
left_after_both a b rest = same_options (left_after (a ++ b) rest) (option_and_then (left_after b) (left_after a rest)) there back
  where
    there : (after : List ℕ) → left_after (a ++ b) rest ≡ Some after → option_and_then (left_after b) (left_after a rest) ≡ Some after
    there after e =
        let whole : rest ≡ a ++ (b ++ after) = is_text (a ++ b) rest after e ∙ append_assoc a b after in
        ap (λ r. option_and_then (left_after b) (left_after a r)) whole ∙ ap (option_and_then (left_after b)) (stands a (b ++ after)) ∙ stands b after

    back_by : (after : List ℕ) (o : Option (List ℕ)) → left_after a rest ≡ o → option_and_then (left_after b) o ≡ Some after →
        left_after (a ++ b) rest ≡ Some after
    back_by after None first e = absurd (cc e)
    back_by after (Some left) first e =
        let whole : rest ≡ (a ++ b) ++ after = is_text a rest left first ∙ ap (λ l. a ++ l) (is_text b left after e) ∙ sym (append_assoc a b after) in
        ap (left_after (a ++ b)) whole ∙ stands (a ++ b) after

    back : (after : List ℕ) → option_and_then (left_after b) (left_after a rest) ≡ Some after → left_after (a ++ b) rest ≡ Some after
    back after e = back_by after (left_after a rest) refl e

-- ---- cuts at the first byte of a kind

pub free_length : (p : ℕ → Bool) (a : List ℕ) → list_all (λ x. not (p x)) a ≡ true → position_or_len p a ≡ length a
free_length p [] free = refl
free_length p (x ∷ a) free =
    let parts = and_parts (not (p x)) (list_all (λ x. not (p x)) a) free in
    ap (λ b. cond b (1 + position_or_len p a) 0) parts.0 ∙ ap (λ n. 1 + n) (free_length p a parts.1) ∙ omega arith

pub cut_length : (p : ℕ → Bool) (a : List ℕ) (c : ℕ) (rest : List ℕ) → list_all (λ x. not (p x)) a ≡ true → p c ≡ true →
    position_or_len p (a ++ c ∷ rest) ≡ length a
cut_length p [] c rest free is = ap (λ b. cond (not b) (1 + position_or_len p rest) 0) is
cut_length p (x ∷ a) c rest free is =
    let parts = and_parts (not (p x)) (list_all (λ x. not (p x)) a) free in
    ap (λ b. cond b (1 + position_or_len p (a ++ c ∷ rest)) 0) parts.0 ∙ ap (λ n. 1 + n) (cut_length p a c rest parts.1 is) ∙ omega arith

take_whole : (a : List ℕ) → take (length a) a ≡ a
take_whole [] = refl
take_whole (x ∷ a) = ap (λ t. x ∷ t) (take_whole a)

pub free_before : (p : ℕ → Bool) (a : List ℕ) → list_all (λ x. not (p x)) a ≡ true → before_first p a ≡ a
free_before p a free = ap (λ n. take n a) (free_length p a free) ∙ take_whole a

pub cut_before : (p : ℕ → Bool) (a : List ℕ) (c : ℕ) (rest : List ℕ) → list_all (λ x. not (p x)) a ≡ true → p c ≡ true → before_first p (a ++ c ∷ rest) ≡ a
cut_before p a c rest free is = ap (λ n. take n (a ++ c ∷ rest)) (cut_length p a c rest free is) ∙ take_text a (c ∷ rest)

drop_past : (a : List ℕ) (c : ℕ) (rest : List ℕ) → drop (suc (length a)) (a ++ c ∷ rest) ≡ rest
drop_past [] c rest = refl
drop_past (x ∷ a) c rest = drop_past a c rest

pub cut_after : (p : ℕ → Bool) (a : List ℕ) (c : ℕ) (rest : List ℕ) → list_all (λ x. not (p x)) a ≡ true → p c ≡ true → after_first p (a ++ c ∷ rest) ≡ rest
cut_after p a c rest free is =
    let next : position_or_len p (a ++ c ∷ rest) + 1 ≡ suc (length a) = ap (λ n. n + 1) (cut_length p a c rest free is) ∙ omega arith in
    ap (λ n. drop n (a ++ c ∷ rest)) next ∙ drop_past a c rest

-- one form after another
pub left_by_both : (ps qs : List Piece) (rest : List ℕ) → left_by (ps ++ qs) rest ≡ option_and_then (left_by qs) (left_by ps rest)
left_by_both [] qs rest = refl
left_by_both (p ∷ ps) qs rest = by (left_by_piece p rest) (λ left. left_by_both ps qs left)
  where
    by : (o : Option (List ℕ)) → ((left : List ℕ) → left_by (ps ++ qs) left ≡ option_and_then (left_by qs) (left_by ps left)) →
        option_and_then (left_by (ps ++ qs)) o ≡ option_and_then (left_by qs) (option_and_then (left_by ps) o)
    by None later = refl
    by (Some left) later = later left
