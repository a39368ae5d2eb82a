-- Texts in places: padded to their width, and found there again.
use Rattle.std.proofs.Common.{◌≡◌, ℕ, zero, suc, ◌+◌, ◌-◌, ◌≤◌, Bool, true, false, ◌&&◌, List, [], ◌∷◌, ◌++◌, length, drop, replicate, refl, ap, sym, ◌∙◌}
use Rattle.std.proofs.Common.{arith, length-append, eqb}
use Rattle.std.specs.Prelude.{bytes_eq}
use Rattle.std.specs.List.{list_all, suffix_len}
use Rattle.std.proofs.lemmas.Bool.{eqb-true}
use Rattle.std.proofs.lemmas.Bool.Decides.{same_from_decides, Decides-like}
use Rattle.std.proofs.lemmas.Slice.Eq.{bytes_eq-Decides}
use Rattle.std.proofs.lemmas.List.{drop-replicate, length-replicate, length-take-le}
use Rattle.std.proofs.lemmas.List.Sums.{suffix_len-le-length}
use Rattle.std.proofs.Math.Seq.{take-length}
use Rattle.card_definitions.specs.Words.{without_trailing, padded}
use Rattle.card_definitions.specs.Cards.{is_blank}
use Rattle.card_definitions.proofs.Trailing.{trailing_split, without_trailing-append}
use Rattle.card_definitions.specs.Places.{text_in}

all_blank : (ys : List ℕ) → list_all is_blank ys ≡ true → ys ≡ replicate (length ys) 32
all_blank [] h = refl
all_blank (y ∷ ys) h = by (eqb y 32) refl h (all_blank ys)
  where
    by : (b : Bool) → eqb y 32 ≡ b → (b && list_all is_blank ys) ≡ true → (list_all is_blank ys ≡ true → ys ≡ replicate (length ys) 32) →
        (y ∷ ys) ≡ (32 ∷ replicate (length ys) 32)
    by true e rest more = ap (λ z. z ∷ ys) (eqb-true y 32 e) ∙ ap (λ zs. 32 ∷ zs) (more rest)
    by false e rest more = cc rest

-- blanks, and what passes of them
pub blanks_pass : (p : ℕ → Bool) (n : ℕ) → p 32 ≡ true → list_all p (replicate n 32) ≡ true
blanks_pass p zero h = refl
blanks_pass p (suc n) h = rw h (blanks_pass p n h)

module _ (width : ℕ) where
  pub padded_after : (text : List ℕ) → length text ≤ width → text ++ drop (length text) (replicate width 32) ≡ padded width text
  padded_after text short = ap (λ zs. text ++ zs) (drop-replicate (length text) width 32)

  pub length-padded : (text : List ℕ) → length text ≤ width → length (padded width text) ≡ width
  length-padded text short =
      length-append text (replicate (width - length text) 32)
      ∙ ap (λ n. length text + n) (length-replicate (width - length text) 32) ∙ omega arith

  padded-split : (kept ys : List ℕ) → list_all is_blank ys ≡ true → length (kept ++ ys) ≡ width → padded width kept ≡ kept ++ ys
  padded-split kept ys all full =
      let sum : length kept + length ys ≡ width = sym (length-append kept ys) ∙ full in
      let rest : width - length kept ≡ length ys = omega arith in
      ap (λ zs. kept ++ zs) (ap (λ n. replicate n 32) rest ∙ sym (all_blank ys all))

  -- Places hold their text with blanks after it.
  pub padded-text_in : (places : List ℕ) → length places ≡ width → padded width (text_in places) ≡ places
  padded-text_in places full =
      let split = trailing_split is_blank places in padded-split (text_in places) split.0 split.1 (ap length (sym split.2) ∙ full) ∙ sym split.2

  -- A text without blanks at its end is what its places hold.
  pub text_in-padded : (text : List ℕ) → without_trailing is_blank text ≡ text → text_in (padded width text) ≡ text
  text_in-padded text trimmed =
      without_trailing-append is_blank text (replicate (width - length text) 32) (blanks_pass is_blank (width - length text) refl) ∙ trimmed

  -- Places are equal where their texts are.
  pub same_in_places : (a b : List ℕ) → length a ≡ width → length b ≡ width → bytes_eq a b ≡ bytes_eq (text_in a) (text_in b)
  same_in_places a b a_full b_full =
      same_from_decides (bytes_eq a b) (bytes_eq (text_in a) (text_in b)) (bytes_eq-Decides a b)
      (Decides-like (bytes_eq (text_in a) (text_in b)) (λ e. sym (padded-text_in a a_full) ∙ ap (padded width) e ∙ padded-text_in b b_full) (ap text_in)
      (bytes_eq-Decides (text_in a) (text_in b)))

-- A text none of whose last bytes passes is trimmed, and the other way round.
pub untrimmed : (p : ℕ → Bool) (xs : List ℕ) → (suffix_len p xs ≡ 0 → without_trailing p xs ≡ xs) × (without_trailing p xs ≡ xs → suffix_len p xs ≡ 0)
untrimmed p xs = (
  λ e. let all : length xs - suffix_len p xs ≡ length xs = omega arith in rw all (take-length xs),
  λ e. let bound : suffix_len p xs ≤ length xs = suffix_len-le-length p xs in
      let kept : length (without_trailing p xs) ≡ length xs - suffix_len p xs = length-take-le (length xs - suffix_len p xs) xs (omega arith) in
      let same : length (without_trailing p xs) ≡ length xs = ap length e in
      omega arith,
)
