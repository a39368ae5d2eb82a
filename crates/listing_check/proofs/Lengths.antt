-- What is found of the bytes that are read, which are those of the listing unless it is too long.
use Rattle.std.proofs.Common.{◌≡◌, ℕ, ◌<◌, ◌≤◌, List, ◌++◌, Option, None, Some, IfSome, length, take, refl, sym, ap, subst, ◌∙◌, arith, ◌+◌}
use Rattle.std.specs.Prelude.{codes}
use Rattle.std.proofs.lemmas.List.{take-append-drop, length-take, append-nil}
use Rattle.std.proofs.Math.ListN.{drop_of_length-le}
use Rattle.walk_definitions.specs.Checkers.{Checker}
use Rattle.walk_definitions.specs.Walker.{Found}
use Rattle.walk_definitions.specs.Found.{EndsIn, Answers, too_long, is_found, answer_text, max_listing}

-- all of a list that isn't longer
whole : (n : ℕ) (lines : List ℕ) → length lines ≤ n → take n lines ≡ lines
whole n lines within = sym (append-nil (take n lines)) ∙ ap (λ rest. take n lines ++ rest) (sym (drop_of_length-le lines within)) ∙ take-append-drop n lines

length_read : (listing lines : List ℕ) → listing ≡ take (max_listing + 1) lines → length listing ≤ max_listing → length lines ≤ max_listing
length_read listing lines e within = omega (arith, within, ap length e, length-take (max_listing + 1) lines)

pub same_bytes : (listing lines : List ℕ) → listing ≡ take (max_listing + 1) lines → length listing ≤ max_listing → listing ≡ lines
same_bytes listing lines e within = e ∙ whole (max_listing + 1) lines (omega (arith, length_read listing lines e within))

pub long_answer : (C : Checker) (bytes listing lines : List ℕ) → listing ≡ take (max_listing + 1) lines → max_listing < length listing →
    Answers C bytes lines None × (codes "LONG LISTING\n" ≡ answer_text lines None)
long_answer C bytes listing lines e more = (too_long (omega (arith, more, ap length e, length-take (max_listing + 1) lines)), refl)

pub found_answer : (C : Checker) (bytes listing lines : List ℕ) (found : Found) → listing ≡ take (max_listing + 1) lines → length listing ≤ max_listing →
    EndsIn C bytes listing found →
    Answers C bytes lines (Some found) × (answer_text listing (Some found) ≡ answer_text lines (Some found))
found_answer C bytes listing lines found e within comes =
    let same = same_bytes listing lines e within in (
      is_found (length_read listing lines e within) (subst (λ (l : List ℕ). EndsIn C bytes l found) same comes),
      ap
          (λ (l : List ℕ). answer_text l (Some found)) same,
    )

-- what holds of what is there
pub some_of : {X : Type 0} (P : X → Type 0) (known : Option X) (x : X) → known ≡ Some x → IfSome known P → P x
some_of P known x is h = subst (λ k. IfSome k P) is h
