-- Names, in the 8 places where they stand.
use Rattle.std.proofs.Common.{◌≡◌, ℕ, ◌+◌, ◌-◌, Bool, true, false, ◌&&◌, List, length, length-append, replicate, refl, ap, sym, ◌∙◌, arith, IsTrue}
use Rattle.std.specs.Prelude.{bytes_eq}
use Rattle.std.specs.Hash as fed
use Rattle.std.specs.List.{list_all}
use Rattle.std.proofs.lemmas.Slice.Eq.{bytes_eq-Decides}
use Rattle.std.proofs.lemmas.List.Folds.{list_all-append}
use Rattle.card_definitions.specs.Words.{padded}
use Rattle.card_definitions.specs.Cards.{is_blank, is_printable}
use Rattle.card_definitions.specs.Places.{text_in, ArePrintable}
use Rattle.card_definitions.proofs.Trailing.{trailing_split, without_trailing-append}
use Rattle.card_definitions.proofs.Places.{blanks_pass, length-padded, text_in-padded}
use Rattle.problem_definitions.specs.Valid.{IsName}

-- A name's places hold it.
pub name_in_places : (name : List ℕ) → IsName name → text_in (padded 8 name) ≡ name
name_in_places name h = text_in-padded 8 name h.trimmed

pub placed : (name : List ℕ) → IsName name → ArePrintable (padded 8 name)
placed name h = record {
  eight = length-padded 8 name h.short;
  printable = list_all-append is_printable name (replicate (8 - length name) 32) ∙ rw h.printable (blanks_pass is_printable (8 - length name) refl);
}

-- What stands in 8 printable places is a name.
pub name_stands : (places : List ℕ) → ArePrintable places → IsName (text_in places)
name_stands places h =
    let split = trailing_split is_blank places in
    let lengths : length (text_in places) + length split.0 ≡ 8 = sym (length-append (text_in places) split.0) ∙ ap length (sym split.2) ∙ h.eight in
    record {
      short = omega arith;
      printable = first_pass (list_all is_printable (text_in places)) (list_all is_printable split.0)
          (sym (list_all-append is_printable (text_in places) split.0) ∙ ap (list_all is_printable) (sym split.2) ∙ h.printable);
      trimmed = sym (without_trailing-append is_blank (text_in places) split.0 split.1) ∙ ap text_in (sym split.2);
    }
  where
    first_pass : (a b : Bool) → (a && b) ≡ true → a ≡ true
    first_pass true b e = refl
    first_pass false b e = cc e

-- Equal names stand alike in their places.
pub places_alike : (x y : List ℕ) → IsTrue (bytes_eq x y) → fed.slice fed.u8 (padded 8 x) ≡ fed.slice fed.u8 (padded 8 y)
places_alike x y h = let same : x ≡ y = (bytes_eq-Decides x y).0 h in ap (λ name. fed.slice fed.u8 (padded 8 name)) same
