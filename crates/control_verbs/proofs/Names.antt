-- Names, and labels that are names.
use Rattle.std.proofs.Common.{◌≡◌, ℕ, ◌≤◌, ◌↔◌, Bool, true, false, cond, not, ◌&&◌, List, [], ◌∷◌, Option, Some, None, length, if◌then◌else◌, refl, ap, ◌∙◌}
use Rattle.std.proofs.Common.{arith, leb}
use Rattle.std.specs.Prelude.{IsSome, IfSome}
use Rattle.std.specs.List.{list_all}
use Rattle.std.proofs.lemmas.Bool.Decides.{nat_tests}
use Rattle.std.proofs.lemmas.Slice.Eq.{bytes_eq-Decides}
use Rattle.std.proofs.lemmas.Bool.{and_parts}
use Rattle.card_definitions.specs.Words.{without_trailing, is_empty}
use Rattle.card_definitions.specs.Cards.{is_blank, is_printable}
use Rattle.card_definitions.proofs.Trailing.{without_trailing-cons}
use Rattle.problem_definitions.specs.Valid.{IsName}
use Rattle.control_definitions.specs.Arguments.{if_passes, is_name, is_label, is_label_byte}
use Rattle.control_definitions.proofs.Names.{all_three, at_most_eight, passes_name}

eight_at_most : (n : ℕ) → n ≤ 8 → leb n 8 ≡ true
eight_at_most n e = grind (arith, nat_tests)

-- the test of names finds names
name_passes : (text : List ℕ) → IsName text → is_name text ≡ true
name_passes text h = rw (eight_at_most (length text) h.short, h.printable) ((bytes_eq-Decides (without_trailing is_blank text) text).1 h.trimmed)

-- A name that is made of a text where that is one is the text where it passes.
pub named_text : (r : Option (List ℕ)) (text : List ℕ) → (IsSome r ↔ IsName text) → IfSome r (λ name. name ≡ text) → r ≡ if_passes is_name text
named_text (Some name) text when value = rw (name_passes text (when.0 refl)) (ap Some value)
named_text None text when value = by (is_name text) refl
  where
    by : (b : Bool) → is_name text ≡ b → None ≡ (if b then Some text else None)
    by true e = cc (when.1 (passes_name text e))
    by false e = refl

-- ---- labels

label_byte_prints : (byte : ℕ) → is_label_byte byte ≡ true → is_printable byte ≡ true
label_byte_prints byte e = grind (arith, nat_tests)

label_byte_is_no_blank : (byte : ℕ) → is_label_byte byte ≡ true → is_blank byte ≡ false
label_byte_is_no_blank byte e = grind (arith, nat_tests)

label_bytes_print : (text : List ℕ) → list_all is_label_byte text ≡ true → list_all is_printable text ≡ true
label_bytes_print [] e = refl
label_bytes_print (byte ∷ text) e =
    let each = and_parts (is_label_byte byte) (list_all is_label_byte text) e in
    rw (label_byte_prints byte each.0) (label_bytes_print text each.1)

label_bytes_are_trimmed : (text : List ℕ) → list_all is_label_byte text ≡ true → without_trailing is_blank text ≡ text
label_bytes_are_trimmed [] e = refl
label_bytes_are_trimmed (byte ∷ text) e =
    let each = and_parts (is_label_byte byte) (list_all is_label_byte text) e in
    without_trailing-cons is_blank byte text ∙ rw (label_byte_is_no_blank byte each.0, label_bytes_are_trimmed text each.1) (keeps (is_empty text))
  where
    keeps : (b : Bool) → cond (b && false) [] (byte ∷ text) ≡ byte ∷ text
    keeps true = refl
    keeps false = refl

pub label_is_name : (text : List ℕ) → is_label text ≡ true → IsName text
label_is_name text e =
    let each = all_three (not (is_empty text)) (leb (length text) 8) (list_all is_label_byte text) e in
    record { short = at_most_eight (length text) each.1; printable = label_bytes_print text each.2; trimmed = label_bytes_are_trimmed text each.2 }

pub label_is_filled : (text : List ℕ) → is_label text ≡ true → is_empty text ≡ false
label_is_filled [] e = cc e
label_is_filled (byte ∷ text) e = refl
