-- The test of names finds names.
use Rattle.std.proofs.Common.{◌≡◌, ℕ, ◌≤◌, Bool, true, false, ◌&&◌, List, length, refl, arith, leb}
use Rattle.std.specs.Prelude.{bytes_eq}
use Rattle.std.specs.List.{list_all}
use Rattle.std.proofs.lemmas.Bool.Decides.{nat_tests}
use Rattle.std.proofs.lemmas.Slice.Eq.{bytes_eq-Decides}
use Rattle.card_definitions.specs.Words.{without_trailing}
use Rattle.card_definitions.specs.Cards.{is_blank, is_printable}
use Rattle.problem_definitions.specs.Valid.{IsName}
use Rattle.control_definitions.specs.Arguments.{is_name}

pub all_three : (a b c : Bool) → (a && b && c) ≡ true → (a ≡ true) × (b ≡ true) × (c ≡ true)
all_three true true true e = (refl, refl, refl)
all_three true true false e = cc e
all_three true false c e = cc e
all_three false b c e = cc e

pub at_most_eight : (n : ℕ) → leb n 8 ≡ true → n ≤ 8
at_most_eight n e = grind (arith, nat_tests)

pub passes_name : (text : List ℕ) → is_name text ≡ true → IsName text
passes_name text e =
    let each = all_three (leb (length text) 8) (list_all is_printable text) (bytes_eq (without_trailing is_blank text) text) e in
    record { short = at_most_eight (length text) each.0; printable = each.1; trimmed = (bytes_eq-Decides (without_trailing is_blank text) text).0 each.2 }
