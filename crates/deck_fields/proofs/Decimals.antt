-- Numbers without a fault, and the texts that they keep.
use Rattle.std.proofs.Common.{◌≡◌, ℕ, ◌≤◌, Bool, true, false, List, [], ◌∷◌, Option, Some, None, Ok, length, refl, ap, sym, ◌∙◌, arith, nat_lt}
use Rattle.std.proofs.lemmas.Bool.Decides.{nat_tests}
use Rattle.card_definitions.specs.declared.NumberFault.TheVariants.{Empty, BadCharacter, NoDigit, ExponentRange}
use Rattle.card_definitions.specs.Words.{padded, without_trailing, without_leading, is_empty, ◌⟹◌, first_fault, unless}
use Rattle.card_definitions.specs.Cards.{is_blank}
use Rattle.card_definitions.specs.Numbers.{Decimal, trimmed, number_fault, number_of, decimal_of, formed_length, lacks_digit, exponent_size}
use Rattle.card_definitions.proofs.Trailing.{trimmed_twice}
use Rattle.problem_definitions.specs.Valid.{IsDecimal}
use Rattle.card_definitions.specs.Places.{text_in}
use Rattle.card_definitions.proofs.Places.{text_in-padded}

-- the last of the four tests of a number fails where none finds a fault
last_test_fails : (empty bad none range : Bool) (place : ℕ) →
    first_fault ((empty ⟹ Empty) ∷ (bad ⟹ BadCharacter place) ∷ (none ⟹ NoDigit) ∷ (range ⟹ ExponentRange) ∷ []) ≡ None → range ≡ false
last_test_fails true bad none range place e = cc e
last_test_fails false true none range place e = cc e
last_test_fails false false true range place e = cc e
last_test_fails false false false true place e = cc e
last_test_fails false false false false place e = refl

-- the exponent of a number without a fault is small
pub exponent_is_small : (field : List ℕ) → number_fault field ≡ None → exponent_size (trimmed field) ≤ 18
unfolding number_fault
exponent_is_small field e =
    let text = trimmed field in
    let small : nat_lt 18 (exponent_size text) ≡ false =
    last_test_fails (is_empty text) (nat_lt (formed_length text) (length text)) (lacks_digit text) (nat_lt 18 (exponent_size text)) _ e in
    grind (arith, nat_tests)

-- a value that is given is the one that there is
pub unless-Ok : {A F : Type 0} (fault : Option F) (given value : A) → unless fault given ≡ Ok value → given ≡ value
unless-Ok None given value e = cc e
unless-Ok (Some fault) given value e = cc e

-- the text of a number is trimmed, so that its places hold it
pub decimal_in_places : (decimal : Decimal) → IsDecimal decimal → text_in (padded 12 decimal.text) ≡ decimal.text
unfolding number_of
decimal_in_places decimal h =
    let own : trimmed decimal.text ≡ decimal.text = ap (λ d. d.text) (unless-Ok (number_fault decimal.text) (decimal_of decimal.text) decimal h.value) in
    text_in-padded 12 decimal.text (ap (without_trailing is_blank) (sym own) ∙ trimmed_twice is_blank (without_leading is_blank decimal.text) ∙ own)
