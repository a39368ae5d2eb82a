-- What reading a number tells.
use Rattle.std.proofs.Common.{◌≡◌, ℕ, ◌+◌, ◌<◌, ◌≤◌, Bool, true, false, List, [], ◌∷◌, Option, Some, None, Ok, Err, length, nat_lt, refl, arith}
use Rattle.std.specs.List.{prefix_len}
use Rattle.std.proofs.lemmas.List.{length-drop}
use Rattle.std.proofs.lemmas.List.Sums.{prefix_len-le-length}
use Rattle.std.proofs.lemmas.Bool.Decides.{nat_tests}
use Rattle.card_definitions.specs.declared.NumberFault.{NumberFault}
use Rattle.card_definitions.specs.declared.NumberFault.TheVariants.{Empty, BadCharacter, NoDigit, ExponentRange}
use Rattle.card_definitions.specs.Words.{without_leading, is_empty, ◌⟹◌, first_fault, unless}
use Rattle.card_definitions.specs.Cards.{is_blank}
use Rattle.card_definitions.specs.Numbers.{Decimal, trimmed, number_fault, number_of, decimal_of, formed_length, lacks_digit, exponent_size}
use Rattle.card_definitions.proofs.Trailing.{length-trimmed}

given_value : {A F : Type 0} (fault : Option F) (value v : A) → unless fault value ≡ Ok v → (fault ≡ None) × (v ≡ value)
given_value None value v e = (refl, cc e)
given_value (Some fault) value v e = absurd (cc e)

given_fault : {A F : Type 0} (fault : Option F) (value : A) (f : F) → unless fault value ≡ Err f → fault ≡ Some f
given_fault None value f e = absurd (cc e)
given_fault (Some fault) value f e = cc e

pub reported_value : (field : List ℕ) (v : Decimal) → number_of field ≡ Ok v → (number_fault field ≡ None) × (v ≡ decimal_of field)
unfolding number_of
reported_value field v e = given_value (number_fault field) (decimal_of field) v e

pub reported_fault : (field : List ℕ) (f : NumberFault) → number_of field ≡ Err f → number_fault field ≡ Some f
unfolding number_of
reported_fault field f e = given_fault (number_fault field) (decimal_of field) f e

-- a bad character stands in the field
pub bad_place : (field : List ℕ) (place : ℕ) → number_fault field ≡ Some (BadCharacter place) → place ≤ length field
unfolding number_fault
bad_place field place e =
    by (is_empty (trimmed field)) (nat_lt (formed_length (trimmed field)) (length (trimmed field))) (lacks_digit (trimmed field))
    (nat_lt 18 (exponent_size (trimmed field))) refl e
  where
    inside : formed_length (trimmed field) < length (trimmed field) → prefix_len is_blank field + formed_length (trimmed field) + 1 ≤ length field
    inside lt =
        let short : length (trimmed field) ≤ length (without_leading is_blank field) = length-trimmed is_blank (without_leading is_blank field) in
        omega (arith, lt, short, length-drop (prefix_len is_blank field) field, prefix_len-le-length is_blank field)

    by : (a b c d : Bool) → nat_lt (formed_length (trimmed field)) (length (trimmed field)) ≡ b
        → first_fault
        ((a ⟹ Empty) ∷ (b ⟹ BadCharacter (prefix_len is_blank field + formed_length (trimmed field) + 1)) ∷ (c ⟹ NoDigit) ∷ (d ⟹ ExponentRange) ∷ []) ≡ Some
        (BadCharacter place)
        → place ≤ length field
    by true b c d lt h = absurd (cc h)
    by false true c d lt h =
        let is : prefix_len is_blank field + formed_length (trimmed field) + 1 ≡ place = cc h in
        let below : formed_length (trimmed field) < length (trimmed field) = grind (arith, nat_tests, lt) in
        omega (arith, is, inside below)
    by false false true d lt h = absurd (cc h)
    by false false false true lt h = absurd (cc h)
    by false false false false lt h = absurd (cc h)
