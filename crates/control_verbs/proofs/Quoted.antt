-- Texts between quotes.
use Rattle.std.proofs.Common.{◌≡◌, ℕ, zero, suc, ◌-◌, Bool, true, false, not, ◌&&◌, List, [], ◌∷◌, ◌++◌, Option, Some, None, take, drop, length, if◌then◌else◌}
use Rattle.std.proofs.Common.{refl, arith, eqb, eq-eqb}
use Rattle.std.specs.Prelude.{bytes_eq, option_and_then}
use Rattle.std.specs.List.{list_any}
use Rattle.control_definitions.specs.Statements.{is_quote}
use Rattle.control_definitions.specs.Arguments.{quotation}
use Rattle.control_verbs.specs.Pieces.{after_quote, before_quote}

same_byte : (byte : ℕ) → eqb byte byte ≡ true
same_byte byte = eq-eqb byte byte refl

-- two lists with the same prefix are equal where what follows is
bytes_eq-front : (m : ℕ) (xs ys : List ℕ) → bytes_eq xs (take m xs ++ ys) ≡ bytes_eq (drop m xs) ys
bytes_eq-front zero xs ys = refl
bytes_eq-front (suc m) [] ys = refl
bytes_eq-front (suc m) (x ∷ xs) ys = rw (same_byte x) (bytes_eq-front m xs ys)

-- an inner text, where it has no quote
abbrev without_quotes : List ℕ → Option (List ℕ)
without_quotes inner = if list_any is_quote inner then None else Some inner

-- A quotation is what stands after a quote and before a quote, where it has none.
pub quotation_is : (argument : List ℕ) → quotation argument ≡ option_and_then without_quotes (option_and_then before_quote (after_quote argument))
quotation_is [] = refl
quotation_is (byte ∷ text) = by (is_quote byte)
  where
    decided : (inner : List ℕ) (ends : Bool)
        → (if ends && not (list_any is_quote inner) then Some inner else None) ≡ option_and_then without_quotes (if ends then Some inner else None)
    decided inner true =
        elim (list_any is_quote inner) as (λ any. (if not any then Some inner else None) ≡ (if any then None else Some inner)) [ true ↦ refl | false ↦ refl ]
    decided inner false = refl

    by : (t : Bool)
        → (if (t && bytes_eq text (take (suc (length text) - 2) text ++ 39 ∷ [])) && not (list_any is_quote (take (suc (length text) - 2) text)) then Some
        (take (suc (length text) - 2) text) else None)
        ≡ option_and_then without_quotes (option_and_then before_quote (if t then Some text else None))
    by true =
        let less : suc (length text) - 2 ≡ length text - 1 = omega arith in
        rw (less, bytes_eq-front (length text - 1) text (39 ∷ [])) (decided (take (length text - 1) text) (bytes_eq (drop (length text - 1) text) (39 ∷ [])))
    by false = refl
