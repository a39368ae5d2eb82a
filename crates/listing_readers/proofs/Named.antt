-- Words that name some things.
use Rattle.std.proofs.Common.{◌≡◌, ℕ, Bool, true, false, List, [], ◌∷◌, map, Option, Some, None, refl, cond}
use Rattle.std.specs.Prelude.{option_map, bytes_eq}
use Rattle.std.specs.List.{find}
use Rattle.card_definitions.specs.Words.{named}

-- the first one whose word it is
pub named_is : {X : Type 0} (text : X → List ℕ) (xs : List X) (word : List ℕ) →
    named (map (λ x. (text x, x)) xs) word ≡ find (λ x. bytes_eq (text x) word) xs
named_is text [] word = refl
named_is {X} text (x ∷ xs) word = by (bytes_eq (text x) word) (named_is text xs word)
  where
    by : (b : Bool) → named (map (λ x. (text x, x)) xs) word ≡ find (λ x. bytes_eq (text x) word) xs →
        option_map {T = List ℕ × X} (λ line. line.1) (cond b (Some (text x, x)) (find (λ line. bytes_eq line.0 word) (map (λ x. (text x, x)) xs)))
        ≡ cond b (Some x) (find (λ x. bytes_eq (text x) word) xs)
    by true rest = refl
    by false rest = rest
