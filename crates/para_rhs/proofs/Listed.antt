-- Lists with one entry for each variable.
use Rattle.std.proofs.Common.{◌≡◌, ℕ, ◌+◌, List, [], ◌∷◌, ◌++◌, map, ap, ap₂, sym, ◌∙◌, arith}
use Rattle.std.specs.Prelude.{Option}
use Rattle.std.proofs.lemmas.List.{map-append}
use Rattle.exact_values.specs.Rational.{ℚ}
use Rattle.lp_definitions.specs.LinearProgram.{numbers_from}
use Rattle.lp_laws.proofs.Opening.{numbers_from-append}

-- one more entry at the end
pub one_more : (f : ℕ → Option ℚ) (items : List (Option ℚ)) (k : ℕ) (v : Option ℚ) → items ≡ map f (numbers_from 1 k) → v ≡ f (k + 1) →
    items ++ (v ∷ []) ≡ map f (numbers_from 1 (k + 1))
one_more f items k v so_far is =
    ap₂ (λ (xs : List (Option ℚ)) (x : Option ℚ). xs ++ (x ∷ [])) so_far (is ∙ ap f (omega arith))
    ∙ sym (map-append f (numbers_from 1 k) ((1 + k) ∷ []))
    ∙ ap (map f) (sym (numbers_from-append 1 k 1))
