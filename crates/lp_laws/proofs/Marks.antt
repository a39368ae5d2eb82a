-- The marks of the first rows.
use Rattle.std.proofs.Common.{◌≡◌, ℕ, ◌+◌, List, [], ◌∷◌, ◌++◌, map, Bool, leb, ltb, sym, ◌∙◌, ap, ap₂, arith}
use Rattle.std.proofs.lemmas.List.{map-append}
use Rattle.lp_definitions.specs.LinearProgram.{numbers_from}
use Rattle.lp_laws.proofs.Opening.{numbers_from-append}

-- one mark more
pub marked_more : (rows k : ℕ) (marks : List Bool) → marks ≡ map (λ n. leb n rows) (numbers_from 1 k) →
    marks ++ (ltb k rows ∷ []) ≡ map (λ n. leb n rows) (numbers_from 1 (k + 1))
marked_more rows k marks so_far =
    let row : ℕ → Bool = λ n. leb n rows in
    let same : ltb k rows ≡ leb (1 + k) rows = grind arith in
    ap₂ (λ xs v. xs ++ (v ∷ [])) so_far same ∙ sym (map-append row (numbers_from 1 k) ((1 + k) ∷ [])) ∙ ap (map row) (sym (numbers_from-append 1 k 1))
