-- Texts, one after another.
use Rattle.std.proofs.Common.{◌≡◌, ◌+◌, ◌<◌, ℕ, suc, List, ◌∷◌, drop, length, get_or, ap, ◌∙◌, arith}
use Rattle.std.specs.Prelude.{option_and_then}
use Rattle.std.specs.List.{flat_map}
use Rattle.std.proofs.Math.Seq.{drop-cons}
use Rattle.std.proofs.lemmas.List.Concat.{flat_map-cons}
use Rattle.walk_definitions.specs.Words.{left_after}
use Rattle.walk_definitions.proofs.Texts.{left_after_both}

-- where the texts up to a place were taken, the next one is looked for
pub next_text : {X : Type 0} (f : X → List ℕ) (xs : List X) (i : ℕ) (d : X) (old now : List ℕ) → i < length xs →
    left_after (flat_map f xs) old ≡ left_after (flat_map f (drop i xs)) now →
    left_after (flat_map f xs) old ≡ option_and_then (left_after (flat_map f (drop (i + 1) xs))) (left_after (f (get_or xs i d)) now)
next_text f xs i d old now inside so_far =
    let next : suc i ≡ i + 1 = omega arith in
    so_far ∙ ap (λ ys. left_after (flat_map f ys) now) (drop-cons xs i d inside ∙ ap (λ n. get_or xs i d ∷ drop n xs) next)
    ∙ ap (λ t. left_after t now) (flat_map-cons f (get_or xs i d) (drop (i + 1) xs))
    ∙ left_after_both (f (get_or xs i d)) (flat_map f (drop (i + 1) xs)) now
