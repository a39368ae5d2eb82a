-- The number that digits spell doesn't fall as more digits follow.
use Rattle.std.proofs.Common.{◌≡◌, ℕ, ◌+◌, ◌<◌, ◌≤◌, List, [], ◌∷◌, length, get_or, take, drop, sym, ap, ◌∙◌, arith, subst, take-append-drop, le_refl}
use Rattle.std.specs.Prelude.{fold}
use Rattle.std.proofs.lemmas.List.Sums.{fold-append, fold_more}
use Rattle.card_definitions.specs.Numbers.{next_value, digits_value}

grows_on : (value : ℕ) (digits : List ℕ) → value ≤ fold next_value value digits
grows_on value [] = le_refl value
grows_on value (d ∷ digits) =
    let more : next_value value d ≤ fold next_value (next_value value d) digits = grows_on (next_value value d) digits in omega (arith, more)

pub grows : (n : ℕ) (digits : List ℕ) → digits_value (take n digits) ≤ digits_value digits
grows n digits =
    subst (λ v. digits_value (take n digits) ≤ v) (sym (fold-append next_value 0 (take n digits) (drop n digits)) ∙ ap digits_value (take-append-drop n digits))
    (grows_on (digits_value (take n digits)) (drop n digits))

-- where a digit more is too great, the whole is
pub stays_great : (bound n value : ℕ) (digits : List ℕ) → value ≡ digits_value (take n digits) → n < length digits →
    (next_value value (get_or digits n 0) < bound → ⊥) → digits_value digits < bound → ⊥
stays_great bound n value digits is within great small =
    let more : digits_value (take (n + 1) digits) ≡ next_value value (get_or digits n 0) =
    fold_more next_value 0 digits n 0 within ∙ ap (λ v. next_value v (get_or digits n 0)) (sym is) in
    let least : digits_value (take (n + 1) digits) ≤ digits_value digits = grows (n + 1) digits in
    great (omega (arith, more, least, small))
