-- A value that is read at a place of a vector is that of its variable.
use Rattle.std.proofs.Common.{◌≡◌, ℕ, ◌+◌, ◌-◌, ◌<◌, ◌≤◌, List, length, get_or, sym, ◌∙◌, ap, arith}
use Rattle.std.proofs.lemmas.List.{get_or_default}
use Rattle.exact_values.specs.Rational.{ℚ, zero_ℚ}
use Rattle.lp_definitions.specs.LinearProgram.{value_at}

pub value_next : (xs : List ℚ) (k : ℕ) (x : ℚ) → k < length xs → x ≡ get_or xs k x → value_at xs (k + 1) ≡ x
value_next xs k x below is =
    let place : k + 1 - 1 ≡ k = omega arith in
    ap (λ i. get_or xs i zero_ℚ) place ∙ sym (is ∙ get_or_default xs k x zero_ℚ below)

pub value_read : (xs : List ℚ) (k : ℕ) (x : ℚ) → k - 1 < length xs → x ≡ get_or xs (k - 1) x → x ≡ value_at xs k
value_read xs k x below is = is ∙ get_or_default xs (k - 1) x zero_ℚ below

pub value_at_place : (xs : List ℚ) (j : ℕ) (v : ℚ) → 1 ≤ j → j ≤ length xs → v ≡ get_or xs (j - 1) v → v ≡ value_at xs j
value_at_place xs j v low high is = let within : j - 1 < length xs = omega arith in value_read xs j v within is
