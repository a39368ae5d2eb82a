-- The path's choices depend on rates at the nonbasics and on speeds at the variables alone.
use Rattle.std.proofs.Common.{◌≡◌, ℕ, zero, suc, ◌+◌, ◌-◌, ◌<◌, Bool, true, false, List, length, get_or, map, refl, sym, ap, ap₂, ◌∙◌, arith}
use Rattle.std.specs.Prelude.{None, not, ◌&&◌, ◌||◌, nat_eq, option_map, if◌then◌else◌}
use Rattle.exact_values.specs.Rational.{ℚ, zero_ℚ, one_ℚ, neg_ℚ, ◌-ℚ◌, ◌/ℚ◌}
use Rattle.exact_values.specs.Tests.{lt_ℚ}
use Rattle.lp_definitions.specs.LinearProgram.{Matrix, LinearProgram, Vector, size, numbers_from, IsVariable, lower_of, upper_of, value_at}
use Rattle.lp_definitions.specs.Basis.{is_in, basics_of, status_of, is_basic, IsBasis, IsNonbasic}
use Rattle.lp_definitions.specs.declared.Status.{Status}
use Rattle.lp_laws.proofs.Uniqueness.{is_in-basics_of}
use Rattle.lp_model.specs.RatesCalls.{IsRowOf}
use Rattle.simplex_definitions.specs.Moves.{signed, is_fixed, rises_from, falls_from, lowers, entering, step_length, is_no_later, reaches_first}
use Rattle.simplex_definitions.specs.Moves.{blocking_variable}
use Rattle.simplex_definitions.specs.Path.{listed, ray_of}
use Rattle.simplex_laws.proofs.Numbered.{find_same, list_all_same, get_or-listed}
use Rattle.simplex_laws.proofs.OneTurn.{idle_basic}
use Rattle.simplex_laws.proofs.Steps.{signed_zero}
use Rattle.bounded_primal.specs.Turns.{ray_from}
use Rattle.std.proofs.lemmas.List.{ext_get_or}

-- quantities with the same rates at the nonbasics are lowered by the same variable
pub entering_same : (p : LinearProgram) (s : List Status) → IsBasis p s → (f g : Vector) → ((k : ℕ) → IsNonbasic p.matrix (basics_of s) k → f k ≡ g k) →
    entering p s f ≡ entering p s g
entering_same p s basis f g same =
    find_same (lowers p s f) (lowers p s g) (size p.matrix) 1 (λ k low high. at k (low, omega (arith, high)) (is_in (basics_of s) k) refl)
  where
    at : (k : ℕ) → IsVariable p.matrix k → (mark : Bool) → is_in (basics_of s) k ≡ mark → lowers p s f k ≡ lowers p s g k
    at k is true mark =
        let basic : is_basic (status_of s k) ≡ true = sym (is_in-basics_of s k is.0 (omega (arith, is.1, basis.counted))) ∙ mark in
        idle_basic (status_of s k) (lt_ℚ (f k) zero_ℚ) (lt_ℚ zero_ℚ (f k)) (not (is_fixed p k)) basic
        ∙ sym (idle_basic (status_of s k) (lt_ℚ (g k) zero_ℚ) (lt_ℚ zero_ℚ (g k)) (not (is_fixed p k)) basic)
    at k is false mark =
        ap (λ v. (lt_ℚ v zero_ℚ && (rises_from (status_of s k) && not (is_fixed p k))) || (lt_ℚ zero_ℚ v && (falls_from (status_of s k) && not (is_fixed p k))))
        (same k (is, mark))

step_length_same : (p : LinearProgram) (z v w : Vector) (k : ℕ) → v k ≡ w k → step_length p z v k ≡ step_length p z w k
step_length_same p z v w k e =
    ap (λ v. option_map (λ l. (l -ℚ z k) /ℚ v) (if lt_ℚ zero_ℚ v then upper_of p k else (if lt_ℚ v zero_ℚ then lower_of p k else None))) e

-- motions with the same speeds at the variables are stopped by the same variable
pub blocking_variable_same : (p : LinearProgram) (z v w : Vector) → ((k : ℕ) → IsVariable p.matrix k → v k ≡ w k) → blocking_variable p z v
    ≡ blocking_variable p z w
blocking_variable_same p z v w same =
    find_same (reaches_first p z v) (reaches_first p z w) (size p.matrix) 1 (λ k low high.
    list_all_same (λ i. is_no_later (step_length p z v k) (step_length p z v i)) (λ i. is_no_later (step_length p z w k) (step_length p z w i))
    (size p.matrix) 1 (λ i from to.
    ap₂ is_no_later (step_length_same p z v w k (same k (low, omega (arith, high)))) (step_length_same p z v w i (same i (from, omega (arith, to))))))

length_listed : (f : Vector) (n first : ℕ) → length (map f (numbers_from first n)) ≡ n
length_listed f zero first = refl
length_listed f (suc n) first = let rest = length_listed f n (suc first) in omega (arith, rest)

-- a list that has a vector's values in their places
pub listed_is : (a : Matrix) (xs : List ℚ) (f : Vector) → length xs ≡ size a → ((k : ℕ) → IsVariable a k → value_at xs k ≡ f k) → xs ≡ listed a f
listed_is a xs f counted h = ext_get_or zero_ℚ xs (listed a f) (counted ∙ sym (length_listed f (size a) 1)) same
  where
    same : (i : ℕ) → i < length xs → get_or xs i zero_ℚ ≡ get_or (listed a f) i zero_ℚ
    same i below =
        let place : i + 1 - 1 ≡ i = omega arith in
        let next : i + 1 ≡ 1 + i = omega arith in
        ap (λ j. get_or xs j zero_ℚ) (sym place) ∙ h (i + 1) (omega arith, omega (arith, below, counted)) ∙ ap f next
        ∙ sym (get_or-listed f (size a) 1 i zero_ℚ (omega (arith, below, counted)))

-- the multipliers that a row gives are those of its rates
pub row_ray : (p : LinearProgram) (s : List Status) (r : ℕ) (xs : Vector) (row : IsRowOf p.matrix (basics_of s) r xs) (below : Bool) (k : ℕ) →
    IsVariable p.matrix k → ray_from xs r below k ≡ ray_of (basics_of s) row.rate r below k
row_ray p s r xs row below k is = at (nat_eq k r) (is_in (basics_of s) k) refl
  where
    entry : (mark : Bool) → is_in (basics_of s) k ≡ mark → xs k ≡ (if mark then zero_ℚ else row.rate r k)
    entry mark e = row.entries k is ∙ ap (λ m. if m then zero_ℚ else row.rate r k) e

    at : (own mark : Bool) → is_in (basics_of s) k ≡ mark →
        signed below (if own then neg_ℚ one_ℚ else xs k) ≡ (if own then signed below (neg_ℚ one_ℚ) else (if mark then zero_ℚ else signed below (row.rate r k)))
    at true mark e = refl
    at false true e = ap (signed below) (entry true e) ∙ signed_zero below
    at false false e = ap (signed below) (entry false e)
