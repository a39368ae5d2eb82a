-- What a search over the variables finds, and when: the path's choices, as a walk over the variables makes them.
use Rattle.std.proofs.Common.{◌≡◌, ℕ, ◌≤◌, ◌<◌, Bool, true, false, refl, sym, ◌∙◌, arith}
use Rattle.std.specs.Prelude.{Some, None}
use Rattle.lp_laws.proofs.Values.{clash}
use Rattle.lp_definitions.specs.LinearProgram.{LinearProgram, Vector, size, IsVariable}
use Rattle.simplex_definitions.specs.Moves.{least, is_no_later, step_length, reaches_first, blocking_variable}
use Rattle.simplex_laws.specs.Laws.{IsLeast}
use Rattle.simplex_laws.proofs.Numbered.{find_first, find_nothing, find_none, find_some, list_all_from, list_all_true}
use Rattle.simplex_laws.proofs.BlockingVariables.{reaches_limit}

pub least_is : (p : LinearProgram) (test : ℕ → Bool) (k : ℕ) → IsLeast p test k → least p test ≡ Some k
least_is p test k h = find_first test (size p.matrix) 1 k h.is_variable.0 (omega (arith, h.is_variable.1)) h.passes (λ j from to. h.before j from to)

pub least_none : (p : LinearProgram) (test : ℕ → Bool) → ((k : ℕ) → IsVariable p.matrix k → test k ≡ false) → least p test ≡ None
least_none p test h = find_nothing test (size p.matrix) 1 (λ k low high. h k (low, omega (arith, high)))

pub none_passes : (p : LinearProgram) (test : ℕ → Bool) → least p test ≡ None → (k : ℕ) → IsVariable p.matrix k → test k ≡ false
none_passes p test e k is = find_none test (size p.matrix) 1 e k is.0 (omega (arith, is.1))

pub found_passes : (p : LinearProgram) (test : ℕ → Bool) (k : ℕ) → least p test ≡ Some k → IsVariable p.matrix k × (test k ≡ true)
found_passes p test k e = let h = find_some test (size p.matrix) 1 k e in ((h.low, omega (arith, h.high)), h.passes)

-- k reaches a limit, no variable reaches one sooner, and each before it reaches one later or none
pub blocking_variable_is : (p : LinearProgram) (z v : Vector) (k : ℕ) → IsVariable p.matrix k →
    ((i : ℕ) → IsVariable p.matrix i → is_no_later (step_length p z v k) (step_length p z v i) ≡ true) →
    ((j : ℕ) → 1 ≤ j → j < k → is_no_later (step_length p z v j) (step_length p z v k) ≡ false) → blocking_variable p z v ≡ Some k
blocking_variable_is p z v k is first before = least_is p (reaches_first p z v) k (record {
  is_variable = is;
  passes = list_all_from (λ i. is_no_later (step_length p z v k) (step_length p z v i)) (size p.matrix) 1 (λ i low high. first i (low, omega (arith, high)));
  before = λ j from to. late j from to (reaches_first p z v j) refl;
})
  where
    late : (j : ℕ) → 1 ≤ j → j < k → (b : Bool) → reaches_first p z v j ≡ b → reaches_first p z v j ≡ false
    late j from to false e = e
    late j from to true e =
        absurd (clash
        (sym (list_all_true (λ i. is_no_later (step_length p z v j) (step_length p z v i)) (size p.matrix) 1 e k is.0 (omega (arith, is.1)))
        ∙ before j from to))

-- nothing stops a motion where no variable has a limit ahead
pub blocking_variable_nothing : (p : LinearProgram) (z v : Vector) → ((k : ℕ) → IsVariable p.matrix k → step_length p z v k ≡ None) → blocking_variable p z v
    ≡ None
blocking_variable_nothing p z v h = least_none p (reaches_first p z v) (λ k is. late k is (reaches_first p z v k) refl)
  where
    late : (k : ℕ) → IsVariable p.matrix k → (b : Bool) → reaches_first p z v k ≡ b → reaches_first p z v k ≡ false
    late k is false e = e
    late k is true e =
        let itself = list_all_true (λ i. is_no_later (step_length p z v k) (step_length p z v i)) (size p.matrix) 1 e k is.0 (omega (arith, is.1)) in
        let found = reaches_limit (step_length p z v k) (step_length p z v k) itself in
        let none = sym found.1 ∙ h k is in cc
