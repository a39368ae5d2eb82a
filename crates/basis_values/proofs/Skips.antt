-- What an operation gives that need not be made, and the walk of a search.
use Rattle.std.proofs.Common.{◌≡◌, ◌≢◌, ℕ, ◌+◌, ◌<◌, List, length, get_or, ◌≤◌, ◌⊎◌, inl, inr, Bool, true, false, sym, ◌∙◌, ap, subst, arith}
use Rattle.std.specs.Prelude.{eqb, Option, Some, None, IfSome}
use Rattle.std.specs.Option.{SomeIff}
use Rattle.std.proofs.lemmas.Bool.Decides.{eqb_tells}
use Rattle.exact_values.specs.Rational.{ℚ, zero_ℚ, ◌+ℚ◌, ◌*ℚ◌}
use Rattle.exact_values.proofs.RingLaws.{add-zero, mul-zero}
use Rattle.lp_laws.proofs.Places.{value_next}
use Rattle.lp_definitions.specs.LinearProgram.{LinearProgram, size, value_at}
use Rattle.lp_definitions.specs.declared.Status.{Status}
use Rattle.simplex_definitions.specs.Moves.{least, lowers, signed}
use Rattle.simplex_laws.proofs.Searches.{least_is, least_none}
use Rattle.basis_values.specs.Motions.{motion}

-- a value that could be computed
pub value_computed : (o : Option ℚ) (P : Type 0) (v w : ℚ) → SomeIff o P v → v ≡ w → IfSome o (λ x. x ≡ w)
value_computed None P v w h e = tt
value_computed (Some x) P v w h e = h.1 ∙ e

pub stays_put : (x y z : ℚ) → z ≡ zero_ℚ → x ≡ x +ℚ y *ℚ z
stays_put x y z e = sym (ap (λ u. x +ℚ y *ℚ u) e ∙ ap (λ u. x +ℚ u) (mul-zero y) ∙ add-zero x)

-- ---- values at variables

pub lowers_at : (p : LinearProgram) (s : List Status) (xs : List ℚ) (up : Bool) (k : ℕ) (x r : ℚ) → k < length xs → x ≡ get_or xs k x → r ≡ signed up x →
    lowers p s (motion (value_at xs) up) (k + 1) ≡ lowers p s (λ _. r) (k + 1)
lowers_at p s xs up k x r below is signed_is = ap (λ (u : ℚ). lowers p s (λ _. u) (k + 1)) (ap (signed up) (value_next xs k x below is) ∙ sym signed_is)

-- ---- a search that goes up by one

-- a fact of each number up to k, and of the next
pub and_next : (P : ℕ → Type 0) (k : ℕ) → ((j : ℕ) → 1 ≤ j → j ≤ k → P j) → P (k + 1) → (j : ℕ) → 1 ≤ j → j ≤ k + 1 → P j
and_next P k before here j low high = at (eqb_tells j (k + 1))
  where
    at : (((eqb j (k + 1) ≡ true) × (j ≡ k + 1)) ⊎ ((eqb j (k + 1) ≡ false) × (j ≢ k + 1))) → P j
    at (inl same) = subst P (sym same.1) here
    at (inr other) = let apart = other.1 in before j low (omega (arith, high, apart))

module _ (p : LinearProgram) (test : ℕ → Bool) where
  pub one_more : (k : ℕ) → ((j : ℕ) → 1 ≤ j → j ≤ k → test j ≡ false) → test (k + 1) ≡ false → (j : ℕ) → 1 ≤ j → j ≤ k + 1 → test j ≡ false
  one_more k before here = and_next (λ j. test j ≡ false) k before here

  pub found_least : (k : ℕ) → k < size p.matrix → ((j : ℕ) → 1 ≤ j → j ≤ k → test j ≡ false) → test (k + 1) ≡ true → Some (k + 1) ≡ least p test
  found_least k below before here =
      sym (least_is p test (k + 1) (record {
        is_variable = (omega arith, omega (arith, below));
        passes = here;
        before = λ j low less. before j low (omega (arith, less));
      }))

  pub found_none : (k : ℕ) → size p.matrix ≤ k → ((j : ℕ) → 1 ≤ j → j ≤ k → test j ≡ false) → None ≡ least p test
  found_none k all before = sym (least_none p test (λ j is. before j is.0 (omega (arith, is.1, all))))
