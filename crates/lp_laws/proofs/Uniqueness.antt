-- A nonsingular set has one direction for each nonbasic, and a basis one point.
use Rattle.std.proofs.Common.{◌≡◌, ◌≢◌, ℕ, ◌⊎◌, inl, inr, sym, ◌∙◌, ap, List, Option, true, false, ◌-◌, ◌≤◌, length, arith}
use Rattle.std.specs.Prelude.{unwrap_or, eqb}
use Rattle.std.proofs.lemmas.Bool.Decides.{eqb_tells}
use Rattle.std.proofs.lemmas.List.{get_or-map}
use Rattle.exact_values.specs.Rational.{ℚ, zero_ℚ, ◌-ℚ◌}
use Rattle.lp_definitions.specs.LinearProgram.{Matrix, LinearProgram, Vector, size, IsVariable, KeepsEquations, lower_of, upper_of}
use Rattle.lp_definitions.specs.Basis.{Basics, IsNonbasic, IsNonsingular, IsDirectionOf, IsPointOf, StandsAt, status_of, basics_of, is_basic, is_in, AreRates}
use Rattle.lp_definitions.specs.declared.Status.{Status}
use Rattle.lp_definitions.specs.declared.Status.TheVariants.{Bs, Ll, Ul, Fr}
use Rattle.lp_laws.proofs.Values.{sub-self, same_from_difference, clash}
use Rattle.lp_laws.proofs.Equations.{KeepsEquations-sub}

-- whether a variable is basic, by its status
pub is_in-basics_of : (s : List Status) (k : ℕ) → 1 ≤ k → k ≤ length s → is_in (basics_of s) k ≡ is_basic (status_of s k)
is_in-basics_of s k low high = get_or-map is_basic s (k - 1) Bs false (omega arith)

-- a status other than basic says where the variable is
pub one_place : (st : Status) (low high : Option ℚ) (u v : ℚ) → is_basic st ≡ false → StandsAt st low high u → StandsAt st low high v → u ≡ v
one_place Bs low high u v out first second = absurd (clash out)
one_place Ll low high u v out first second = ap (λ o. unwrap_or o zero_ℚ) (sym first ∙ second)
one_place Ul low high u v out first second = ap (λ o. unwrap_or o zero_ℚ) (sym first ∙ second)
one_place Fr low high u v out first second = first ∙ sym second

-- two vectors that keep the equations are the same if they are at the nonbasics
pub same_from_nonbasics : (a : Matrix) (b : Basics) (d e : Vector) → IsNonsingular a b → KeepsEquations a d → KeepsEquations a e →
    ((k : ℕ) → IsNonbasic a b k → d k ≡ e k) → (k : ℕ) → IsVariable a k → d k ≡ e k
same_from_nonbasics a b d e one first second agree k is =
    same_from_difference (d k) (e k)
    (one.only_zero (λ i. d i -ℚ e i) (KeepsEquations-sub a d e first second) (λ i out. ap (λ x. x -ℚ e i) (agree i out) ∙ sub-self (e i)) k is)

pub one_direction : (a : Matrix) (b : Basics) (j : ℕ) (d e : Vector) → IsNonsingular a b → IsDirectionOf a b j d → IsDirectionOf a b j e → (k : ℕ) →
    IsVariable a k → d k ≡ e k
one_direction a b j d e one first second = same_from_nonbasics a b d e one first.keeps second.keeps agree
  where
    at : (k : ℕ) → IsNonbasic a b k → (((eqb k j ≡ true) × (k ≡ j)) ⊎ ((eqb k j ≡ false) × (k ≢ j))) → d k ≡ e k
    at k out (inl same) = ap d same.1 ∙ first.own ∙ sym second.own ∙ sym (ap e same.1)
    at k out (inr other) = first.others k out other.1 ∙ sym (second.others k out other.1)

    agree : (k : ℕ) → IsNonbasic a b k → d k ≡ e k
    agree k out = at k out (eqb_tells k j)

-- so its rates are one table
pub one_table : (a : Matrix) (b : Basics) (rate other : ℕ → ℕ → ℚ) → IsNonsingular a b → AreRates a b rate → AreRates a b other → (i j : ℕ) → IsVariable a i →
    IsNonbasic a b j → rate i j ≡ other i j
one_table a b rate other one first second i j is out = one_direction a b j (λ k. rate k j) (λ k. other k j) one (first j out) (second j out) i is

pub one_point : (p : LinearProgram) (s : List Status) (z w : Vector) → length s ≡ size p.matrix → IsNonsingular p.matrix (basics_of s) → IsPointOf p s z →
    IsPointOf p s w → (k : ℕ) → IsVariable p.matrix k → z k ≡ w k
one_point p s z w counted one first second = same_from_nonbasics p.matrix (basics_of s) z w one first.keeps second.keeps agree
  where
    agree : (k : ℕ) → IsNonbasic p.matrix (basics_of s) k → z k ≡ w k
    agree k out =
        let within : k ≤ length s = omega (arith, counted, out.0.1) in
        one_place (status_of s k) (lower_of p k) (upper_of p k) (z k) (w k) (sym (is_in-basics_of s k out.0.0 within) ∙ out.1) (first.placed k out.0)
        (second.placed k out.0)
