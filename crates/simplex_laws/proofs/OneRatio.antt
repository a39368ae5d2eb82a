-- The ratio test of two tableaus of a basis is one.
use Rattle.std.proofs.Common.{◌≡◌, ℕ, Bool, true, false, List, refl, sym, ap, ap₂, ◌∙◌, arith}
use Rattle.std.specs.Prelude.{not, ◌&&◌, ◌||◌}
use Rattle.exact_values.specs.Rational.{ℚ, ◌/ℚ◌}
use Rattle.exact_values.specs.Tests.{le_ℚ, magnitude}
use Rattle.lp_definitions.specs.LinearProgram.{LinearProgram, size, IsVariable, IsLinearProgram}
use Rattle.lp_definitions.specs.Basis.{is_in, basics_of, IsBasis, IsNonbasic, Tableau}
use Rattle.lp_definitions.specs.declared.Status.{Status}
use Rattle.simplex_definitions.specs.Moves.{signed}
use Rattle.simplex_definitions.specs.Path.{excess_rate}
use Rattle.simplex_definitions.specs.DualRatio.{restores_feasibility, ratio, is_cheapest, cheapest}
use Rattle.simplex_laws.proofs.Numbered.{find_same, list_all_same}
use Rattle.simplex_laws.proofs.OneTurn.{SameTableau, lowers_idle, lowers_same}

module _ (p : LinearProgram) (s : List Status) (t u : Tableau) (lawful : IsLinearProgram p) (basis : IsBasis p s) (same : SameTableau p s t u)
    (r : ℕ) (is_r : IsVariable p.matrix r) (below : Bool) where
  pub brings_same : (q : ℕ) → IsVariable p.matrix q → restores_feasibility p s t r below q ≡ restores_feasibility p s u r below q
  brings_same q is =
      lowers_same p s basis (excess_rate t.rate r below) (excess_rate u.rate r below) q is (λ out. ap (signed (not below)) (same.rates r q is_r out))

  brings_idle : (t : Tableau) (q : ℕ) → IsVariable p.matrix q → is_in (basics_of s) q ≡ true → restores_feasibility p s t r below q ≡ false
  brings_idle t q is mark = lowers_idle p s basis (excess_rate t.rate r below) q is mark

  ratio_same : (q : ℕ) → IsNonbasic p.matrix (basics_of s) q → ratio p s t r q ≡ ratio p s u r q
  ratio_same q out =
      ap₂ (λ a b. magnitude (a /ℚ b)) (same.rates p.objective q (lawful.objective_row.0, omega (arith, lawful.objective_row.1)) out) (same.rates r q is_r out)

  abbrev no_cheaper : Tableau → ℕ → ℕ → Bool
  no_cheaper t q j = not (restores_feasibility p s t r below j) || le_ℚ (ratio p s t r q) (ratio p s t r j)

  no_cheaper_same : (q : ℕ) → IsNonbasic p.matrix (basics_of s) q → (j : ℕ) → IsVariable p.matrix j → no_cheaper t q j ≡ no_cheaper u q j
  no_cheaper_same q out j is = by_mark (is_in (basics_of s) j) refl
    where
      by_mark : (mark : Bool) → is_in (basics_of s) j ≡ mark → no_cheaper t q j ≡ no_cheaper u q j
      by_mark true mark =
          ap (λ b. not b || le_ℚ (ratio p s t r q) (ratio p s t r j)) (brings_idle t j is mark)
          ∙ sym (ap (λ b. not b || le_ℚ (ratio p s u r q) (ratio p s u r j)) (brings_idle u j is mark))
      by_mark false mark =
          ap₂ (λ b x. not b || le_ℚ (ratio p s t r q) x) (brings_same j is) (ratio_same j (is, mark))
          ∙ ap (λ x. not (restores_feasibility p s u r below j) || le_ℚ x (ratio p s u r j)) (ratio_same q out)

  abbrev enters : Tableau → ℕ → Bool
  enters t q = restores_feasibility p s t r below q && is_cheapest p s t r below q

  enters_same : (q : ℕ) → IsVariable p.matrix q → enters t q ≡ enters u q
  enters_same q is = by_mark (is_in (basics_of s) q) refl
    where
      by_mark : (mark : Bool) → is_in (basics_of s) q ≡ mark → enters t q ≡ enters u q
      by_mark true mark =
          ap (λ b. b && is_cheapest p s t r below q) (brings_idle t q is mark)
          ∙ sym (ap (λ b. b && is_cheapest p s u r below q) (brings_idle u q is mark))
      by_mark false mark =
          ap₂ (λ a b. a && b) (brings_same q is)
          (list_all_same (no_cheaper t q) (no_cheaper u q) (size p.matrix) 1 (λ j low high. no_cheaper_same q (is, mark) j (low, omega (arith, high))))

  pub cheapest_same : cheapest p s t r below ≡ cheapest p s u r below
  cheapest_same = find_same (enters t) (enters u) (size p.matrix) 1 (λ k low high. enters_same k (low, omega (arith, high)))
