-- By the prices of a basis and a row, the ratio test is that of its tableau.
use Rattle.std.proofs.Common.{◌≡◌, ℕ, Bool, true, false, List, cond, refl, sym, ap, ap₂, ◌∙◌, arith}
use Rattle.std.specs.Prelude.{Option, None, not, ◌&&◌, ◌||◌}
use Rattle.std.specs.List.{list_all}
use Rattle.exact_values.specs.Rational.{ℚ, zero_ℚ, ◌/ℚ◌}
use Rattle.exact_values.specs.Tests.{le_ℚ, magnitude}
use Rattle.lp_definitions.specs.Basis.{is_in, basics_of, IsNonbasic, ArePricesOf, Tableau, objective_rate}
use Rattle.lp_definitions.specs.LinearProgram.{LinearProgram, Vector, size, variables, IsVariable, IsLinearProgram, with_change_row}
use Rattle.lp_definitions.specs.declared.Change.{Change}
use Rattle.lp_definitions.specs.declared.Status.{Status}
use Rattle.lp_laws.proofs.Uniqueness.{one_table}
use Rattle.lp_model.specs.RatesCalls.{IsRowOf}
use Rattle.simplex_definitions.specs.DualRatio.{restores_feasibility, ratio, cheapest}
use Rattle.simplex_definitions.specs.Moves.{lowers, signed}
use Rattle.simplex_laws.proofs.Numbered.{find_same, list_all_same}
use Rattle.simplex_laws.proofs.OneTurn.{lowers_idle}
use Rattle.simplex_laws.specs.Laws.{IsNonsingularBasis}
use Rattle.dual_step.specs.Cheapest.{brings, ratio_of, cheapest_by}

module _ (p : LinearProgram) (s : List Status) (lawful : IsLinearProgram p) (no_change : p.change ≡ None) (at : IsNonsingularBasis p s) (prices row : Vector)
    (priced : ArePricesOf p s prices) (r : ℕ) (r_is : IsVariable p.matrix r)
    (rowed : IsRowOf p.matrix (basics_of s) r row) (below : Bool) (z : Vector) where
  abbrev pub tableau : Tableau
  tableau = record { point = z; rate = rowed.rate }

  pub row_at : (k : ℕ) → IsNonbasic p.matrix (basics_of s) k → row k ≡ rowed.rate r k
  row_at k out = rowed.entries k out.0 ∙ ap (λ m. cond m zero_ℚ (rowed.rate r k)) out.1

  pub price_at : (k : ℕ) → IsNonbasic p.matrix (basics_of s) k → prices k ≡ rowed.rate p.objective k
  price_at k out =
      priced.prices k out.0 ∙ ap (λ m. cond m zero_ℚ (objective_rate p priced.rate k)) out.1
      ∙ ap (λ (c : Option Change). with_change_row c (λ i. priced.rate i k) (priced.rate p.objective k)) no_change
      ∙ one_table p.matrix (basics_of s) priced.rate rowed.rate at.nonsingular priced.are_rates rowed.are_rates p.objective k
      (lawful.objective_row.0, omega (arith, lawful.objective_row.1)) out

  idle_own : (k : ℕ) → IsVariable p.matrix k → is_in (basics_of s) k ≡ true → brings p s row below k ≡ false
  idle_own k is mark = lowers_idle p s at.is_basis (λ j. signed (not below) (row j)) k is mark

  idle_there : (k : ℕ) → IsVariable p.matrix k → is_in (basics_of s) k ≡ true → restores_feasibility p s tableau r below k ≡ false
  idle_there k is mark = lowers_idle p s at.is_basis (λ j. signed (not below) (rowed.rate r j)) k is mark

  pub brings_is : (k : ℕ) → IsVariable p.matrix k → brings p s row below k ≡ restores_feasibility p s tableau r below k
  brings_is k is = by_mark (is_in (basics_of s) k) refl
    where
      by_mark : (m : Bool) → is_in (basics_of s) k ≡ m → brings p s row below k ≡ restores_feasibility p s tableau r below k
      by_mark true mark = idle_own k is mark ∙ sym (idle_there k is mark)
      by_mark false mark = ap (λ (x : ℚ). lowers p s (λ _. signed (not below) x) k) (row_at k (is, mark))

  ratio_is : (k : ℕ) → IsNonbasic p.matrix (basics_of s) k → ratio_of prices row k ≡ ratio p s tableau r k
  ratio_is k out = ap₂ (λ (a b : ℚ). magnitude (a /ℚ b)) (price_at k out) (row_at k out)

  abbrev no_dearer : ℕ → ℕ → Bool
  no_dearer q j = not (brings p s row below j) || le_ℚ (ratio_of prices row q) (ratio_of prices row j)

  abbrev no_cheaper : ℕ → ℕ → Bool
  no_cheaper q j = not (restores_feasibility p s tableau r below j) || le_ℚ (ratio p s tableau r q) (ratio p s tableau r j)

  -- the ratio of q against that of each other that may bring r back
  against : (q : ℕ) → IsNonbasic p.matrix (basics_of s) q → (j : ℕ) → IsVariable p.matrix j → no_dearer q j ≡ no_cheaper q j
  against q out j is = by_mark (is_in (basics_of s) j) refl
    where
      by_mark : (m : Bool) → is_in (basics_of s) j ≡ m → no_dearer q j ≡ no_cheaper q j
      by_mark true mark =
          ap (λ b. not b || le_ℚ (ratio_of prices row q) (ratio_of prices row j)) (idle_own j is mark)
          ∙ sym (ap (λ b. not b || le_ℚ (ratio p s tableau r q) (ratio p s tableau r j)) (idle_there j is mark))
      by_mark false mark =
          ap₂ (λ b x. not b || le_ℚ (ratio_of prices row q) x) (brings_is j is) (ratio_is j (is, mark))
          ∙ ap (λ x. not (restores_feasibility p s tableau r below j) || le_ℚ x (ratio p s tableau r j)) (ratio_is q out)

  abbrev chosen_by : ℕ → Bool
  chosen_by q = brings p s row below q && list_all (no_dearer q) (variables p.matrix)

  abbrev chosen : ℕ → Bool
  chosen q = restores_feasibility p s tableau r below q && list_all (no_cheaper q) (variables p.matrix)

  same_choice : (q : ℕ) → IsVariable p.matrix q → chosen_by q ≡ chosen q
  same_choice q is = by_mark (is_in (basics_of s) q) refl
    where
      by_mark : (m : Bool) → is_in (basics_of s) q ≡ m → chosen_by q ≡ chosen q
      by_mark true mark =
          ap (λ b. b && list_all (no_dearer q) (variables p.matrix)) (idle_own q is mark)
          ∙ sym (ap (λ b. b && list_all (no_cheaper q) (variables p.matrix)) (idle_there q is mark))
      by_mark false mark =
          ap₂ (λ a b. a && b) (brings_is q is)
          (list_all_same (no_dearer q) (no_cheaper q) (size p.matrix) 1 (λ j low high. against q (is, mark) j (low, omega (arith, high))))

  pub cheapest_is : cheapest_by p s prices row below ≡ cheapest p s tableau r below
  cheapest_is = find_same chosen_by chosen (size p.matrix) 1 (λ k low high. same_choice k (low, omega (arith, high)))
