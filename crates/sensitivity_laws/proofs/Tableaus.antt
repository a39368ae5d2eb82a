-- A basis is optimal where one tableau of it says so.
use Rattle.std.proofs.Common.{◌≡◌, ℕ, ◌⊎◌, inl, inr, List, refl, ap, ap₂, ◌∙◌, Option, Some, None, false, arith, subst}
use Rattle.std.specs.Prelude.{◌↔◌}
use Rattle.exact_values.specs.Rational.{◌+ℚ◌, ◌*ℚ◌}
use Rattle.lp_definitions.specs.LinearProgram.{Matrix, LinearProgram, IsRow, IsVariable, lower_of, upper_of, with_change_row, for_min}
use Rattle.lp_definitions.specs.Basis.{is_in, is_basic, basics_of, status_of, IsBasis, IsNonbasic, IsNonsingular, IsOptimalBasis, IsFixed, IsRightAt, Tableau}
use Rattle.lp_definitions.specs.Basis.{IsTableau, objective_rate}
use Rattle.lp_definitions.specs.declared.Change.{Change}
use Rattle.lp_definitions.specs.declared.Status.{Status}
use Rattle.lp_definitions.specs.declared.Status.TheVariants.{Bs, Ll, Ul, Fr}
use Rattle.lp_laws.proofs.Uniqueness.{is_in-basics_of, one_table, one_point}
use Rattle.simplex_definitions.specs.Moves.{is_fixed}
use Rattle.simplex_definitions.specs.Path.{worth_rate}
use Rattle.simplex_laws.proofs.Ends.{right, IsFeasible-same}
use Rattle.sensitivity_laws.specs.Changes.{ChangeIsRow, HasRows, IsRightTableau}
use Rattle.simplex_laws.proofs.Booleans.{right_improves_not}

-- a row is a variable
pub row_variable : (a : Matrix) (i : ℕ) → IsRow a i → IsVariable a i
row_variable a i is = (is.0, omega (arith, is.1))

module _ (p : LinearProgram) (s : List Status) (basis : IsBasis p s) (one : IsNonsingular p.matrix (basics_of s)) (rows : HasRows p) where
  -- the objective's rates of two tableaus are the same
  same_rates : (t u : Tableau) → IsTableau p s t → IsTableau p s u → (k : ℕ) → IsNonbasic p.matrix (basics_of s) k →
      objective_rate p t.rate k ≡ objective_rate p u.rate k
  same_rates t u first second k out = at p.change rows.change
    where
      same : (i : ℕ) → IsRow p.matrix i → t.rate i k ≡ u.rate i k
      same i is = one_table p.matrix (basics_of s) t.rate u.rate one first.are_rates second.are_rates i k (row_variable p.matrix i is) out

      at : (c : Option Change) → ChangeIsRow p.matrix c →
          with_change_row c (λ i. t.rate i k) (t.rate p.objective k) ≡ with_change_row c (λ i. u.rate i k) (u.rate p.objective k)
      at None is = same p.objective rows.objective
      at (Some c) is = ap₂ (λ a b. a +ℚ c.theta *ℚ b) (same p.objective rows.objective) (same c.row is)

  -- what is right by one tableau is right by the other
  right_same : (t u : Tableau) → IsTableau p s t → IsTableau p s u → (k : ℕ) → IsVariable p.matrix k
      → IsFixed p k ⊎ IsRightAt (status_of s k) (for_min p.sense (objective_rate p t.rate k))
      → IsFixed p k ⊎ IsRightAt (status_of s k) (for_min p.sense (objective_rate p u.rate k))
  right_same t u first second k is (inl fixed) = inl fixed
  right_same t u first second k is (inr right) = inr (at (status_of s k) refl right)
    where
      among : is_in (basics_of s) k ≡ is_basic (status_of s k)
      among = is_in-basics_of s k is.0 (omega (arith, is.1, basis.counted))

      moved : is_basic (status_of s k) ≡ false → for_min p.sense (objective_rate p t.rate k) ≡ for_min p.sense (objective_rate p u.rate k)
      moved out = ap (for_min p.sense) (same_rates t u first second k (is, among ∙ out))

      at : (st : Status) → status_of s k ≡ st → IsRightAt st (for_min p.sense (objective_rate p t.rate k)) →
          IsRightAt st (for_min p.sense (objective_rate p u.rate k))
      at Bs e right = tt
      at Ll e right = subst (IsRightAt Ll) (moved (ap is_basic e)) right
      at Ul e right = subst (IsRightAt Ul) (moved (ap is_basic e)) right
      at Fr e right = subst (IsRightAt Fr) (moved (ap is_basic e)) right

  pub by_tableau : (t : Tableau) → IsTableau p s t → IsOptimalBasis p s ↔ IsRightTableau p s t
  by_tableau t tab = (to, back)
    where
      to : IsOptimalBasis p s → IsRightTableau p s t
      to optimal = record {
        feasible = IsFeasible-same p optimal.tableau.point t.point
            (one_point p s optimal.tableau.point t.point basis.counted one optimal.is_tableau.is_point tab.is_point) optimal.feasible;
        right =
            λ k is. right_improves_not (status_of s k) (lower_of p k) (upper_of p k) (worth_rate p s t k)
            (right_same optimal.tableau t optimal.is_tableau tab k is (optimal.right k is));
      }

      back : IsRightTableau p s t → IsOptimalBasis p s
      back h = record {
        is_basis = basis;
        nonsingular = one;
        tableau = t;
        is_tableau = tab;
        feasible = h.feasible;
        right = λ k is. right (status_of s k) (lower_of p k) (upper_of p k) (worth_rate p s t k) (is_fixed p k) refl (h.right k is);
      }
