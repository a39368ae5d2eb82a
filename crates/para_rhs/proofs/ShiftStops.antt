-- A refused limit is evidence of a run that begins there.
use Rattle.std.proofs.Common.{◌≡◌, ◌≢◌, ℕ, ◌≤◌, List, [], Bool, true, false, refl, sym, subst, ap, ◌∙◌, arith}
use Rattle.std.specs.Prelude.{Some, None, nat_le, if◌then◌else◌}
use Rattle.exact_values.specs.Rational.{ℚ, zero_ℚ, ◌*ℚ◌}
use Rattle.simplex_definitions.specs.Formulas.{ShiftFormula, f13_product, f13_limit, limit_numbered}
use Rattle.simplex_definitions.specs.Evidence.{ShiftHolds}
use Rattle.simplex_definitions.specs.Statements.{Pararhs}
use Rattle.frac128.specs.declared.Op.TheVariants.{Add, Mul}
use Rattle.lp_definitions.specs.LinearProgram.{LinearProgram, Matrix, IsRow, IsVariable, IsLinearProgram, HasNoLimits, value_at}
use Rattle.lp_definitions.specs.RatesEvidence.{Refuses}
use Rattle.lp_definitions.specs.declared.Evidence.{Evidence}
use Rattle.simplex_definitions.specs.RhsRun.{shift_of}
use Rattle.para_rhs.specs.Limits.{limit_on, number_of, MoveRefused, of_product, of_sum, SomeLimitRefused}
use Rattle.para_rhs.specs.declared.limits.Side.{Side}
use Rattle.para_rhs.specs.declared.limits.Side.TheVariants.{Lower, Upper}
use Rattle.para_rhs.proofs.Families.{family_at_zero}

-- what has a shift is a row
pub row_from_shift : (a : Matrix) (shift : List ℚ) (k : ℕ) → IsVariable a k → shift_of a shift k ≢ zero_ℚ → IsRow a k
row_from_shift a shift k is moves = (is.0, by_test (nat_le k a.rows) refl)
  where
    by_test : (b : Bool) → nat_le k a.rows ≡ b → k ≤ a.rows
    by_test true e = grind arith
    by_test false e = absurd (moves (ap (λ (b : Bool). if b then value_at shift k else zero_ℚ) e))

none_is_some : {l : ℚ} → None ≡ Some l → ⊥
none_is_some e = cc

limited : (p : LinearProgram) (side : Side) (i : ℕ) (l : ℚ) → limit_on p side i ≡ Some l → HasNoLimits p i → ⊥
limited p Lower i l is free = none_is_some (sym free.0 ∙ is)
limited p Upper i l is free = none_is_some (sym free.1 ∙ is)

pub is_numbered : (p : LinearProgram) (side : Side) (i : ℕ) → limit_numbered p i (number_of side) ≡ limit_on p side i
is_numbered p Lower i = refl
is_numbered p Upper i = refl

module _ (p : LinearProgram) (shift : List ℚ) (theta : ℚ) (lawful : IsLinearProgram p) (side : Side) (e : Evidence) where
  formula_here : (i : ℕ) (l : ℚ) → IsRow p.matrix i → limit_on p side i ≡ Some l → MoveRefused theta (shift_of p.matrix shift i) l i (number_of side) e →
      ShiftFormula p (shift_of p.matrix shift) e
  formula_here i l row is (of_product r) =
      f13_product i r.names row (limited p side i l is) (subst (λ (x : ℚ). Refuses e Mul x (shift_of p.matrix shift i)) (sym r.is_theta) r.refuses)
  formula_here i l row is (of_sum r) =
      f13_limit i (number_of side) l r.names row (is_numbered p side i ∙ is)
      (subst (λ (x : ℚ). Refuses e Add l (x *ℚ shift_of p.matrix shift i)) (sym r.is_theta) r.refuses)

  facts : (by l : ℚ) (i which : ℕ) → MoveRefused theta by l i which e → (e.formula ≡ 13) × (e.way ≡ 0) × (e.theta ≡ theta)
  facts by l i which (of_product r) = (r.names.is_formula, r.no_way, r.is_theta)
  facts by l i which (of_sum r) = (r.names.is_formula, r.no_way, r.is_theta)

  pub shift_holds : SomeLimitRefused p shift theta side e → ShiftHolds (Pararhs p shift theta) [] e
  shift_holds h =
      let f = facts (shift_of p.matrix shift h.i) h.refused.number h.i (number_of side) h.refused.refused in
      record {
        formula = subst (λ (q : LinearProgram). ShiftFormula q (shift_of p.matrix shift) e) (family_at_zero p shift lawful zero_ℚ refl)
            (formula_here h.i h.refused.number (row_from_shift p.matrix shift h.i h.is_variable h.refused.moves) h.refused.is_limit h.refused.refused);
        no_way = f.1;
        is_theta = (1, omega arith, sym f.2);
        of_statement = rw f.0 refl;
      }
