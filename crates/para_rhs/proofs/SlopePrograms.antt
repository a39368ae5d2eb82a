-- The program whose limits are the shifts, and its basis's point.
use Rattle.std.proofs.Common.{◌≡◌, ℕ, ◌-◌, List, length, get_or, refl, sym, ap, subst, subst₂, ◌∙◌, arith, false}
use Rattle.std.specs.Prelude.{Option, Some, None, option_map}
use Rattle.std.proofs.lemmas.List.{length-map}
use Rattle.exact_values.specs.Rational.{ℚ, zero_ℚ}
use Rattle.lp_definitions.specs.LinearProgram.{Matrix, LinearProgram, Vector, size, IsRow, IsVariable, IsLinearProgram, HasNoLimits, ChangeIsFree, lower_of}
use Rattle.lp_definitions.specs.LinearProgram.{upper_of}
use Rattle.lp_definitions.specs.Basis.{Basics, is_basic, status_of, IsAllowed, StandsAt, IsBasis, IsPointOf}
use Rattle.lp_definitions.specs.declared.Change.{Change}
use Rattle.lp_definitions.specs.declared.Status.{Status}
use Rattle.lp_definitions.specs.declared.Status.TheVariants.{Bs, Ll, Ul, Fr}
use Rattle.lp_laws.proofs.Opening.{length-numbers_from}
use Rattle.lp_laws.proofs.Statuses.{status_of_nonbasic}
use Rattle.basis_values.specs.Calls.{HasRates, KeepsRates}
use Rattle.simplex_laws.specs.Laws.{IsNonsingularBasis}
use Rattle.simplex_laws.proofs.Numbered.{get_or-listed}
use Rattle.simplex_definitions.specs.RhsRun.{shift_of, IsSlope}
use Rattle.para_rhs.specs.Slopes.{shifts_of, slope_program}
use Rattle.sensitivity_laws.proofs.MovedLimits.{none_to, none_from, allowed_to, free_unshifted}

module _ (p : LinearProgram) (shift : List ℚ) where
  abbrev put : ℕ → ℚ → ℚ
  put k l = shift_of p.matrix shift k

  limit_is : (limit : ℕ → Option ℚ) (k : ℕ) → IsVariable p.matrix k → get_or (shifts_of p shift limit) (k - 1) None ≡ option_map (put k) (limit k)
  limit_is limit k is =
      get_or-listed (λ k. option_map (put k) (limit k)) (size p.matrix) 1 (k - 1) None (omega (arith, is.0, is.1))
      ∙ ap (λ k. option_map (put k) (limit k)) (omega (arith, is.0))

  lower_is : (k : ℕ) → IsVariable p.matrix k → lower_of (slope_program p shift) k ≡ option_map (put k) (lower_of p k)
  lower_is k is = limit_is (lower_of p) k is

  upper_is : (k : ℕ) → IsVariable p.matrix k → upper_of (slope_program p shift) k ≡ option_map (put k) (upper_of p k)
  upper_is k is = limit_is (upper_of p) k is

  row_is : (i : ℕ) → IsRow p.matrix i → IsVariable p.matrix i
  row_is i row = (row.0, omega (arith, row.1))

  free_to : (i : ℕ) → IsRow p.matrix i → HasNoLimits p i → HasNoLimits (slope_program p shift) i
  free_to i row free = (lower_is i (row_is i row) ∙ none_to (put i) (lower_of p i) free.0, upper_is i (row_is i row) ∙ none_to (put i) (upper_of p i) free.1)

  counted : (limit : ℕ → Option ℚ) → length (shifts_of p shift limit) ≡ size p.matrix
  counted limit = rw length-map (length-numbers_from 1 (size p.matrix))

  pub lawful_slope : IsLinearProgram p → IsLinearProgram (slope_program p shift)
  lawful_slope lawful = record {
    is_matrix = lawful.is_matrix;
    lower_counted = counted (lower_of p);
    upper_counted = counted (upper_of p);
    rhs_counted = lawful.rhs_counted;
    objective_row = lawful.objective_row;
    objective_free = free_to p.objective lawful.objective_row lawful.objective_free;
    change_free = change_free p.change lawful.change_free;
  }
    where
      change_free : (change : Option Change) → ChangeIsFree p change → ChangeIsFree (slope_program p shift) change
      change_free None free = tt
      change_free (Some c) free = (free.0, free_to c.row free.0 free.1)

  module _ (s : List Status) (at : IsNonsingularBasis p s) where
    pub to_slope : IsBasis (slope_program p shift) s
    to_slope = record {
      counted = at.is_basis.counted;
      m_basics = at.is_basis.m_basics;
      free_rows = λ i row free. at.is_basis.free_rows i row (
        none_from (put i) (lower_of p i) (sym (lower_is i (row_is i row)) ∙ free.0),
        none_from (put i) (upper_of p i) (sym (upper_is i (row_is i row)) ∙ free.1),
      );
      allowed = λ k is. subst₂ (λ (low high : Option ℚ). IsAllowed (status_of s k) low high) (sym (lower_is k is)) (sym (upper_is k is))
          (allowed_to (put k) (status_of s k) (lower_of p k) (upper_of p k) (at.is_basis.allowed k is));
    }

    module _ (v : Vector) (point : IsPointOf (slope_program p shift) s v) where
      some_same : {a b : ℚ} → Some a ≡ Some b → a ≡ b
      some_same e = cc

      at_limit : (x by : ℚ) (o : Option ℚ) → option_map (λ l. by) o ≡ Some x → x ≡ by
      at_limit x by None e = cc
      at_limit x by (Some l) e = sym (some_same e)

      by_status : (k : ℕ) → (st : Status) → is_basic st ≡ false → (st ≡ Fr → put k zero_ℚ ≡ zero_ℚ) →
          StandsAt st (option_map (put k) (lower_of p k)) (option_map (put k) (upper_of p k)) (v k) → v k ≡ shift_of p.matrix shift k
      by_status k Bs out free stands = cc
      by_status k Ll out free stands = at_limit (v k) (shift_of p.matrix shift k) (lower_of p k) stands
      by_status k Ul out free stands = at_limit (v k) (shift_of p.matrix shift k) (upper_of p k) stands
      by_status k Fr out free stands = stands ∙ sym (free refl)

      pub is_slope : IsSlope p s shift v
      is_slope = record {
        keeps = point.keeps;
        placed = λ k out. by_status k (status_of s k) (status_of_nonbasic p s at.is_basis k out) (free_unshifted p shift s k at out.0)
            (subst₂ (λ (low high : Option ℚ). StandsAt (status_of s k) low high (v k)) (lower_is k out.0) (upper_is k out.0) (point.placed k out.0));
      }

-- what a call keeps at the program of the shifts, it keeps at the program
pub kept_slope : (p : LinearProgram) (shift : List ℚ) (q : LinearProgram) → q ≡ slope_program p shift →
    {a c : Matrix} {b d : Basics} {s : List Status} {before after : List Basics} → HasRates a b p s → KeepsRates c d q s before after →
    KeepsRates c d p s before after
kept_slope p shift q is {a} {c} {b} {d} {s} {before} {after} has kept =
    let there : KeepsRates c d (slope_program p shift) s before after = subst (λ (q : LinearProgram). KeepsRates c d q s before after) is kept in
    (record { is_basis = has.is_basis; nonsingular = has.nonsingular; same_matrix = there.0.same_matrix; same_basics = there.0.same_basics }, there.1)
