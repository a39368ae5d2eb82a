-- What the present cells select of a problem has always the same matrix and the same limits but for their values, so that a basis of the one
-- is a basis of the other.
use Rattle.std.proofs.Common.{◌≡◌, ℕ, zero, suc, ◌-◌, List, [], ◌∷◌, ◌++◌, map, refl, sym, subst}
use Rattle.std.specs.Prelude.{Option, Some, None, is_some, length, count_by, Ok, slice_index_or}
use Rattle.std.specs.List.{enumerate_from}
use Rattle.exact_values.specs.Rational.{ℚ}
use Rattle.frac128.specs.declared.Op.{Op}
use Rattle.frac128.specs.declared.Op.TheVariants.{Add, Sub, Mul, Div}
use Rattle.lp_definitions.specs.LinearProgram.{Matrix, LinearProgram, size, IsRow, IsVariable, lower_of, upper_of}
use Rattle.lp_definitions.specs.Basis.{basics_of, status_of, is_basic, IsNonsingular}
use Rattle.problem_definitions.specs.declared.RowKind.{RowKind}
use Rattle.problem_definitions.specs.declared.RowKind.TheVariants.{N, G, L, E}
use Rattle.problem_definitions.specs.Names.{Name}
use Rattle.problem_definitions.specs.Problem.{Problem}
use Rattle.control_definitions.specs.Program.{SetupOptions}
use Rattle.simplex_laws.specs.Laws.{IsNonsingularBasis}
use Rattle.selection_definitions.specs.Limits.{Limits, row_limits, with_range}
use Rattle.selection_definitions.specs.Selection.{program_of_choice, selected}
use Rattle.question_definitions.specs.Answers.{Basis}
use Rattle.selection_laws.proofs.Selected.{is_chosen}
use Rattle.lp_laws.proofs.Alike.{allowed_like, none_like}

-- the same limits are there
record AlikeLimits (a b : Limits) : Type 0 where
  lower : is_some a.lower ≡ is_some b.lower
  upper : is_some a.upper ≡ is_some b.upper

alike_range : (op : Op) (rhs other size : ℚ) → AlikeLimits (with_range op rhs size) (with_range op other size)
alike_range Add rhs other size = record { lower = refl; upper = refl }
alike_range Sub rhs other size = record { lower = refl; upper = refl }
alike_range Mul rhs other size = record { lower = refl; upper = refl }
alike_range Div rhs other size = record { lower = refl; upper = refl }

alike_row : (kind : RowKind) (rhs other : ℚ) (range : Option ℚ) → AlikeLimits (row_limits kind rhs range) (row_limits kind other range)
alike_row N rhs other None = record { lower = refl; upper = refl }
alike_row G rhs other None = record { lower = refl; upper = refl }
alike_row L rhs other None = record { lower = refl; upper = refl }
alike_row E rhs other None = record { lower = refl; upper = refl }
alike_row N rhs other (Some range) = record { lower = refl; upper = refl }
alike_row G rhs other (Some range) = record { lower = refl; upper = refl }
alike_row L rhs other (Some range) = record { lower = refl; upper = refl }
alike_row E rhs other (Some range) = alike_range _ rhs other _

-- lists of limits that are alike in their places
lower_alike : {A : Type 0} (f g : A → Limits) (rest : List Limits) → ((x : A) → AlikeLimits (f x) (g x)) → (xs : List A) (k : ℕ) →
    is_some (slice_index_or (map (λ (l : Limits). l.lower) (map f xs ++ rest)) k None) ≡ is_some
    (slice_index_or (map (λ (l : Limits). l.lower) (map g xs ++ rest)) k None)
lower_alike f g rest h [] k = refl
lower_alike f g rest h (x ∷ xs) zero = (h x).lower
lower_alike f g rest h (x ∷ xs) (suc k) = lower_alike f g rest h xs k

upper_alike : {A : Type 0} (f g : A → Limits) (rest : List Limits) → ((x : A) → AlikeLimits (f x) (g x)) → (xs : List A) (k : ℕ) →
    is_some (slice_index_or (map (λ (l : Limits). l.upper) (map f xs ++ rest)) k None) ≡ is_some
    (slice_index_or (map (λ (l : Limits). l.upper) (map g xs ++ rest)) k None)
upper_alike f g rest h [] k = refl
upper_alike f g rest h (x ∷ xs) zero = (h x).upper
upper_alike f g rest h (x ∷ xs) (suc k) = upper_alike f g rest h xs k

-- the same matrix, and the same limits are there
record SameShape (p q : LinearProgram) : Type 0 where
  matrix : p.matrix ≡ q.matrix
  lower : (k : ℕ) → is_some (lower_of p k) ≡ is_some (lower_of q k)
  upper : (k : ℕ) → is_some (upper_of p k) ≡ is_some (upper_of q k)

basis_of_shape : (p q : LinearProgram) (s : Basis) → SameShape p q → IsNonsingularBasis p s → IsNonsingularBasis q s
basis_of_shape p q s same at = record {
  is_basis = record {
    counted = subst (λ (a : Matrix). length s ≡ size a) same.matrix at.is_basis.counted;
    m_basics = subst (λ (a : Matrix). count_by is_basic s ≡ a.rows) same.matrix at.is_basis.m_basics;
    free_rows = λ i row none. at.is_basis.free_rows i (subst (λ (a : Matrix). IsRow a i) (sym same.matrix) row)
        (none_like (lower_of q i) (lower_of p i) (sym (same.lower i)) none.0, none_like (upper_of q i) (upper_of p i) (sym (same.upper i)) none.1);
    allowed = λ k is. allowed_like (status_of s k) (lower_of p k) (upper_of p k) (lower_of q k) (upper_of q k) (same.lower k) (same.upper k)
        (at.is_basis.allowed k (subst (λ (a : Matrix). IsVariable a k) (sym same.matrix) is));
  };
  nonsingular = subst (λ (a : Matrix). IsNonsingular a (basics_of s)) same.matrix at.nonsingular;
}

same_shape : (problem : Problem ℕ) (options : SetupOptions) (objective rhs other_objective other_rhs : Option Name) →
    SameShape (program_of_choice problem (record { objective = objective; rhs = rhs; options = options }))
    (program_of_choice problem (record { objective = other_objective; rhs = other_rhs; options = options }))
same_shape problem options objective rhs other_objective other_rhs = record {
  matrix = refl;
  lower = λ k. lower_alike _ _ _ (λ entry. alike_row entry.1.kind _ _ _) (enumerate_from 1 problem.rows) (k - 1);
  upper = λ k. upper_alike _ _ _ (λ entry. alike_row entry.1.kind _ _ _) (enumerate_from 1 problem.rows) (k - 1);
}

pub basis_of_either : (problem : Problem ℕ) (options : SetupOptions) (objective rhs other_objective other_rhs : Option Name) (p q : LinearProgram) (s : Basis) →
    selected problem (record { objective = objective; rhs = rhs; options = options }) ≡ Ok p →
    selected problem (record { objective = other_objective; rhs = other_rhs; options = options }) ≡ Ok q → IsNonsingularBasis p s → IsNonsingularBasis q s
basis_of_either problem options objective rhs other_objective other_rhs p q s first second at =
    subst (λ x. IsNonsingularBasis x s) (is_chosen problem _ q second).1
    (basis_of_shape _ _ s (same_shape problem options objective rhs other_objective other_rhs)
    (subst (λ x. IsNonsingularBasis x s) (sym (is_chosen problem _ p first).1) at))
