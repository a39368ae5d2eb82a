-- What is selected of a problem, and what it has in common with other selections by the same options.
use Rattle.std.proofs.Common.{◌≡◌, ℕ, zero, suc, ◌-◌, Bool, true, false, List, [], ◌∷◌, ◌++◌, Option, Some, None, map, get_or, refl, sym, ap, subst, ◌∙◌}
use Rattle.std.proofs.Common.{if◌then◌else◌, is_some}
use Rattle.std.specs.Prelude.{Ok}
use Rattle.std.specs.List.{enumerate_from}
use Rattle.exact_values.specs.Rational.{ℚ, zero_ℚ}
use Rattle.exact_values.specs.Tests.{lt_ℚ, magnitude}
use Rattle.frac128.specs.declared.Op.TheVariants.{Add, Sub}
use Rattle.lp_definitions.specs.LinearProgram.{Matrix, LinearProgram, lower_of, upper_of}
use Rattle.lp_definitions.specs.Basis.{Basics, basics_of, IsNonsingular}
use Rattle.lp_definitions.specs.declared.Status.{Status}
use Rattle.basis_values.specs.Calls.{HasRates}
use Rattle.problem_definitions.specs.declared.RowKind.{RowKind}
use Rattle.problem_definitions.specs.declared.RowKind.TheVariants.{N, G, L, E}
use Rattle.problem_definitions.specs.Problem.{Row, Problem}
use Rattle.control_definitions.specs.Program.{SetupOptions}
use Rattle.selection_definitions.specs.Choice.{Choice, set_items, selection_fault}
use Rattle.selection_definitions.specs.Limits.{Limits, value_on, with_range, row_limits, column_limits}
use Rattle.selection_definitions.specs.Selection.{matrix_of, rhs_of, limits_of, program_of_choice, selected}
use Rattle.deck_fields.proofs.Decimals.{unless-Ok}
use Rattle.lp_laws.proofs.Alike.{allowed_like, none_like}

-- ---- what is selected is the program of the choice

is_program : (problem : Problem ℕ) (choice : Choice) (p : LinearProgram) → selected problem choice ≡ Ok p → program_of_choice problem choice ≡ p
unfolding selected
is_program problem choice p e = unless-Ok (selection_fault problem choice) (program_of_choice problem choice) p e

pub same_matrix : (problem : Problem ℕ) (choice : Choice) (p : LinearProgram) → selected problem choice ≡ Ok p → matrix_of problem ≡ p.matrix
same_matrix problem choice p e = ap (λ (q : LinearProgram). q.matrix) (is_program problem choice p e)

pub no_change : (problem : Problem ℕ) (choice : Choice) (p : LinearProgram) → selected problem choice ≡ Ok p → p.change ≡ None
no_change problem choice p e = ap (λ (q : LinearProgram). q.change) (sym (is_program problem choice p e))

-- ---- which limits there are depends on the options alone

record Alike (x y : Limits) : Type 0 where
  lower : is_some x.lower ≡ is_some y.lower
  upper : is_some x.upper ≡ is_some y.upper

abbrev AreAlike : List Limits → List Limits → Type 0
AreAlike [] [] = Unit {0}
AreAlike (x ∷ xs) (y ∷ ys) = Alike x y × AreAlike xs ys
AreAlike _ _ = ⊥

same_limits : (x : Limits) → Alike x x
same_limits x = record { lower = refl; upper = refl }

same_lists : (xs : List Limits) → AreAlike xs xs
same_lists [] = tt
same_lists (x ∷ xs) = (same_limits x, same_lists xs)

alike_then : (xs ys zs : List Limits) → AreAlike xs ys → AreAlike (xs ++ zs) (ys ++ zs)
alike_then [] [] zs h = same_lists zs
alike_then [] (y ∷ ys) zs h = elim h [ ]
alike_then (x ∷ xs) [] zs h = elim h [ ]
alike_then (x ∷ xs) (y ∷ ys) zs h = (h.0, alike_then xs ys zs h.1)

alike_each : {X : Type 0} (f g : X → Limits) (xs : List X) → ((x : X) → Alike (f x) (g x)) → AreAlike (map f xs) (map g xs)
alike_each f g [] h = tt
alike_each f g (x ∷ xs) h = (h x, alike_each f g xs h)

lower_alike : (xs ys : List Limits) (n : ℕ) → AreAlike xs ys →
    is_some (get_or (map (λ (l : Limits). l.lower) xs) n None) ≡ is_some (get_or (map (λ (l : Limits). l.lower) ys) n None)
lower_alike [] [] n h = refl
lower_alike [] (y ∷ ys) n h = elim h [ ]
lower_alike (x ∷ xs) [] n h = elim h [ ]
lower_alike (x ∷ xs) (y ∷ ys) zero h = h.0.lower
lower_alike (x ∷ xs) (y ∷ ys) (suc n) h = lower_alike xs ys n h.1

upper_alike : (xs ys : List Limits) (n : ℕ) → AreAlike xs ys →
    is_some (get_or (map (λ (l : Limits). l.upper) xs) n None) ≡ is_some (get_or (map (λ (l : Limits). l.upper) ys) n None)
upper_alike [] [] n h = refl
upper_alike [] (y ∷ ys) n h = elim h [ ]
upper_alike (x ∷ xs) [] n h = elim h [ ]
upper_alike (x ∷ xs) (y ∷ ys) zero h = h.0.upper
upper_alike (x ∷ xs) (y ∷ ys) (suc n) h = upper_alike xs ys n h.1

range_alike : (negative : Bool) (a b size : ℚ) → Alike (with_range (if negative then Sub else Add) a size) (with_range (if negative then Sub else Add) b size)
range_alike true a b size = record { lower = refl; upper = refl }
range_alike false a b size = record { lower = refl; upper = refl }

-- another right-hand side moves a row's limits, and leaves those that there are
row_alike : (kind : RowKind) (a b : ℚ) (range : Option ℚ) → Alike (row_limits kind a range) (row_limits kind b range)
row_alike N a b None = record { lower = refl; upper = refl }
row_alike G a b None = record { lower = refl; upper = refl }
row_alike L a b None = record { lower = refl; upper = refl }
row_alike E a b None = record { lower = refl; upper = refl }
row_alike N a b (Some range) = record { lower = refl; upper = refl }
row_alike G a b (Some range) = record { lower = refl; upper = refl }
row_alike L a b (Some range) = record { lower = refl; upper = refl }
row_alike E a b (Some range) = range_alike (lt_ℚ range zero_ℚ) a b (magnitude range)

-- the limits by these right-hand sides
abbrev limits_by : Problem ℕ → SetupOptions → (ℕ → ℚ) → List Limits
limits_by problem options side =
    map (λ entry. row_limits entry.1.kind (side entry.0) (value_on (set_items problem.ranges options.range) entry.0)) (enumerate_from 1 problem.rows)
    ++ map (λ entry. column_limits (set_items problem.bounds options.bound) entry.0) (enumerate_from 1 problem.columns)

by_sides : (problem : Problem ℕ) (options : SetupOptions) (a b : ℕ → ℚ) → AreAlike (limits_by problem options a) (limits_by problem options b)
by_sides problem options a b =
    alike_then _ _ _ (alike_each (λ (entry : ℕ × Row ℕ). row_limits entry.1.kind (a entry.0) (value_on (set_items problem.ranges options.range) entry.0))
    (λ (entry : ℕ × Row ℕ). row_limits entry.1.kind (b entry.0) (value_on (set_items problem.ranges options.range) entry.0)) (enumerate_from 1 problem.rows)
    (λ entry. row_alike entry.1.kind (a entry.0) (b entry.0) (value_on (set_items problem.ranges options.range) entry.0)))

limits_alike : (problem : Problem ℕ) (c d : Choice) → c.options ≡ d.options → AreAlike (limits_of problem c) (limits_of problem d)
limits_alike problem c d same =
    subst (λ (o : SetupOptions). AreAlike (limits_of problem c) (limits_by problem o (rhs_of problem d))) same
    (by_sides problem c.options (rhs_of problem c) (rhs_of problem d))

-- ---- the bases are those of every selection by these options

module _ (problem : Problem ℕ) (c d : Choice) (p q : LinearProgram) (same : c.options ≡ d.options) (first : selected problem c ≡ Ok p)
    (second : selected problem d ≡ Ok q) where
  pub matrix_carries : p.matrix ≡ q.matrix
  matrix_carries = sym (same_matrix problem c p first) ∙ same_matrix problem d q second

  lowers : (k : ℕ) → is_some (lower_of p k) ≡ is_some (lower_of q k)
  lowers k =
      ap (λ (r : LinearProgram). is_some (lower_of r k)) (sym (is_program problem c p first))
      ∙ lower_alike (limits_of problem c) (limits_of problem d) (k - 1) (limits_alike problem c d same)
      ∙ ap (λ (r : LinearProgram). is_some (lower_of r k)) (is_program problem d q second)

  uppers : (k : ℕ) → is_some (upper_of p k) ≡ is_some (upper_of q k)
  uppers k =
      ap (λ (r : LinearProgram). is_some (upper_of r k)) (sym (is_program problem c p first))
      ∙ upper_alike (limits_of problem c) (limits_of problem d) (k - 1) (limits_alike problem c d same)
      ∙ ap (λ (r : LinearProgram). is_some (upper_of r k)) (is_program problem d q second)

  pub rates_carry : (a : Matrix) (b : Basics) (s : List Status) → HasRates a b p s → HasRates a b q s
  rates_carry a b s has =
      let rows : p.matrix.rows ≡ q.matrix.rows = ap (λ (m : Matrix). m.rows) matrix_carries in
      let cols : p.matrix.cols ≡ q.matrix.cols = ap (λ (m : Matrix). m.cols) matrix_carries in
      record {
        is_basis = record {
          counted = rw (← rows, ← cols) has.is_basis.counted;
          m_basics = has.is_basis.m_basics ∙ rows;
          free_rows =
              λ i is free. has.is_basis.free_rows i (rw rows is)
              (none_like (lower_of q i) (lower_of p i) (sym (lowers i)) free.0, none_like (upper_of q i) (upper_of p i) (sym (uppers i)) free.1);
          allowed =
              λ k is. allowed_like _ (lower_of p k) (upper_of p k) (lower_of q k) (upper_of q k) (lowers k) (uppers k)
              (has.is_basis.allowed k (rw (rows, cols) is));
        };
        nonsingular = subst (λ (m : Matrix). IsNonsingular m (basics_of s)) matrix_carries has.nonsingular;
        same_matrix = has.same_matrix ∙ matrix_carries;
        same_basics = has.same_basics;
      }
