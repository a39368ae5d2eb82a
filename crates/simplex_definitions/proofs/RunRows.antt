-- Worked examples of parametric runs: face steps, and how far a basis stays optimal.
use Rattle.std.proofs.Common.{◌≡◌, ℕ, List, [], ◌∷◌, refl, pos, negsuc, map, cond, Bool, true, false, ℤ}
use Rattle.std.specs.Prelude.{Some}
use Rattle.exact_values.specs.Rational.{ℚ, fraction, whole, zero_ℚ, one_ℚ, ◌+ℚ◌, ◌*ℚ◌, neg_ℚ, inverse_ℚ, reciprocal, compare_ℚ}
use Rattle.exact_values.specs.Sums.{sum_to, sum_up_to}
use Rattle.exact_values.specs.Gcd.{gcd}
use Rattle.lp_definitions.specs.LinearProgram.{LinearProgram, size, variables}
use Rattle.lp_definitions.specs.Basis.{Tableau, is_basic, status_of}
use Rattle.lp_definitions.specs.declared.Status.{Status}
use Rattle.lp_definitions.specs.declared.Status.TheVariants.{Bs, Ll, Ul}
use Rattle.simplex_definitions.specs.Path.{Move, listed}
use Rattle.simplex_definitions.proofs.Programs.{plus, minus, two, falling, one_with, pair}
use Rattle.simplex_definitions.proofs.Solve.{tableau_for, table_for, is_optimal, parts}
use Rattle.simplex_definitions.specs.Chain.{ChainEnd, AtMax, UnboundedPast, InfeasiblePast, FaceTurn, FaceMoves, FaceDone, FaceEnds, along}
use Rattle.simplex_definitions.specs.ObjectiveRun.{objective_family, objective_face}
use Rattle.simplex_definitions.specs.RhsRun.{rhs_family, rhs_face, shift_of}

-- what is done at a breakpoint, with the parts of its values
data Views : Type 0 where
  Moves : Move → Views
  Done : Views
  Unbounded : List (ℤ × ℕ) → List (ℤ × ℕ) → Views
  Infeasible : List (ℤ × ℕ) → Views

abbrev end_view : ChainEnd → Views
end_view AtMax = Done
end_view (UnboundedPast theta z d) = Unbounded (parts (theta ∷ z)) (parts d)
end_view (InfeasiblePast theta w) = Infeasible (parts (theta ∷ w))

abbrev viewed : FaceTurn → Views
viewed (FaceMoves m) = Moves m
viewed FaceDone = Done
viewed (FaceEnds end) = end_view end

-- what is done at theta, where h is added to the objective
abbrev objective_at : LinearProgram → ℕ → ℚ → List Status → Views
objective_at p h theta s = let q = objective_family p h theta in viewed (objective_face q h theta s (tableau_for q s))

-- the slope of a basis by its rates, and what is done at theta where the shift is added to the limits
abbrev slope_by : LinearProgram → List Status → List ℚ → Tableau → ℕ → ℚ
slope_by p s shift t k =
    cond (is_basic (status_of s k))
    (sum_up_to (size p.matrix) (λ j. cond (is_basic (status_of s j)) zero_ℚ (t.rate k j *ℚ shift_of p.matrix shift j)))
    (shift_of p.matrix shift k)

abbrev rhs_at : LinearProgram → List ℚ → ℚ → List Status → Views
rhs_at p shift theta s =
    let q = rhs_family p shift theta in
    let t = tableau_for q s in
    viewed (rhs_face q shift theta s t (slope_by q s shift t))

-- the basis is optimal at each of these values
abbrev optimal_at : (ℚ → LinearProgram) → List Status → List ℚ → List Bool
optimal_at family s values = map (λ theta. is_optimal (family theta) s) values

-- the point of a basis at theta, and value + theta * rate
abbrev point_at : (ℚ → LinearProgram) → List Status → ℚ → List (ℤ × ℕ)
point_at family s theta = let q = family theta in parts (listed q.matrix (tableau_for q s).point)

abbrev moved_to : LinearProgram → ℚ → List ℚ → List ℚ → List (ℤ × ℕ)
moved_to p theta value rate = parts (map (along theta value rate) (variables p.matrix))

abbrev shift : List ℚ
shift = zero_ℚ ∷ one_ℚ ∷ []

-- two columns under one limit: x comes to its own limit at 1, and the next interval goes on
two-first : optimal_at (objective_family two 2) (Bs ∷ Bs ∷ Ul ∷ Ll ∷ Bs ∷ []) (zero_ℚ ∷ one_ℚ ∷ fraction (pos 1001) 1000 ∷ []) ≡ true ∷ true ∷ false ∷ []
unfolding tableau_for table_for is_optimal fraction whole ◌+ℚ◌ ◌*ℚ◌ neg_ℚ inverse_ℚ reciprocal compare_ℚ sum_to gcd
two-first = refl

two-face : objective_at two 2 one_ℚ (Bs ∷ Bs ∷ Ul ∷ Ll ∷ Bs ∷ []) ≡ Moves (record { enters = 4; leaves = 4; to = Ul })
unfolding tableau_for table_for objective_face fraction whole ◌+ℚ◌ ◌*ℚ◌ neg_ℚ inverse_ℚ reciprocal compare_ℚ sum_to gcd
two-face = refl

two-done : objective_at two 2 one_ℚ (Bs ∷ Bs ∷ Ul ∷ Ul ∷ Bs ∷ []) ≡ Done
unfolding tableau_for table_for objective_face fraction whole ◌+ℚ◌ ◌*ℚ◌ neg_ℚ inverse_ℚ reciprocal compare_ℚ sum_to gcd
two-done = refl

two-second : optimal_at (objective_family two 2) (Bs ∷ Bs ∷ Ul ∷ Ul ∷ Bs ∷ []) (fraction (pos 999) 1000 ∷ one_ℚ ∷ plus 5 ∷ []) ≡ false ∷ true ∷ true ∷ []
unfolding tableau_for table_for is_optimal fraction whole ◌+ℚ◌ ◌*ℚ◌ neg_ℚ inverse_ℚ reciprocal compare_ℚ sum_to gcd
two-second = refl

-- a cost that the change takes away: nothing stops x past 1
falling-first : optimal_at (objective_family falling 2) (Bs ∷ Bs ∷ Ll ∷ []) (zero_ℚ ∷ one_ℚ ∷ fraction (pos 1001) 1000 ∷ []) ≡ true ∷ true ∷ false ∷ []
unfolding tableau_for table_for is_optimal fraction whole ◌+ℚ◌ ◌*ℚ◌ neg_ℚ inverse_ℚ reciprocal compare_ℚ sum_to gcd
falling-first = refl

falling-ends : objective_at falling 2 one_ℚ (Bs ∷ Bs ∷ Ll ∷ []) ≡ Unbounded ((pos 1, 1) ∷ (pos 0, 1) ∷ (pos 0, 1) ∷ (pos 0, 1) ∷ [])
    ((pos 1, 1) ∷ (negsuc 0, 1) ∷ (pos 1, 1) ∷ [])
unfolding tableau_for table_for objective_face fraction whole ◌+ℚ◌ ◌*ℚ◌ neg_ℚ inverse_ℚ reciprocal compare_ℚ sum_to gcd
falling-ends = refl

-- x grows with the right-hand side until its limit 3 stops it at 2
one-first : optimal_at (rhs_family (one_with 1 (Some (plus 3))) shift) (Bs ∷ Ll ∷ Bs ∷ [])
    (zero_ℚ ∷ plus 2 ∷ fraction (pos 2001) 1000 ∷ []) ≡ true ∷ true ∷ false ∷ []
unfolding tableau_for table_for is_optimal fraction whole ◌+ℚ◌ ◌*ℚ◌ neg_ℚ inverse_ℚ reciprocal compare_ℚ sum_to gcd
one-first = refl

one-ends : rhs_at (one_with 1 (Some (plus 3))) shift (plus 2) (Bs ∷ Ll ∷ Bs ∷ []) ≡ Infeasible ((pos 2, 1) ∷ (pos 0, 1) ∷ (negsuc 0, 1) ∷ (pos 1, 1) ∷ [])
unfolding tableau_for table_for rhs_face fraction whole ◌+ℚ◌ ◌*ℚ◌ neg_ℚ inverse_ℚ reciprocal compare_ℚ sum_to gcd
one-ends = refl

-- x and the dearer y, which takes the place of x at 2
pair-first : optimal_at (rhs_family pair shift) (Bs ∷ Ll ∷ Bs ∷ Ll ∷ []) (zero_ℚ ∷ plus 2 ∷ fraction (pos 2001) 1000 ∷ []) ≡ true ∷ true ∷ false ∷ []
unfolding tableau_for table_for is_optimal fraction whole ◌+ℚ◌ ◌*ℚ◌ neg_ℚ inverse_ℚ reciprocal compare_ℚ sum_to gcd
pair-first = refl

pair-face : rhs_at pair shift (plus 2) (Bs ∷ Ll ∷ Bs ∷ Ll ∷ []) ≡ Moves (record { enters = 4; leaves = 3; to = Ul })
unfolding tableau_for table_for rhs_face fraction whole ◌+ℚ◌ ◌*ℚ◌ neg_ℚ inverse_ℚ reciprocal compare_ℚ sum_to gcd
pair-face = refl

pair-done : rhs_at pair shift (plus 2) (Bs ∷ Ll ∷ Ul ∷ Bs ∷ []) ≡ Done
unfolding tableau_for table_for rhs_face fraction whole ◌+ℚ◌ ◌*ℚ◌ neg_ℚ inverse_ℚ reciprocal compare_ℚ sum_to gcd
pair-done = refl

pair-second : optimal_at (rhs_family pair shift) (Bs ∷ Ll ∷ Ul ∷ Bs ∷ []) (fraction (pos 1999) 1000 ∷ plus 2 ∷ plus 5 ∷ []) ≡ false ∷ true ∷ true ∷ []
unfolding tableau_for table_for is_optimal fraction whole ◌+ℚ◌ ◌*ℚ◌ neg_ℚ inverse_ℚ reciprocal compare_ℚ sum_to gcd
pair-second = refl

pair-values : map (point_at (rhs_family pair shift) (Bs ∷ Ll ∷ Ul ∷ Bs ∷ [])) (plus 2 ∷ plus 5 ∷ []) ≡ map
    (λ theta. moved_to pair theta (minus 1 ∷ plus 1 ∷ plus 3 ∷ minus 2 ∷ []) (plus 2 ∷ plus 1 ∷ zero_ℚ ∷ plus 1 ∷ [])) (plus 2 ∷ plus 5 ∷ [])
unfolding tableau_for table_for fraction whole ◌+ℚ◌ ◌*ℚ◌ neg_ℚ inverse_ℚ reciprocal compare_ℚ sum_to gcd
pair-values = refl
