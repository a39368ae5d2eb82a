-- Worked intervals: how far the conditions of a change hold, from the present value on, in problems whose intervals are known.
use Rattle.std.proofs.Common.{◌≡◌, ℕ, List, [], ◌∷◌, ◌++◌, refl, pos, negsuc, filter}
use Rattle.std.specs.Prelude.{Option, Some, None}
use Rattle.exact_values.specs.Gcd.{gcd}
use Rattle.exact_values.specs.Rational.{ℚ, fraction, whole, ◌+ℚ◌, ◌*ℚ◌, neg_ℚ, inverse_ℚ, reciprocal, compare_ℚ}
use Rattle.exact_values.specs.Sums.{sum_to}
use Rattle.affine_laws.specs.Conditions.{Condition, reach_of}
use Rattle.lp_definitions.specs.LinearProgram.{LinearProgram, variables, cost}
use Rattle.lp_definitions.specs.Basis.{is_in, basics_of, Tableau}
use Rattle.lp_definitions.specs.declared.Status.{Status}
use Rattle.lp_definitions.specs.declared.Status.TheVariants.{Bs, Ll, Ul}
use Rattle.simplex_definitions.proofs.Programs.{plus, testprob, two}
use Rattle.simplex_definitions.proofs.Solve.{tableau_for, table_for, parts}
use Rattle.sensitivity_laws.specs.Changes.{Sides, rate_sides, limit_sides, own_sides, worths, slopes}

abbrev listed : Option Condition → List Condition
listed None = []
listed (Some c) = c ∷ []

abbrev both : Sides → List Condition
both sides = listed sides.first ++ listed sides.second

-- how far a change may go, by the conditions of these variables
abbrev far : List ℕ → (ℕ → Sides) → ℚ
far [] sides = plus 1000000
far (k ∷ ks) sides = reach_of (far ks sides) (both (sides k))

abbrev highest_limit : LinearProgram → List Status → Tableau → ℕ → ℚ
highest_limit p s t k =
    t.point k +ℚ reach_of (far (filter (is_in (basics_of s)) (variables p.matrix)) (limit_sides p t.point (λ i. t.rate i k))) (both (own_sides p s t.point k))

abbrev highest_multiple : LinearProgram → List Status → Tableau → ℕ → ℚ
highest_multiple p s t i = far (variables p.matrix) (rate_sides p s (worths p t) (slopes p t i))

abbrev testprob_basis : List Status
testprob_basis = Bs ∷ Bs ∷ Ll ∷ Ll ∷ Bs ∷ Ll ∷ Bs ∷ []

abbrev two_basis : List Status
two_basis = Bs ∷ Bs ∷ Ul ∷ Ll ∷ Bs ∷ []

-- the right-hand sides of the test problem's rows 3 and 4 up to 10 and to 11, and the limit of its column 6 up to 1
testprob-limits : parts (highest_limit testprob testprob_basis (tableau_for testprob testprob_basis) 3
    ∷ highest_limit testprob testprob_basis (tableau_for testprob testprob_basis) 4
    ∷ highest_limit testprob testprob_basis (tableau_for testprob testprob_basis) 6 ∷ []) ≡ (pos 10, 1) ∷ (pos 11, 1) ∷ (pos 1, 1) ∷ []
unfolding tableau_for table_for fraction whole ◌+ℚ◌ ◌*ℚ◌ neg_ℚ inverse_ℚ reciprocal compare_ℚ sum_to gcd
testprob-limits = refl

-- the cost of its column 5 up to 13
testprob-cost : parts ((cost testprob 1 +ℚ highest_multiple testprob testprob_basis (tableau_for testprob testprob_basis) 5) ∷ []) ≡ (pos 13, 1) ∷ []
unfolding tableau_for table_for fraction whole ◌+ℚ◌ ◌*ℚ◌ neg_ℚ inverse_ℚ reciprocal compare_ℚ sum_to gcd
testprob-cost = refl

-- of two columns under one limit the cost of the second up to -1, and the multiple of the limited row up to 1
two-costs : parts
    ((cost two 2 +ℚ highest_multiple two two_basis (tableau_for two two_basis) 5) ∷ highest_multiple two two_basis (tableau_for two two_basis) 2 ∷ [])
    ≡ (negsuc 0, 1) ∷ (pos 1, 1) ∷ []
unfolding tableau_for table_for fraction whole ◌+ℚ◌ ◌*ℚ◌ neg_ℚ inverse_ℚ reciprocal compare_ℚ sum_to gcd
two-costs = refl
