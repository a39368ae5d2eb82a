-- Worked examples of intervals: their ends are in, and what lies just past them is not.
use Rattle.std.proofs.Common.{◌≡◌, List, [], ◌∷◌, refl, pos, negsuc, Bool, true}
use Rattle.std.specs.Prelude.{Option, Some, None, ◌&&◌, not}
use Rattle.exact_values.specs.Rational.{ℚ, fraction, whole, zero_ℚ, ◌+ℚ◌, ◌*ℚ◌, neg_ℚ, inverse_ℚ, reciprocal, compare_ℚ}
use Rattle.exact_values.specs.Sums.{sum_to}
use Rattle.exact_values.specs.Gcd.{gcd}
use Rattle.lp_definitions.specs.LinearProgram.{LinearProgram}
use Rattle.lp_definitions.specs.declared.Status.{Status}
use Rattle.lp_definitions.specs.declared.Status.TheVariants.{Bs, Ll, Ul}
use Rattle.simplex_definitions.proofs.Programs.{plus, minus, testprob, two}
use Rattle.simplex_definitions.proofs.Solve.{tableau_for, table_for, is_optimal}
use Rattle.simplex_definitions.specs.Ranges.{with_limit, with_cost, with_row, at_limits, columns_of, intermediate_rows}

-- optimal at an end and not just past it; where there is no end, optimal far out
abbrev ends_at : (ℚ → LinearProgram) → List Status → ℚ → ℚ → Option ℚ → Bool
ends_at family s past far None = is_optimal (family far) s
ends_at family s past far (Some t) = is_optimal (family t) s && not (is_optimal (family (t +ℚ past)) s)

-- optimal at both ends of the interval, and not a thousandth past them
abbrev is_interval : (ℚ → LinearProgram) → List Status → Option ℚ → Option ℚ → Bool
is_interval family s low high =
    ends_at family s (fraction (negsuc 0) 1000) (minus 1000000) low && ends_at family s (fraction (pos 1) 1000) (plus 1000000) high

abbrev testprob_basis : List Status
testprob_basis = Bs ∷ Bs ∷ Ll ∷ Ll ∷ Bs ∷ Ll ∷ Bs ∷ []

abbrev two_basis : List Status
two_basis = Bs ∷ Bs ∷ Ul ∷ Ll ∷ Bs ∷ []

-- the variables of the three lists
testprob-limits : at_limits testprob testprob_basis ≡ 3 ∷ 4 ∷ 6 ∷ []
testprob-limits = refl

testprob-costs : columns_of testprob ≡ 5 ∷ 6 ∷ 7 ∷ []
testprob-costs = refl

testprob-rows : intermediate_rows testprob testprob_basis ≡ 2 ∷ []
testprob-rows = refl

-- the test problem
testprob-limit-3 : is_interval (λ t. with_limit testprob testprob_basis 3 t) testprob_basis (Some (plus 6)) (Some (plus 10)) ≡ true
unfolding tableau_for table_for is_optimal fraction whole ◌+ℚ◌ ◌*ℚ◌ neg_ℚ inverse_ℚ reciprocal compare_ℚ sum_to gcd
testprob-limit-3 = refl

testprob-limit-4 : is_interval (λ t. with_limit testprob testprob_basis 4 t) testprob_basis (Some (plus 7)) (Some (plus 11)) ≡ true
unfolding tableau_for table_for is_optimal fraction whole ◌+ℚ◌ ◌*ℚ◌ neg_ℚ inverse_ℚ reciprocal compare_ℚ sum_to gcd
testprob-limit-4 = refl

testprob-limit-6 : is_interval (λ t. with_limit testprob testprob_basis 6 t) testprob_basis (Some (minus 1)) (Some (plus 1)) ≡ true
unfolding tableau_for table_for is_optimal fraction whole ◌+ℚ◌ ◌*ℚ◌ neg_ℚ inverse_ℚ reciprocal compare_ℚ sum_to gcd
testprob-limit-6 = refl

testprob-cost-5 : is_interval (λ t. with_cost testprob 5 t) testprob_basis (Some zero_ℚ) (Some (plus 13)) ≡ true
unfolding tableau_for table_for is_optimal fraction whole ◌+ℚ◌ ◌*ℚ◌ neg_ℚ inverse_ℚ reciprocal compare_ℚ sum_to gcd
testprob-cost-5 = refl

testprob-cost-6 : is_interval (λ t. with_cost testprob 6 t) testprob_basis (Some (minus 8)) None ≡ true
unfolding tableau_for table_for is_optimal fraction whole ◌+ℚ◌ ◌*ℚ◌ neg_ℚ inverse_ℚ reciprocal compare_ℚ sum_to gcd
testprob-cost-6 = refl

testprob-cost-7 : is_interval (λ t. with_cost testprob 7 t) testprob_basis (Some (minus 3)) None ≡ true
unfolding tableau_for table_for is_optimal fraction whole ◌+ℚ◌ ◌*ℚ◌ neg_ℚ inverse_ℚ reciprocal compare_ℚ sum_to gcd
testprob-cost-7 = refl

testprob-row-2 : is_interval (λ t. with_row testprob 2 t) testprob_basis (Some (minus 1)) None ≡ true
unfolding tableau_for table_for is_optimal fraction whole ◌+ℚ◌ ◌*ℚ◌ neg_ℚ inverse_ℚ reciprocal compare_ℚ sum_to gcd
testprob-row-2 = refl

-- two columns under one limit
two-limit-3 : is_interval (λ t. with_limit two two_basis 3 t) two_basis (Some zero_ℚ) None ≡ true
unfolding tableau_for table_for is_optimal fraction whole ◌+ℚ◌ ◌*ℚ◌ neg_ℚ inverse_ℚ reciprocal compare_ℚ sum_to gcd
two-limit-3 = refl

two-limit-4 : is_interval (λ t. with_limit two two_basis 4 t) two_basis None (Some (plus 3)) ≡ true
unfolding tableau_for table_for is_optimal fraction whole ◌+ℚ◌ ◌*ℚ◌ neg_ℚ inverse_ℚ reciprocal compare_ℚ sum_to gcd
two-limit-4 = refl

two-cost-4 : is_interval (λ t. with_cost two 4 t) two_basis (Some (minus 2)) None ≡ true
unfolding tableau_for table_for is_optimal fraction whole ◌+ℚ◌ ◌*ℚ◌ neg_ℚ inverse_ℚ reciprocal compare_ℚ sum_to gcd
two-cost-4 = refl

two-cost-5 : is_interval (λ t. with_cost two 5 t) two_basis None (Some (minus 1)) ≡ true
unfolding tableau_for table_for is_optimal fraction whole ◌+ℚ◌ ◌*ℚ◌ neg_ℚ inverse_ℚ reciprocal compare_ℚ sum_to gcd
two-cost-5 = refl

two-row-2 : is_interval (λ t. with_row two 2 t) two_basis None (Some (plus 1)) ≡ true
unfolding tableau_for table_for is_optimal fraction whole ◌+ℚ◌ ◌*ℚ◌ neg_ℚ inverse_ℚ reciprocal compare_ℚ sum_to gcd
two-row-2 = refl
