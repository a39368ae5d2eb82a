-- Worked examples of paths.
use Rattle.std.proofs.Common.{◌≡◌, ℕ, List, [], ◌∷◌, refl, ℤ, pos, negsuc}
use Rattle.std.specs.Prelude.{Option, Some, None}
use Rattle.exact_values.specs.Rational.{fraction, whole, ◌+ℚ◌, ◌*ℚ◌, neg_ℚ, inverse_ℚ, reciprocal, compare_ℚ}
use Rattle.exact_values.specs.Sums.{sum_to}
use Rattle.exact_values.specs.Gcd.{gcd}
use Rattle.lp_definitions.specs.Basis.{opening_statuses}
use Rattle.lp_definitions.specs.declared.Status.{Status}
use Rattle.lp_definitions.specs.declared.Status.TheVariants.{Bs, Ll, Ul, Fr}
use Rattle.simplex_definitions.specs.Path.{PathEnding, EndsOptimal, EndsCrossed, EndsInfeasible, EndsUnbounded, turn}
use Rattle.simplex_definitions.proofs.Programs.{testprob, beale, bare, crossing, torn, unbounded_end, band, two, two_with, one_with, greatest, transport, freed}
use Rattle.simplex_definitions.proofs.Programs.{sinking, capped}
use Rattle.simplex_definitions.proofs.Solve.{solved, table_for, viewed, parts, Optimal, Crossed, Infeasible, Unbounded}

-- three steps to the least cost 54
testprob-path : viewed (solved testprob (opening_statuses testprob)) ≡ Some (
  3,
  Optimal ((pos 54, 1) ∷ (pos 3, 1) ∷ (pos 10, 1) ∷ (pos 7, 1) ∷ (pos 4, 1) ∷ (negsuc 0, 1) ∷ (pos 6, 1) ∷ [])
      ((pos 0, 1) ∷ (pos 0, 1) ∷ (pos 1, 1) ∷ (pos 8, 1) ∷ (pos 0, 1) ∷ (pos 12, 1) ∷ (pos 0, 1) ∷ []),
  (Bs ∷ Bs ∷ Ll ∷ Ll ∷ Bs ∷ Ll ∷ Bs ∷ []),
)
unfolding solved table_for turn fraction whole ◌+ℚ◌ ◌*ℚ◌ neg_ℚ inverse_ℚ reciprocal compare_ℚ sum_to gcd
testprob-path = refl

-- six steps, and no circle
beale-path : viewed (solved beale (opening_statuses beale)) ≡ Some (
  6,
  Optimal ((negsuc 0, 20) ∷ (negsuc 2, 100) ∷ (pos 0, 1) ∷ (pos 1, 1) ∷ (pos 1, 25) ∷ (pos 0, 1) ∷ (pos 1, 1) ∷ (pos 0, 1) ∷ [])
      ((pos 0, 1) ∷ (pos 0, 1) ∷ (negsuc 2, 2) ∷ (negsuc 0, 20) ∷ (pos 0, 1) ∷ (pos 15, 1) ∷ (pos 0, 1) ∷ (pos 21, 2) ∷ []),
  (Bs ∷ Bs ∷ Ul ∷ Ul ∷ Bs ∷ Ll ∷ Bs ∷ Ll ∷ []),
)
unfolding solved table_for turn fraction whole ◌+ℚ◌ ◌*ℚ◌ neg_ℚ inverse_ℚ reciprocal compare_ℚ sum_to gcd
beale-path = refl

-- no columns, and no step
bare-path : viewed (solved bare (opening_statuses bare)) ≡ Some (0, Optimal ((pos 0, 1) ∷ []) ((pos 0, 1) ∷ []), (Bs ∷ []))
unfolding solved table_for turn fraction whole ◌+ℚ◌ ◌*ℚ◌ neg_ℚ inverse_ℚ reciprocal compare_ℚ sum_to gcd
bare-path = refl

-- an upper limit below the lower one
crossing-path : viewed (solved crossing (opening_statuses crossing)) ≡ Some (0, Crossed 2, (Bs ∷ Ll ∷ []))
unfolding solved table_for turn fraction whole ◌+ℚ◌ ◌*ℚ◌ neg_ℚ inverse_ℚ reciprocal compare_ℚ sum_to gcd
crossing-path = refl

-- one step, and then nothing brings the third row back
torn-path : viewed (solved torn (opening_statuses torn)) ≡ Some
    (1, Infeasible ((pos 0, 1) ∷ (negsuc 0, 1) ∷ (pos 1, 1) ∷ (pos 0, 1) ∷ []), (Bs ∷ Ll ∷ Bs ∷ Bs ∷ []))
unfolding solved table_for turn fraction whole ◌+ℚ◌ ◌*ℚ◌ neg_ℚ inverse_ℚ reciprocal compare_ℚ sum_to gcd
torn-path = refl

-- nothing stops x
unbounded_end-path : viewed (solved unbounded_end (opening_statuses unbounded_end)) ≡ Some
    (0, Unbounded ((pos 0, 1) ∷ (pos 0, 1) ∷ []) ((negsuc 0, 1) ∷ (pos 1, 1) ∷ []), (Bs ∷ Ll ∷ []))
unfolding solved table_for turn fraction whole ◌+ℚ◌ ◌*ℚ◌ neg_ℚ inverse_ℚ reciprocal compare_ℚ sum_to gcd
unbounded_end-path = refl

-- to the lower end of a range
band-path : viewed (solved band (opening_statuses band)) ≡ Some
    (1, Optimal ((pos 2, 1) ∷ (pos 2, 1) ∷ (pos 2, 1) ∷ []) ((pos 0, 1) ∷ (pos 1, 1) ∷ (pos 0, 1) ∷ []), (Bs ∷ Ll ∷ Bs ∷ []))
unfolding solved table_for turn fraction whole ◌+ℚ◌ ◌*ℚ◌ neg_ℚ inverse_ℚ reciprocal compare_ℚ sum_to gcd
band-path = refl

-- x comes to its own limit, y stops at the row, and x goes back
two-path : viewed (solved two (opening_statuses two)) ≡ Some (
  3,
  Optimal ((negsuc 7, 1) ∷ (pos 0, 1) ∷ (pos 4, 1) ∷ (pos 0, 1) ∷ (pos 4, 1) ∷ [])
      ((pos 0, 1) ∷ (pos 0, 1) ∷ (negsuc 1, 1) ∷ (pos 1, 1) ∷ (pos 0, 1) ∷ []),
  (Bs ∷ Bs ∷ Ul ∷ Ll ∷ Bs ∷ []),
)
unfolding solved table_for turn fraction whole ◌+ℚ◌ ◌*ℚ◌ neg_ℚ inverse_ℚ reciprocal compare_ℚ sum_to gcd
two-path = refl

-- to the least lawful value
one-path : viewed (solved (one_with 1 None) (opening_statuses (one_with 1 None))) ≡ Some
    (1, Optimal ((pos 1, 1) ∷ (pos 1, 1) ∷ (pos 1, 1) ∷ []) ((pos 0, 1) ∷ (pos 1, 1) ∷ (pos 0, 1) ∷ []), (Bs ∷ Ll ∷ Bs ∷ []))
unfolding solved table_for turn fraction whole ◌+ℚ◌ ◌*ℚ◌ neg_ℚ inverse_ℚ reciprocal compare_ℚ sum_to gcd
one-path = refl

-- from the basis that the path above reached, under another right-hand side
one_moved-path : viewed (solved (one_with 2 None) (Bs ∷ Ll ∷ Bs ∷ [])) ≡ Some
    (0, Optimal ((pos 2, 1) ∷ (pos 2, 1) ∷ (pos 2, 1) ∷ []) ((pos 0, 1) ∷ (pos 1, 1) ∷ (pos 0, 1) ∷ []), (Bs ∷ Ll ∷ Bs ∷ []))
unfolding solved table_for turn fraction whole ◌+ℚ◌ ◌*ℚ◌ neg_ℚ inverse_ℚ reciprocal compare_ℚ sum_to gcd
one_moved-path = refl

-- the greatest value
greatest-path : viewed (solved greatest (opening_statuses greatest)) ≡ Some
    (1, Optimal ((pos 12, 1) ∷ (pos 4, 1) ∷ (pos 4, 1) ∷ []) ((pos 0, 1) ∷ (pos 3, 1) ∷ (pos 0, 1) ∷ []), (Bs ∷ Ul ∷ Bs ∷ []))
unfolding solved table_for turn fraction whole ◌+ℚ◌ ◌*ℚ◌ neg_ℚ inverse_ℚ reciprocal compare_ℚ sum_to gcd
greatest-path = refl

-- the row and x itself stop x at once: the least-numbered, the row, leaves
two_tied-path : viewed (solved (two_with 4) (opening_statuses (two_with 4))) ≡ Some (
  2,
  Optimal ((negsuc 7, 1) ∷ (pos 0, 1) ∷ (pos 4, 1) ∷ (pos 0, 1) ∷ (pos 4, 1) ∷ [])
      ((pos 0, 1) ∷ (pos 0, 1) ∷ (negsuc 1, 1) ∷ (pos 1, 1) ∷ (pos 0, 1) ∷ []),
  (Bs ∷ Bs ∷ Ul ∷ Ll ∷ Bs ∷ []),
)
unfolding solved table_for turn fraction whole ◌+ℚ◌ ◌*ℚ◌ neg_ℚ inverse_ℚ reciprocal compare_ℚ sum_to gcd
two_tied-path = refl

-- a free column falls
freed-path : viewed (solved freed (opening_statuses freed)) ≡ Some (
  1,
  Optimal ((negsuc 1, 1) ∷ (negsuc 1, 1) ∷ (negsuc 1, 1) ∷ (negsuc 1, 1) ∷ (pos 0, 1) ∷ [])
      ((pos 0, 1) ∷ (pos 1, 1) ∷ (pos 0, 1) ∷ (pos 0, 1) ∷ (pos 2, 1) ∷ []),
  (Bs ∷ Ll ∷ Bs ∷ Bs ∷ Ll ∷ []),
)
unfolding solved table_for turn fraction whole ◌+ℚ◌ ◌*ℚ◌ neg_ℚ inverse_ℚ reciprocal compare_ℚ sum_to gcd
freed-path = refl

-- nothing stops a free column that falls
sinking-path : viewed (solved sinking (opening_statuses sinking)) ≡ Some
    (0, Unbounded ((pos 0, 1) ∷ (pos 0, 1) ∷ []) ((negsuc 0, 1) ∷ (negsuc 0, 1) ∷ []), (Bs ∷ Fr ∷ []))
unfolding solved table_for turn fraction whole ◌+ℚ◌ ◌*ℚ◌ neg_ℚ inverse_ℚ reciprocal compare_ℚ sum_to gcd
sinking-path = refl

-- a row above its upper limit comes back to it
capped-path : viewed (solved capped (opening_statuses capped)) ≡ Some
    (1, Optimal ((pos 2, 1) ∷ (pos 2, 1) ∷ (pos 2, 1) ∷ []) ((pos 0, 1) ∷ (pos 1, 1) ∷ (pos 0, 1) ∷ []), (Bs ∷ Ul ∷ Bs ∷ []))
unfolding solved table_for turn fraction whole ◌+ℚ◌ ◌*ℚ◌ neg_ℚ inverse_ℚ reciprocal compare_ℚ sum_to gcd
capped-path = refl

-- two ways of four, in four steps
abbrev objective_reached : Option (ℕ × PathEnding × List Status) → Option (ℕ × List (ℤ × ℕ))
objective_reached None = None
objective_reached (Some found) = Some (found.0, point_of found.1)
  where
    point_of : PathEnding → List (ℤ × ℕ)
    point_of (EndsOptimal z y) = parts z
    point_of (EndsCrossed k) = []
    point_of (EndsInfeasible w) = []
    point_of (EndsUnbounded z d) = []

transport-path : objective_reached (solved transport (opening_statuses transport)) ≡ Some
    (4, ((pos 180, 1) ∷ (pos 10, 1) ∷ (pos 10, 1) ∷ (pos 10, 1) ∷ (pos 10, 1) ∷ (pos 0, 1) ∷ (pos 10, 1) ∷ (pos 10, 1) ∷ (pos 0, 1) ∷ []))
unfolding solved table_for turn fraction whole ◌+ℚ◌ ◌*ℚ◌ neg_ℚ inverse_ℚ reciprocal compare_ℚ sum_to gcd
transport-path = refl
