-- Worked problems: their points, prices, rays and directions are what the definitions say.
use Rattle.std.proofs.Common.{◌≡◌, ℕ, zero, suc, ◌+◌, List, [], ◌∷◌, refl, pos, negsuc, true, false, arith}
use Rattle.std.specs.Prelude.{Some, None, IfSome, IsSome}
use Rattle.exact_values.specs.Gcd.{gcd}
use Rattle.exact_values.specs.Rational.{ℚ, whole, fraction, zero_ℚ, one_ℚ, ◌+ℚ◌, ◌-ℚ◌, ◌*ℚ◌, neg_ℚ, ◌<ℚ◌, ◌≤ℚ◌, compare_ℚ}
use Rattle.exact_values.specs.Sums.{sum_to, sum_up_to}
use Rattle.exact_values.proofs.Fractions.{same_parts}
use Rattle.lp_definitions.specs.LinearProgram.{LinearProgram, value_at, KeepsEquations, IsColumn, IsVariable, lower_of, upper_of, cost, objective_value, entry}
use Rattle.lp_definitions.specs.Solutions.{IsFeasible, IsDualCertificate, IsCrossed, IsRay, ProvesUnbounded}
use Rattle.lp_definitions.specs.Basis.{row_basics, exchanged, opening_statuses}
use Rattle.lp_definitions.specs.Waypoints.{waypoint}
use Rattle.lp_definitions.specs.RatesEvidence.{other_basics}
use Rattle.lp_definitions.specs.declared.Entry.{Entry}
use Rattle.lp_definitions.specs.declared.Sense.TheVariants.{Min, Max}
use Rattle.lp_definitions.specs.declared.Status.TheVariants.{Bs, Ll, Ul, Fr}

-- the number n on row i
abbrev on : ℕ → ℚ → Entry
on i n = record { row = i; value = n }

never : false ≡ true → ⊥
never e = cc

-- what `IsFeasible` asks of the limits of variable k
abbrev IsInside : LinearProgram → List ℚ → ℕ → Type 0
IsInside p xs k = IfSome (lower_of p k) (λ l. l ≤ℚ value_at xs k) × IfSome (upper_of p k) (λ u. value_at xs k ≤ℚ u)

-- ---- the test problem of three columns: 54 is the least cost

abbrev testprob : LinearProgram
testprob = record {
  matrix = record {
    rows = 4;
    cols = 3;
    columns = (on 1 (whole (pos 1)) ∷ on 2 (whole (pos 1)) ∷ on 3 (whole (pos 1)) ∷ [])
        ∷ (on 1 (whole (pos 4)) ∷ on 2 (whole (pos 1)) ∷ on 4 (whole (negsuc 0)) ∷ [])
        ∷ (on 1 (whole (pos 9)) ∷ on 3 (whole (pos 1)) ∷ on 4 (whole (pos 1)) ∷ [])
        ∷ [];
  };
  lower = None ∷ None ∷ Some (whole (pos 10)) ∷ Some (whole (pos 7)) ∷ Some zero_ℚ ∷ Some (whole (negsuc 0)) ∷ Some zero_ℚ ∷ [];
  upper = None ∷ Some (whole (pos 5)) ∷ None ∷ Some (whole (pos 7)) ∷ Some (whole (pos 4)) ∷ Some (whole (pos 1)) ∷ None ∷ [];
  rhs = zero_ℚ ∷ whole (pos 5) ∷ whole (pos 10) ∷ whole (pos 7) ∷ [];
  objective = 1;
  change = None;
  sense = Min;
}

abbrev testprob_point : List ℚ
testprob_point = whole (pos 54) ∷ whole (pos 3) ∷ whole (pos 10) ∷ whole (pos 7) ∷ whole (pos 4) ∷ whole (negsuc 0) ∷ whole (pos 6) ∷ []

testprob_keeps : KeepsEquations testprob.matrix (value_at testprob_point)
unfolding sum_to ◌+ℚ◌ ◌*ℚ◌ fraction whole gcd
testprob_keeps zero row = absurd (omega (arith, row.0))
testprob_keeps (suc zero) row = same_parts _ _ refl refl
testprob_keeps (suc (suc zero)) row = same_parts _ _ refl refl
testprob_keeps (suc (suc (suc zero))) row = same_parts _ _ refl refl
testprob_keeps (suc (suc (suc (suc zero)))) row = same_parts _ _ refl refl
testprob_keeps (suc (suc (suc (suc (suc i))))) row = absurd (omega (arith, row.1))

testprob_feasible : IsFeasible testprob (value_at testprob_point)
unfolding sum_to ◌+ℚ◌ ◌*ℚ◌ fraction whole gcd neg_ℚ
testprob_feasible = record { keeps = testprob_keeps; within = within }
  where
    within : (k : ℕ) → IsVariable testprob.matrix k → IsInside testprob testprob_point k
    within zero is = absurd (omega (arith, is.0))
    within (suc zero) is = (tt, tt)
    within (suc (suc zero)) is = (tt, record { at_most = refl })
    within (suc (suc (suc zero))) is = (record { at_most = refl }, tt)
    within (suc (suc (suc (suc zero)))) is = (record { at_most = refl }, record { at_most = refl })
    within (suc (suc (suc (suc (suc zero))))) is = (record { at_most = refl }, record { at_most = refl })
    within (suc (suc (suc (suc (suc (suc zero)))))) is = (record { at_most = refl }, record { at_most = refl })
    within (suc (suc (suc (suc (suc (suc (suc zero))))))) is = (record { at_most = refl }, tt)
    within (suc (suc (suc (suc (suc (suc (suc (suc k)))))))) is = absurd (omega (arith, is.1))

abbrev testprob_prices : List ℚ
testprob_prices = zero_ℚ ∷ zero_ℚ ∷ whole (pos 1) ∷ whole (pos 8) ∷ zero_ℚ ∷ whole (pos 12) ∷ zero_ℚ ∷ []

testprob_certificate : IsDualCertificate testprob (value_at testprob_point) (value_at testprob_prices)
unfolding sum_to ◌+ℚ◌ ◌*ℚ◌ fraction whole gcd neg_ℚ
testprob_certificate = record { reduced = reduced; at_lower = at_lower; at_upper = at_upper }
  where
    reduced : (j : ℕ) → IsColumn testprob.matrix j →
        value_at testprob_prices (4 + j) ≡ cost testprob j -ℚ sum_up_to 4 (λ i. value_at testprob_prices i *ℚ entry testprob.matrix i j)
    reduced zero is = absurd (omega (arith, is.0))
    reduced (suc zero) is = same_parts _ _ refl refl
    reduced (suc (suc zero)) is = same_parts _ _ refl refl
    reduced (suc (suc (suc zero))) is = same_parts _ _ refl refl
    reduced (suc (suc (suc (suc j)))) is = absurd (omega (arith, is.1))

    at_lower : (k : ℕ) → IsVariable testprob.matrix k → zero_ℚ <ℚ value_at testprob_prices k → lower_of testprob k ≡ Some (value_at testprob_point k)
    at_lower zero is h = absurd (omega (arith, is.0))
    at_lower (suc zero) is h = absurd (never h.below)
    at_lower (suc (suc zero)) is h = absurd (never h.below)
    at_lower (suc (suc (suc zero))) is h = refl
    at_lower (suc (suc (suc (suc zero)))) is h = refl
    at_lower (suc (suc (suc (suc (suc zero))))) is h = absurd (never h.below)
    at_lower (suc (suc (suc (suc (suc (suc zero)))))) is h = refl
    at_lower (suc (suc (suc (suc (suc (suc (suc zero))))))) is h = absurd (never h.below)
    at_lower (suc (suc (suc (suc (suc (suc (suc (suc k)))))))) is h = absurd (omega (arith, is.1))

    at_upper : (k : ℕ) → IsVariable testprob.matrix k → value_at testprob_prices k <ℚ zero_ℚ → upper_of testprob k ≡ Some (value_at testprob_point k)
    at_upper zero is h = absurd (omega (arith, is.0))
    at_upper (suc zero) is h = absurd (never h.below)
    at_upper (suc (suc zero)) is h = absurd (never h.below)
    at_upper (suc (suc (suc zero))) is h = absurd (never h.below)
    at_upper (suc (suc (suc (suc zero)))) is h = absurd (never h.below)
    at_upper (suc (suc (suc (suc (suc zero))))) is h = absurd (never h.below)
    at_upper (suc (suc (suc (suc (suc (suc zero)))))) is h = absurd (never h.below)
    at_upper (suc (suc (suc (suc (suc (suc (suc zero))))))) is h = absurd (never h.below)
    at_upper (suc (suc (suc (suc (suc (suc (suc (suc k)))))))) is h = absurd (omega (arith, is.1))

-- ---- at least 3 and at most 2: no vector is feasible

abbrev torn : LinearProgram
torn = record {
  matrix = record { rows = 3; cols = 1; columns = (on 1 (whole (pos 1)) ∷ on 2 (whole (pos 1)) ∷ on 3 (whole (pos 1)) ∷ []) ∷ [] };
  lower = None ∷ Some (whole (pos 3)) ∷ None ∷ Some zero_ℚ ∷ [];
  upper = None ∷ None ∷ Some (whole (pos 2)) ∷ None ∷ [];
  rhs = zero_ℚ ∷ whole (pos 3) ∷ whole (pos 2) ∷ [];
  objective = 1;
  change = None;
  sense = Min;
}

abbrev torn_ray : List ℚ
torn_ray = zero_ℚ ∷ whole (negsuc 0) ∷ whole (pos 1) ∷ zero_ℚ ∷ []

torn_is_ray : IsRay torn (value_at torn_ray)
unfolding sum_to ◌+ℚ◌ ◌*ℚ◌ fraction whole gcd neg_ℚ compare_ℚ
torn_is_ray = record { vanishes = vanishes; meets_upper = meets_upper; meets_lower = meets_lower; negative = record { below = refl } }
  where
    vanishes : (j : ℕ) → IsColumn torn.matrix j → value_at torn_ray (3 + j) +ℚ sum_up_to 3 (λ i. value_at torn_ray i *ℚ entry torn.matrix i j) ≡ zero_ℚ
    vanishes zero is = absurd (omega (arith, is.0))
    vanishes (suc zero) is = same_parts _ _ refl refl
    vanishes (suc (suc j)) is = absurd (omega (arith, is.1))

    meets_upper : (k : ℕ) → IsVariable torn.matrix k → zero_ℚ <ℚ value_at torn_ray k → IsSome (upper_of torn k)
    meets_upper zero is h = absurd (omega (arith, is.0))
    meets_upper (suc zero) is h = absurd (never h.below)
    meets_upper (suc (suc zero)) is h = absurd (never h.below)
    meets_upper (suc (suc (suc zero))) is h = refl
    meets_upper (suc (suc (suc (suc zero)))) is h = absurd (never h.below)
    meets_upper (suc (suc (suc (suc (suc k))))) is h = absurd (omega (arith, is.1))

    meets_lower : (k : ℕ) → IsVariable torn.matrix k → value_at torn_ray k <ℚ zero_ℚ → IsSome (lower_of torn k)
    meets_lower zero is h = absurd (omega (arith, is.0))
    meets_lower (suc zero) is h = absurd (never h.below)
    meets_lower (suc (suc zero)) is h = refl
    meets_lower (suc (suc (suc zero))) is h = absurd (never h.below)
    meets_lower (suc (suc (suc (suc zero)))) is h = absurd (never h.below)
    meets_lower (suc (suc (suc (suc (suc k))))) is h = absurd (omega (arith, is.1))

-- ---- a column whose upper limit is -1, below its lower limit 0

abbrev crossed : LinearProgram
crossed = record {
  matrix = record { rows = 1; cols = 1; columns = (on 1 (whole (pos 1)) ∷ []) ∷ [] };
  lower = None ∷ Some zero_ℚ ∷ [];
  upper = None ∷ Some (whole (negsuc 0)) ∷ [];
  rhs = zero_ℚ ∷ [];
  objective = 1;
  change = None;
  sense = Min;
}

crossed_at_2 : IsCrossed crossed 2
unfolding sum_to ◌+ℚ◌ ◌*ℚ◌ fraction whole gcd neg_ℚ
crossed_at_2 =
    record { is_variable = (omega arith, omega arith); low = zero_ℚ; high = whole (negsuc 0); lower = refl; upper = refl; crossed = record { below = refl } }

-- ---- a column of cost -1 without an upper limit

abbrev falling : LinearProgram
falling = record {
  matrix = record { rows = 1; cols = 1; columns = (on 1 (whole (negsuc 0)) ∷ []) ∷ [] };
  lower = None ∷ Some zero_ℚ ∷ [];
  upper = None ∷ None ∷ [];
  rhs = zero_ℚ ∷ [];
  objective = 1;
  change = None;
  sense = Min;
}

falling_is_unbounded : ProvesUnbounded falling (value_at (zero_ℚ ∷ zero_ℚ ∷ [])) (value_at (whole (negsuc 0) ∷ whole (pos 1) ∷ []))
unfolding sum_to ◌+ℚ◌ ◌*ℚ◌ fraction whole gcd neg_ℚ
falling_is_unbounded =
    record { feasible = record { keeps = at_zero; within = within }; keeps = along; falls = falls; rises = rises; improves = record { below = refl } }
  where
    at_zero : KeepsEquations falling.matrix (value_at (zero_ℚ ∷ zero_ℚ ∷ []))
    at_zero zero row = absurd (omega (arith, row.0))
    at_zero (suc zero) row = same_parts _ _ refl refl
    at_zero (suc (suc i)) row = absurd (omega (arith, row.1))

    along : KeepsEquations falling.matrix (value_at (whole (negsuc 0) ∷ whole (pos 1) ∷ []))
    along zero row = absurd (omega (arith, row.0))
    along (suc zero) row = same_parts _ _ refl refl
    along (suc (suc i)) row = absurd (omega (arith, row.1))

    within : (k : ℕ) → IsVariable falling.matrix k → IsInside falling (zero_ℚ ∷ zero_ℚ ∷ []) k
    within zero is = absurd (omega (arith, is.0))
    within (suc zero) is = (tt, tt)
    within (suc (suc zero)) is = (record { at_most = refl }, tt)
    within (suc (suc (suc k))) is = absurd (omega (arith, is.1))

    falls : (k : ℕ) → IsVariable falling.matrix k → value_at (whole (negsuc 0) ∷ whole (pos 1) ∷ []) k <ℚ zero_ℚ → lower_of falling k ≡ None
    falls zero is h = absurd (omega (arith, is.0))
    falls (suc zero) is h = refl
    falls (suc (suc zero)) is h = absurd (never h.below)
    falls (suc (suc (suc k))) is h = absurd (omega (arith, is.1))

    rises : (k : ℕ) → IsVariable falling.matrix k → zero_ℚ <ℚ value_at (whole (negsuc 0) ∷ whole (pos 1) ∷ []) k → upper_of falling k ≡ None
    rises zero is h = absurd (omega (arith, is.0))
    rises (suc zero) is h = absurd (never h.below)
    rises (suc (suc zero)) is h = refl
    rises (suc (suc (suc k))) is h = absurd (omega (arith, is.1))

-- ---- the greatest 3x where x is at most 4: the row of x is at its upper limit, where its price is 3

abbrev greatest : LinearProgram
greatest = record {
  matrix = record { rows = 2; cols = 1; columns = (on 1 (whole (pos 3)) ∷ on 2 (whole (pos 1)) ∷ []) ∷ [] };
  lower = None ∷ None ∷ Some zero_ℚ ∷ [];
  upper = None ∷ Some (whole (pos 4)) ∷ None ∷ [];
  rhs = zero_ℚ ∷ whole (pos 4) ∷ [];
  objective = 1;
  change = None;
  sense = Max;
}

greatest_certificate : IsDualCertificate greatest (value_at (whole (pos 12) ∷ whole (pos 4) ∷ whole (pos 4) ∷ []))
    (value_at (zero_ℚ ∷ whole (pos 3) ∷ zero_ℚ ∷ []))
unfolding sum_to ◌+ℚ◌ ◌*ℚ◌ fraction whole gcd neg_ℚ
greatest_certificate = record { reduced = reduced; at_lower = at_lower; at_upper = at_upper }
  where
    reduced : (j : ℕ) → IsColumn greatest.matrix j →
        value_at (zero_ℚ ∷ whole (pos 3) ∷ zero_ℚ ∷ []) (2 + j) ≡ cost greatest j -ℚ sum_up_to 2
        (λ i. value_at (zero_ℚ ∷ whole (pos 3) ∷ zero_ℚ ∷ []) i *ℚ entry greatest.matrix i j)
    reduced zero is = absurd (omega (arith, is.0))
    reduced (suc zero) is = same_parts _ _ refl refl
    reduced (suc (suc j)) is = absurd (omega (arith, is.1))

    at_lower : (k : ℕ) → IsVariable greatest.matrix k → zero_ℚ <ℚ neg_ℚ (value_at (zero_ℚ ∷ whole (pos 3) ∷ zero_ℚ ∷ []) k) →
        lower_of greatest k ≡ Some (value_at (whole (pos 12) ∷ whole (pos 4) ∷ whole (pos 4) ∷ []) k)
    at_lower zero is h = absurd (omega (arith, is.0))
    at_lower (suc zero) is h = absurd (never h.below)
    at_lower (suc (suc zero)) is h = absurd (never h.below)
    at_lower (suc (suc (suc zero))) is h = absurd (never h.below)
    at_lower (suc (suc (suc (suc k)))) is h = absurd (omega (arith, is.1))

    at_upper : (k : ℕ) → IsVariable greatest.matrix k → neg_ℚ (value_at (zero_ℚ ∷ whole (pos 3) ∷ zero_ℚ ∷ []) k) <ℚ zero_ℚ →
        upper_of greatest k ≡ Some (value_at (whole (pos 12) ∷ whole (pos 4) ∷ whole (pos 4) ∷ []) k)
    at_upper zero is h = absurd (omega (arith, is.0))
    at_upper (suc zero) is h = absurd (never h.below)
    at_upper (suc (suc zero)) is h = refl
    at_upper (suc (suc (suc zero))) is h = absurd (never h.below)
    at_upper (suc (suc (suc (suc k)))) is h = absurd (omega (arith, is.1))

-- ---- costs -1 and -2, with 3 times a change row on which the first column has -1

abbrev changing : LinearProgram
changing = record {
  matrix =
      record {
        rows = 3;
        cols = 2;
        columns = (on 1 (whole (negsuc 0)) ∷ on 2 (whole (negsuc 0)) ∷ on 3 (whole (pos 1)) ∷ []) ∷
            (on 1 (whole (negsuc 1)) ∷ on 3 (whole (pos 1)) ∷ []) ∷ [];
      };
  lower = None ∷ None ∷ None ∷ Some zero_ℚ ∷ Some zero_ℚ ∷ [];
  upper = None ∷ None ∷ Some (whole (pos 4)) ∷ Some (whole (pos 3)) ∷ None ∷ [];
  rhs = zero_ℚ ∷ zero_ℚ ∷ whole (pos 4) ∷ [];
  objective = 1;
  change = Some (record { row = 2; theta = whole (pos 3) });
  sense = Min;
}

-- the first column costs -1 - 3
first_cost : cost changing 1 ≡ whole (negsuc 3)
unfolding sum_to ◌+ℚ◌ ◌*ℚ◌ fraction whole gcd neg_ℚ
first_cost = same_parts _ _ refl refl

second_cost : cost changing 2 ≡ whole (negsuc 1)
unfolding sum_to ◌+ℚ◌ ◌*ℚ◌ fraction whole gcd neg_ℚ
second_cost = same_parts _ _ refl refl

-- at x = 3 and y = 1 the objective is -5 and the change row -3
changed_objective : objective_value changing (value_at (whole (negsuc 4) ∷ whole (negsuc 2) ∷ whole (pos 4) ∷ whole (pos 3) ∷ whole (pos 1) ∷ [])) ≡ whole
    (negsuc 13)
unfolding sum_to ◌+ℚ◌ ◌*ℚ◌ fraction whole gcd neg_ℚ
changed_objective = same_parts _ _ refl refl

-- ---- sets of basics and status lists

-- the rows of two rows and three columns; column 2, which is variable 4, in place of row 1
rows_alone : row_basics (record { rows = 2; cols = 3; columns = [] }) ≡ true ∷ true ∷ false ∷ false ∷ false ∷ []
rows_alone = refl

first_row_left : exchanged (true ∷ true ∷ false ∷ false ∷ false ∷ []) 1 4 ≡ false ∷ true ∷ false ∷ true ∷ false ∷ []
first_row_left = refl

-- rows are basic; a column is at its lower limit, else at its upper one, else free
opened : opening_statuses (record {
  matrix = record { rows = 1; cols = 4; columns = [] ∷ [] ∷ [] ∷ [] ∷ [] };
  lower = None ∷ Some one_ℚ ∷ Some one_ℚ ∷ None ∷ None ∷ [];
  upper = None ∷ None ∷ Some one_ℚ ∷ Some one_ℚ ∷ None ∷ [];
  rhs = zero_ℚ ∷ [];
  objective = 1;
  change = None;
  sense = Min;
}) ≡ Bs ∷ Ll ∷ Ll ∷ Ul ∷ Fr ∷ []
opened = refl

-- number 0 is the present set, and number 2 the second of the others
present : waypoint (true ∷ []) ((false ∷ []) ∷ (true ∷ false ∷ []) ∷ []) 0 ≡ true ∷ []
present = refl

second : waypoint (true ∷ []) ((false ∷ []) ∷ (true ∷ false ∷ []) ∷ []) 2 ≡ true ∷ false ∷ []
second = refl

-- the basics of a set other than variable 3
others : other_basics (record { rows = 2; cols = 3; columns = [] }) (true ∷ false ∷ true ∷ false ∷ true ∷ []) 3 ≡ 1 ∷ 5 ∷ []
others = refl
