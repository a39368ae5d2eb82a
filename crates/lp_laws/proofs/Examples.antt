-- A worked refusal: where the row of 1/10^19 is exchanged for the column, the column's cost of 999999999 * 10^18 is to be multiplied
-- by 10^19, which has no room in 128 bits.
use Rattle.std.proofs.Common.{◌≡◌, ◌≢◌, ℕ, [], ◌∷◌, pos, refl, inl, inr, arith}
use Rattle.exact_values.specs.Gcd.{gcd}
use Rattle.exact_values.specs.Rational.{ℚ, whole, fraction, reciprocal, inverse_ℚ, zero_ℚ, ◌*ℚ◌}
use Rattle.exact_values.proofs.Fractions.{same_parts}
use Rattle.exact_values.proofs.Inverse.{numerator_of_zero}
use Rattle.frac128.specs.Operations.{refuses}
use Rattle.frac128.specs.declared.Op.TheVariants.{Mul}
use Rattle.lp_definitions.specs.LinearProgram.{Matrix}
use Rattle.lp_definitions.specs.Basis.{IsBasic, IsNonbasic, exchanged, row_basics}
use Rattle.lp_definitions.specs.RatesEvidence.{ExchangeRefused, f5}
use Rattle.lp_definitions.specs.declared.Evidence.{Evidence}
use Rattle.lp_laws.specs.Rates.{opening_rate}
use Rattle.lp_laws.proofs.Exchange.{IsNonsingular-exchanged}
use Rattle.lp_laws.proofs.Opening.{IsNonsingular-row_basics, AreRates-opening}
use Rattle.lp_laws.proofs.WaypointLaws.{within_itself}

abbrev large : ℚ
large = whole (pos 999999999000000000000000000)

abbrev steep : Matrix
steep =
    record { rows = 2; cols = 1; columns = (record { row = 1; value = large } ∷ record { row = 2; value = fraction (pos 1) 10000000000000000000 } ∷ []) ∷ [] }

abbrev viewed : Evidence
viewed = record {
  formula = 5;
  way = 0;
  p = 2;
  q = 3;
  i = 1;
  j = 0;
  term = 0;
  theta = zero_ℚ;
  refused = record { op = Mul; left = whole (pos 10000000000000000000); right = large };
}

first_row : IsBasic steep (row_basics steep) 1
first_row = ((omega arith, omega arith), refl)

second_row : IsBasic steep (row_basics steep) 2
second_row = ((omega arith, omega arith), refl)

the_column : IsNonbasic steep (row_basics steep) 3
the_column = ((omega arith, omega arith), refl)

apart : ◌≢◌ {A = ℕ} 1 2
apart e = omega arith

not_zero : opening_rate steep 2 3 ≢ zero_ℚ
unfolding fraction whole gcd
not_zero e = let P : pos 1 ≡ pos 0 → ⊥ = λ h. cc in P (numerator_of_zero (fraction (pos 1) 10000000000000000000) e)

price_refused : ExchangeRefused steep (row_basics steep ∷ exchanged (row_basics steep) 2 3 ∷ []) (row_basics steep) [] viewed
unfolding fraction whole gcd reciprocal inverse_ℚ ◌*ℚ◌ refuses
price_refused = record {
  way = row_basics steep;
  rate = opening_rate steep;
  at = record {
    is_way = omega arith;
    is_waypoint = refl;
    nonsingular = IsNonsingular-row_basics steep;
    are_rates = AreRates-opening steep;
    reaches = (
      IsNonsingular-exchanged steep (row_basics steep) 2 3 (λ i. opening_rate steep i 3) (IsNonsingular-row_basics steep) second_row the_column
          (AreRates-opening steep 3 the_column) not_zero,
      inr (inl (within_itself steep (exchanged (row_basics steep) 2 3))),
    );
    no_theta = refl;
  };
  formula = f5 2 3 1 (record { is_formula = refl; is_p = refl; is_q = refl; is_i = refl; is_j = refl; is_term = refl })
      (record { leaves = second_row; enters = the_column; pivot = not_zero }) first_row apart
      (record { is_op = refl; is_left = same_parts _ _ refl refl; is_right = same_parts _ _ refl refl; refused = refl });
}
