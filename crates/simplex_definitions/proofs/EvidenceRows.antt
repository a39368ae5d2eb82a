-- Worked examples of overflows: the formulas have the operands that are printed, and refuse them.
use Rattle.std.proofs.Common.{◌≡◌, ◌≢◌, ℕ, suc, [], ◌∷◌, refl, ap, sym, ◌∙◌, pos, arith}
use Rattle.std.specs.Prelude.{Some, None}
use Rattle.exact_values.specs.Rational.{ℚ, fraction, whole, zero_ℚ, ◌+ℚ◌, ◌*ℚ◌, neg_ℚ, inverse_ℚ, reciprocal, compare_ℚ}
use Rattle.exact_values.specs.Sums.{sum_to}
use Rattle.exact_values.proofs.Fractions.{same_parts}
use Rattle.exact_values.specs.Gcd.{gcd}
use Rattle.frac128.specs.declared.Op.{Op}
use Rattle.frac128.specs.declared.Op.TheVariants.{Sub, Mul, Div}
use Rattle.frac128.specs.Operations.{refuses, shared_factor, raised_numerator, raised_sum, sum_denominator}
use Rattle.lp_definitions.specs.LinearProgram.{LinearProgram}
use Rattle.lp_definitions.specs.Basis.{Tableau, basics_of, opening_statuses}
use Rattle.lp_definitions.specs.RatesEvidence.{ExchangeFormula, f5}
use Rattle.lp_definitions.specs.declared.Evidence.{Evidence}
use Rattle.lp_definitions.specs.declared.Sense.TheVariants.{Min}
use Rattle.lp_definitions.specs.declared.Status.TheVariants.{Ul}
use Rattle.simplex_definitions.proofs.Programs.{plus, minus, on}
use Rattle.simplex_definitions.proofs.Solve.{tableau_for, table_for}
use Rattle.simplex_definitions.specs.Formulas.{PointFormula, f7, f10_product, SlackFormula, f6_slack, MoveFormula, f8}

-- one column x on the objective and on one row with a limit
abbrev problem : ℚ → ℚ → ℚ → LinearProgram
problem cost on_row most = record {
  matrix = record { rows = 2; cols = 1; columns = (on 1 cost ∷ on 2 on_row ∷ []) ∷ [] };
  lower = None ∷ None ∷ Some zero_ℚ ∷ [];
  upper = None ∷ Some most ∷ None ∷ [];
  rhs = zero_ℚ ∷ most ∷ [];
  objective = 1;
  change = None;
  sense = Min;
}

abbrev raised : LinearProgram → ℚ → LinearProgram
raised p least = record p { lower = None ∷ None ∷ Some least ∷ [] }

-- where the rows are basic
abbrev opened : LinearProgram → Tableau
opened p = tableau_for p (opening_statuses p)

-- evidence of this formula and these numbers, at the basis itself
abbrev of_formula : ℕ → ℕ → ℕ → ℕ → ℕ → ℕ → Op → ℚ → ℚ → Evidence
of_formula formula p q i j term op left right = record {
  formula = formula;
  way = 0;
  p = p;
  q = q;
  i = i;
  j = j;
  term = term;
  theta = zero_ℚ;
  refused = record { op = op; left = left; right = right };
}

abbrev great : ℚ
great = plus 999999999000000000000000000

abbrev tiny : ℚ
tiny = fraction (pos 1) 10000000000000000000

is_nonzero : (v : ℚ) (n : ℕ) → v.numerator ≡ pos (suc n) → v ≢ zero_ℚ
unfolding whole
is_nonzero v n e z = let h : pos (suc n) ≡ pos 0 = sym e ∙ ap (λ v. v.numerator) z in cc

-- the first product of the opening point, where x is at its great lower limit
abbrev great_product : LinearProgram
great_product = raised (problem (plus 1) great zero_ℚ) great

opening_point : PointFormula great_product (opening_statuses great_product) (opened great_product) (of_formula 10 0 0 2 3 0 Mul great great)
unfolding tableau_for table_for refuses fraction whole ◌+ℚ◌ ◌*ℚ◌ neg_ℚ inverse_ℚ reciprocal compare_ℚ sum_to gcd
opening_point = f10_product 2 3 0 (record { is_formula = refl; is_p = refl; is_q = refl; is_i = refl; is_j = refl; is_term = refl })
    ((omega arith, omega arith), refl) refl
    (record { is_op = refl; is_left = same_parts _ _ refl refl; is_right = same_parts _ _ refl refl; refused = refl })

-- the slack of a row with a great right-hand side and a tiny activity
abbrev great_slack : LinearProgram
great_slack = raised (problem (plus 1) (plus 1) great) tiny

slack : SlackFormula great_slack (opening_statuses great_slack) (opened great_slack) (of_formula 6 0 0 2 0 3 Sub great tiny)
unfolding tableau_for table_for refuses fraction whole ◌+ℚ◌ ◌*ℚ◌ neg_ℚ inverse_ℚ reciprocal compare_ℚ sum_to gcd shared_factor raised_numerator raised_sum
    sum_denominator
slack = f6_slack 2 (record { is_formula = refl; is_p = refl; is_q = refl; is_i = refl; is_j = refl; is_term = refl })
    (omega arith, omega arith)
    (record { is_op = refl; is_left = same_parts _ _ refl refl; is_right = same_parts _ _ refl refl; refused = refl })

-- how far x moves until a row that it fills slowly is full
abbrev slow : LinearProgram
slow = problem (minus 1) tiny great

step : PointFormula slow (opening_statuses slow) (opened slow) (of_formula 7 0 3 2 0 2 Div great tiny)
unfolding tableau_for table_for refuses fraction whole ◌+ℚ◌ ◌*ℚ◌ neg_ℚ inverse_ℚ reciprocal compare_ℚ sum_to gcd
step = f7 3 2 2 great (record { is_formula = refl; is_p = refl; is_q = refl; is_i = refl; is_j = refl; is_term = refl })
    ((omega arith, omega arith), refl) ((omega arith, omega arith), refl) refl (is_nonzero _ 0 refl)
    (record { is_op = refl; is_left = same_parts _ _ refl refl; is_right = same_parts _ _ refl refl; refused = refl })

-- what the objective gains by a great step
abbrev gainful : LinearProgram
gainful = problem (minus 99999999000000000000000000) (plus 1) great

gain : MoveFormula gainful (opening_statuses gainful) (opened gainful) Ul (of_formula 8 2 3 1 0 0 Mul great (minus 99999999000000000000000000))
unfolding tableau_for table_for refuses fraction whole ◌+ℚ◌ ◌*ℚ◌ neg_ℚ inverse_ℚ reciprocal compare_ℚ sum_to gcd
gain = f8 2 3 1 great (record { is_formula = refl; is_p = refl; is_q = refl; is_i = refl; is_j = refl; is_term = refl })
    (record {
      limit = great;
      is_limit = refl;
      is_variable = (omega arith, omega arith);
      is_nonbasic =
          ((omega arith, omega arith), refl);
      moves = is_nonzero _ 0 refl;
      is_step = same_parts _ _ refl refl;
    })
    (omega arith, omega arith)
    (record { is_op = refl; is_left = same_parts _ _ refl refl; is_right = same_parts _ _ refl refl; refused = refl })

-- the price of a row that x fills slowly at a great cost
abbrev dear : LinearProgram
dear = record (problem great tiny tiny) { lower = None ∷ Some tiny ∷ Some zero_ℚ ∷ []; upper = None ∷ None ∷ None ∷ [] }

price : ExchangeFormula dear.matrix (basics_of (opening_statuses dear)) (opened dear).rate (of_formula 5 2 3 1 0 0 Mul (plus 10000000000000000000) great)
unfolding tableau_for table_for refuses fraction whole ◌+ℚ◌ ◌*ℚ◌ neg_ℚ inverse_ℚ reciprocal compare_ℚ sum_to gcd
price = f5 2 3 1 (record { is_formula = refl; is_p = refl; is_q = refl; is_i = refl; is_j = refl; is_term = refl })
    (record { leaves = ((omega arith, omega arith), refl); enters = ((omega arith, omega arith), refl); pivot = is_nonzero _ 0 refl })
    ((omega arith, omega arith), refl) (omega arith)
    (record { is_op = refl; is_left = same_parts _ _ refl refl; is_right = same_parts _ _ refl refl; refused = refl })
