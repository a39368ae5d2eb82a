-- Sums that are refused, as ranges of rows.
use Rattle.std.proofs.Common.{◌≡◌, refl, sym, subst, [], Option, Some, true, false, ◌∙◌}
use Rattle.std.specs.Prelude.{Result, IfOk}
use Rattle.std.specs.Result.{IfErr}
use Rattle.std.proofs.lemmas.Result.{IfErr-weaker, IfOk-weaker}
use Rattle.exact_values.specs.Rational.{ℚ, zero_ℚ}
use Rattle.exact_values.specs.Tests.{lt_ℚ, magnitude}
use Rattle.frac128.specs.declared.Op.{Op}
use Rattle.frac128.specs.declared.Op.TheVariants.{Add, Sub}
use Rattle.frac128.specs.declared.Refused.{Refused}
use Rattle.frac128.specs.Operations.{refuses}
use Rattle.check_definitions.specs.declared.Verdict.TheVariants.{Checked}
use Rattle.check_definitions.specs.Steps.{verdict_of}
use Rattle.problem_definitions.specs.declared.RowKind.{RowKind}
use Rattle.problem_definitions.specs.declared.RowKind.TheVariants.{E}
use Rattle.selection_definitions.specs.Limits.{Limits, range_operation}
use Rattle.selection_definitions.specs.Making.{sum_with, range_steps}
use Rattle.selection_definitions.proofs.Making.{make_first}
use Rattle.lp_setup.specs.Parts.{IsSumRefusal, IsRangeSumRefusal}

-- A refused sum of the right-hand side and the magnitude of a range, by the operation that the range asks for.
pub range_refused : (kind : RowKind) (side : ℚ) (range : Option ℚ) (value size : ℚ) (op : Op) (r : Result Limits Refused) → range ≡ Some value
    → size ≡ magnitude value → range_operation kind value ≡ Some op
    → IfErr r (IsSumRefusal op side size) → IfErr r (IsRangeSumRefusal kind side range)
range_refused kind side range value size op r has is_size is_op h =
    IfErr-weaker r (IsSumRefusal op side size) (IsRangeSumRefusal kind side range)
    (λ refused sum. record {
      value = value;
      has_range = has;
      op = op;
      is_op = is_op;
      refuses = record { is_op = sum.is_op; is_left = sum.is_left; is_right = sum.is_right ∙ is_size; is_refused = (rw (← is_size) sum.is_refused) };
    }) h

-- A sum that is made is that of the range.
pub range_made : (kind : RowKind) (side : ℚ) (range : Option ℚ) (value size : ℚ) (op : Op) (r : Result Limits Refused) → range ≡ Some value
    → size ≡ magnitude value → range_operation kind value ≡ Some op
    → IfOk r (λ _. refuses op side size ≡ false) → IfOk r (λ _. verdict_of (range_steps kind side range) ≡ Checked)
range_made kind side range value size op r has is_size is_op h =
    IfOk-weaker r (λ _. refuses op side size ≡ false) (λ _. verdict_of (range_steps kind side range) ≡ Checked)
    (λ limits made. subst (λ o. verdict_of (range_steps kind side o) ≡ Checked) (sym has)
    (subst (λ o. verdict_of (sum_with o side value) ≡ Checked) (sym is_op)
    (make_first op side (magnitude value) [] (subst (λ size. refuses op side size ≡ false) is_size made) refl))) h

-- the operation of an E row
pub downward : (kind : RowKind) (value : ℚ) → kind ≡ E → lt_ℚ value zero_ℚ ≡ true → range_operation kind value ≡ Some Sub
downward kind value is_e negative = rw (is_e, negative) refl

pub upward : (kind : RowKind) (value : ℚ) → kind ≡ E → lt_ℚ value zero_ℚ ≡ false → range_operation kind value ≡ Some Add
upward kind value is_e positive = rw (is_e, positive) refl
