use Rattle.std.proofs.Common.{◌≡◌, Option, ap₂, ◌∙◌, arith}
use Rattle.exact_values.specs.Rational.{ℚ}
use Rattle.lp_definitions.specs.LinearProgram.{value_at, lower_of, upper_of}
use Rattle.lp_laws.proofs.Places.{value_read}
use Rattle.check_definitions.specs.Steps.{verdict_of}
use Rattle.listing_words.specs.Read.{sheet_view}
use Rattle.checks_of_128_bits.specs.Making.{moved, row_steps}
use Rattle.checks_of_128_bits.proofs.Passing.{made_handed}
use Rattle.checks_of_128_bits.proofs.Limits.{low_stops, high_stops, row_passes}
use Rattle.checks_of_128_bits.proofs.families.limits_of_row.Goals as goal

pub returns-in_err-lower : goal.returns-in_err-lower
returns-in_err-lower c =
    let sheet = sheet_view c.args.sheet in
    let shift = c.args.shift.now in
    let by = c.index-shift-i.result in
    let is_by : by ≡ value_at shift c.args.i = value_read shift c.args.i by (omega arith) c.index-shift-i.is in
    let stop = c.in_err-lower.field-0.0 in
    made_handed (λ (made : Option ℚ × Option ℚ). (made.0 ≡ moved c.args.theta (value_at shift c.args.i) (lower_of sheet.lp c.args.i)) ×
    (made.1 ≡ moved c.args.theta (value_at shift c.args.i) (upper_of sheet.lp c.args.i)))
    (verdict_of (row_steps sheet shift c.args.theta c.args.i)) c.from_residual.result stop
    (low_stops sheet shift c.args.theta c.args.i by is_by c.lower_limit.result (upper_of sheet.lp c.args.i) c.lower_limit.ensures
    (λ i. upper_of sheet.lp c.args.i) stop (c.in_err-lower.ensures sheet))
    c.from_residual.ensures.1

pub returns-in_err-upper : goal.returns-in_err-upper
returns-in_err-upper c =
    let sheet = sheet_view c.args.sheet in
    let shift = c.args.shift.now in
    let by = c.index-shift-i.result in
    let is_by : by ≡ value_at shift c.args.i = value_read shift c.args.i by (omega arith) c.index-shift-i.is in
    let stop = c.in_err-upper.field-0.0 in
    made_handed (λ (made : Option ℚ × Option ℚ). (made.0 ≡ moved c.args.theta (value_at shift c.args.i) (lower_of sheet.lp c.args.i)) ×
    (made.1 ≡ moved c.args.theta (value_at shift c.args.i) (upper_of sheet.lp c.args.i)))
    (verdict_of (row_steps sheet shift c.args.theta c.args.i)) c.from_residual-in_err-upper.result stop
    (high_stops sheet shift c.args.theta c.args.i by is_by c.lower_limit.result c.upper_limit.result c.lower_limit.ensures c.upper_limit.ensures stop
    (c.in_ok-lower.ensures sheet).0 (c.in_err-upper.ensures sheet))
    c.from_residual-in_err-upper.ensures.1

pub returns : goal.returns
returns c =
    let sheet = sheet_view c.args.sheet in
    let shift = c.args.shift.now in
    let by = c.index-shift-i.result in
    let is_by : by ≡ value_at shift c.args.i = value_read shift c.args.i by (omega arith) c.index-shift-i.is in (
      row_passes sheet shift c.args.theta c.args.i by is_by c.lower_limit.result c.upper_limit.result c.lower_limit.ensures c.upper_limit.ensures
          (c.in_ok-lower.ensures sheet).0 (c.in_ok-upper.ensures sheet).0,
      (
        (c.in_ok-lower.ensures sheet).1 ∙ ap₂ (moved c.args.theta) is_by c.lower_limit.ensures,
        (c.in_ok-upper.ensures sheet).1 ∙ ap₂ (moved c.args.theta) is_by c.upper_limit.ensures,
      ),
    )
