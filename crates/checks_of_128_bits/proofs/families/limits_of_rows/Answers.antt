use Rattle.std.proofs.Common.{◌≡◌, ◌<◌, ◌≤◌, ◌+◌, ◌++◌, ◌∷◌, [], map, ap, ◌∙◌, arith, rules}
use Rattle.lp_definitions.specs.LinearProgram.{numbers_from}
use Rattle.certificate_check.proofs.Each.{each_left}
use Rattle.check_definitions.specs.Steps.{verdict_of}
use Rattle.answer_definitions.specs.Lines.{row_numbers}
use Rattle.listing_words.specs.Read.{sheet_view}
use Rattle.checks_of_128_bits.specs.Making.{AreLimits, row_steps, shift_steps, low_at, high_at}
use Rattle.checks_of_128_bits.proofs.Passing.{made_handed, each_stops, each_goes_on, each_ends}
use Rattle.checks_of_128_bits.proofs.Limits.{one_more, row_low, row_high}
use Rattle.checks_of_128_bits.proofs.families.limits_of_rows.Goals as goal

pub loop-i-init : goal.loop-i-init
loop-i-init c = record {
  lower = c.new-lower.ensures.items;
  upper = c.new-upper.ensures.items;
  left = each_left (row_steps (sheet_view c.args.sheet) c.args.shift.now c.args.theta) c.args.sheet.lp.now.rows;
}

pub returns-in_err-limits : goal.returns-in_err-limits
returns-in_err-limits c =
    let sheet = sheet_view c.args.sheet in
    let shift = c.args.shift.now in
    let stop = c.in_err-limits.field-0.0 in
    made_handed (AreLimits sheet.lp shift c.args.theta (row_numbers sheet.lp)) (verdict_of (shift_steps sheet shift c.args.theta)) c.from_residual.result stop
    (each_stops (row_steps sheet shift c.args.theta) sheet.lp.rows c.loop-i.i stop c.loop-i.invariant.left
    (search rules) c.in_err-limits.ensures) c.from_residual.ensures.1

pub loop-i-preserved : goal.loop-i-preserved
loop-i-preserved c =
    let p = c.args.sheet.lp.now in
    let shift = c.args.shift.now in
    let below : c.loop-i.i < p.rows = search rules in
    let is_row : c.loop-i.i + 1 ≤ p.matrix.rows = omega arith in
    let limits = c.in_ok-limits.ensures in
    let pushed_low : c.push.new.self.items ≡ c.loop-i.lower.items ++ (c.in_ok-limits.limits.0 ∷ []) = search rules in
    let pushed_high : c.push-in-loop-i.new.self.items ≡ c.loop-i.upper.items ++ (c.in_ok-limits.limits.1 ∷ []) = search rules in
    record {
      lower =
          pushed_low ∙ one_more (low_at p shift c.args.theta) c.loop-i.lower.items c.loop-i.i c.in_ok-limits.limits.0 c.loop-i.invariant.lower
          (limits.1.0 ∙ row_low p shift c.args.theta (c.loop-i.i + 1) is_row);
      upper =
          pushed_high ∙ one_more (high_at p shift c.args.theta) c.loop-i.upper.items c.loop-i.i c.in_ok-limits.limits.1 c.loop-i.invariant.upper
          (limits.1.1 ∙ row_high p shift c.args.theta (c.loop-i.i + 1) is_row);
      left = each_goes_on (row_steps (sheet_view c.args.sheet) shift c.args.theta) p.rows c.loop-i.i c.loop-i.invariant.left below limits.0;
    }

pub returns : goal.returns
returns c =
    let sheet = sheet_view c.args.sheet in
    let shift = c.args.shift.now in
    let all : c.loop-i.i ≡ sheet.lp.rows = search rules in (
      each_ends (row_steps sheet shift c.args.theta) sheet.lp.rows c.loop-i.i all c.loop-i.invariant.left,
      record {
        lower = c.loop-i.invariant.lower ∙ ap (λ n. map (low_at sheet.lp shift c.args.theta) (numbers_from 1 n)) all;
        upper = c.loop-i.invariant.upper ∙ ap (λ n. map (high_at sheet.lp shift c.args.theta) (numbers_from 1 n)) all;
      },
    )
