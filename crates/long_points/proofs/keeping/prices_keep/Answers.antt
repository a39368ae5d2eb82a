use Rattle.std.proofs.Common.{◌≡◌, Bool, Option, List, ap, ap₂, sym, ◌∙◌}
use Rattle.std.specs.Prelude.{◌&&◌}
use Rattle.std.specs.declared.cmp.Ordering.{Ordering}
use Rattle.exact_values.specs.Rational.{ℚ, zero_ℚ, compare_ℚ}
use Rattle.lp_definitions.specs.declared.Sense.{Sense}
use Rattle.lp_definitions.specs.LinearProgram.{value_at, lower_of, upper_of, for_min}
use Rattle.check_definitions.specs.Checks.{is_at, by_sign}
use Rattle.long_programs.specs.Programs.{program_of, order_to}
use Rattle.long_programs.proofs.Moves.{sense_at}
use Rattle.long_points.specs.Tests.{at_by}
use Rattle.long_points.proofs.Orders.{at_is}
use Rattle.long_points.proofs.keeping.prices_keep.Goals as goal

-- a number stands at a limit just where its order tells so
stands : (b : Bool) (order : Option Ordering) (limit : Option ℚ) (x : ℚ) → b ≡ at_by order → order ≡ order_to limit x → b ≡ is_at limit x
stands b order limit x is told = is ∙ ap at_by told ∙ at_is limit x

pub returns : goal.returns
returns c = λ first last from to is also.
    let p = c.args.ends.now.program.lp.now in
    let change = c.args.ends.now.program.change in
    let k = c.args.k in
    let begin = program_of p change from in
    let close = program_of p change to in
    let x = value_at first.point k in
    let y = value_at last.point k in
    let one = c.in_ok-first.ensures first.point from is.point in
    let two = c.in_ok-last.ensures last.point to also.point in
    let lower = c.both-lower.ensures
    ∙ ap₂ ◌&&◌ (stands _ _ (lower_of begin k) x c.is_at.ensures one.lower) (stands _ _ (lower_of close k) y c.is_at-2.ensures two.lower) in
    let upper = c.both-upper.ensures
    ∙ ap₂ ◌&&◌ (stands _ _ (upper_of begin k) x c.is_at-3.ensures one.upper) (stands _ _ (upper_of close k) y c.is_at-4.ensures two.upper) in
    let sense = sym (sense_at p change from) in
    let sign = c.counted_sign-sign.ensures first.prices is.prices.is_over
    ∙ ap (λ (s : Sense). compare_ℚ (for_min s (value_at first.prices k)) zero_ℚ) sense in
    let other = c.counted_sign-other.ensures last.prices also.prices.is_over
    ∙ ap (λ (s : Sense). compare_ℚ (for_min s (value_at last.prices k)) zero_ℚ) sense in
    c.both.ensures
    ∙ ap₂ ◌&&◌ (c.asked_by-begins.ensures ∙ (λ i. by_sign (sign i) (upper i) (lower i)))
    (c.asked_by-closes.ensures ∙ (λ i. by_sign (other i) (upper i) (lower i)))
