use Rattle.std.proofs.Common.{◌∙◌}
use Rattle.exact_values.specs.Rational.{ℚ, whole, ◌+ℚ◌, ◌*ℚ◌}
use Rattle.lp_definitions.specs.LinearProgram.{value_at, lower_of, upper_of}
use Rattle.check_definitions.specs.Checks.{by_sign}
use Rattle.long_programs.specs.Programs.{program_of, shift_at}
use Rattle.long_programs.proofs.Moves.{lower_at, upper_at}
use Rattle.long_points.proofs.AtTheta.{sign_over}
use Rattle.long_rays.proofs.Reading.{none_at}
use Rattle.long_rays.proofs.directions.is_free_to_move.Goals as goal

pub returns : goal.returns
returns c = λ change t d over.
    let p = c.args.lp.now in
    let q = program_of p change t in
    let k = c.args.k in
    let move : ℚ → ℚ = λ l. l +ℚ t *ℚ shift_at p change k in
    let sign =
    c.sign_of-sign.ensures ∙ sign_over (value_at d k) (whole c.args.direction.now.bottom) (whole c.top_of.result.now) over.positive (c.top_of.ensures d over) in
    let falls =
    none_at move c.is_none-falls.result c.lower_limit.result (lower_of p k) (lower_of q k) c.is_none-falls.ensures c.lower_limit.ensures
    (lower_at p change t k c.requires.variable) in
    let rises =
    none_at move c.is_none-rises.result c.upper_limit.result (upper_of p k) (upper_of q k) c.is_none-rises.ensures c.upper_limit.ensures
    (upper_at p change t k c.requires.variable) in
    c.asked_by.ensures ∙ (λ i. by_sign (sign i) (falls i) (rises i))
