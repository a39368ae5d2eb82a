use Rattle.std.proofs.Common.{rules, ◌≤◌, ◌∙◌, ap, length, arith, to_z, of_z}
use Rattle.std.specs.Int.{w128}
use Rattle.std.proofs.lemmas.Int.{to_z-of_z}
use Rattle.exact_values.specs.Rational.{whole}
use Rattle.eta_file.proofs.WholeSteps.{begun}
use Rattle.eta_file.proofs.whole.begin_whole.Goals as goal

pub returns-clause-filled : goal.returns-clause-filled
returns-clause-filled c =
    let high : c.args.j ≤ length c.place_rows.new.out = omega (arith, c.requires.high, c.place_rows.ensures.places) in
    begun c.args.column.now c.args.j c.in_ok-scale.scale
    (whole (to_z w128 (of_z w128 c.in_ok-own.own))) c.place_rows.new.out c.put.new.self c.in_ok-scale.ensures c.requires.low high
    (ap whole (to_z-of_z w128 c.in_ok-own.own (search rules)) ∙ c.in_ok-own.ensures.value) c.in_ok-place_rows.ensures.rows c.in_ok-put.ensures.number
