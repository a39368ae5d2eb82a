use Rattle.std.proofs.Common.{rules, ◌≡◌, ◌≤◌, ◌++◌, ◌∷◌, [], List, length, ◌∙◌, arith}
use Rattle.std.proofs.lemmas.List.{take_all}
use Rattle.selection_definitions.specs.Limits.{Limits}
use Rattle.lp_setup.specs.Parts.{limits_of_rows}
use Rattle.lp_setup.proofs.Lists.{grown, length-limits}
use Rattle.lp_setup.proofs.Made.{next_made}
use Rattle.lp_setup.proofs.parts.limits_by_row.Goals as goal

pub loop-place-preserved : goal.loop-place-preserved
loop-place-preserved c =
    let all : List Limits = limits_of_rows c.args.rows.now c.args.sides.now c.args.ranges.now in
    let pushed : c.push.new.self.items ≡ c.loop-place.limits.items ++ (c.in_ok-pair.pair ∷ []) = search rules in (
      pushed ∙ grown all c.loop-place.limits.items c.loop-place.place c.in_ok-pair.pair c.loop-place.invariant.0 c.in_ok-pair.ensures.limits,
      next_made c.args.rows.now c.args.sides.now c.args.ranges.now c.loop-place.place c.loop-place.invariant.1 c.in_ok-pair.ensures.made,
    )

pub returns-clause-limits : goal.returns-clause-limits
returns-clause-limits c =
    let all : List Limits = limits_of_rows c.args.rows.now c.args.sides.now c.args.ranges.now in
    let counted : length all ≡ length c.args.rows.now = length-limits c.args.rows.now c.args.sides.now c.args.ranges.now c.requires.side c.requires.range in
    let past : length all ≤ c.loop-place.place = omega (arith, counted, c.loop-place-test.false) in
    c.loop-place.invariant.0 ∙ take_all c.loop-place.place all past

pub returns-clause-made : goal.returns-clause-made
returns-clause-made c = λ place below. c.loop-place.invariant.1 place (omega (arith, below, c.loop-place-test.false))
