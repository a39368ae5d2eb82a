use Rattle.std.proofs.Common.{◌≡◌, ◌∙◌, ◌-◌, sym, arith, length}
use Rattle.price_row.proofs.WholeRows.{begun_whole, ended_whole}
use Rattle.price_row.proofs.numbers.multipliers_in_numbers.Goals as goal

pub returns-clause-known : goal.returns-clause-known
returns-clause-known g c =
    let all : length c.args.file.now.etas - c.loop-back.back ≡ 0 = omega (arith, c.loop-back-test.false, c.etas-etas.ensures.all) in
    ended_whole c.args.file.now (length c.args.file.now.etas - c.loop-back.back) c.args.row c.loop-back.denominator
    (g.N.Numbers.fractions c.loop-back.out) all c.loop-back.invariant.1

pub returns-clause-places : goal.returns-clause-places
returns-clause-places g c = c.loop-back.invariant.0 ∙ sym c.requires.places

pub loop-back-init : goal.loop-back-init
loop-back-init g c = (
  c.begin.ensures.places ∙ c.requires.places,
  begun_whole c.args.file.now (length c.args.file.now.etas - 0) c.args.row c.whole-denominator.result
      (g.N.Numbers.fractions c.begin.new.self) c.size-size.ensures.basics (omega arith) c.whole-denominator.ensures c.in_ok-begin.ensures.unit,
)
