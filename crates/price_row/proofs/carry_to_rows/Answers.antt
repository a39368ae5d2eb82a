use Rattle.std.proofs.Common.{◌≡◌, ◌-◌, subst, arith, length}
use Rattle.price_row.specs.Known.{IsKnown}
use Rattle.price_row.proofs.RowSteps.{rows_known}
use Rattle.price_row.proofs.carry_to_rows.Goals as goal

pub returns : goal.returns
returns c =
    let all : length c.args.file.now.etas - c.loop-back.back ≡ 0 = omega (arith, c.loop-back-test.false, c.etas-etas.ensures.all) in
    record {
      known = rows_known c.args.file.now c.args.row c.loop-back.out
          (subst (λ n. IsKnown c.args.file.now n c.args.row c.loop-back.out) all c.loop-back.invariant.1);
    }
