use Rattle.std.proofs.Common.{rules, ◌≡◌, ◌∙◌, Err, sym, arith}
use Rattle.lp_definitions.specs.LinearProgram.{value_at}
use Rattle.para_rhs.proofs.Narrowing.{next_reach, refused_at}
use Rattle.para_rhs.proofs.reaching.ends_by.Goals as goal
use Rattle.lp_laws.proofs.Places.{value_next}

pub returns-in_err-ends-clause-refused : goal.returns-in_err-ends-clause-refused
returns-in_err-ends-clause-refused c =
    let is_err : c.from_residual.result ≡ Err c.in_err-ends.field-0.0 = search rules in
    rw is_err (refused_at c.args.lp.now c.args.shift.now (value_at c.args.value.now)
    (value_at c.args.slope.now) c.args.max c.loop-k.k c.reduced-here.result c.index-slope-k.result c.in_err-ends.field-0.0 (omega arith)
    (value_next c.args.value.now c.loop-k.k c.index-value-k.result (omega arith) c.index-value-k.is ∙ sym c.reduced-here.ensures)
    (value_next c.args.slope.now c.loop-k.k c.index-slope-k.result (omega arith) c.index-slope-k.is)
    c.in_err-ends.ensures.moves c.in_err-ends.ensures.refused)

pub loop-k-preserved : goal.loop-k-preserved
loop-k-preserved c = record {
  reach =
      next_reach c.args.lp.now c.args.shift.now (value_at c.args.value.now)
      (value_at c.args.slope.now) c.args.max c.loop-k.k c.loop-k.ends c.in_ok-ends.ends c.reduced-here.result c.index-slope-k.result
      (value_next c.args.value.now c.loop-k.k c.index-value-k.result (omega arith) c.index-value-k.is ∙ sym c.reduced-here.ensures)
      (value_next c.args.slope.now c.loop-k.k c.index-slope-k.result (omega arith) c.index-slope-k.is)
      c.loop-k.invariant.reach c.in_ok-ends.ensures.narrowed;
  high = c.in_ok-ends.ensures.high c.loop-k.invariant.high;
}
