use Rattle.std.proofs.Common.{arith, subst, sym, ◌∙◌}
use Rattle.std.proofs.lemmas.List.{get_or_default}
use Rattle.rates_dense.specs.declared.line.Line.{Line}
use Rattle.rates_dense.specs.Lines.{IsUnchanged}
use Rattle.rates_dense.proofs.ChangingLines.{changing_skipped, changing_listed, changing_to_end}
use Rattle.rates_dense.proofs.list_changing.Goals as goal

pub loop-slot-preserved-then-not-changes : goal.loop-slot-preserved-then-not-changes
loop-slot-preserved-then-not-changes c =
    let unchanged : IsUnchanged c.args.exchange.now.p c.args.exchange.now.q c.index-lines-slot.result = c.changes.ensures.stays c.if-not-changes.true in
    record {
      within = omega (arith, c.loop-slot.invariant.within);
      listed =
          changing_skipped c.args.exchange.now.p c.args.exchange.now.q c.args.lines.now c.loop-slot.changing c.loop-slot.slot c.loop-slot.count
          c.loop-slot.invariant.listed
          (λ d. subst (λ (line : Line). IsUnchanged c.args.exchange.now.p c.args.exchange.now.q line)
          (c.index-lines-slot.is ∙ get_or_default c.args.lines.now c.loop-slot.slot c.index-lines-slot.result d c.loop-slot-test.true) unchanged);
    }

pub loop-slot-preserved : goal.loop-slot-preserved
loop-slot-preserved c = record {
  within = omega (arith, c.loop-slot.invariant.within);
  listed =
      changing_listed c.args.exchange.now.p c.args.exchange.now.q c.args.lines.now c.loop-slot.changing c.loop-slot.slot c.loop-slot.count
      c.loop-slot.invariant.listed
      (omega (arith, c.loop-slot.invariant.within, c.loop-slot-test.true, c.loop-slot.auto.changing, c.requires.room))
      (λ d same. c.changes.ensures.moves c.if-not-changes.false (subst (λ (line : Line). IsUnchanged c.args.exchange.now.p c.args.exchange.now.q line)
      (sym (c.index-lines-slot.is ∙ get_or_default c.args.lines.now c.loop-slot.slot c.index-lines-slot.result d c.loop-slot-test.true)) same));
}

pub returns-clause-listed : goal.returns-clause-listed
returns-clause-listed c =
    changing_to_end c.args.exchange.now.p c.args.exchange.now.q c.args.lines.now c.loop-slot.changing c.loop-slot.slot c.loop-slot.count
    c.loop-slot.invariant.listed
    (omega (arith, c.loop-slot-test.false)) (omega (arith, c.loop-slot.auto.slot-end))
    (omega (arith, c.loop-slot.invariant.within, c.loop-slot.auto.slot-end, c.loop-slot.auto.changing, c.requires.room))
