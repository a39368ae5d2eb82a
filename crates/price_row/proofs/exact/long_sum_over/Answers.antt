use Rattle.std.proofs.Common.{◌∙◌, sym, ap, length, subst}
use Rattle.exact_values.specs.Rational.{◌+ℚ◌, ◌*ℚ◌}
use Rattle.lp_definitions.specs.LinearProgram.{value_at}
use Rattle.eta_file.specs.declared.eta.EtaEntry.{EtaEntry}
use Rattle.eta_file.specs.Entries.{IsEntryWithin}
use Rattle.price_row.proofs.SumSteps.{weighted_same, weighted_more}
use Rattle.price_row.proofs.exact.long_sum_over.Goals as goal
use Rattle.price_row.proofs.exact.long_sum_over.Goals.{then-entry-p+in_ok-sum-2, else-entry-p}
use Rattle.lp_laws.proofs.Places.{value_at_place}

pub loop-entry-preserved : goal.loop-entry-preserved
loop-entry-preserved c =
    let within : IsEntryWithin (length c.args.values.now) c.entry-item.result =
    subst (λ (x : EtaEntry). IsEntryWithin (length c.args.values.now) x) (sym c.entry-item.is)
    (c.requires c.loop-entry.entry-index c.entry-item.result c.loop-entry-test.true) in
    elim c.if-entry-p.branch [
      | then-entry-p+in_ok-sum-2 w ↦
          w.sum-is ∙ w.in_ok-sum-2.ensures ∙ ap (λ y. c.loop-entry.sum +ℚ w.index-values-entry.result *ℚ y) w.reduced.ensures
          ∙ ap (λ x. c.loop-entry.sum +ℚ x *ℚ c.entry-item.result.rate)
          (value_at_place c.args.values.now c.entry-item.result.i w.index-values-entry.result within.0 within.1 w.index-values-entry.is)
          ∙ ap (λ s. s +ℚ value_at c.args.values.now c.entry-item.result.i *ℚ c.entry-item.result.rate) c.loop-entry.invariant
          ∙ sym (weighted_more c.args.p c.args.values.now c.args.entries.now c.loop-entry.entry-index c.entry-item.result c.args.first c.loop-entry-test.true
          c.entry-item.is w.if-entry-p.true)
      | else-entry-p w ↦
          w.sum-is ∙ c.loop-entry.invariant
          ∙ sym (weighted_same c.args.p c.args.values.now c.args.entries.now c.loop-entry.entry-index c.entry-item.result c.args.first c.loop-entry-test.true
          c.entry-item.is w.if-entry-p.false)
    ]
