use Rattle.std.proofs.Common.{rules, ◌≡◌, ◌≢◌, ◌∙◌, sym, ap, Err, length, arith, subst}
use Rattle.exact_values.specs.Rational.{◌*ℚ◌}
use Rattle.frac128.specs.declared.Op.TheVariants.{Mul}
use Rattle.exact_values.proofs.RingLaws.{mul-zero}
use Rattle.eta_file.specs.declared.eta.EtaEntry.{EtaEntry}
use Rattle.eta_file.specs.Entries.{IsEntryWithin}
use Rattle.eta_file.specs.Refusals.{IsRefusal}
use Rattle.eta_file.proofs.CarrySteps.{scaled_more, sum_next_other, others_next_same, others_next_other, others_room, entry_at}
use Rattle.eta_file.proofs.carry.Transformation.scale.Goals as goal
use Rattle.eta_file.proofs.carry.Transformation.scale.Goals.{then-entry-self+in_ok-out, else-entry-self}

pub loop-entry-init : goal.loop-entry-init
loop-entry-init g c = record { each = λ k low high other. c.requires.zero k low ∙ sym (mul-zero c.args.reciprocal); cost = omega arith }

pub returns-in_err-out-clause-cost : goal.returns-in_err-out-clause-cost
returns-in_err-out-clause-cost g c =
    let workspace =
    others_room c.args.entries.now c.loop-entry.entry-index c.entry-item.result c.loop-entry-test.true c.entry-item.is c.args.self.p c.if-entry-self.true in
    omega (arith, workspace, c.in_err-out.ensures.cost, c.loop-entry.invariant.cost)

pub returns-in_err-out-clause-refused : goal.returns-in_err-out-clause-refused
returns-in_err-out-clause-refused g c =
    let is_err : c.from_residual.result ≡ Err c.in_err-out.field-0.0 = search rules in
    rw is_err (record {
      place = c.loop-entry.entry-index;
      entry = c.entry-item.result;
      within = c.loop-entry-test.true;
      is_entry = entry_at c.args.entries.now c.loop-entry.entry-index c.entry-item.result c.loop-entry-test.true c.entry-item.is;
      stays = c.if-entry-self.true;
      refused =
          subst (λ r. IsRefusal c.args.self.way 5 c.args.self.p c.args.self.q c.entry-item.result.i 0 Mul c.args.reciprocal r c.in_err-out.field-0.0)
          c.reduced.ensures c.in_err-out.ensures.refused;
    })

pub loop-entry-preserved : goal.loop-entry-preserved
loop-entry-preserved g c =
    let within : IsEntryWithin (length c.args.out.now) c.entry-item.result =
    subst (λ (x : EtaEntry). IsEntryWithin (length c.args.out.now) x) (sym c.entry-item.is)
    (c.requires.within c.loop-entry.entry-index c.entry-item.result c.loop-entry-test.true) in
    let inside : IsEntryWithin (length c.loop-entry.out) c.entry-item.result = (within.0, omega (arith, within.1, c.loop-entry.auto.out)) in
    elim c.if-entry-self.branch [
      | then-entry-self+in_ok-out w ↦ rw (w.out-is, w.steps-is) (record {
        each = λ k low high other.
            scaled_more c.args.entries.now c.loop-entry.entry-index c.entry-item.result c.loop-entry-test.true c.entry-item.is c.loop-entry.out inside
            c.args.reciprocal w.in_ok-out.field-0 k low (w.in_ok-out.ensures.value ∙ ap (λ r. c.args.reciprocal *ℚ r) w.reduced.ensures) c.requires.apart
            (c.loop-entry.invariant.each k low high other);
        cost =
            let more =
            others_next_other c.args.entries.now c.loop-entry.entry-index c.entry-item.result c.loop-entry-test.true c.entry-item.is c.args.self.p
            w.if-entry-self.true in
            omega (arith, more, w.in_ok-out.ensures.cost, c.loop-entry.invariant.cost);
      })
      | else-entry-self w ↦ rw (w.out-is, w.steps-is) (record {
        each = λ k low high other.
            let apart : c.entry-item.result.i ≢ k = λ e. other (sym e ∙ w.if-entry-self.false) in
            c.loop-entry.invariant.each k low high other
            ∙ ap (λ s. c.args.reciprocal *ℚ s)
            (sym (sum_next_other c.args.entries.now c.loop-entry.entry-index c.entry-item.result c.loop-entry-test.true c.entry-item.is k apart));
        cost =
            let same =
            others_next_same c.args.entries.now c.loop-entry.entry-index c.entry-item.result c.loop-entry-test.true c.entry-item.is c.args.self.p
            w.if-entry-self.false in
            omega (arith, same, c.loop-entry.invariant.cost);
      })
    ]
