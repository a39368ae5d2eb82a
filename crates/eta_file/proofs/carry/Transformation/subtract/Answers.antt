use Rattle.std.proofs.Common.{rules, ◌≡◌, ◌≢◌, ◌≤◌, ◌∙◌, sym, ap, Err, length, take, arith, subst}
use Rattle.exact_values.specs.Rational.{ℚ, ◌-ℚ◌, ◌*ℚ◌}
use Rattle.lp_definitions.specs.LinearProgram.{value_at}
use Rattle.eta_file.specs.declared.eta.EtaEntry.{EtaEntry}
use Rattle.eta_file.specs.Entries.{sum_rate, IsEntryWithin}
use Rattle.eta_file.specs.Refusals.{IsRestRefused}
use Rattle.eta_file.proofs.CarrySteps.{subtracted_more, sum_next_other, others_next_same, others_next_other, others_room, entry_at, minus_nothing}
use Rattle.eta_file.proofs.carry.Transformation.subtract.Goals as goal
use Rattle.eta_file.proofs.carry.Transformation.subtract.Goals.{then-entry-self+in_ok-out, else-entry-self}
use Rattle.lp_laws.proofs.Places.{value_at_place}

pub loop-entry-init : goal.loop-entry-init
loop-entry-init g c = record { each = λ k low high other. sym (minus_nothing (value_at c.args.out.now k) c.args.quotient); cost = omega arith }

pub returns-in_err-out-clause-cost : goal.returns-in_err-out-clause-cost
returns-in_err-out-clause-cost g c =
    let workspace =
    others_room c.args.entries.now c.loop-entry.entry-index c.entry-item.result c.loop-entry-test.true c.entry-item.is c.args.self.p c.if-entry-self.true in
    omega (arith, workspace, c.in_err-out.ensures.cost, c.loop-entry.invariant.cost)

pub returns-in_err-out-clause-refused : goal.returns-in_err-out-clause-refused
returns-in_err-out-clause-refused g c =
    let is_err : c.from_residual.result ≡ Err c.in_err-out.field-0.0 = search rules in
    let e : EtaEntry = c.entry-item.result in
    let within : IsEntryWithin (length c.args.out.now) c.entry-item.result =
    subst (λ (x : EtaEntry). IsEntryWithin (length c.args.out.now) x) (sym c.entry-item.is)
    (c.requires c.loop-entry.entry-index c.entry-item.result c.loop-entry-test.true) in
    let high : c.entry-item.result.i ≤ length c.loop-entry.out = omega (arith, within.1, c.loop-entry.auto.out) in
    let is_old : c.index-out-place.result ≡ value_at c.args.out.now c.entry-item.result.i -ℚ c.args.quotient *ℚ sum_rate
    (take c.loop-entry.entry-index c.args.entries.now) c.entry-item.result.i =
    value_at_place c.loop-entry.out c.entry-item.result.i c.index-out-place.result within.0 high c.index-out-place.is
    ∙ c.loop-entry.invariant.each c.entry-item.result.i within.0 within.1 c.if-entry-self.true in
    rw is_err (record {
      place = c.loop-entry.entry-index;
      entry = c.entry-item.result;
      within = c.loop-entry-test.true;
      is_entry = entry_at c.args.entries.now c.loop-entry.entry-index c.entry-item.result c.loop-entry-test.true c.entry-item.is;
      stays = c.if-entry-self.true;
      refused =
          subst (λ (x : ℚ). IsRestRefused c.args.self.way c.args.self.p c.args.self.q c.entry-item.result.i c.args.j x c.args.quotient
          c.entry-item.result.rate c.in_err-out.field-0.0) is_old c.in_err-out.ensures.refused;
    })

pub loop-entry-preserved : goal.loop-entry-preserved
loop-entry-preserved g c =
    let within : IsEntryWithin (length c.args.out.now) c.entry-item.result =
    subst (λ (x : EtaEntry). IsEntryWithin (length c.args.out.now) x) (sym c.entry-item.is)
    (c.requires c.loop-entry.entry-index c.entry-item.result c.loop-entry-test.true) in
    let inside : IsEntryWithin (length c.loop-entry.out) c.entry-item.result = (within.0, omega (arith, within.1, c.loop-entry.auto.out)) in
    elim c.if-entry-self.branch [
      | then-entry-self+in_ok-out w ↦ rw (w.out-is, w.steps-is) (record {
        each = λ k low high other.
            subtracted_more c.args.entries.now c.loop-entry.entry-index c.entry-item.result c.loop-entry-test.true c.entry-item.is c.loop-entry.out inside
            c.args.out.now c.args.quotient w.index-out-place.result w.in_ok-out.field-0 k low w.index-out-place.is w.in_ok-out.ensures.value
            (c.loop-entry.invariant.each k low high other);
        cost =
            let more =
            others_next_other c.args.entries.now c.loop-entry.entry-index c.entry-item.result c.loop-entry-test.true c.entry-item.is c.args.self.p
            w.if-entry-self.true in
            omega (arith, more, w.in_ok-out.ensures.cost, c.loop-entry.invariant.cost);
      })
      | else-entry-self w ↦ rw (w.out-is, w.steps-is) (record {
        each = λ k low high other.
            let apart : c.entry-item.result.i ≢ k = λ e. other (sym e ∙ w.if-entry-self.false) in
            c.loop-entry.invariant.each k low high other
            ∙ ap (λ s. value_at c.args.out.now k -ℚ c.args.quotient *ℚ s)
            (sym (sum_next_other c.args.entries.now c.loop-entry.entry-index c.entry-item.result c.loop-entry-test.true c.entry-item.is k apart));
        cost =
            let same =
            others_next_same c.args.entries.now c.loop-entry.entry-index c.entry-item.result c.loop-entry-test.true c.entry-item.is c.args.self.p
            w.if-entry-self.false in
            omega (arith, same, c.loop-entry.invariant.cost);
      })
    ]
