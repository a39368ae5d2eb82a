use Rattle.std.proofs.Common.{rules, ◌≡◌, ◌≢◌, ◌∙◌, refl, sym, ap, length, arith, subst, to_z, of_z}
use Rattle.std.specs.Int.{w128}
use Rattle.std.proofs.lemmas.Int.{to_z-of_z}
use Rattle.exact_values.specs.Rational.{ℚ, whole, neg_ℚ, ◌+ℚ◌, ◌-ℚ◌, ◌*ℚ◌}
use Rattle.lp_definitions.specs.LinearProgram.{value_at}
use Rattle.eta_file.specs.declared.eta.EtaEntry.{EtaEntry}
use Rattle.eta_file.specs.Entries.{IsEntryWithin}
use Rattle.eta_file.proofs.CarrySteps.{sum_next_other, minus_nothing}
use Rattle.eta_file.proofs.WholeSteps.{subtracted_whole}
use Rattle.eta_file.proofs.whole.subtract_whole.Goals as goal
use Rattle.eta_file.proofs.whole.subtract_whole.Goals.{then-entry-p+in_ok-as_whole+in_ok-add_product, else-entry-p}

pub loop-entry-init : goal.loop-entry-init
loop-entry-init c = record { places = search rules; each = λ k low high other. sym (minus_nothing (value_at c.args.out.now k) c.args.multiple) }

pub loop-entry-preserved : goal.loop-entry-preserved
loop-entry-preserved c =
    let within : IsEntryWithin (length c.args.out.now) c.entry-item.result =
    subst (λ (x : EtaEntry). IsEntryWithin (length c.args.out.now) x) (sym c.entry-item.is)
    (c.requires c.loop-entry.entry-index c.entry-item.result c.loop-entry-test.true) in
    let inside : IsEntryWithin (length c.loop-entry.out) c.entry-item.result = (within.0, omega (arith, within.1, c.loop-entry.invariant.places)) in
    elim c.if-entry-p.branch [
      | then-entry-p+in_ok-as_whole+in_ok-add_product w ↦
          let minus : ℚ = whole (to_z w128 (of_z w128 c.in_ok-opposite.opposite)) in
          let is_minus : minus ≡ neg_ℚ c.args.multiple =
          ap whole (to_z-of_z w128 c.in_ok-opposite.opposite (search rules)) ∙ c.in_ok-opposite.ensures.value ∙ c.neg.ensures in
          let number : ℚ = value_at c.loop-entry.out c.entry-item.result.i in
          rw w.out-is (record {
            places = w.add_product.ensures.places ∙ c.loop-entry.invariant.places;
            each = λ k low high other.
                ap (λ xs. value_at xs k) w.in_ok-add_product.ensures.number
                ∙ subtracted_whole c.args.entries.now c.loop-entry.entry-index c.entry-item.result c.loop-entry-test.true c.entry-item.is c.loop-entry.out
                inside
                c.args.out.now c.args.multiple number minus _ k low refl is_minus (ap (λ r. number +ℚ minus *ℚ r) w.in_ok-as_whole.ensures)
                (c.loop-entry.invariant.each k low high other);
          })
      | else-entry-p w ↦ rw w.out-is (record {
        places = c.loop-entry.invariant.places;
        each = λ k low high other.
            let apart : c.entry-item.result.i ≢ k = λ e. other (sym e ∙ w.if-entry-p.false) in
            c.loop-entry.invariant.each k low high other
            ∙ ap (λ s. value_at c.args.out.now k -ℚ c.args.multiple *ℚ s)
            (sym (sum_next_other c.args.entries.now c.loop-entry.entry-index c.entry-item.result c.loop-entry-test.true c.entry-item.is k apart));
      })
    ]
