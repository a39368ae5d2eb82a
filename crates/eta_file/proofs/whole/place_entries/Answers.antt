use Rattle.std.proofs.Common.{rules, ◌≡◌, ◌≢◌, ◌∙◌, sym, ap, length, arith, subst, to_z, of_z}
use Rattle.std.specs.Int.{w128}
use Rattle.std.proofs.lemmas.Int.{to_z-of_z}
use Rattle.exact_values.specs.Rational.{ℚ, whole, one_ℚ, ◌*ℚ◌}
use Rattle.exact_values.proofs.RingLaws.{mul-zero, one-mul}
use Rattle.lp_definitions.specs.LinearProgram.{value_at}
use Rattle.eta_file.specs.declared.eta.EtaEntry.{EtaEntry}
use Rattle.eta_file.specs.Entries.{IsEntryWithin}
use Rattle.eta_file.proofs.CarrySteps.{scaled_more, sum_next_other}
use Rattle.eta_file.proofs.whole.place_entries.Goals as goal
use Rattle.eta_file.proofs.whole.place_entries.Goals.{then-entry-p+in_ok-as_whole+in_ok-number+in_ok-put, else-entry-p}

pub loop-entry-init : goal.loop-entry-init
loop-entry-init c = record { places = search rules; each = λ k low high other. c.requires.zero k low ∙ sym (mul-zero one_ℚ) }

pub loop-entry-preserved : goal.loop-entry-preserved
loop-entry-preserved c =
    let within : IsEntryWithin (length c.args.out.now) c.entry-item.result =
    subst (λ (x : EtaEntry). IsEntryWithin (length c.args.out.now) x) (sym c.entry-item.is)
    (c.requires.within c.loop-entry.entry-index c.entry-item.result c.loop-entry-test.true) in
    let inside : IsEntryWithin (length c.loop-entry.out) c.entry-item.result = (within.0, omega (arith, within.1, c.loop-entry.invariant.places)) in
    elim c.if-entry-p.branch [
      | then-entry-p+in_ok-as_whole+in_ok-number+in_ok-put w ↦
          let number : ℚ = whole (to_z w128 (of_z w128 w.in_ok-number.number)) in
          let is_number : number ≡ one_ℚ *ℚ c.entry-item.result.rate =
          ap whole (to_z-of_z w128 w.in_ok-number.number (search rules)) ∙ w.in_ok-number.ensures.value ∙ w.in_ok-as_whole.ensures
          ∙ sym (one-mul c.entry-item.result.rate) in
          rw w.out-is (record {
            places = w.put.ensures.places ∙ c.loop-entry.invariant.places;
            each = λ k low high other.
                ap (λ xs. value_at xs k) w.in_ok-put.ensures.number
                ∙ scaled_more c.args.entries.now c.loop-entry.entry-index c.entry-item.result c.loop-entry-test.true c.entry-item.is c.loop-entry.out inside
                one_ℚ number k low is_number c.requires.apart (c.loop-entry.invariant.each k low high other);
          })
      | else-entry-p w ↦ rw w.out-is (record {
        places = c.loop-entry.invariant.places;
        each = λ k low high other.
            let apart : c.entry-item.result.i ≢ k = λ e. other (sym e ∙ w.if-entry-p.false) in
            c.loop-entry.invariant.each k low high other
            ∙ ap (λ s. one_ℚ *ℚ s)
            (sym (sum_next_other c.args.entries.now c.loop-entry.entry-index c.entry-item.result c.loop-entry-test.true c.entry-item.is k apart));
      })
    ]
