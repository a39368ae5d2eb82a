use Rattle.std.proofs.Common.{rules, ◌≡◌, ◌≤◌, ◌∙◌, sym, ap, length, arith, subst, to_z, of_z}
use Rattle.std.specs.Int.{w128}
use Rattle.std.proofs.lemmas.Int.{to_z-of_z}
use Rattle.exact_values.specs.Rational.{ℚ, whole, ◌*ℚ◌}
use Rattle.exact_values.proofs.RingLaws.{zero-mul}
use Rattle.lp_definitions.specs.LinearProgram.{value_at}
use Rattle.lp_definitions.specs.declared.Entry.{Entry}
use Rattle.eta_file.specs.Entries.{IsRowWithin}
use Rattle.eta_file.proofs.CarrySteps.{filled_scaled}
use Rattle.eta_file.proofs.whole.place_rows.Goals as goal

pub loop-entry-init : goal.loop-entry-init
loop-entry-init c = record { places = search rules; rows = λ k low. c.requires.zero k low ∙ sym (zero-mul c.args.scale) }

pub loop-entry-preserved : goal.loop-entry-preserved
loop-entry-preserved c =
    let row : IsRowWithin c.args.j c.entry-item.result =
    subst (λ (e : Entry). IsRowWithin c.args.j e) (sym c.entry-item.is) (c.requires.rows c.loop-entry.entry-index c.entry-item.result c.loop-entry-test.true) in
    let high : c.entry-item.result.row ≤ length c.loop-entry.out = omega (arith, row.1, c.requires.high, c.loop-entry.invariant.places) in
    let number : ℚ = whole (to_z w128 (of_z w128 c.in_ok-number.number)) in
    let is_number : number ≡ c.entry-item.result.value *ℚ c.args.scale =
    ap whole (to_z-of_z w128 c.in_ok-number.number (search rules)) ∙ c.in_ok-number.ensures.value ∙ c.in_ok-value.ensures in
    record {
      places = c.put.ensures.places ∙ c.loop-entry.invariant.places;
      rows = λ k low.
          ap (λ xs. value_at xs k) c.in_ok-put.ensures.number
          ∙ filled_scaled c.args.column.now c.loop-entry.entry-index c.entry-item.result c.loop-entry-test.true c.entry-item.is c.requires.distinct
          c.loop-entry.out row.0 high c.args.scale number k low is_number
          (c.loop-entry.invariant.rows k low);
    }
