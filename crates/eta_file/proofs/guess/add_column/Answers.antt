use Rattle.std.proofs.Common.{◌≤◌, ◌∙◌, refl, sym, ap, length, arith, subst}
use Rattle.lp_definitions.specs.LinearProgram.{value_at}
use Rattle.lp_definitions.specs.declared.Entry.{Entry}
use Rattle.eta_file.proofs.GuessSteps.{plus_nothing, added_more}
use Rattle.eta_file.proofs.guess.add_column.Goals as goal

pub loop-entry-init : goal.loop-entry-init
loop-entry-init c = record { places = refl; rows = λ k low. sym (plus_nothing _ _) }

pub loop-entry-preserved : goal.loop-entry-preserved
loop-entry-preserved c =
    let row : (1 ≤ c.entry-item.result.row) × (c.entry-item.result.row ≤ length c.args.sums.now) =
    subst (λ (e : Entry). (1 ≤ e.row) × (e.row ≤ length c.args.sums.now)) (sym c.entry-item.is)
    (c.requires.rows c.loop-entry.entry-index c.entry-item.result c.loop-entry-test.true) in
    let high : c.entry-item.result.row ≤ length c.loop-entry.sums = omega (arith, row.1, c.loop-entry.invariant.places) in
    record {
      places = c.add_product.ensures.places ∙ c.loop-entry.invariant.places;
      rows = λ k low.
          ap (λ xs. value_at xs k) c.in_ok-add_product.ensures.number
          ∙ added_more c.args.column.now c.loop-entry.entry-index c.entry-item.result c.loop-entry-test.true c.entry-item.is c.requires.distinct
          c.loop-entry.sums row.0 high
          _ _ _ k low refl (c.loop-entry.invariant.rows k low);
    }
