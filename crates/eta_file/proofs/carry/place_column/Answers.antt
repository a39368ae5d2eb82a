use Rattle.std.proofs.Common.{◌≤◌, sym, length, arith, subst}
use Rattle.lp_definitions.specs.declared.Entry.{Entry}
use Rattle.eta_file.specs.Entries.{IsRowWithin}
use Rattle.eta_file.proofs.CarrySteps.{filled_row}
use Rattle.eta_file.proofs.carry.place_column.Goals as goal

pub loop-entry-preserved : goal.loop-entry-preserved
loop-entry-preserved c k low =
    let row : IsRowWithin c.args.j c.entry-item.result =
    subst (λ (e : Entry). IsRowWithin c.args.j e) (sym c.entry-item.is) (c.requires.rows c.loop-entry.entry-index c.entry-item.result c.loop-entry-test.true) in
    let high : c.entry-item.result.row ≤ length c.loop-entry.out = omega (arith, row.1, c.requires.high, c.loop-entry.auto.out) in
    filled_row c.args.column.now c.loop-entry.entry-index c.entry-item.result c.loop-entry-test.true c.entry-item.is c.requires.distinct c.loop-entry.out
    row.0 high k low (c.loop-entry.invariant k low)
