use Rattle.std.proofs.Common.{[], length, ap, arith, ◌≡◌}
use Rattle.selection_laws.proofs.Values.{values-length}
use Rattle.lp_setup.proofs.combined.combined_numbers.Goals as goal

pub numbers_on_combinations-requires-clause-values : goal.numbers_on_combinations-requires-clause-values
numbers_on_combinations-requires-clause-values c =
    let read : length c.deref.result.now ≡ length c.in_ok-values.values.items = ap length c.deref.ensures.value in
    let made = ap length c.in_ok-values.ensures.values in
    omega (arith, read, made, values-length c.args.entries.now [] c.args.rows.now)
