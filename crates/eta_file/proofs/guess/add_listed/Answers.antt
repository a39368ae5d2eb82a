use Rattle.std.proofs.Common.{◌∙◌, refl}
use Rattle.lp_definitions.specs.LinearProgram.{value_at}
use Rattle.eta_file.specs.ColumnSums.{column_part}
use Rattle.eta_file.proofs.ListedSums.{nothing_yet, next_part}
use Rattle.eta_file.proofs.guess.add_listed.Goals as goal

pub loop-k-init : goal.loop-k-init
loop-k-init c = record {
  places = refl;
  added = λ i low. nothing_yet (column_part c.args.file.now.matrix (value_at c.args.numbers.now) i) _;
}

pub add_variable-requires-clause-variable : goal.add_variable-requires-clause-variable
add_variable-requires-clause-variable c = c.requires.listed c.loop-k.k-index _ c.loop-k-test.true

pub loop-k-preserved : goal.loop-k-preserved
loop-k-preserved c = record {
  places = c.add_variable.ensures.places ∙ c.loop-k.invariant.places;
  added = λ i low.
      next_part (column_part c.args.file.now.matrix (value_at c.args.numbers.now) i) c.args.listed.now c.loop-k.k-index _ _
      (value_at c.args.sums.now i) _ (value_at c.loop-k.sums i) c.loop-k-test.true refl (c.in_ok-add_variable.ensures.added i low)
      (c.loop-k.invariant.added i low);
}
