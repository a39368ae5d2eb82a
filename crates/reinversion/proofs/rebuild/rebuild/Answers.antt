use Rattle.std.proofs.Common.{◌∙◌, arith}
use Rattle.reinversion.proofs.Rebuilding.{rebuilt_start, no_columns, next_column, rebuilt_all}
use Rattle.reinversion.proofs.rebuild.rebuild.Goals as goal

pub enter_in_order-requires-clause-rebuilt : goal.enter_in_order-requires-clause-rebuilt
enter_in_order-requires-clause-rebuilt c =
    rebuilt_start c.args.old.now.matrix c.args.old.now.basics c.in_ok-new.new c.in_ok-new.ensures.matrix c.in_ok-new.ensures.basics c.in_ok-new.ensures.no_eta

pub loop-c-init : goal.loop-c-init
loop-c-init c =
    record {
      rebuilt = c.in_ok-enter_in_order.ensures.rebuilt;
      places = c.in_ok-enter_in_order.ensures.places;
      wholes = c.enter_in_order.ensures.wholes
          ∙ c.in_ok-wholes.ensures;
    }

pub enter-requires-clause-rebuilt : goal.enter-requires-clause-rebuilt
enter-requires-clause-rebuilt c = no_columns c.args.old.now.matrix c.args.old.now.basics c.loop-c.c c.loop-c.new c.loop-c.invariant.rebuilt

pub loop-c-preserved : goal.loop-c-preserved
loop-c-preserved c = record {
  rebuilt =
      next_column c.args.old.now.matrix c.args.old.now.basics c.loop-c.c c.enter.new.new c.in_ok-enter.ensures.entered
      (c.in_ok-enter.ensures.keeps c.loop-c.c c.loop-c.invariant.rebuilt);
  places = c.in_ok-enter.ensures.places;
  wholes = c.enter.ensures.wholes ∙ c.loop-c.invariant.wholes;
}

pub returns-clause-remade : goal.returns-clause-remade
returns-clause-remade c =
    rebuilt_all c.args.old.now c.loop-c.new c.size-size.ensures.nonsingular c.size-new_size.ensures.nonsingular c.loop-c.c
    (omega (arith, c.size-size.ensures.size, c.rows-rows.ensures)) c.loop-c.invariant.rebuilt
