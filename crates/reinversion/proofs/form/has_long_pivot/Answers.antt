use Rattle.std.proofs.Common.{rules}
use Rattle.reinversion.proofs.Turns.{last_is_short, last_is_long}
use Rattle.reinversion.proofs.form.has_long_pivot.Goals as goal

pub returns-then-unsigned_abs-lt-LONG : goal.returns-then-unsigned_abs-lt-LONG
returns-then-unsigned_abs-lt-LONG c = last_is_short c.args.file.now.etas c.pivot-pivot.result (rw c.etas-etas.ensures.all at c.pivot-pivot.ensures)
    (search rules)

pub returns : goal.returns
returns c = last_is_long c.args.file.now.etas c.pivot-pivot.result (rw c.etas-etas.ensures.all at c.pivot-pivot.ensures) (search rules) (search rules)
