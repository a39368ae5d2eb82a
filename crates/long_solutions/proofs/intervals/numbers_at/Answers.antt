use Rattle.std.proofs.Common.{Result, subst}
use Rattle.std.specs.Prelude.{IfOk}
use Rattle.std.specs.declared.alloc.AllocError.{AllocError}
use Rattle.long_vectors.specs.declared.columns.Column.{Column}
use Rattle.long_vectors.specs.Vectors.{IsOver, list_along}
use Rattle.long_solutions.proofs.intervals.numbers_at.Goals as goal

pub returns : goal.returns
returns c = λ x values rates is over also.
    let column =
    subst (λ (r : Result Column AllocError). IfOk r (IsOver (list_along x values rates))) c.in_ok-column.was (c.along.ensures x values rates is over also) in
    c.in_ok-made.ensures (list_along x values rates) x is column
