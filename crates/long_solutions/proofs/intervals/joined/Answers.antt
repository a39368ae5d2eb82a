use Rattle.std.proofs.Common.{Result, subst}
use Rattle.std.specs.Prelude.{IfOk}
use Rattle.std.specs.declared.alloc.AllocError.{AllocError}
use Rattle.long_vectors.specs.declared.columns.Column.{Column}
use Rattle.long_vectors.specs.Vectors.{IsOver, list_along}
use Rattle.long_solutions.proofs.intervals.joined.Goals as goal

pub returns : goal.returns
returns c = λ x values rates is over also.
    subst (λ (r : Result Column AllocError). IfOk r (IsOver (list_along x values rates))) c.in_ok-made.was (c.along.ensures x values rates is over also)
