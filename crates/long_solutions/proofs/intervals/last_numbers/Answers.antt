use Rattle.long_vectors.specs.Vectors.{list_along}
use Rattle.long_solutions.proofs.intervals.last_numbers.Goals as goal

pub returns : goal.returns
returns c = λ x values rates is over also.
    c.in_ok-made.ensures (list_along x values rates) x is (c.in_ok-column.ensures x values rates is over also)
