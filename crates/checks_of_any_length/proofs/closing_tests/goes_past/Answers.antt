use Rattle.std.proofs.Common.{ap, ◌∙◌}
use Rattle.std.specs.Prelude.{◌&&◌}
use Rattle.exact_values.specs.Tests.{is_equal, is_less}
use Rattle.checks_of_any_length.proofs.closing_tests.goes_past.Goals as goal

pub returns : goal.returns
returns c = λ t l is also.
    c.both.ensures
    ∙ (λ i. (c.is_eq-same.ensures ∙ ap is_equal (c.in_ok-order.ensures t l is also)) i &&
    (c.is_lt-goes_on.ensures ∙ ap is_less (c.in_ok-most_order.ensures t is)) i)
