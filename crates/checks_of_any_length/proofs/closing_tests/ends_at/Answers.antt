use Rattle.std.proofs.Common.{ap, ◌∙◌}
use Rattle.std.specs.Prelude.{◌&&◌}
use Rattle.exact_values.specs.Tests.{is_equal}
use Rattle.checks_of_any_length.proofs.closing_tests.ends_at.Goals as goal

pub returns : goal.returns
returns c = λ t l is also.
    c.both.ensures
    ∙ (λ i. (c.is_eq-same.ensures ∙ ap is_equal (c.in_ok-order.ensures t l is also)) i &&
    (c.is_eq-ends.ensures ∙ ap is_equal (c.in_ok-most_order.ensures t is)) i)
