use Rattle.std.proofs.Common.{Option, subst}
use Rattle.std.specs.Option.{SomeIff}
use Rattle.exact_values.specs.Rational.{ℚ}
use Rattle.frac128.specs.Operations.{TermsFit}
use Rattle.walk_definitions.specs.Words.{spelled}
use Rattle.listing_words.proofs.Sameness.{read_where_it_fits}
use Rattle.listing_words.proofs.number.Number.fraction.Goals as goal

pub returns : goal.returns
returns c =
    subst (λ (x : ℚ). SomeIff c.fraction_in.result (TermsFit x) x) c.self.view_is
    (read_where_it_fits c.self.inside.word.now (spelled c.self.inside.word.now) c.self.invariant c.fraction_in.result c.fraction_in.ensures)
