use Rattle.std.proofs.Common.{rules, ◌≡◌, ◌∙◌, length, replicate, ap}
use Rattle.exact_values.specs.Rational.{ℚ, zero_ℚ}
use Rattle.lp_definitions.specs.LinearProgram.{size}
use Rattle.lp_definitions.specs.Basis.{IsNonbasic}
use Rattle.rates_dense.specs.Table.{inverse_of}
use Rattle.rates_dense.proofs.Directions.{basics_are, direction_written}
use Rattle.rates_dense.proofs.DenseRates.column.Goals as goal

pub take_rates-requires-clause-basics : goal.take_rates-requires-clause-basics
take_rates-requires-clause-basics c =
    let inverse = inverse_of c.self.inside in
    let counted : length c.fill.new.self ≡ size inverse.matrix = c.fill.ensures.len ∙ (rw (← c.self.view_is) at c.requires.places) in
    rw (counted, c.deref.ensures.value)
    (basics_are inverse.matrix inverse.basics c.self.inside.slots.items c.self.inside.lines.items c.self.inside.quotients.items c.self.invariant.0)

pub returns-clause-direction : goal.returns-clause-direction
returns-clause-direction c =
    let inverse = inverse_of c.self.inside in
    let nonbasic : IsNonbasic inverse.matrix inverse.basics c.args.j = rw (← c.self.view_is) at c.requires.nonbasic in
    let places : length c.args.out.now ≡ size inverse.matrix = rw (← c.self.view_is) at c.requires.places in
    let filled : c.fill.new.self ≡ replicate (length c.args.out.now) c.whole.result = search rules in
    let zeros : c.fill.new.self ≡ replicate (size inverse.matrix) zero_ℚ =
    filled ∙ ap (λ n. replicate n c.whole.result) places ∙ ap (λ (v : ℚ). replicate (size inverse.matrix) v) c.whole.ensures in
    let counted : length c.take_rates.new.out ≡ size inverse.matrix = c.take_rates.auto.out ∙ c.fill.ensures.len ∙ places in
    rw (← c.self.view_is)
    (direction_written inverse.matrix inverse.basics c.self.inside.slots.items c.self.inside.lines.items c.self.inside.quotients.items c.self.invariant.0
    c.args.j c.fill.new.self c.take_rates.new.out c.whole-2.result nonbasic zeros counted c.whole-2.ensures (rw c.deref.ensures.value at c.take_rates.ensures))
