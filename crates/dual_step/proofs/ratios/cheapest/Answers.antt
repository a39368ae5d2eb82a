use Rattle.std.proofs.Common.{◌≡◌, ℕ, rules, ◌∙◌, subst, arith}
use Rattle.std.specs.Prelude.{option_map}
use Rattle.lp_definitions.specs.LinearProgram.{size, value_at}
use Rattle.dual_step.specs.Cheapest.{IsBest}
use Rattle.dual_step.proofs.BestRatio.{best_is_cheapest}
use Rattle.dual_step.proofs.ratios.cheapest.Goals as goal

pub returns-clause-cheapest : goal.returns-clause-cheapest
returns-clause-cheapest c =
    let all : c.loop-k.k ≡ size c.args.lp.now.matrix = omega arith in
    let mapped : c.map.result ≡ option_map (λ f. f.q) c.loop-k.best = search rules in
    mapped
    ∙ best_is_cheapest c.args.lp.now c.args.basis.now (value_at c.args.prices.now) (value_at c.args.row.now) c.args.below c.loop-k.best
    (subst (λ (n : ℕ). IsBest c.args.lp.now c.args.basis.now (value_at c.args.prices.now)
    (value_at c.args.row.now) c.args.below n c.loop-k.best) all c.loop-k.invariant)
