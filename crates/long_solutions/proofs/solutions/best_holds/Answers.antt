use Rattle.std.proofs.Common.{◌∙◌, ap₂, subst}
use Rattle.std.specs.Prelude.{IsTrue, ◌↔◌, ◌&&◌}
use Rattle.lp_definitions.specs.LinearProgram.{LinearProgram, value_at}
use Rattle.check_definitions.specs.Steps.{AllHold}
use Rattle.check_definitions.specs.Checks.{within_limits, standing_prices}
use Rattle.long_programs.specs.Programs.{program_of, own_theta}
use Rattle.long_solutions.proofs.Solved.{best_answers}
use Rattle.long_solutions.proofs.solutions.best_holds.Goals as goal

pub returns-in_ok-stand-in-Optimal : goal.returns-in_ok-stand-in-Optimal
returns-in_ok-stand-in-Optimal c = λ problem values costs is also keeping pricing.
    let p = c.args.lp.now in
    let at = c.as_it_is.result in
    let own = own_theta p in
    let same = (λ i. program_of (c.as_it_is.ensures.program i) at.change own) ∙ c.as_it_is.ensures.same in
    let within = c.in_ok-within-in-Optimal.within in
    let stand = c.in_ok-stand-in-Optimal.stand in
    best_answers (record { problem = problem; lp = p }) c.args.mark (value_at values)
    (value_at costs) c.args.keeps c.args.priced keeping pricing within stand c.both.result c.in-Optimal.is
    (c.both.ensures ∙ ap₂ ◌&&◌ c.both-feasible.ensures c.both-are_prices.ensures)
    (subst (λ (q : LinearProgram). IsTrue within ↔ AllHold (within_limits q (value_at values))) same (c.in_ok-within-in-Optimal.ensures values own is))
    (subst (λ (q : LinearProgram). IsTrue stand ↔ AllHold (standing_prices q (value_at values) (value_at costs))) same
    (c.in_ok-stand-in-Optimal.ensures values costs own is also.is_over))
