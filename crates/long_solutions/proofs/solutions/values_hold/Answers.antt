use Rattle.std.proofs.Common.{◌∙◌, ap, subst}
use Rattle.std.specs.Prelude.{IsTrue, ◌↔◌, ◌&&◌}
use Rattle.lp_definitions.specs.LinearProgram.{LinearProgram, value_at}
use Rattle.check_definitions.specs.Steps.{AllHold}
use Rattle.check_definitions.specs.Checks.{reduced_costs}
use Rattle.long_programs.specs.Programs.{program_of, own_theta}
use Rattle.long_solutions.proofs.Solved.{printed_answers}
use Rattle.long_solutions.proofs.solutions.values_hold.Goals as goal

pub returns : goal.returns
returns c = λ problem values costs is also.
    let p = c.args.lp.now in
    let at = c.as_it_is.result in
    let own = own_theta p in
    let same = (λ i. program_of (c.as_it_is.ensures.program i) at.change own) ∙ c.as_it_is.ensures.same in
    let keeps = c.in_ok-keeps.keeps in
    let priced = c.in_ok-priced.priced in
    let keeping = c.in_ok-keeps.ensures values is.is_over 1 in
    let pricing = subst (λ (q : LinearProgram). IsTrue priced ↔ AllHold (reduced_costs q (value_at costs))) same (c.in_ok-priced.ensures costs own also) in
    printed_answers (record { problem = problem; lp = p }) c.args.mark (value_at values) (value_at costs) keeps priced keeping pricing
    (value_at c.args.slacks.now) c.in_ok-slack.slack c.in_ok-best.best c.both.result
    (c.both.ensures ∙ ap (λ b. keeps && b) (c.both-rest.ensures ∙ ap (λ b. priced && b) c.both-last.ensures))
    (c.in_ok-slack.ensures values problem is.is_over) (c.in_ok-best.ensures problem values costs is also keeping pricing)
