-- By what a run left, and by what the statement does with it.
use Rattle.std.proofs.Common.{◌∙◌, sym, subst, ℕ, Option, IfOk}
use Rattle.exact_values.specs.Rational.{ℚ}
use Rattle.control_verbs.specs.Views.{viewed}
use Rattle.control_definitions.specs.Program.{Verb}
use Rattle.listing_walk.specs.Parameter.{IsNoRun}
use Rattle.listing_walk.specs.Standing.{holding}
use Rattle.listing_walk.specs.Walking.{Walks}
use Rattle.listing_walk.proofs.HeldWalks.{run_verb, walks_held, walks_set}
use Rattle.listing_walk.proofs.execute.execute_with.Goals as goal

pub returns-in-Reads-clause-walks : goal.returns-in-Reads-clause-walks
returns-in-Reads-clause-walks g c =
    subst (λ (verb : Verb ℕ). IfOk c.parametric_run.result
    (Walks g.T.Checks.checker verb c.args.statement.now.card c.args.cards.now (holding c.args.last.now c.args.machine.now)
    (holding c.parametric_run.new.last c.parametric_run.new.machine) c.args.place.now c.parametric_run.new.place))
    (run_verb (viewed c.args.statement.now.verb) c.in-Reads.asked (sym c.use_of.ensures ∙ c.in-Reads.is)) (c.parametric_run.ensures.walks c.args.cards.now)

pub execute-requires-clause-no_run : goal.execute-requires-clause-no_run
execute-requires-clause-no_run g c = subst IsNoRun (sym (sym c.use_of.ensures ∙ c.in-Sets.is)) tt

pub execute-requires-in-None-clause-no_run : goal.execute-requires-in-None-clause-no_run
execute-requires-in-None-clause-no_run g c = subst IsNoRun (sym (sym c.use_of.ensures ∙ c.in-Neither.is)) tt

pub returns-in-Sets-clause-walks : goal.returns-in-Sets-clause-walks
returns-in-Sets-clause-walks g c =
    walks_set g.T.Checks.checker
    (viewed c.args.statement.now.verb) c.args.statement.now.card c.args.cards.now c.args.machine.now c.execute.new.machine c.args.place.now
    c.execute.new.place c.args.last.now (sym c.use_of.ensures ∙ c.in-Sets.is)
    c.execute.result c.execute.ensures.walks

pub execute-requires-in-Some-clause-no_run : goal.execute-requires-in-Some-clause-no_run
execute-requires-in-Some-clause-no_run g c = subst IsNoRun (sym (sym c.use_of.ensures ∙ c.in-Neither.is)) tt

pub returns-in_ok-execute-in-Some-clause-walks : goal.returns-in_ok-execute-in-Some-clause-walks
returns-in_ok-execute-in-Some-clause-walks g c =
    let C = g.T.Checks.checker in
    let verb = viewed c.args.statement.now.verb in
    let card = c.args.statement.now.card in
    subst (λ (last : Option ℚ). Walks C verb card c.args.cards.now (holding last c.args.machine.now) (holding last c.execute-in-Some.new.machine)
    c.args.place.now c.execute-in-Some.new.place c.as_next.result) (sym c.in-Some.is)
    (walks_held c.in-Some.field-0 C verb card c.args.cards.now c.args.machine.now c.execute-in-Some.new.machine c.args.place.now
    c.execute-in-Some.new.place (sym c.use_of.ensures ∙ c.in-Neither.is) c.in_ok-execute-in-Some.field-0 c.as_next.result c.as_next.ensures
    c.in_ok-execute-in-Some.ensures.walks)
