use Rattle.std.proofs.Common.{insert, ap, ◌∙◌}
use Rattle.std.proofs.lemmas.Result.{on_ok_weaker}
use Rattle.problem_definitions.specs.Names.{Name}
use Rattle.problem_definitions.specs.Problem.{Entry, Group}
use Rattle.named_problem.proofs.NamedValues.{at_end}
use Rattle.named_problem.proofs.groups.Groups.add.Goals as goal

pub returns : goal.returns
returns c =
    let group : Group (Entry Name) = record { name = c.args.name; items = c.args.items } in
    on_ok_weaker c.insert.result
    (λ placed. placed ∙ ap (λ place. insert c.args.self.now place group) c.len-last.ensures.count ∙ at_end group c.args.self.now) c.insert.ensures
