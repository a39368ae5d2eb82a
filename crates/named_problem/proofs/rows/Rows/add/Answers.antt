use Rattle.std.proofs.Common.{insert, ap, ◌∙◌}
use Rattle.std.proofs.lemmas.Result.{on_ok_weaker}
use Rattle.problem_definitions.specs.Names.{Name}
use Rattle.problem_definitions.specs.Problem.{Row}
use Rattle.named_problem.proofs.NamedValues.{at_end}
use Rattle.named_problem.proofs.rows.Rows.add.Goals as goal

pub returns : goal.returns
returns c =
    let row : Row Name = record { kind = c.args.kind; name = c.args.name; parts = c.args.parts } in
    on_ok_weaker c.insert.result
    (λ placed. placed ∙ ap (λ place. insert c.args.self.now place row) c.len-last.ensures ∙ at_end row c.args.self.now) c.insert.ensures
