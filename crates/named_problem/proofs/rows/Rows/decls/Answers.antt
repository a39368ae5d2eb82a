use Rattle.std.proofs.Common.{rules}
use Rattle.problem_definitions.specs.Numbering.{row_by}
use Rattle.named_problem.specs.Views.{row_number}
use Rattle.named_problem.specs.Bodies.{row_at}
use Rattle.named_problem.proofs.MadeOf.{made_of_shown}
use Rattle.named_problem.proofs.rows.Rows.decls.Goals as goal

pub returns : goal.returns
returns c =
    let make = row_by (row_number c.args.self.now) in
    made_of_shown c.self.inside.rows.entries row_at make c.args.self.now c.self.view_is c.made_of_each.result
    (c.made_of_each.ensures (λ e. make (row_at e)) (λ name value result met. search rules))
