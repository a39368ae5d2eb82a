use Rattle.std.proofs.Common.{rules}
use Rattle.problem_definitions.specs.Numbering.{entry_by}
use Rattle.named_problem.specs.Views.{entry_at, row_number}
use Rattle.named_problem.proofs.MadeOf.{made_of_shown}
use Rattle.named_problem.proofs.entries.Entries.numbered.Goals as goal

pub returns : goal.returns
returns c =
    let make = entry_by (row_number c.args.rows.now) in
    made_of_shown c.self.inside.values.entries entry_at make c.args.self.now c.self.view_is c.made_of_each.result
    (c.made_of_each.ensures (λ e. make (entry_at e)) (λ name value result met. search rules))
