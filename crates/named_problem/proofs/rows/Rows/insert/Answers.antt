use Rattle.named_problem.proofs.Keyed.{row_is_there}
use Rattle.problem_definitions.specs.Problem.{has_row}
use Rattle.std.proofs.Common.{map, ap, ◌∙◌}
use Rattle.std.proofs.lemmas.Result.{on_ok_weaker}
use Rattle.indexmap.proofs.SetLemmas.{map-insert}
use Rattle.named_problem.specs.Bodies.{row_at}
use Rattle.named_problem.proofs.rows.Rows.insert.Goals as goal

pub returns : goal.returns
returns c =
    rw (← c.self.view_is)
    (on_ok_weaker c.insert_new.result
    (λ placed. ap (map row_at) placed
    ∙ map-insert row_at c.self.inside.rows.entries c.args.place
    (c.args.name, record { kind = c.args.kind; parts = c.args.parts })) c.insert_new.ensures.placed)

pub insert_new-requires : goal.insert_new-requires
insert_new-requires c = row_is_there c.args.name c.self.inside.rows.entries ∙ ap (λ rows. has_row rows c.args.name) c.self.view_is ∙ c.requires
