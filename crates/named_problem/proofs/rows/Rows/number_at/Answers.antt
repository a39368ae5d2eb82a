use Rattle.std.proofs.Common.{sym, ap, ◌∙◌}
use Rattle.problem_definitions.specs.Names.{number_in}
use Rattle.named_problem.proofs.Keyed.{names-rows}
use Rattle.named_problem.proofs.rows.Rows.number_at.Goals as goal

pub returns : goal.returns
returns c = rw (← c.self.view_is) (c.number_from.ensures ∙ ap (λ names. number_in names c.args.name.now) (sym (names-rows c.self.inside.rows.entries)))
