use Rattle.std.proofs.Common.{sym, ap, ◌∙◌}
use Rattle.problem_definitions.specs.Names.{number_in}
use Rattle.named_problem.proofs.Fronts.{names-groups}
use Rattle.named_problem.proofs.groups.Groups.number_at.Goals as goal

pub returns : goal.returns
returns c = rw (← c.self.view_is) (c.number_from.ensures ∙ ap (λ names. number_in names c.args.name.now) (sym (names-groups c.self.inside.groups.entries)))
