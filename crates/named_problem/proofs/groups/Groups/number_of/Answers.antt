use Rattle.std.proofs.Common.{sym, ap, ◌∙◌, arith}
use Rattle.std.proofs.lemmas.List.{length-map}
use Rattle.problem_definitions.specs.Names.{number_in}
use Rattle.named_problem.specs.Views.{group_at}
use Rattle.named_problem.proofs.Fronts.{names-groups}
use Rattle.named_problem.proofs.groups.Groups.number_of.Goals as goal

pub returns-clause-number : goal.returns-clause-number
returns-clause-number c =
    rw (← c.self.view_is) (c.number_among.ensures.number ∙ ap (λ names. number_in names c.args.name.now) (sym (names-groups c.self.inside.groups.entries)))

pub returns-clause-within : goal.returns-clause-within
returns-clause-within c = rw (← c.self.view_is) (omega (arith, c.number_among.ensures.within, length-map c.self.inside.groups.entries group_at))
