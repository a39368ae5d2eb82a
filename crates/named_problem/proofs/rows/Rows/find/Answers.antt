use Rattle.std.proofs.Common.{false, is_some, sym, ap, ◌∙◌}
use Rattle.std.specs.Option.{option_map_or}
use Rattle.problem_definitions.specs.Kinds.{is_free_kind}
use Rattle.named_problem.proofs.Keyed.{row_is_there, free_by_name, combination_by_name}
use Rattle.named_problem.proofs.rows.Rows.find.Goals as goal

pub returns-in-Some-clause-found : goal.returns-in-Some-clause-found
returns-in-Some-clause-found c = rw (← c.self.view_is) (ap is_some c.in-Some.ensures.value ∙ row_is_there c.args.name.now c.self.inside.rows.entries)

pub returns-in-Some-clause-free : goal.returns-in-Some-clause-free
returns-in-Some-clause-free c =
    rw (← c.self.view_is)
    (free_by_name c.args.name.now c.self.inside.rows.entries c.self.invariant
    ∙ sym (ap (λ o. option_map_or (λ body. is_free_kind body.kind) o false) c.in-Some.ensures.value))

pub returns-in-None-clause-found : goal.returns-in-None-clause-found
returns-in-None-clause-found c = rw (← c.self.view_is) (ap is_some c.in-None.ensures.value ∙ row_is_there c.args.name.now c.self.inside.rows.entries)

pub returns-in-Some-clause-combination : goal.returns-in-Some-clause-combination
returns-in-Some-clause-combination c =
    rw (← c.self.view_is)
    (combination_by_name c.args.name.now c.self.inside.rows.entries c.self.invariant
    ∙ sym (ap (λ o. option_map_or (λ body. is_some body.parts) o false) c.in-Some.ensures.value) ∙ sym c.is_some.ensures)
