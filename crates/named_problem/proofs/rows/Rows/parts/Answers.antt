use Rattle.std.proofs.Common.{[], unwrap_or, ap, ◌∙◌}
use Rattle.std.specs.Option.{option_and_then}
use Rattle.named_problem.specs.declared.rows.RowBody.{RowBody}
use Rattle.named_problem.proofs.NamedRows.{parts_found}
use Rattle.named_problem.proofs.rows.Rows.parts.Goals as goal

pub returns-in-Some : goal.returns-in-Some
returns-in-Some c =
    rw (← c.self.view_is)
    (ap (λ parts. unwrap_or parts []) c.as_ref.ensures.value
    ∙ ap (λ o. unwrap_or (option_and_then (λ (body : RowBody). body.parts) o) []) c.in-Some.ensures.value
    ∙ parts_found c.args.name.now c.self.inside.rows.entries c.self.invariant)

pub returns-in-None : goal.returns-in-None
returns-in-None c =
    rw (← c.self.view_is)
    (ap (λ o. unwrap_or (option_and_then (λ (body : RowBody). body.parts) o) []) c.in-None.ensures.value
    ∙ parts_found c.args.name.now c.self.inside.rows.entries c.self.invariant)
