use Rattle.std.proofs.Common.{false, is_some, refl, sym, ap, ◌∙◌}
use Rattle.std.specs.Option.{option_map_or}
use Rattle.named_problem.specs.declared.rows.RowBody.{RowBody}
use Rattle.named_problem.proofs.Keyed.{passes_by_name}
use Rattle.named_problem.proofs.rows.Rows.has_combination.Goals as goal

pub returns-in-Some : goal.returns-in-Some
returns-in-Some c =
    rw (← c.self.view_is) (c.is_some.ensures ∙ ap (λ o. option_map_or (λ (body : RowBody). is_some body.parts) o false) c.in-Some.ensures.value
    ∙ sym (passes_by_name (λ row. is_some row.parts) (λ body. is_some body.parts) (λ e. refl) c.args.name.now c.self.inside.rows.entries c.self.invariant))

pub returns-in-None : goal.returns-in-None
returns-in-None c =
    rw (← c.self.view_is) (ap (λ o. option_map_or (λ (body : RowBody). is_some body.parts) o false) c.in-None.ensures.value
    ∙ sym (passes_by_name (λ row. is_some row.parts) (λ body. is_some body.parts) (λ e. refl) c.args.name.now c.self.inside.rows.entries c.self.invariant))
