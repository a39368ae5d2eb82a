use Rattle.std.proofs.Common.{ap, rules, sym, ◌∙◌}
use Rattle.problem_definitions.specs.Names.{Name}
use Rattle.problem_definitions.specs.Problem.{Problem, has_row, has_combination}
use Rattle.deck_fields.specs.Views.{viewed}
use Rattle.revise_definitions.specs.Tests.{has_type_for, modified_fields_fault}
use Rattle.revise_edits.proofs.FaultParts.{modify_parts}
use Rattle.revise_edits.proofs.faults.modified_row_fault.Goals as goal

pub returns : goal.returns
returns c =
    let card = viewed c.args.card.now in
    let rows = ap (λ (p : Problem Name). p.rows) c.seen.view_is in
    modify_parts c.args.seen.now card c.changed_fields_fault.result (search rules)
    (sym (c.has.ensures ∙ ap (λ list. has_row list card.name1) rows) ∙ c.if-not-has.false)
    (sym (c.has_type_for.ensures ∙ ap (λ b. has_type_for b card) (c.has_combination.ensures ∙ ap (λ list. has_combination list card.name1) rows))
    ∙ c.if-not-has_type_for.false)
    (sym c.frees_ranged.ensures ∙ c.if-frees_ranged.false)
    (c.changed_fields_fault.ensures ∙ ap (λ (p : Problem Name). modified_fields_fault p card) c.seen.view_is)
