use Rattle.named_problem.specs.declared.rows.RowBody.{RowBody}
use Rattle.named_problem.specs.Additions.{AreNew}
use Rattle.std.specs.Option.{option_and_then}
use Rattle.std.proofs.Common.{[], ◌≡◌, ◌++◌, map, is_some, sym, ap, ◌∙◌, subst, unwrap_or}
use Rattle.std.specs.Map.{set_value}
use Rattle.std.proofs.lemmas.Result.{on_ok_weaker}
use Rattle.problem_definitions.specs.Names.{same}
use Rattle.deck_definitions.specs.DataCards.{parts_on, part_pairs_of}
use Rattle.deck_fields.specs.Views.{viewed}
use Rattle.named_problem.specs.Bodies.{row_at, body_with}
use Rattle.named_problem.proofs.NamedRows.{parts_written, no_parts_written, parts_found}
use Rattle.named_problem.proofs.rows.append_under.Goals as goal

pub returns-in_default : goal.returns-in_default
returns-in_default c =
    ap (λ m. map row_at m.entries) c.get_mut.follows.holds-at-none
    ∙ sym (no_parts_written c.args.card.now.name1 (λ parts. parts ++ parts_on (viewed c.args.card.now)) c.args.rows.now.entries
    (sym (ap is_some c.in_default.ensures.value)))

pub returns : goal.returns
returns c =
    on_ok_weaker {P = c.append.new.self ≡ body_with (λ parts. parts ++ parts_on (viewed c.args.card.now)) c.in-Some.body.now} c.append.result
    (λ e. ap (map row_at) ((c.get_mut.follows.holds c.append.new.self).0 ∙ ap (set_value (same c.args.card.now.name1) c.args.rows.now.entries) e)
    ∙ parts_written c.args.card.now.name1
    (λ parts. parts ++ parts_on (viewed c.args.card.now)) c.args.rows.now.entries c.in-Some.body.now c.get_mut.ensures.unique (sym c.in-Some.ensures.value))
    c.append.ensures

pub append-requires : goal.append-requires
append-requires c =
    subst (λ items. AreNew items (part_pairs_of (viewed c.args.card.now)))
    (sym (ap (λ o. unwrap_or (option_and_then (λ (body : RowBody). body.parts) o) []) c.in-Some.ensures.value
    ∙ parts_found c.args.card.now.name1 c.args.rows.now.entries c.get_mut.ensures.unique)) c.requires
