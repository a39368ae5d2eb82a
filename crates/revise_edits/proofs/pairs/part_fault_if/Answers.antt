use Rattle.std.proofs.Common.{[], take, option_map, unwrap_or, ap}
use Rattle.std.specs.Option.{option_copied, option_to_list}
use Rattle.deck_definitions.specs.declared.Section.TheVariants.{Rows}
use Rattle.deck_fields.specs.Views.{pair_view}
use Rattle.named_problem.specs.Views.{rows_alone}
use Rattle.revise_edits.proofs.TwoPairs.{pairs_found_one}
use Rattle.revise_edits.proofs.pairs.part_fault_if.Goals as goal

pub returns-in-Some : goal.returns-in-Some
returns-in-Some c =
    pairs_found_one (rows_alone (take c.args.limit c.args.rows.now)) Rows
    (unwrap_or (option_copied c.args.parts) []) 0 c.part_fault_at.result c.stands_on.result
    (pair_view c.in-Some.part) _ c.part_fault_at.ensures c.stands_on.ensures
    (ap (λ o. option_to_list (option_map pair_view o)) c.in-Some.is)
