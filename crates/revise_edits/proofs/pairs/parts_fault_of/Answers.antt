use Rattle.std.proofs.Common.{[], ◌++◌, take, unwrap_or, sym, ap, ap₂, ◌∙◌}
use Rattle.std.specs.Option.{option_copied}
use Rattle.deck_definitions.specs.declared.Section.TheVariants.{Rows}
use Rattle.deck_definitions.specs.DataCards.{part_pairs_of}
use Rattle.deck_definitions.specs.Tests.{pairs_fault}
use Rattle.deck_fields.specs.Views.{viewed, pair_view}
use Rattle.named_problem.specs.Views.{rows_alone}
use Rattle.revise_edits.proofs.TwoPairs.{pairs_found_two}
use Rattle.revise_edits.proofs.pairs.parts_fault_of.Goals as goal

pub returns-in_default : goal.returns-in_default
returns-in_default c =
    c.part_fault_if.ensures ∙ ap (pairs_fault (rows_alone (take c.args.limit c.args.rows.now)) Rows (unwrap_or (option_copied c.args.parts) []) 0)
    (ap₂ (λ first rest. first ++ rest) c.in_default.ensures c.second_pair.ensures)

pub returns-in-Some-second_pair : goal.returns-in-Some-second_pair
returns-in-Some-second_pair c =
    pairs_found_two (rows_alone (take c.args.limit c.args.rows.now)) Rows
    (unwrap_or (option_copied c.args.parts) []) 0 c.first_of.result c.part_fault_at-fault.result c.part_fault_at-other.result
    c.stands_on-is_first.result c.is_second_there-is_second.result (pair_view c.in-Some.first) (pair_view c.in-Some-second_pair.second)
    (part_pairs_of (viewed c.args.card.now))
    c.first_of.ensures c.part_fault_at-fault.ensures c.stands_on-is_first.ensures c.part_fault_at-other.ensures c.is_second_there-is_second.ensures
    (sym (ap₂ (λ first rest. first ++ rest) c.in-Some.ensures c.in-Some-second_pair.ensures))
