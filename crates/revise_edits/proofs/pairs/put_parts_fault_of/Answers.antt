use Rattle.std.proofs.Common.{[], ◌++◌, take, option_map, ap, ap₂, ◌∙◌, sym}
use Rattle.std.specs.Option.{option_or}
use Rattle.deck_definitions.specs.declared.Section.TheVariants.{Rows}
use Rattle.deck_fields.specs.Views.{pair_view}
use Rattle.named_problem.specs.Views.{rows_alone}
use Rattle.revise_definitions.specs.Tests.{puts_fault}
use Rattle.revise_edits.proofs.TwoPairs.{put_parts}
use Rattle.revise_edits.proofs.pairs.put_parts_fault_of.Goals as goal

pub returns : goal.returns
returns c =
    c.first_of.ensures ∙ ap₂ option_or c.put_part_fault_if.ensures c.put_part_fault_if-2.ensures
    ∙ sym (put_parts (take c.args.limit c.args.rows.now) (option_map pair_view c.first_part.result) (option_map pair_view c.second_pair.result))
    ∙ ap (puts_fault (rows_alone (take c.args.limit c.args.rows.now)) Rows [] 0) (ap₂ (λ first rest. first ++ rest) c.first_part.ensures c.second_pair.ensures)
