use Rattle.std.proofs.Common.{[], ◌∷◌, unwrap_or, ap₂, sym}
use Rattle.std.specs.Option.{option_copied}
use Rattle.deck_definitions.specs.declared.Section.TheVariants.{Columns}
use Rattle.deck_definitions.specs.DataCards.{pairs_of}
use Rattle.deck_fields.specs.Views.{viewed, pair_view}
use Rattle.revise_edits.proofs.TwoPairs.{pairs_found_one, pairs_found_two}
use Rattle.revise_edits.proofs.pairs.pairs_fault_of.Goals as goal

pub returns-in-Some : goal.returns-in-Some
returns-in-Some c =
    pairs_found_two c.args.seen.now Columns
    (unwrap_or (option_copied c.args.items) []) c.args.count c.first_of.result c.pair_fault_at-fault.result c.pair_fault_at-other.result
    c.stands_on-is_first.result c.is_second_there-is_second.result (pair_view c.first_pair-first.result) (pair_view c.in-Some.second)
    (pairs_of (viewed c.args.card.now))
    c.first_of.ensures c.pair_fault_at-fault.ensures c.stands_on-is_first.ensures c.pair_fault_at-other.ensures c.is_second_there-is_second.ensures
    (sym (ap₂ (λ first rest. first ∷ rest) c.first_pair-first.ensures c.in-Some.ensures))

pub returns-in-None : goal.returns-in-None
returns-in-None c =
    pairs_found_one c.args.seen.now Columns (unwrap_or (option_copied c.args.items) []) c.args.count c.pair_fault_at-fault.result c.stands_on-is_first.result
    (pair_view c.first_pair-first.result) (pairs_of (viewed c.args.card.now)) c.pair_fault_at-fault.ensures c.stands_on-is_first.ensures
    (sym (ap₂ (λ first rest. first ∷ rest) c.first_pair-first.ensures c.in-None.ensures))
