use Rattle.std.proofs.Common.{[], ◌∷◌, unwrap_or, ap₂, sym}
use Rattle.std.specs.Option.{option_copied}
use Rattle.deck_definitions.specs.DataCards.{pairs_of}
use Rattle.deck_fields.specs.Views.{viewed, pair_view}
use Rattle.revise_edits.proofs.TwoPairs.{puts_found_one, puts_found_two}
use Rattle.revise_edits.proofs.pairs.puts_fault_of.Goals as goal

pub returns-in-Some : goal.returns-in-Some
returns-in-Some c =
    puts_found_two c.args.seen.now c.args.section
    (unwrap_or (option_copied c.args.items) []) c.args.count c.first_of.result c.put_fault_at-fault.result c.put_fault_at-other.result
    c.stands_on-is_first.result c.is_second_there-is_second.result c.count_with-more.result (pair_view c.first_pair-first.result) (pair_view c.in-Some.second)
    (pairs_of (viewed c.args.card.now))
    c.first_of.ensures c.put_fault_at-fault.ensures c.stands_on-is_first.ensures c.put_fault_at-other.ensures c.is_second_there-is_second.ensures
    c.count_with-more.ensures
    (sym (ap₂ (λ first rest. first ∷ rest) c.first_pair-first.ensures c.in-Some.ensures))

pub returns-in-None : goal.returns-in-None
returns-in-None c =
    puts_found_one c.args.seen.now c.args.section
    (unwrap_or (option_copied c.args.items) []) c.args.count c.put_fault_at-fault.result c.stands_on-is_first.result
    (pair_view c.first_pair-first.result) (pairs_of (viewed c.args.card.now)) c.put_fault_at-fault.ensures c.stands_on-is_first.ensures
    (sym (ap₂ (λ first rest. first ∷ rest) c.first_pair-first.ensures c.in-None.ensures))
