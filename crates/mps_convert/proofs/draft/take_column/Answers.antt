use Rattle.std.proofs.Common.{◌+◌, ◌≤◌, length, sum_by, ap, ap₂, sym, ◌∙◌, arith}
use Rattle.problem_definitions.proofs.Added.{items-added}
use Rattle.deck_definitions.specs.DataCards.{entries_of}
use Rattle.named_problem.specs.Views.{columns_alone}
use Rattle.deck_fields.specs.Views.{viewed}
use Rattle.mps_convert.proofs.DataTaken.{few_left}
use Rattle.mps_convert.proofs.draft.take_column.Goals as goal
use Rattle.problem_definitions.specs.declared.TheConstants.{MAX_ENTRIES}

pub returns-in-Ok-clause-counted : goal.returns-in-Ok-clause-counted
returns-in-Ok-clause-counted c =
    ap₂ (λ m n. m + n) c.requires.counted c.pair_count.ensures.count
    ∙ sym (items-added c.args.card.now.name1 (entries_of (viewed c.args.card.now)) c.args.columns.now c.len.ensures.distinct)
    ∙ ap (sum_by (λ column. length column.items)) (sym c.in-Ok.ensures.step)

pub returns-in-Ok-clause-few : goal.returns-in-Ok-clause-few
returns-in-Ok-clause-few c =
    let few : sum_by (λ column. length column.items) c.args.columns.now ≤ MAX_ENTRIES = omega (arith, c.requires.counted, c.requires.few) in
    let left = few_left (columns_alone c.args.rows.now c.args.columns.now) (viewed c.args.card.now) c.in-Ok.ensures.no_fault few in
    omega (arith, left, c.requires.counted, c.pair_count.ensures.count)
