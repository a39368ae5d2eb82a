use Rattle.std.proofs.Common.{◌++◌, List, ℕ, codes, ap₂, sym, ◌∙◌}
use Rattle.walk_definitions.specs.Words.{left_after}
use Rattle.listing_answers.proofs.intervals.take_part_head.Goals as goal

pub returns : goal.returns
returns c =
    ap₂ (λ (number value : List ℕ). left_after (codes "INTERVAL " ++ (number ++ (codes " FROM " ++ (value ++ codes " TO ")))) c.args.cursor.now)
    (sym (c.as_bytes-digits.ensures.value ∙ c.decimal.ensures)) (sym c.word.ensures) ∙ c.take_each.ensures
