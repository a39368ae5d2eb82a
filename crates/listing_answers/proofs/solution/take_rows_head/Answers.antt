use Rattle.std.proofs.Common.{◌++◌, List, ℕ, codes, ap, sym, ◌∙◌}
use Rattle.walk_definitions.specs.Words.{left_after}
use Rattle.listing_answers.proofs.solution.take_rows_head.Goals as goal

pub returns : goal.returns
returns c =
    ap (λ (mark : List ℕ). left_after
    (codes "SOLUTION " ++ (mark ++ codes "\nSECTION 1 - ROWS\nNUMBER ROW AT ACTIVITY SLACK LOWER UPPER DUAL\n")) c.args.cursor.now) (sym c.mark_word.ensures)
    ∙ c.take_each.ensures
