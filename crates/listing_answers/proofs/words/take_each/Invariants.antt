use Rattle.std.proofs.Common.{◌≡◌, drop}
use Rattle.std.specs.List.{flat_map}
use Rattle.walk_definitions.specs.Words.{left_after}
use Rattle.listing_answers.proofs.words.take_each.Given as goal

abbrev pub invariant-loop-text : goal.invariant-loop-text
invariant-loop-text l =
    left_after (flat_map (λ text. text.now) l.fn.texts) l.fn.cursor ≡ left_after (flat_map (λ text. text.now) (drop l.text-index l.fn.texts)) l.cursor
