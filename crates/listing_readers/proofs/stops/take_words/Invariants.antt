use Rattle.std.proofs.Common.{◌≡◌, drop}
use Rattle.walk_definitions.specs.Forms.{left_by}
use Rattle.std.specs.List.{flat_map}
use Rattle.listing_readers.specs.Pieces.{labelled}
use Rattle.listing_readers.proofs.stops.take_words.Given as goal

abbrev pub invariant-loop-word : goal.invariant-loop-word
invariant-loop-word l = left_by (flat_map labelled l.fn.words) l.fn.cursor ≡ left_by (flat_map labelled (drop l.word-index l.fn.words)) l.cursor
