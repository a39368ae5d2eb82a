-- The choices of the text are what is chosen, and those of the rest; the rest gets shorter.
use Rattle.std.proofs.Common.{◌≡◌, ℕ, suc, List, Option, Some, None, length}
use Rattle.std.specs.Prelude.{option_and_then}
use denote.Ref.{Bor}
use Rattle.control_definitions.specs.Statements.{split_outside, is_comma}
use Rattle.control_definitions.specs.Arguments.{choices}
use Rattle.control_verbs.specs.Pieces.{parts_after}
use Rattle.control_verbs.specs.Chosen.{all_added, nothing_chosen}
use Rattle.control_verbs.proofs.options.chosen_in.Given as goal

abbrev bytes_left : Option (Bor (List ℕ)) → ℕ
bytes_left None = 0
bytes_left (Some rest) = suc (length rest.now)

abbrev pub invariant-loop-rest : goal.invariant-loop-rest
invariant-loop-rest l =
    option_and_then (all_added l.chosen) (choices (parts_after l.rest)) ≡ option_and_then (all_added nothing_chosen)
    (choices (split_outside is_comma l.fn.text))

abbrev pub decreases-loop-rest : goal.decreases-loop-rest
decreases-loop-rest l = bytes_left l.rest
