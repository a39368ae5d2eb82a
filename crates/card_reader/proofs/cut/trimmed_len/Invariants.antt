use Rattle.std.proofs.Common.{◌≡◌, ◌+◌, ◌≤◌, length, take}
use Rattle.std.specs.List.{suffix_len}
use Rattle.card_definitions.specs.Cards.{is_trailing}
use Rattle.card_reader.proofs.cut.trimmed_len.Given as goal

abbrev pub invariant-loop-len : goal.invariant-loop-len
invariant-loop-len l = (l.len ≤ length l.line) × (l.len + suffix_len is_trailing l.line ≡ length l.line + suffix_len is_trailing (take l.len l.line))

abbrev pub decreases-loop-len : goal.decreases-loop-len
decreases-loop-len l = l.len
