use Rattle.std.proofs.Common.{◌≡◌, ◌≤◌, ℕ, vec_len}
use Rattle.lp_definitions.specs.LinearProgram.{value_at}
use Rattle.verb_answers.specs.Slack.{slack_at}
use Rattle.verb_answers.proofs.slack.slacks.Given as goal

abbrev pub invariant-loop-k : goal.invariant-loop-k
invariant-loop-k l =
    record { places : vec_len l.values ≡ l.k; slacks : (i : ℕ) → 1 ≤ i → i ≤ l.k → value_at l.values.items i ≡ slack_at l.lp (value_at l.point) i }
