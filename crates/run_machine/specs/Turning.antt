-- Where an act leads from a statement: to the next one, to another, or to the end of the run.
use Rattle.std.specs.Prelude.{ℕ, ◌+◌}
use Rattle.run_machine.specs.declared.act.Act.{Act}
use Rattle.run_machine.specs.declared.act.Act.TheVariants as act
use Rattle.run_machine.specs.declared.act.AfterStatement.{AfterStatement}
use Rattle.run_machine.specs.declared.act.AfterStatement.TheVariants as turn

abbrev pub turn_of : ℕ → Act → AfterStatement
turn_of position act.Next = turn.Goes (position + 1)
turn_of position (act.Jump to) = turn.Goes to
turn_of position (act.Ends end) = turn.Ends end
