-- The exit codes of statuses, and with which statuses a run may end.
use Rattle.std.specs.Prelude.{ℕ}
use Rattle.control_run.specs.declared.status.RunStatus.{RunStatus}
use Rattle.control_run.specs.declared.status.RunStatus.TheVariants as status

-- the exit code of a status
abbrev pub code_of : RunStatus → ℕ
code_of status.Done = 0
code_of status.Infeasible = 1
code_of status.Unbounded = 2
code_of status.Words = 4
code_of status.Control = 8
code_of status.Verb = 10
code_of status.Deck = 12
code_of status.Card = 13
code_of status.Limit = 16
code_of status.Statements = 17
code_of status.Overflow = 20
code_of status.ReadFault = 24
code_of status.PrintFault = 25
code_of status.PunchFault = 26
code_of status.Memory = 28

-- Words, control cards and the cards of a job are refused before its program runs, and the job is read before.
abbrev pub IsStatusOfRun : RunStatus → Type 0
IsStatusOfRun status.Words = ⊥
IsStatusOfRun status.Control = ⊥
IsStatusOfRun status.Card = ⊥
IsStatusOfRun status.ReadFault = ⊥
IsStatusOfRun _ = Unit {0}
