-- Jobs that work on decks alone: they convert, revise and write out problems. No number of theirs can be too large.
--     IsPlain verb                 the verb selects no linear program, and asks nothing of one
--     IsPlainJob bytes             so does each statement of the job's program
--     PlainJobLaw                  such a job meets no evidence of an overflow, whatever its decks are
use Rattle.std.specs.Prelude.{◌≡◌, ℕ, List, Some, slice_get}
use Rattle.control_definitions.specs.Program.{Statement, Program, Verb, Initialz, Title, MoveName, MoveNumber, MoveLimit, Mvadr, Goto, Convert, Setup, Primal}
use Rattle.control_definitions.specs.Program.{Dual, Revise, Ranging, Paraobj, Pararhs, Solution, Bcdout, Punch, Insert, Exit}
use Rattle.run_definitions.specs.Answer.{IsProgramOf}
use Rattle.answer_definitions.specs.Real.{linear_programming}
use Rattle.determinism_laws.specs.Laws.{MeetsNoEvidence}

abbrev pub IsPlain : Verb ℕ → Type 0
IsPlain Initialz = Unit {0}
IsPlain (Title text) = Unit {0}
IsPlain (MoveName cell name) = Unit {0}
IsPlain (MoveNumber cell value) = Unit {0}
IsPlain (MoveLimit limit) = Unit {0}
IsPlain (Mvadr demand position) = Unit {0}
IsPlain (Goto position) = Unit {0}
IsPlain Convert = Unit {0}
IsPlain Revise = Unit {0}
IsPlain Bcdout = Unit {0}
IsPlain Exit = Unit {0}
IsPlain (Setup options) = ⊥
IsPlain Primal = ⊥
IsPlain Dual = ⊥
IsPlain Solution = ⊥
IsPlain Ranging = ⊥
IsPlain Paraobj = ⊥
IsPlain Pararhs = ⊥
IsPlain Punch = ⊥
IsPlain Insert = ⊥

-- a job whose cards or whose program have a fault has no statement
abbrev pub IsPlainJob : List ℕ → Type 0
IsPlainJob bytes = (program : Program) (k : ℕ) (statement : Statement ℕ) →
    IsProgramOf bytes program → slice_get program.statements k ≡ Some statement → IsPlain statement.verb

abbrev pub PlainJobLaw : Type 0
PlainJobLaw = (bytes : List ℕ) → IsPlainJob bytes → MeetsNoEvidence linear_programming bytes
