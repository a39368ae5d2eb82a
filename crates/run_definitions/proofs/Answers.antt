-- Answers to jobs, shown to be lawful.
use Rattle.std.specs.Prelude.{◌≡◌, refl, ℕ, List, [], ◌∷◌, codes, None, Ok}
use Rattle.std.proofs.Common.{lit<}
use Rattle.card_definitions.specs.Cards.{cards_of, job_fault}
use Rattle.control_definitions.specs.Program.{Program, Title}
use Rattle.control_definitions.specs.Statements.{label_of, statement_of}
use Rattle.control_definitions.specs.Verbs.{verb_of}
use Rattle.control_definitions.specs.Compiled.{control_fault, control_card_fault, compiled}
use Rattle.listing_definitions.specs.Numbers.{digits}
use Rattle.listing_definitions.specs.Report.{Titled}
use Rattle.listing_definitions.specs.Ending.{Ended, WordsRefused, ControlStop, ReadFault, Memory}
use Rattle.run_definitions.specs.State.{State, start}
use Rattle.run_definitions.specs.Moves.{Prints, StatementOutcome, next}
use Rattle.run_definitions.specs.Verbs.{verb_move}
use Rattle.run_definitions.specs.Run.{counted, Step, begun, stepped, is_over, at_end, IsRun}
use Rattle.run_definitions.specs.Answer.{Failures, WithoutBytes, Read, Made, job_decks, control_fault as by_control_fault, run, IsJobRun, words_refused}
use Rattle.run_definitions.specs.Answer.{read_fails, by_itself, memory_at_start, IsSoFar, in_report, in_end, whole, print_fails, IsAnswer}
use Rattle.run_definitions.proofs.Courses.{silent}

-- nothing fails; a read fails; a write to the print fails
none_fails : Failures
none_fails = record { read = ⊥; print = ⊥; punch = ⊥; memory = ⊥ }

read_fault : Failures
read_fault = record { read = Unit {0}; print = ⊥; punch = ⊥; memory = ⊥ }

print_fault : Failures
print_fault = record { read = ⊥; print = Unit {0}; punch = ⊥; memory = ⊥ }

words : IsAnswer silent WithoutBytes none_fails (record { status = 4; printed = codes "STOP 4 WORDS\n"; punched = [] })
words = whole WordsRefused (words_refused refl) refl refl refl

unread : IsAnswer silent (Read (codes "EXIT\n")) read_fault (record { status = 24; printed = codes "STOP 24 READ FAULT\n"; punched = [] })
unfolding read_fault
unread = whole ReadFault (read_fails _ refl tt) refl refl refl

empty_job : IsAnswer silent (Read []) none_fails (record { status = 8; printed = codes "STOP 8 CONTROL FAULT 1 CARD 0\n"; punched = [] })
unfolding job_fault cards_of compiled control_fault control_card_fault verb_of label_of statement_of digits
empty_job = whole (ControlStop (record { number = 1; card = 0 })) (by_itself [] refl (by_control_fault _ refl refl)) refl refl refl

-- ---- a job that prints a title

title_bytes : List ℕ
title_bytes = codes "         PROGRAM\n         TITLE('A B')\n         PEND\n"

title_program : Program
title_program = record { statements = record { card = 2; verb = Title (codes "A B") } ∷ []; decks_from = 4 }

title_read : job_fault title_bytes ≡ None
unfolding title_bytes job_fault cards_of
title_read = refl

title_compiled : compiled (cards_of title_bytes) ≡ Ok title_program
unfolding title_bytes title_program compiled control_fault control_card_fault verb_of label_of statement_of cards_of
title_compiled = refl

title_run : IsRun silent title_program (job_decks title_program title_bytes) (Titled (codes "A B") ∷ []) [] (Ended 0)
unfolding title_program verb_move
title_run =
    is_over (stepped (Prints (Titled (codes "A B"))) _ begun (record { statement = _; is_at_position = refl; is_within_limit = lit< tt; gives = refl }))
    (at_end (lit< tt))

title_job : IsJobRun silent title_bytes (Titled (codes "A B") ∷ []) [] (Ended 0)
title_job = run title_program (record { is_read = title_read; is_compiled = title_compiled }) title_run

title_answer : IsAnswer silent (Read title_bytes) none_fails (record { status = 0; printed = codes "TITLE A B\nEND 0\n"; punched = [] })
unfolding digits
title_answer = whole (Ended 0) (by_itself title_bytes refl title_job) refl refl refl

-- the print fails in the middle of the title, and the job was made
title_start : State
title_start = start (job_decks title_program title_bytes)

title_outcome : StatementOutcome
title_outcome = next (Prints (Titled (codes "A B"))) (counted title_start)

title_step : Step silent title_program title_start title_outcome
unfolding title_program title_start title_outcome verb_move
title_step = record { statement = _; is_at_position = refl; is_within_limit = lit< tt; gives = refl }

title_so_far : IsSoFar silent title_bytes [] [] title_program title_start
unfolding title_start
title_so_far = record { is_program = record { is_read = title_read; is_compiled = title_compiled }; reaches = begun }

title_cut : IsAnswer silent (Made title_bytes) print_fault (record { status = 25; printed = codes "TITLE"; punched = [] })
unfolding print_fault title_outcome
title_cut =
    print_fails tt refl
    (in_report title_bytes title_program title_start title_outcome (codes "TITLE") refl title_so_far title_step (codes " A B\n", refl) refl refl)

-- the print fails in the middle of the last line
title_end_cut : IsAnswer silent (Made title_bytes) print_fault (record { status = 25; printed = codes "TITLE A B\nEN"; punched = [] })
unfolding digits print_fault
title_end_cut = print_fails tt refl (in_end (Ended 0) (codes "EN") (by_itself title_bytes refl title_job) (codes "D 0\n", refl) refl refl)

-- memory runs out before there is a report
title_memory : IsAnswer silent (Read title_bytes) none_fails (record { status = 28; printed = codes "STOP 28 MEMORY\n"; punched = [] })
title_memory = whole Memory memory_at_start refl refl (record { part = []; is_prefix = ([], refl); is_gained = refl })
