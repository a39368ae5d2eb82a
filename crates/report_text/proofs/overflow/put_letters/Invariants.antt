use Rattle.std.proofs.Common.{◌≡◌, ◌++◌, ℕ, List, Ok, length}
use Rattle.std.specs.List.{flat_map}
use Rattle.job_devices.specs.Text.{Writes}
use Rattle.report_text.specs.Views.{letters_of}
use Rattle.report_text.proofs.overflow.put_letters.Given as goal

-- what is written, and the letters that are left, are all letters
abbrev pub invariant-loop-rest : goal.invariant-loop-rest
invariant-loop-rest g l =
    (done : List ℕ) × (done ++ flat_map (letters_of g.T.Lettered.letter_of) l.rest ≡ flat_map (letters_of g.T.Lettered.letter_of) l.items)
    × Writes {T = Unit {0}} (g.P.Sink.taken l.fn.print) (g.P.Sink.taken l.print) (Ok tt) done

abbrev pub decreases-loop-rest : goal.decreases-loop-rest
decreases-loop-rest g l = length l.rest
