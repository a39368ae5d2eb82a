use Rattle.std.proofs.Common.{Ok, take}
use Rattle.std.specs.List.{flat_map}
use Rattle.job_devices.specs.Text.{Writes}
use Rattle.report_text.specs.Views.{letters_of}
use Rattle.report_text.proofs.overflow.put_each_letter.Given as goal

abbrev pub invariant-loop-item : goal.invariant-loop-item
invariant-loop-item g l =
    Writes {T = Unit {0}} (g.P.Sink.taken l.fn.print) (g.P.Sink.taken l.print) (Ok tt)
    (flat_map (letters_of g.T.Lettered.letter_of) (take l.item-index l.items))
