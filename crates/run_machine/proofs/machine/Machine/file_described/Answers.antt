-- The problem that was found is on file, and is reported.
use Rattle.std.proofs.lemmas.Result.{err_from_is_err_and}
use Rattle.run_definitions.specs.Moves.{DecidesAlone}
use Rattle.run_machine.specs.Describing.{verb_of}
use Rattle.run_machine.proofs.Giving.{quietly}
use Rattle.run_machine.proofs.Filing.{filed_done, filed_cut}
use Rattle.run_machine.proofs.machine.Machine.file_described.Goals as goal

pub returns-in-Ends-clause-acts : goal.returns-in-Ends-clause-acts
returns-in-Ends-clause-acts g c =
    let d = rw c.in-Ends.is at c.requires.described in
    quietly g.S.Kept.shows DecidesAlone (verb_of c.args.verb) c.args.card c.args.cards.now c.args.self.now (g.P.Sink.taken c.args.print.now) d

pub returns-in_err-text_of-in-Filed-clause-acts : goal.returns-in_err-text_of-in-Filed-clause-acts
returns-in_err-text_of-in-Filed-clause-acts g c =
    let d = rw c.in-Filed.is at c.requires.described in
    let p = err_from_is_err_and c.from_residual-in_err-text_of-in-Filed.result c.from_residual-in_err-text_of-in-Filed.ensures.1 in
    rw (p.1, p.2)
    (filed_cut g.S.Kept.shows c.args.verb c.args.card c.args.cards.now c.args.self.now c.in-Filed.problem c.in-Filed.next c.put.new.self d
    c.in_ok-put-in-Filed.ensures.filed c.in_ok-put-in-Filed.ensures.last c.args.self.now _
    (rw c.filed_report-report.ensures.text at c.in_err-text_of-in-Filed.ensures))

pub returns-in_ok-text_of-in-Filed-clause-acts : goal.returns-in_ok-text_of-in-Filed-clause-acts
returns-in_ok-text_of-in-Filed-clause-acts g c =
    let d = rw c.in-Filed.is at c.requires.described in
    filed_done g.S.Kept.shows c.args.verb c.args.card c.args.cards.now c.args.self.now c.in-Filed.problem c.in-Filed.next c.put.new.self d
    c.in_ok-put-in-Filed.ensures.filed c.in_ok-put-in-Filed.ensures.last (rw c.filed_report-report.ensures.text at c.in_ok-text_of-in-Filed.ensures)
