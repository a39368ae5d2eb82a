-- BCDOUT punches the deck of the problem that was found, and prints its line.
use Rattle.std.proofs.Common.{sym}
use Rattle.std.proofs.lemmas.Result.{err_from_is_err_and}
use Rattle.run_machine.proofs.Punching.{no_problem_punched, deck_cut, deck_punched, deck_line_cut}
use Rattle.run_machine.proofs.machine.Machine.punch_problem.Goals as goal

pub returns-in_default : goal.returns-in_default
returns-in_default g c = λ cards.
    rw c.act.ensures
    (no_problem_punched g.S.Kept.shows c.args.card cards c.args.self.now (g.P.Sink.taken c.args.print.now) (g.U.Sink.taken c.args.punch.now)
    (sym c.in_default.ensures))

pub returns-in-Err : goal.returns-in-Err
returns-in-Err g c = λ cards.
    deck_cut g.S.Kept.shows c.args.card cards c.args.self.now c.in-Some.problem.now (sym c.in-Some.ensures)
    (g.P.Sink.taken c.args.print.now) c.in-Err.stop c.in-Err.ensures.text

pub returns-in_err-text_of : goal.returns-in_err-text_of
returns-in_err-text_of g c = λ cards.
    let p = err_from_is_err_and c.from_residual.result c.from_residual.ensures.1 in
    rw (p.1, p.2)
    (deck_line_cut g.S.Kept.shows c.args.card cards c.args.self.now c.in-Some.problem.now (sym c.in-Some.ensures)
    c.name.result c.name.ensures.name c.in-Ok.count c.in-Ok.ensures.count c.in-Ok.ensures.text _ c.in_err-text_of.ensures)

pub returns : goal.returns
returns g c = λ cards.
    deck_punched g.S.Kept.shows c.args.card cards c.args.self.now c.in-Some.problem.now (sym c.in-Some.ensures)
    c.name.result c.name.ensures.name c.in-Ok.count c.in-Ok.ensures.count c.in-Ok.ensures.text c.in_ok-text_of.ensures
