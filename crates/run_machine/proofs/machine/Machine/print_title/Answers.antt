use Rattle.std.proofs.lemmas.Result.{err_from_is_err_and}
use Rattle.run_machine.proofs.Titling.{title_done, title_cut}
use Rattle.run_machine.proofs.machine.Machine.print_title.Goals as goal

pub returns-in_err-text_of : goal.returns-in_err-text_of
returns-in_err-text_of g c = λ card cards.
    let p = err_from_is_err_and c.from_residual.result c.from_residual.ensures.1 in
    rw (p.1, p.2)
    (title_cut g.S.Kept.shows c.args.text.now card cards c.args.self.now _ c.bytes.result.now c.bytes.ensures.bytes c.in_err-text_of.ensures)

pub returns : goal.returns
returns g c = λ card cards.
    title_done g.S.Kept.shows c.args.text.now card cards c.args.self.now c.bytes.result.now c.bytes.ensures.bytes c.in_ok-text_of.ensures
