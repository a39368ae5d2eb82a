use Rattle.std.proofs.Common.{◌++◌, codes}
use Rattle.std.specs.List.{flat_map}
use Rattle.std.proofs.lemmas.Result.{err_from_is_err_and}
use Rattle.job_devices.proofs.TextLemmas.{writes_then, writes_more}
use Rattle.report_text.specs.Views.{letters_of}
use Rattle.report_text.proofs.overflow.put_letter_line.Goals as goal

pub returns-in_err-put_all : goal.returns-in_err-put_all
returns-in_err-put_all g c =
    let p = err_from_is_err_and c.from_residual.result c.from_residual.ensures.1 in
    rw (p.1, p.2) (writes_more (flat_map (letters_of g.T.Lettered.letter_of) c.args.items.now ++ codes "\n") c.in_err-put_all.ensures)

pub returns-in_err-put_letters : goal.returns-in_err-put_letters
returns-in_err-put_letters g c =
    let p = err_from_is_err_and c.from_residual-in_err-put_letters.result c.from_residual-in_err-put_letters.ensures.1 in
    rw (p.1, p.2) (writes_then c.in_ok-put_all.ensures (writes_more (codes "\n") c.in_err-put_letters.ensures))

pub returns : goal.returns
returns g c = writes_then c.in_ok-put_all.ensures (writes_then c.in_ok-put_letters.ensures c.put_all-2.ensures)
