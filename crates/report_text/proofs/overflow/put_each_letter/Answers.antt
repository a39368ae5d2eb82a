use Rattle.std.proofs.Common.{◌∙◌, ap}
use Rattle.std.proofs.lemmas.Result.{err_from_is_err_and}
use Rattle.job_devices.proofs.TextLemmas.{writes_item, writes_same}
use Rattle.report_text.specs.Views.{letters_of}
use Rattle.report_text.proofs.overflow.put_each_letter.Goals as goal

pub returns-in_err-put_all : goal.returns-in_err-put_all
returns-in_err-put_all g c =
    let p = err_from_is_err_and c.from_residual.result c.from_residual.ensures.1 in
    rw (p.1, p.2)
    (writes_item (letters_of g.T.Lettered.letter_of) c.args.items.now c.loop-item.item-index c.item-item.result c.loop-item-test.true c.loop-item.invariant
    (writes_same (c.letter.ensures ∙ ap (letters_of g.T.Lettered.letter_of) c.item-item.is) c.in_err-put_all.ensures))
