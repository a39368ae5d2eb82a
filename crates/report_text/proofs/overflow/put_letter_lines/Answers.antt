use Rattle.std.proofs.Common.{codes}
use Rattle.std.proofs.lemmas.Result.{err_from_is_err_and}
use Rattle.job_devices.proofs.TextLemmas.{writes_then, writes_more}
use Rattle.listing_definitions.specs.Listing.{basic_letter}
use Rattle.report_text.specs.Views.{letter_line}
use Rattle.report_text.proofs.overflow.put_letter_lines.Goals as goal

pub returns-in_err-put_letter_line : goal.returns-in_err-put_letter_line
returns-in_err-put_letter_line g c =
    let p = err_from_is_err_and c.from_residual.result c.from_residual.ensures.1 in
    rw (p.1, p.2) (writes_more (letter_line (codes "WAY ") basic_letter c.args.way.now) c.in_err-put_letter_line.ensures)

pub returns : goal.returns
returns g c = writes_then c.in_ok-put_letter_line.ensures c.put_letter_line-2.ensures
