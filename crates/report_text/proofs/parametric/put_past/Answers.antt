use Rattle.job_devices.proofs.TextLemmas.{writes_then, writes_same}
use Rattle.report_text.proofs.Verdicts.{all_texts}
use Rattle.report_text.proofs.parametric.put_past.Goals as goal

pub returns : goal.returns
returns g c =
    writes_then c.in_ok-put_end_head.ensures
    (writes_same (all_texts c.args.sheet c.number_of_variables-last.result c.number_of_variables-last.ensures.size c.args.table) c.put_table.ensures)
