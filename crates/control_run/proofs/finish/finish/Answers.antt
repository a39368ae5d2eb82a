use Rattle.run_machine.specs.Ends.{end_view}
use Rattle.report_text.specs.Views.{ending_view}
use Rattle.control_run.proofs.EndingLines.{lines_cut}
use Rattle.control_run.proofs.finish.finish.Goals as goal

pub returns-in-Err-clause-finishes : goal.returns-in-Err-clause-finishes
returns-in-Err-clause-finishes g c =
    lines_cut (ending_view c.ending_of.result)
    (end_view c.args.end.now) c.ending_of.ensures.viewed c.in-Err.stop c.status_of_cut.result c.status_of_cut.ensures.cut c.in-Err.ensures
