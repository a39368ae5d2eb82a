use Rattle.report_text.specs.Views.{ending_view}
use Rattle.mps_cli.proofs.EndingAnswers.{end_printed, end_cut}
use Rattle.mps_cli.proofs.end.end_job.Goals as goal

pub returns-in-Ok : goal.returns-in-Ok
returns-in-Ok g c =
    end_printed (ending_view c.ending.result) c.args.stop c.ending.ensures.viewed c.status_of.result c.status_of.ensures c.in-Ok.ensures

pub returns-in-Err : goal.returns-in-Err
returns-in-Err g c =
    end_cut (ending_view c.ending.result) c.args.stop c.ending.ensures.viewed c.in-Err.cut c.status_of_cut.result c.status_of_cut.ensures c.in-Err.ensures
