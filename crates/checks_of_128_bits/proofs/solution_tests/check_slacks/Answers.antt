use Rattle.std.proofs.Common.{rules}
use Rattle.lp_definitions.specs.LinearProgram.{value_at}
use Rattle.walk_definitions.specs.Tests.{slack_steps}
use Rattle.certificate_check.proofs.Each.{each_left}
use Rattle.listing_words.specs.Read.{sheet_view}
use Rattle.checks_of_128_bits.proofs.Passing.{each_exit, each_goes_on, each_ends}
use Rattle.checks_of_128_bits.proofs.solution_tests.check_slacks.Goals as goal

pub loop-i-init : goal.loop-i-init
loop-i-init c = each_left (slack_steps (sheet_view c.args.sheet) (value_at c.args.point.now) (value_at c.args.slacks.now)) c.args.sheet.lp.now.rows

pub returns-in_err-check_slack : goal.returns-in_err-check_slack
returns-in_err-check_slack c =
    each_exit (slack_steps (sheet_view c.args.sheet) (value_at c.args.point.now)
    (value_at c.args.slacks.now)) c.args.sheet.lp.now.rows c.loop-i.i c.from_residual.result c.in_err-check_slack.field-0.0
    c.loop-i.invariant (search rules) c.in_err-check_slack.ensures c.from_residual.ensures.1

pub loop-i-preserved : goal.loop-i-preserved
loop-i-preserved c =
    each_goes_on
    (slack_steps (sheet_view c.args.sheet) (value_at c.args.point.now) (value_at c.args.slacks.now)) c.args.sheet.lp.now.rows c.loop-i.i c.loop-i.invariant
    (search rules) c.in_ok-check_slack.ensures

pub returns : goal.returns
returns c =
    each_ends (slack_steps (sheet_view c.args.sheet) (value_at c.args.point.now) (value_at c.args.slacks.now)) c.args.sheet.lp.now.rows c.loop-i.i
    (search rules) c.loop-i.invariant
