use Rattle.std.proofs.Common.{◌≡◌, ap, rules}
use Rattle.lp_definitions.specs.LinearProgram.{LinearProgram, value_at}
use Rattle.walk_definitions.specs.Tests.{slack_steps}
use Rattle.long_points.specs.Tests.{slack_test}
use Rattle.long_points.proofs.Holds.{told}
use Rattle.long_points.proofs.AtTheta.{reads_slack}
use Rattle.long_points.proofs.slacks.slacks_hold.Goals as goal

pub returns : goal.returns
returns c = λ values problem over.
    let p = c.args.lp.now in
    let z = value_at values in
    let s = value_at c.args.slacks.now in
    let rows : c.lp.inside.rows ≡ p.rows = ap (λ (p : LinearProgram). p.rows) c.lp.view_is in
    told (slack_steps (record { problem = problem; lp = p }) z s) (slack_test p z s) (reads_slack p problem z s) c.lp.inside.rows p.rows rows
    c.in_ok-holds.holds (c.in_ok-holds.ensures (slack_test p z s) (λ i holds first last met. search rules))
