use Rattle.std.proofs.Common.{◌≡◌, ap, rules}
use Rattle.lp_definitions.specs.LinearProgram.{LinearProgram, value_at}
use Rattle.check_definitions.specs.Checks.{ray_column}
use Rattle.long_points.proofs.Holds.{told}
use Rattle.long_rays.specs.Tests.{vanish_test}
use Rattle.long_rays.proofs.Reading.{reads_column}
use Rattle.long_rays.proofs.vanishing.ray_vanishes.Goals as goal

pub returns : goal.returns
returns c = λ w over.
    let p = c.args.lp.now in
    let y = value_at w in
    let cols : c.lp.inside.cols ≡ p.cols = ap (λ (p : LinearProgram). p.cols) c.lp.view_is in
    told (ray_column p y) (vanish_test p y) (reads_column p y) c.lp.inside.cols p.cols cols c.in_ok-holds.holds
    (c.in_ok-holds.ensures (vanish_test p y) (λ j holds first last met. search rules))
