use Rattle.std.proofs.Common.{◌≡◌, ◌∙◌, sym, ap, rules}
use Rattle.lp_definitions.specs.LinearProgram.{LinearProgram, Matrix, value_at}
use Rattle.check_definitions.specs.Checks.{reduced_cost}
use Rattle.long_programs.specs.Programs.{program_of}
use Rattle.long_programs.proofs.Moves.{matrix_at}
use Rattle.long_points.specs.Tests.{cost_test}
use Rattle.long_points.proofs.Holds.{told}
use Rattle.long_points.proofs.AtTheta.{reads_cost}
use Rattle.long_points.proofs.prices.reduced_costs_hold.Goals as goal

pub returns : goal.returns
returns c = λ values theta is.
    let p = c.args.prices.now.program.lp.now in
    let q = program_of p c.args.prices.now.program.change theta in
    let y = value_at values in
    let cols : c.lp.inside.cols ≡ p.cols = ap (λ (p : LinearProgram). p.cols) c.lp.view_is in
    let same : q.cols ≡ p.cols = ap (λ (a : Matrix). a.cols) (matrix_at p c.args.prices.now.program.change theta) in
    told (reduced_cost q y) (cost_test q y) (reads_cost q y) c.lp.inside.cols q.cols (cols ∙ sym same) c.in_ok-holds.holds
    (c.in_ok-holds.ensures (cost_test q y) (λ j holds first last met. search rules))
