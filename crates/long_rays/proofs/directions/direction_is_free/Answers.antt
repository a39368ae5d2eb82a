use Rattle.std.proofs.Common.{◌≡◌, ◌∙◌, sym, ap, true, false, arith, rules}
use Rattle.lp_definitions.specs.LinearProgram.{value_at, size}
use Rattle.check_definitions.specs.Checks.{free_to_move}
use Rattle.long_programs.specs.Programs.{program_of}
use Rattle.long_programs.proofs.Moves.{matrix_at}
use Rattle.long_points.proofs.Holds.{all_passed, one_failed, one_more}
use Rattle.long_rays.specs.Tests.{free_test}
use Rattle.long_rays.proofs.Reading.{reads_free}
use Rattle.long_rays.proofs.directions.direction_is_free.Goals as goal

pub returns-then-not-is_free_to_move : goal.returns-then-not-is_free_to_move
returns-then-not-is_free_to_move c = λ change x d over.
    let q = program_of c.args.lp.now change x in
    let same : size q.matrix ≡ size c.args.lp.now.matrix = ap size (matrix_at c.args.lp.now change x) in
    let v = value_at d in
    let failed : c.is_free_to_move.result ≡ false = search rules in
    one_failed (free_to_move q v) (free_test q v) (reads_free q v) (size q.matrix) c.loop-i.i
    (omega (arith, same, c.number_of_variables-i-end.ensures.size, c.loop-i-test.true))
    (sym (c.is_free_to_move.ensures change x d over) ∙ failed)

pub loop-i-preserved : goal.loop-i-preserved
loop-i-preserved c = λ change x d over.
    let passed : c.is_free_to_move.result ≡ true = search rules in
    one_more (free_test (program_of c.args.lp.now change x) (value_at d)) c.loop-i.i (c.loop-i.invariant change x d over)
    (sym (c.is_free_to_move.ensures change x d over) ∙ passed)

pub returns : goal.returns
returns c = λ change x d over.
    let q = program_of c.args.lp.now change x in
    let same : size q.matrix ≡ size c.args.lp.now.matrix = ap size (matrix_at c.args.lp.now change x) in
    let v = value_at d in
    all_passed (free_to_move q v) (free_test q v) (reads_free q v) (size q.matrix) c.loop-i.i
    (omega (arith, same, c.number_of_variables-i-end.ensures.size, c.loop-i-test.false)) (c.loop-i.invariant change x d over)
