use Rattle.std.proofs.Common.{◌+◌, ◌∙◌, arith, sym, ap}
use Rattle.lp_definitions.specs.LinearProgram.{LinearProgram}
use Rattle.lp_laws.proofs.Uniqueness.{is_in-basics_of}
use Rattle.setup_verbs.proofs.Counting.{not_counted, counted_in}
use Rattle.setup_verbs.proofs.insert.basic_count.Goals as goal

pub loop-c-preserved-then-not-stands_basic : goal.loop-c-preserved-then-not-stands_basic
loop-c-preserved-then-not-stands_basic c =
    let lp : LinearProgram = c.args.lp.now in
    let h = c.loop-c.invariant in
    let rows = ap (λ (p : LinearProgram). p.rows) c.lp.view_is in
    let cols = ap (λ (p : LinearProgram). p.cols) c.lp.view_is in
    let column = c.lp.inside.rows + c.loop-c.c + 1 in
    let mark =
    sym (is_in-basics_of c.args.basis.now column (omega arith) (omega (arith, c.requires, c.loop-c-test.true, rows, cols))) ∙ sym c.stands_basic.ensures
    ∙ c.if-not-stands_basic.true in
    let is = not_counted lp c.args.basis.now c.loop-c.c column (omega (arith, rows)) mark in
    (omega (arith, h.0, is), omega (arith, h.1))

pub loop-c-preserved : goal.loop-c-preserved
loop-c-preserved c =
    let lp : LinearProgram = c.args.lp.now in
    let h = c.loop-c.invariant in
    let rows = ap (λ (p : LinearProgram). p.rows) c.lp.view_is in
    let cols = ap (λ (p : LinearProgram). p.cols) c.lp.view_is in
    let column = c.lp.inside.rows + c.loop-c.c + 1 in
    let mark =
    sym (is_in-basics_of c.args.basis.now column (omega arith) (omega (arith, c.requires, c.loop-c-test.true, rows, cols))) ∙ sym c.stands_basic.ensures
    ∙ c.if-not-stands_basic.false in
    let is = counted_in lp c.args.basis.now c.loop-c.c column (omega (arith, rows)) mark in
    (omega (arith, h.0, is), omega (arith, h.1))
