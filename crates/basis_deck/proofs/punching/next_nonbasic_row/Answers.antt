use Rattle.std.proofs.Common.{◌+◌, ◌∙◌, sym, ap, arith}
use Rattle.lp_definitions.specs.LinearProgram.{LinearProgram}
use Rattle.lp_laws.proofs.Uniqueness.{is_in-basics_of}
use Rattle.basis_deck.proofs.Punched.{basic_row, nonbasic_row}
use Rattle.basis_deck.proofs.punching.next_nonbasic_row.Goals as goal

pub returns-then-not-stands_basic : goal.returns-then-not-stands_basic
returns-then-not-stands_basic c =
    let rows = ap (λ (p : LinearProgram). p.rows) c.lp.view_is in
    let mark =
    sym (is_in-basics_of c.args.basis.now (c.loop-i.i + 1) (omega arith) (omega (arith, c.requires.basis, c.loop-i-test.true, rows)))
    ∙ sym c.stands_basic.ensures ∙ c.if-not-stands_basic.true in
    record {
      after = omega (arith, c.loop-i.invariant.0);
      at_most = omega (arith, c.loop-i-test.true, rows);
      next = c.loop-i.invariant.1 ∙ nonbasic_row c.args.lp.now c.args.basis.now c.loop-i.i (omega (arith, c.loop-i-test.true, rows)) mark;
    }

pub loop-i-preserved : goal.loop-i-preserved
loop-i-preserved c =
    let rows = ap (λ (p : LinearProgram). p.rows) c.lp.view_is in
    let mark =
    sym (is_in-basics_of c.args.basis.now (c.loop-i.i + 1) (omega arith) (omega (arith, c.requires.basis, c.loop-i-test.true, rows)))
    ∙ sym c.stands_basic.ensures ∙ c.if-not-stands_basic.false in (
      omega (arith, c.loop-i.invariant.0),
      c.loop-i.invariant.1
          ∙ basic_row c.args.lp.now c.args.basis.now c.loop-i.i (omega (arith, c.loop-i-test.true, rows)) mark,
    )
