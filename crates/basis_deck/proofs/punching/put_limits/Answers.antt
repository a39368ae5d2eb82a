use Rattle.std.proofs.Common.{◌≡◌, ◌+◌, ◌++◌, ◌∷◌, ◌∙◌, sym, ap, length, arith}
use Rattle.std.proofs.lemmas.Result.{err_from_is_err_and}
use Rattle.lp_definitions.specs.LinearProgram.{LinearProgram}
use Rattle.deck_definitions.specs.Written.{card_text}
use Rattle.job_devices.proofs.TextLemmas.{writes_then, writes_more, writes_same}
use Rattle.bcd_out.specs.Lines.{line}
use Rattle.basis_deck_definitions.specs.Writing.{limit_card}
use Rattle.basis_deck.specs.Punching.{limits_from}
use Rattle.basis_deck.proofs.Punched.{limit_skipped, limit_next, text_more, stops_so}
use Rattle.basis_deck.proofs.punching.put_limits.Goals as goal

pub loop-c-preserved-then-not-is_raised : goal.loop-c-preserved-then-not-is_raised
loop-c-preserved-then-not-is_raised g c =
    let lp : LinearProgram = c.args.lp.now in
    let h = c.loop-c.invariant in
    let rows = ap (λ (p : LinearProgram). p.rows) c.lp.view_is in
    let cols = ap (λ (p : LinearProgram). p.cols) c.lp.view_is in
    let is =
    limit_skipped c.args.problem.now lp c.args.basis.now c.loop-c.c 0 (omega (arith, c.loop-c-test.true, cols)) (c.lp.inside.rows + c.loop-c.c + 1)
    (omega (arith, rows)) (sym c.is_raised.ensures ∙ c.if-not-is_raised.true) in
    (h.0, h.1, ap (λ cards. h.0 ++ card_text cards) (sym is) ∙ h.2, ap (λ cards. c.loop-c.count + length cards) (sym is) ∙ h.3, omega (arith, h.4))

pub returns-in_err-put_limit-clause-writes : goal.returns-in_err-put_limit-clause-writes
returns-in_err-put_limit-clause-writes g c =
    let p = err_from_is_err_and c.from_residual.result c.from_residual.ensures.1 in
    let lp : LinearProgram = c.args.lp.now in
    let h = c.loop-c.invariant in
    let rows = ap (λ (p : LinearProgram). p.rows) c.lp.view_is in
    let cols = ap (λ (p : LinearProgram). p.cols) c.lp.view_is in
    let is =
    limit_next c.args.problem.now lp c.args.basis.now c.loop-c.c 0 (omega (arith, c.loop-c-test.true, cols)) (c.lp.inside.rows + c.loop-c.c + 1)
    (omega (arith, rows)) (sym c.is_raised.ensures ∙ c.if-not-is_raised.false) in
    rw (p.1, p.2)
    (stops_so (writes_same (ap (λ cards. h.0 ++ card_text cards) (sym is) ∙ h.2)
    (writes_then h.1 (writes_more (card_text (limits_from c.args.problem.now lp c.args.basis.now (c.loop-c.c + 1))) c.in_err-put_limit.ensures))))

pub loop-c-preserved : goal.loop-c-preserved
loop-c-preserved g c =
    let lp : LinearProgram = c.args.lp.now in
    let h = c.loop-c.invariant in
    let rows = ap (λ (p : LinearProgram). p.rows) c.lp.view_is in
    let cols = ap (λ (p : LinearProgram). p.cols) c.lp.view_is in
    let column = c.lp.inside.rows + c.loop-c.c + 1 in
    let rest = limits_from c.args.problem.now lp c.args.basis.now (c.loop-c.c + 1) in
    let left = limits_from c.args.problem.now lp c.args.basis.now c.loop-c.c in
    let is : left ≡ limit_card c.args.problem.now lp column ∷ rest
    = limit_next c.args.problem.now lp c.args.basis.now c.loop-c.c 0 (omega (arith, c.loop-c-test.true, cols)) column (omega (arith, rows))
    (sym c.is_raised.ensures ∙ c.if-not-is_raised.false) in (
      h.0 ++ line (limit_card c.args.problem.now lp column),
      writes_then h.1 c.in_ok-put_limit.ensures,
      text_more h.0 (limit_card c.args.problem.now lp column) rest left _ is h.2,
      omega (arith, ap length is, h.3),
      omega (arith, h.4),
    )
