use Rattle.std.proofs.Common.{◌≡◌, ◌+◌, ◌++◌, ◌∷◌, ◌∙◌, sym, ap, length, arith}
use Rattle.std.proofs.lemmas.List.{append-nil}
use Rattle.std.proofs.lemmas.Result.{err_from_is_err_and}
use Rattle.lp_definitions.specs.LinearProgram.{LinearProgram}
use Rattle.lp_laws.proofs.Uniqueness.{is_in-basics_of}
use Rattle.deck_definitions.specs.Written.{card_text}
use Rattle.job_devices.proofs.TextLemmas.{writes_then, writes_more, writes_same}
use Rattle.bcd_out.specs.Lines.{line}
use Rattle.basis_deck_definitions.specs.Writing.{exchange_card}
use Rattle.basis_deck.specs.Punching.{exchanges_from}
use Rattle.basis_deck.proofs.Punched.{exchange_none, exchange_skipped, exchange_next, text_more, writes_done, stops_so}
use Rattle.basis_deck.proofs.punching.put_exchanges.Goals as goal

pub loop-c-preserved-then-not-stands_basic : goal.loop-c-preserved-then-not-stands_basic
loop-c-preserved-then-not-stands_basic g c =
    let lp : LinearProgram = c.args.lp.now in
    let h = c.loop-c.invariant in
    let rows = ap (λ (p : LinearProgram). p.rows) c.lp.view_is in
    let cols = ap (λ (p : LinearProgram). p.cols) c.lp.view_is in
    let column = c.lp.inside.rows + c.loop-c.c + 1 in
    let mark =
    sym (is_in-basics_of c.args.basis.now column (omega arith) (omega (arith, c.requires, c.loop-c-test.true, rows, cols))) ∙ sym c.stands_basic.ensures
    ∙ c.if-not-stands_basic.true in
    let is =
    exchange_skipped c.args.problem.now lp c.args.basis.now c.loop-c.c c.loop-c.row (omega (arith, c.loop-c-test.true, cols)) column
    (omega (arith, rows)) mark in
    (h.0, h.1, ap (λ cards. h.0 ++ card_text cards) (sym is) ∙ h.2, ap (λ cards. c.loop-c.count + length cards) (sym is) ∙ h.3, omega (arith, h.4), h.5)

pub returns-in_default-clause-writes : goal.returns-in_default-clause-writes
returns-in_default-clause-writes g c =
    let h = c.loop-c.invariant in
    let cols = ap (λ (p : LinearProgram). p.cols) c.lp.view_is in
    let none =
    exchange_none c.args.problem.now c.args.lp.now c.args.basis.now c.loop-c.c c.loop-c.row (omega (arith, c.loop-c-test.true, cols)) c.in_default.ensures in
    writes_done c.loop-c.count (writes_same (sym (append-nil h.0) ∙ ap (λ cards. h.0 ++ card_text cards) (sym none) ∙ h.2) h.1)

pub returns-in_default-clause-counted : goal.returns-in_default-clause-counted
returns-in_default-clause-counted g c =
    let h = c.loop-c.invariant in
    let cols = ap (λ (p : LinearProgram). p.cols) c.lp.view_is in
    let none =
    exchange_none c.args.problem.now c.args.lp.now c.args.basis.now c.loop-c.c c.loop-c.row (omega (arith, c.loop-c-test.true, cols)) c.in_default.ensures in
    omega (arith, ap length none, h.3)

pub returns-in_err-put_exchange-clause-writes : goal.returns-in_err-put_exchange-clause-writes
returns-in_err-put_exchange-clause-writes g c =
    let p = err_from_is_err_and c.from_residual.result c.from_residual.ensures.1 in
    let lp : LinearProgram = c.args.lp.now in
    let h = c.loop-c.invariant in
    let rows = ap (λ (p : LinearProgram). p.rows) c.lp.view_is in
    let cols = ap (λ (p : LinearProgram). p.cols) c.lp.view_is in
    let column = c.lp.inside.rows + c.loop-c.c + 1 in
    let mark =
    sym (is_in-basics_of c.args.basis.now column (omega arith) (omega (arith, c.requires, c.loop-c-test.true, rows, cols))) ∙ sym c.stands_basic.ensures
    ∙ c.if-not-stands_basic.false in
    let is =
    exchange_next c.args.problem.now lp c.args.basis.now c.loop-c.c c.loop-c.row (omega (arith, c.loop-c-test.true, cols)) column
    (omega (arith, rows)) mark c.in-Some.next c.in-Some.ensures.next in
    rw (p.1, p.2)
    (stops_so (writes_same (ap (λ cards. h.0 ++ card_text cards) (sym is) ∙ h.2)
    (writes_then h.1
    (writes_more (card_text (exchanges_from c.args.problem.now lp c.args.basis.now (c.loop-c.c + 1) c.in-Some.next)) c.in_err-put_exchange.ensures))))

pub loop-c-preserved : goal.loop-c-preserved
loop-c-preserved g c =
    let lp : LinearProgram = c.args.lp.now in
    let h = c.loop-c.invariant in
    let rows = ap (λ (p : LinearProgram). p.rows) c.lp.view_is in
    let cols = ap (λ (p : LinearProgram). p.cols) c.lp.view_is in
    let column = c.lp.inside.rows + c.loop-c.c + 1 in
    let mark =
    sym (is_in-basics_of c.args.basis.now column (omega arith) (omega (arith, c.requires, c.loop-c-test.true, rows, cols))) ∙ sym c.stands_basic.ensures
    ∙ c.if-not-stands_basic.false in
    let card = exchange_card c.args.problem.now lp c.args.basis.now (column, c.in-Some.next) in
    let rest = exchanges_from c.args.problem.now lp c.args.basis.now (c.loop-c.c + 1) c.in-Some.next in
    let left = exchanges_from c.args.problem.now lp c.args.basis.now c.loop-c.c c.loop-c.row in
    let is : left ≡ card ∷ rest
    = exchange_next c.args.problem.now lp c.args.basis.now c.loop-c.c c.loop-c.row (omega (arith, c.loop-c-test.true, cols)) column
    (omega (arith, rows)) mark c.in-Some.next c.in-Some.ensures.next in (
      h.0 ++ line card,
      writes_then h.1 c.in_ok-put_exchange.ensures,
      text_more h.0 card rest left _ is h.2,
      omega (arith, ap length is, h.3),
      omega (arith, h.4),
      c.in-Some.ensures.at_most,
    )
