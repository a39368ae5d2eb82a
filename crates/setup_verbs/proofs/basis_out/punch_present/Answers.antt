-- PUNCH punches the deck of the present basis, and prints its line.
use Rattle.std.proofs.Common.{Some, sym, ap, ◌∙◌}
use Rattle.std.proofs.lemmas.Result.{err_from_is_err_and}
use Rattle.setup_verbs.proofs.Present.{ready_rates, ready_of, stays_on_file}
use Rattle.setup_verbs.proofs.Punched.{no_setup, not_selected, deck_cut, deck_punched, deck_line_cut}
use Rattle.setup_verbs.proofs.basis_out.punch_present.Goals as goal

pub returns-in_default : goal.returns-in_default
returns-in_default g c =
    λ cards. rw c.act.ensures
    (no_setup c.args.card cards c.args.machine.now (g.P.Sink.taken c.args.print.now) (g.U.Sink.taken c.args.punch.now) c.in_default.is)

pub problem_on_file-problem-requires : goal.problem_on_file-problem-requires
problem_on_file-problem-requires g c =
    stays_on_file c.args.machine.now.file _
    (ready_of c.args.machine.now.file c.args.machine.now.setup _ (c.in-Some.is ∙ ap Some (sym c.setup.view_is)) c.requires)

pub returns-in-Err : goal.returns-in-Err
returns-in-Err g c = λ cards.
    rw c.act-in-Err.ensures
    (not_selected c.args.card cards c.args.machine.now _
    (c.in-Some.is ∙ ap Some (sym c.setup.view_is)) c.problem_on_file-problem.result.now c.problem_on_file-problem.ensures (g.P.Sink.taken c.args.print.now)
    (g.U.Sink.taken c.args.punch.now) c.in-Err.refusal c.in-Err.ensures.refused)

pub punch_basis-requires : goal.punch_basis-requires
punch_basis-requires g c =
    (ready_rates c.args.machine.now.file _
    (ready_of c.args.machine.now.file c.args.machine.now.setup _
    (c.in-Some.is
    ∙ ap Some (sym c.setup.view_is)) c.requires) c.problem_on_file-problem.result.now c.problem_on_file-problem.ensures c.args.machine.now.cells c.in-Ok.lp
    c.in-Ok.ensures.selected).is_basis

pub returns-in-Err-punch_basis : goal.returns-in-Err-punch_basis
returns-in-Err-punch_basis g c = λ cards.
    deck_cut c.args.card cards c.args.machine.now _
    (c.in-Some.is
    ∙ ap Some (sym c.setup.view_is)) c.problem_on_file-problem.result.now c.problem_on_file-problem.ensures c.in-Ok.lp c.in-Ok.ensures.selected
    (g.P.Sink.taken c.args.print.now) c.in-Err-punch_basis.stop c.in-Err-punch_basis.ensures.writes

pub returns-in_err-text_of : goal.returns-in_err-text_of
returns-in_err-text_of g c = λ cards.
    let p = err_from_is_err_and c.from_residual.result c.from_residual.ensures.1 in
    rw (p.1, p.2)
    (deck_line_cut c.args.card cards c.args.machine.now _
    (c.in-Some.is
    ∙ ap Some (sym c.setup.view_is)) c.problem_on_file-problem.result.now c.problem_on_file-problem.ensures c.in-Ok.lp c.in-Ok.ensures.selected
    c.name.result c.name.ensures.name c.in-Ok-punch_basis.count c.in-Ok-punch_basis.ensures.counted c.in-Ok-punch_basis.ensures.writes _
    c.in_err-text_of.ensures)

pub returns : goal.returns
returns g c = λ cards.
    deck_punched c.args.card cards c.args.machine.now _
    (c.in-Some.is
    ∙ ap Some (sym c.setup.view_is)) c.problem_on_file-problem.result.now c.problem_on_file-problem.ensures c.in-Ok.lp c.in-Ok.ensures.selected
    c.name.result c.name.ensures.name c.in-Ok-punch_basis.count c.in-Ok-punch_basis.ensures.counted c.in-Ok-punch_basis.ensures.writes c.in_ok-text_of.ensures
