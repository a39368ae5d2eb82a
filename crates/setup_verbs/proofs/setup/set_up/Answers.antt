use Rattle.std.proofs.Common.{ap, subst}
use Rattle.std.proofs.lemmas.Result.{err_from_is_err_and}
use Rattle.control_definitions.specs.Program.{SetupOptions}
use Rattle.setup_verbs.specs.Opening.{IsOpened, IsNotOpened}
use Rattle.setup_verbs.proofs.Setting.{setup_refused, setup_done, setup_cut}
use Rattle.setup_verbs.proofs.setup.set_up.Goals as goal

pub returns-in-Err-clause-acts : goal.returns-in-Err-clause-acts
returns-in-Err-clause-acts g c = λ cards.
    rw c.act.ensures
    (setup_refused c.args.card cards c.args.machine.now c.args.options.now (g.P.Sink.taken c.args.print.now) c.in-Err.refusal
    (subst (λ (options : SetupOptions). IsNotOpened c.args.machine.now.cells c.args.machine.now.file options c.in-Err.refusal) c.options.view_is
    c.in-Err.ensures.refused))

pub returns-in_err-text_of-clause-acts : goal.returns-in_err-text_of-clause-acts
returns-in_err-text_of-clause-acts g c = λ cards.
    let p = err_from_is_err_and c.from_residual.result c.from_residual.ensures.1 in
    rw (p.1, p.2)
    (setup_cut c.args.card cards c.args.machine.now c.args.options.now c.in-Ok.opened
    (subst (λ (options : SetupOptions). IsOpened c.args.machine.now.cells c.args.machine.now.file options c.in-Ok.opened) c.options.view_is
    c.in-Ok.ensures.opened)
    (ap (λ (options : SetupOptions). options.sense) c.options.view_is) _ c.in_err-text_of.ensures)

pub returns-clause-acts : goal.returns-clause-acts
returns-clause-acts g c = λ cards.
    setup_done c.args.card cards c.args.machine.now c.args.options.now c.in-Ok.opened
    (subst (λ (options : SetupOptions). IsOpened c.args.machine.now.cells c.args.machine.now.file options c.in-Ok.opened) c.options.view_is
    c.in-Ok.ensures.opened)
    (ap (λ (options : SetupOptions). options.sense) c.options.view_is) c.in_ok-text_of.ensures
